-- The table's rule, computed once for all 257 entries, and the entry that a significand meets by its first ten digits. Assumes nothing.
use mathlib.Core.Bool.{Bool, true}
use mathlib.Core.List.{List, [], ◌∷◌}
use Prim.Native.Nat.{ℕ, zero, suc, ◌+◌, ◌-◌, ◌*◌, ◌/◌, ◌^◌, ◌≤◌, ◌<◌}
use native.Mathlib.Nat.{le_of_lt, div-mul-le_self, lt-div-mul-add}
use native.Mathlib.Omega.{arith}
use lib.Dec.{T, leb, leb→le, lit<}
use Rattle.table.specs.Exact.{N, P, taylor, fact}
use Rattle.table.specs.Entry.{entry, index_at_def}
use Rattle.table.proofs.Exact.Poly.{h}
use Rattle.table.proofs.Exact.Terms.{pcoef, f23}
use Rattle.table.proofs.Every.{both, both_left, both_right, all, all-at}
use Rattle.table.proofs.Entries.{entry_zero}
use Rattle.table.proofs.First.{index_found}
use Rattle.kernels.specs.Logarithm.{interval}
use Rattle.laws.proofs.Distances.logarithm.Sum.{PP, FF}

-- ---- claims l ≤ h, all computed at once
abbrev allb : List (ℕ × ℕ) → Bool
allb [] = true
allb (c ∷ cs) = both (leb c.0 c.1) (allb cs)

abbrev All : List (ℕ × ℕ) → Type 0
All [] = Unit {0}
All (c ∷ cs) = (c.0 ≤ c.1) × All cs

all→ : (cs : List (ℕ × ℕ)) → T (allb cs) → All cs
all→ [] t = tt
all→ (c ∷ cs) t = (leb→le c.0 c.1 (both_left (leb c.0 c.1) (allb cs) t), all→ cs (both_right (leb c.0 c.1) (allb cs) t))

-- the rule of an entry x at i, with its partner r at 256 - i and the entry p before it
abbrev claims : (i x r p : ℕ) → List (ℕ × ℕ)
claims i x r p =
    -- x is 2 ^ 62 P(i N / 2 ^ 72), within one, and above it by the last entry's 202 parts of 2 ^ 72 at most
    (2 ^ 62, x) ∷ (x * FF (2 ^ 72) * (2 ^ 72 - 202), 2 ^ 62 * PP (i * N) (2 ^ 72) * 2 ^ 72) ∷ (2 ^ 62 * PP (i * N) (2 ^ 72), (x + 1) * FF (2 ^ 72))
    -- x r is 2 ^ 125, or at most 6.34 units of 2 ^ 61 less; and p r is not much less
    ∷ (x * r, 2 ^ 61 * 2 ^ 64) ∷ (2 ^ 61 * (2 ^ 72 - 1621), x * r * 256) ∷ (2553 * (2 ^ 61 * 2 ^ 64), 2560 * (p * r)) ∷ []

rule : ℕ → Bool
rule i = allb (claims i (entry i) (entry (256 - i)) (entry (i - 1)))

holds : T (all rule 0 257)
unfolding rule entry P taylor fact pcoef h f23
holds = tt

pub record Row (i x r p : ℕ) : Type 0 where
  pub low : 2 ^ 62 ≤ x
  pub over : x * FF (2 ^ 72) * (2 ^ 72 - 202) ≤ 2 ^ 62 * PP (i * N) (2 ^ 72) * 2 ^ 72
  pub under : 2 ^ 62 * PP (i * N) (2 ^ 72) ≤ (x + 1) * FF (2 ^ 72)
  pub pair_hi : x * r ≤ 2 ^ 61 * 2 ^ 64
  pub pair_lo : 2 ^ 61 * (2 ^ 72 - 1621) ≤ x * r * 256
  pub before : 2553 * (2 ^ 61 * 2 ^ 64) ≤ 2560 * (p * r)

row_of : (i x r p : ℕ) → All (claims i x r p) → Row i x r p
row_of i x r p t =
    record { low = t.0; over = t.1.0; under = t.1.1.0; pair_hi = t.1.1.1.0; pair_lo = t.1.1.1.1.0; before = t.1.1.1.1.1.0 }

pub row : (i : ℕ) → i ≤ 256 → Row i (entry i) (entry (256 - i)) (entry (i - 1))
unfolding rule
row i l =
    let x = entry i in
    let r = entry (256 - i) in
    let p = entry (i - 1) in
    row_of i x r p (all→ (claims i x r p) (all-at rule 257 holds i (omega (arith, l))))

-- ---- the index, for M of 64 digits
pub record Indexed (M i : ℕ) : Type 0 where
  pub first : 1 ≤ i
  pub last : i ≤ 256
  pub reaches : M < 2 * entry i
  pub past : 1024 * entry (i - 1) ≤ 513 * M

-- the interval k of M, by the upper digits q
pub record Digits (M k : ℕ) : Type 0 where
  pub from : (512 + k) * 2 ^ 54 ≤ M
  pub below : M < (513 + k) * 2 ^ 54
  pub inner : (513 + k) * 2 ^ 53 ≤ 2 ^ 63

pub digits : (M : ℕ) → 2 ^ 63 ≤ M → M < 2 ^ 64 → Digits M (interval M)
digits M a b = go (M / 2 ^ 54) M a b (div-mul-le_self M (2 ^ 54)) (lt-div-mul-add {a = M} {b = 2 ^ 54} (lit< tt))
  where
    go : (q M : ℕ) → 2 ^ 63 ≤ M → M < 2 ^ 64 → q * 2 ^ 54 ≤ M → M < q * 2 ^ 54 + 2 ^ 54 → Digits M (q - 512)
    go q M a b c d = record { from = omega arith; below = omega arith; inner = omega arith }

some : (i k : ℕ) → (513 + k) * 2 ^ 53 ≤ entry i → 1 ≤ i
some zero k l = absurd (omega (arith, (rw entry_zero at l)))
some (suc i) k l = omega arith

pub indexed : (M : ℕ) → 2 ^ 63 ≤ M → M < 2 ^ 64 → Indexed M (index_at_def (interval M))
indexed M a b =
    let k = interval M in
    let i = index_at_def k in
    let D = digits M a b in
    let F = index_found ((513 + k) * 2 ^ 53) D.inner in
    let one : 1 ≤ i = some i k F.reached in
    record {
      first = one;
      last = F.most;
      reaches = omega (arith, D.below, F.reached);
      past = omega (arith, D.from, le_of_lt (F.passed (i - 1) (omega (arith, one))));
    }
