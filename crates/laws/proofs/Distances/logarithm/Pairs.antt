-- The logarithms as differences of naturals, how near such a difference lies to a fraction, and the whole number that it is. Assumes nothing.
use mathlib.Core.Path.{◌≡◌, refl, sym, ap, ◌∙◌, subst}
use mathlib.Core.Bool.{Bool, true, false, not, cond, beq}
use mathlib.Core.Logic.{◌⊎◌, inl, inr}
use Prim.Native.Nat.{ℕ, zero, suc, ◌+◌, ◌-◌, ◌*◌, ◌/◌, ◌^◌, ◌≤◌, ◌<◌}
use native.Mathlib.Nat.{zero-mul, add_comm, mul_comm, zero-lt-suc, le_of_lt}
use native.Mathlib.Omega.{arith}
use lib.Dec.{T, ltb, leb-suc-zero, ltb→lt, nltb→le, lt→ltb}
use lib.IntN.{ℤ, pos, negsuc, neg_ℤ, nat_abs, ◌+ℤ◌, ◌-ℤ◌, ◌*ℤ◌, neg_ℤ-+ℤ, -ℤ-+ℤ_cancel}
use lib.Ieee.{Format, binary32, binary64}
use lib.Ieee.Bits.{is_true}
use Rattle.table.specs.Exact.{N, Signed}
use Rattle.table.specs.Whole.{below0}
use Rattle.kernels.specs.Logarithm.{steps}

-- ---- plus - minus
pub record Pair : Type 0 where
  pub plus : ℕ
  pub minus : ℕ

-- (256 k + i) n - l
abbrev pub pair_at : ℤ → (i n l : ℕ) → Pair
pair_at (pos k) i n l = record { plus = (256 * k + i) * n; minus = l }
pair_at (negsuc k) i n l = record { plus = 0; minus = (256 * suc k - i) * n + l }

-- ln 2 / 256, in units of 2 ^ -64 and 2 ^ -56
abbrev pub N64 : ℕ
N64 = (N + 128) / 2 ^ 8

abbrev pub N56 : ℕ
N56 = N / 2 ^ 16

-- (p - m) / t within (a + b |q|) / t of q = n / d, and of -n / d
abbrev pub Within : (t a b p m n d : ℕ) → Type 0
Within t a b p m n d = (p * d ≤ n * t + (m + a) * d + b * n) × (n * t + m * d ≤ (p + a) * d + b * n)

abbrev pub Apart : (t a b : ℕ) → Bool → (p m n d : ℕ) → Type 0
Apart t a b false p m n d = Within t a b p m n d
Apart t a b true p m n d = Within t a b m p n d

abbrev pub PairNear : (t a b : ℕ) → Pair → Signed → Type 0
PairNear t a b c q = Apart t a b q.negative c.plus c.minus q.size.num q.size.den

-- what the logarithms of ln lack before their rounding: 255 + 2 ^ 31 |L| units of 2 ^ -56, 15 + 2 ^ 8 |L| units of 2 ^ -64
abbrev pub absolute : Format → ℕ
absolute binary32 = 255
absolute binary64 = 15

abbrev pub relative : Format → ℕ
relative binary32 = 2 ^ 31
relative binary64 = 2 ^ 8

-- ---- the whole number z = p - m
pub record Is (z : ℤ) (p m : ℕ) : Type 0 where
  pub sign : below0 z ≡ ltb p m
  pub size : nat_abs z ≡ p - m + (m - p)

pub difference : (p m : ℕ) → Is (pos p -ℤ pos m) p m
difference p zero = record { sign = sym (leb-suc-zero p); size = omega arith }
difference p (suc m) = go (ltb p (suc m)) (ltb→lt p (suc m)) (nltb→le p (suc m)) refl
  where
    go : (b : Bool) → (T b → p < suc m) → (T (not b) → suc m ≤ p) → b ≡ ltb p (suc m) → Is (cond b (negsuc (suc m - suc p)) (pos (p - suc m))) p (suc m)
    go true l n e = record { sign = e; size = omega (arith, l tt) }
    go false l n e = record { sign = e; size = omega (arith, n tt) }

minus_is : (b : ℕ) → Is (neg_ℤ (pos b)) 0 b
minus_is zero = record { sign = refl; size = refl }
minus_is (suc b) = record { sign = sym (is_true (ltb 0 (suc b)) (lt→ltb 0 (suc b) (zero-lt-suc b))); size = omega arith }

-- (256 K - i) n + l below 0
scaled : (j n : ℕ) → neg_ℤ (pos j) *ℤ pos n ≡ neg_ℤ (pos (j * n))
scaled zero n = ap pos (zero-mul n) ∙ ap (λ (x : ℕ). neg_ℤ (pos x)) (sym (zero-mul n))
scaled (suc j) n = refl

below : (K i n l : ℕ) → i ≤ 256 → steps (negsuc K) i *ℤ pos n -ℤ pos l ≡ neg_ℤ (pos ((256 * suc K - i) * n + l))
below K i n l h =
    let j = 256 * suc K - i in
    ap (λ (x : ℤ). x *ℤ pos n -ℤ pos l) (ap (λ (x : ℕ). neg_ℤ (pos x) +ℤ pos i) (whole K i h) ∙ ap (λ (x : ℤ). x +ℤ pos i) (neg_ℤ-+ℤ (pos j) (pos i)) ∙ -ℤ-+ℤ_cancel
    (neg_ℤ (pos j)) (pos i))
    ∙ ap (λ (x : ℤ). x -ℤ pos l) (scaled j n) ∙ sym (neg_ℤ-+ℤ (pos (j * n)) (pos l))
  where
    whole : (K i : ℕ) → i ≤ 256 → suc K * 256 ≡ 256 * suc K - i + i
    whole K i h = omega arith

pub pair_is : (k : ℤ) (i n l : ℕ) → i ≤ 256 → Is (steps k i *ℤ pos n -ℤ pos l) (pair_at k i n l).plus (pair_at k i n l).minus
pair_is (pos k) i n l h = subst (λ (x : ℕ). Is (pos ((k * 256 + i) * n) -ℤ pos l) x l) (ap (λ (x : ℕ). (x + i) * n) (mul_comm k 256)) (difference ((k * 256 + i) * n) l)
pair_is (negsuc k) i n l h = subst (λ (z : ℤ). Is z 0 ((256 * suc k - i) * n + l)) (sym (below k i n l h)) (minus_is ((256 * suc k - i) * n + l))

-- ---- how near ±g / t lies to ±n / d, whether they have one sign or not
abbrev pub Far : (t a b : ℕ) → Bool → ℕ → Bool → (n d : ℕ) → Type 0
Far t a b s g v n d =
    ((beq s v ≡ true) × ((g * d ≤ n * t + a * d + b * n) × (n * t ≤ (g + a) * d + b * n))) ⊎ ((beq s v ≡ false) × (n * t + g * d ≤ a * d + b * n))

abbrev pub Away : (t a b : ℕ) → Bool → ℕ → Signed → Type 0
Away t a b s g q = Far t a b s g q.negative q.size.num q.size.den

above_by : (p m n d t a b : ℕ) → m ≤ p → Within t a b p m n d → ((p - m + (m - p)) * d ≤ n * t + a * d + b * n) × (n * t ≤ (p - m + (m - p) + a) * d + b * n)
above_by p m n d t a b l h = go (p - m + (m - p)) (omega (arith, l))
  where
    go : (g : ℕ) → g + m ≡ p → (g * d ≤ n * t + a * d + b * n) × (n * t ≤ (g + a) * d + b * n)
    go g e = (omega (arith, h.0, ap (λ (x : ℕ). x * d) e), omega (arith, h.1, ap (λ (x : ℕ). x * d) e))

below_by : (p m n d t a b : ℕ) → p ≤ m → Within t a b p m n d → n * t + (p - m + (m - p)) * d ≤ a * d + b * n
below_by p m n d t a b l h = go (p - m + (m - p)) (omega (arith, l))
  where
    go : (g : ℕ) → g + p ≡ m → n * t + g * d ≤ a * d + b * n
    go g e = omega (arith, h.1, ap (λ (x : ℕ). x * d) e)

away_at : (t a b p m n d : ℕ) (s : Bool) → (T s → p < m) → (T (not s) → m ≤ p) → (v : Bool) → Apart t a b v p m n d → Far t a b s (p - m + (m - p)) v n d
away_at t a b p m n d false x y false h = inl (refl, above_by p m n d t a b (y tt) h)
away_at t a b p m n d true x y true h = inl (refl, rw (add_comm (p - m) (m - p)) (above_by m p n d t a b (le_of_lt (x tt)) h))
away_at t a b p m n d true x y false h = inr (refl, below_by p m n d t a b (le_of_lt (x tt)) h)
away_at t a b p m n d false x y true h = inr (refl, rw (add_comm (p - m) (m - p)) (below_by m p n d t a b (y tt) h))

pub away : (t a b : ℕ) (c : Pair) (z : ℤ) (q : Signed) → Is z c.plus c.minus → PairNear t a b c q → Away t a b (below0 z) (nat_abs z) q
away t a b c z q i h =
    let p = c.plus in
    let m = c.minus in
    rw (i.sign, i.size) (away_at t a b p m q.size.num q.size.den (ltb p m) (ltb→lt p m) (nltb→le p m) q.negative h)
