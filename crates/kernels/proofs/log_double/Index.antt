-- The entry that a significand of 64 digits meets first, and by how much it lies below it: by nothing to 12 / 2560 of it. One computed test of the table. Assumes nothing.
use Rattle.std.proofs.Common.{◌≡◌, ℕ, zero, suc, ◌+◌, ◌-◌, ◌*◌, ◌/◌, ◌%◌, ◌^◌, ◌<◌, ◌≤◌, Bool, T, leb, sym, ap, ◌∙◌, subst, le_refl, mul-le-mul, lt_of_mul-lt-mul_right, mul-le-mul_left, div-mul-le_self, le_of_mul-le-mul_right, arith, lit<, leb→le}
use Rattle.table.specs.Exact.{P, taylor, fact}
use Rattle.table.specs.Entry.{entry, index_at_def}
use Rattle.table.proofs.Entries.{entry_zero, entry_lt}
use Rattle.table.proofs.Every.{both, both_left, both_right, all, all-at}
use Rattle.table.proofs.First.{index_found}
use Rattle.kernels.specs.Power.{hi}
use Rattle.kernels.specs.Logarithm.{interval, gap64}
use Rattle.kernels.proofs.Definitions.Hi.{hi_le, hi_ge}

-- ---- the index
record Indexed (M i : ℕ) : Type 0 where
  least : 1 ≤ i
  most : i ≤ 256
  reached : M ≤ 2 * entry i
  passed : 1024 * entry (i - 1) ≤ 513 * M

-- the first ten digits of M
upper_in : (M : ℕ) → 2 ^ 63 ≤ M → M < 2 ^ 64 → ((512 + interval M) * 2 ^ 54 ≤ M) × (M < (513 + interval M) * 2 ^ 54) × ((513 + interval M) * 2 ^ 53 ≤ 2 ^ 63) × (M / 2 ^ 54 % 512 ≡ interval M)
upper_in M a b = (omega arith, omega arith, omega arith, omega arith)

at_place : (M k x p : ℕ) → (512 + k) * 2 ^ 54 ≤ M → M < (513 + k) * 2 ^ 54 → (513 + k) * 2 ^ 53 ≤ x → p < (513 + k) * 2 ^ 53 → (M ≤ 2 * x) × (1024 * p ≤ 513 * M)
at_place M k x p a b c d = (omega arith, omega arith)

some : (i k : ℕ) → (513 + k) * 2 ^ 53 ≤ entry i → 1 ≤ i
some zero k l = absurd (above k (subst (λ (x : ℕ). (513 + k) * 2 ^ 53 ≤ x) entry_zero l))
  where
    above : (k : ℕ) → (513 + k) * 2 ^ 53 ≤ 2 ^ 62 → ⊥
    above k l = omega arith
some (suc i) k l = omega arith

indexed : (M : ℕ) → 2 ^ 63 ≤ M → M < 2 ^ 64 → Indexed M (index_at_def (interval M))
indexed M a b =
    let k = interval M in
    let r = upper_in M a b in
    let F = index_found ((513 + k) * 2 ^ 53) r.2 in
    let s : 1 ≤ index_at_def k = some (index_at_def k) k F.reached in
    let p = at_place M k (entry (index_at_def k)) (entry (index_at_def k - 1)) r.0 r.1 F.reached (F.passed (index_at_def k - 1) (omega (arith, s))) in
    record { least = s; most = F.most; reached = p.0; passed = p.1 }

-- as the code asks for it
pub index_is : (M i : ℕ) → 2 ^ 63 ≤ M → M < 2 ^ 64 → i ≡ index_at_def (M / 2 ^ 54 % 512) → i ≡ index_at_def (interval M)
index_is M i a b e = e ∙ ap index_at_def (upper_in M a b).3

-- ---- an entry times its partner is at most 2 ^ 125, and the one before it times that partner's upper digits not far below
abbrev least_part : ℕ
least_part = 2 ^ 63 - 3 * 2 ^ 56 / 5

abbrev over : ℕ → Bool
over i = leb (entry i * entry (256 - i) * 4) (2 ^ 63 * 2 ^ 64)

abbrev under : ℕ → Bool
under i = leb ((least_part + 3) * 2 ^ 64 * 513) (2048 * (entry (i - 1) * (entry (256 - i) / 2 ^ 23 * 2 ^ 23)))

tight : ℕ → Bool
tight i = both (over i) (under i)

passes : T (all tight 0 257)
unfolding tight entry P taylor fact
passes = tt

tight_at : (i : ℕ) → i ≤ 256 → (entry i * entry (256 - i) * 4 ≤ 2 ^ 63 * 2 ^ 64) × ((least_part + 3) * 2 ^ 64 * 513 ≤ 2048 * (entry (i - 1) * (entry (256 - i) / 2 ^ 23 * 2 ^ 23)))
unfolding tight
tight_at i l = let t = all-at tight 257 passes i (omega arith) in (leb→le _ _ (both_left (over i) (under i) t), leb→le _ _ (both_right (over i) (under i) t))

-- ---- the product with the partner: x the entry, y the one before it, r the partner t or no less than its upper digits u, w a word
most_part : (M x r t p w h : ℕ) → 0 < w → p * w ≤ M * (2 * r) → M ≤ 2 * x → r ≤ t → x * t * 4 ≤ h * w → p ≤ h
most_part M x r t p w h z a b l c = le_of_mul-le-mul_right {k = w} (omega (arith, mul-le-mul b (mul-le-mul_left 2 l))) z

some_part : (M y r u p w q : ℕ) → M * (2 * r) < (p + 3) * w → 1024 * y ≤ 513 * M → u ≤ r → (q + 3) * w * 513 ≤ 2048 * (y * u) → q ≤ p
some_part M y r u p w q a b l c = short q p (lt_of_mul-lt-mul_right w (omega (arith, mul-le-mul b (mul-le-mul_left 2 l))))
  where
    short : (q p : ℕ) → q + 3 < p + 3 → q ≤ p
    short q p h = omega arith

-- a gap, doubled or not
pub record Gap (p : ℕ) : Type 0 where
  pub part : p ≤ 2 ^ 63
  pub once : (2 ^ 63 - p) * 2560 ≤ 12 * 2 ^ 63
  pub fits : 2 * (2 ^ 63 - p) < 2 ^ 64
  pub twice : 2 * (2 ^ 63 - p) * 2560 ≤ 12 * 2 ^ 64

module _ (M i : ℕ) (a : 2 ^ 63 ≤ M) (b : M < 2 ^ 64) (e : i ≡ index_at_def (interval M)) where
  place : Indexed M i
  place = subst (Indexed M) (sym e) (indexed M a b)

  pub index_most : i ≤ 256
  index_most = place.most

  pub gap_in : (r p : ℕ) → r ≤ entry (256 - i) → entry (256 - i) / 2 ^ 23 * 2 ^ 23 ≤ r → p * 2 ^ 64 ≤ M * (2 * r) → M * (2 * r) < (p + 3) * 2 ^ 64 → Gap p
  gap_in r p l u c d =
      let t = tight_at i place.most in
      let m = some_part M (entry (i - 1)) r (entry (256 - i) / 2 ^ 23 * 2 ^ 23) p (2 ^ 64) least_part d place.passed u t.1 in
      record { part = most_part M (entry i) r (entry (256 - i)) p (2 ^ 64) (2 ^ 63) (lit< tt) c place.reached l t.0; once = (few p m).0; fits = (few p m).1; twice = (few p m).2 }
    where
      few : (p : ℕ) → least_part ≤ p → ((2 ^ 63 - p) * 2560 ≤ 12 * 2 ^ 63) × (2 * (2 ^ 63 - p) < 2 ^ 64) × (2 * (2 ^ 63 - p) * 2560 ≤ 12 * 2 ^ 64)
      few p h = (omega arith, omega arith, omega arith)

  -- ---- with the partner t and the product p as the code has them
  module _ (t : ℕ) (q : t ≡ entry (256 - i)) where
    pub partner_fits : 2 * t < 2 ^ 64
    partner_fits =
        let l : 256 - i < 256 = omega (arith, place.least) in
        omega (arith, entry_lt (256 - i) l)

    pub gap_of : (p : ℕ) → p ≡ hi M (2 * t) → Gap p × (2 * (2 ^ 63 - p) ≡ gap64 i M)
    unfolding gap64
    gap_of p s =
        let r = entry (256 - i) in
        let is : p ≡ hi M (2 * r) = s ∙ ap (λ (x : ℕ). hi M (2 * x)) q in
        (subst Gap (sym is) (gap_in r (hi M (2 * r)) (le_refl r) (div-mul-le_self r (2 ^ 23)) (hi_le M (2 * r)) (hi_ge M (2 * r))), ap (λ (x : ℕ). 2 * (2 ^ 63 - x)) is)
