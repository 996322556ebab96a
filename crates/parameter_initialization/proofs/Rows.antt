-- A row's number, and the search for the first bad row: one more row that is good, the row that is bad, and none at all. Assumes nothing.
use Rattle.std.proofs.Common.{◌≡◌, ℕ, zero, suc, ◌+◌, ◌<◌, true, false, ◌&&◌, sym, refl, ◌∙◌, subst, add-zero, add-suc, add-sub_of_le, add-one, eq-eqb, ne_eqb}
use lib.Ieee.{Float}
use Rattle.checks.specs.Reads.{first}
use Rattle.parameter_initialization.specs.Start.{day_good_def, share_good, count_good, row_number_def, first_number}

-- ---- a row
pub same_number : (t y n t' y' n' : Float) → n ≡ n' → y ≡ y' → t ≡ t' → row_number_def t y n ≡ row_number_def t' y' n'
same_number t y n t' y' n' e f g = rw (e, f, g)

module _ (t y n : Float) where
  pub bad_day : day_good_def t ≡ false → 7 ≡ row_number_def t y n
  unfolding row_number_def
  bad_day h = rw h

  pub bad_rest : day_good_def t ≡ true → share_good y && count_good n ≡ false → 8 ≡ row_number_def t y n
  unfolding row_number_def
  bad_rest h g = rw (h, g)

  pub good_row : day_good_def t ≡ true → share_good y && count_good n ≡ true → 0 ≡ row_number_def t y n
  unfolding row_number_def
  good_row h g = rw (h, g)

pub ruleset row = (bad_day, bad_rest, good_row)

-- ---- all rows
module _ (bad : ℕ → ℕ) where
  pub none : first_number bad 0 ≡ 0
  unfolding first_number
  none = refl

  next : (k : ℕ) → first_number bad k ≡ 0 → first_number bad (suc k) ≡ bad k
  unfolding first_number first
  next k e = rw (eq-eqb _ 0 e)

  pub more : (k n : ℕ) → first_number bad k ≡ 0 → n ≡ bad k → n ≡ 0 → first_number bad (k + 1) ≡ 0
  more k n e h z = rw (add-one k) (next k e ∙ sym h ∙ z)

  stays : (k d : ℕ) → first_number bad k ≡ 0 → (bad k ≡ 0 → ⊥) → first_number bad (suc k + d) ≡ bad k
  unfolding first_number first
  stays k zero e h = rw (add-zero (suc k)) (next k e)
  stays k (suc d) e h = rw (add-suc (suc k) d, stays k d e h, ne_eqb _ 0 h)

  pub hit : (k m n : ℕ) → k < m → first_number bad k ≡ 0 → n ≡ bad k → (n ≡ 0 → ⊥) → n ≡ first_number bad m
  hit k m n l e h z = h ∙ sym (subst (λ (j : ℕ). first_number bad j ≡ bad k) (add-sub_of_le l) (stays k _ e (λ y. z (h ∙ y))))

  pub all_rows : (k m : ℕ) → k ≡ m → first_number bad k ≡ 0 → 0 ≡ first_number bad m
  all_rows k m e h = sym (subst (λ (j : ℕ). first_number bad j ≡ 0) e h)
