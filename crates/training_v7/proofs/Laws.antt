-- The Rust's text and K13's words once more, as laws of the definitions: a definition that is wrong together with its code is refused
-- here. Assumes nothing.
use Rattle.std.proofs.Common.{◌≡◌, ℕ, zero, suc, ◌<◌, ◌≤◌, Bool, true, false, cond, not, ◌&&◌, T, eqb, leb, List, length, set, sym, refl, ◌∙◌, subst, not-suc-le-zero, le_of_lt, ne_of_lt, arith, length-set, get_or-set_other, get_or-set_same, ext_get_or, ne_eqb, leb-false, leb-true}
use lib.Ieee.{Float, nan, inf, fin, binary32, binary64, mul, div, of_bits, of_int, round}
use lib.Ieee.Scale.{finite}
use Rattle.soft.specs.Narrow.{narrow_def}
use Rattle.domain.specs.Doubles.{zero64, three64}
use Rattle.domain.specs.Limits.{zero32}
use Rattle.domain.specs.Weights.{◌!◌}
use Rattle.checks.specs.Columns.{through}
use Rattle.training_v7.specs.Penalty.{
  two64,
  scale_def,
  slope_def,
  counts_def,
  slot_def,
  store_slot_def,
  raw_penalty,
  counted,
  penalty_def,
  slots_def,
}

-- it is the number that it is called
two_named : two64 ≡ round binary64 false 2 1
unfolding round of_bits
two_named = refl

-- l2_weight * batch_size as f64 / total_size as f64, the product first: 3 * 1 / 10 is the double nearest to 0.3, and 3 * (1 / 10) is not
pub product_first : scale_def three64 1 10 ≡ round binary64 false 3 10
unfolding scale_def mul div of_int of_bits round
product_first = refl

-- 'a slot alone not finite gives 0': so each is finite as the single that it is, whatever stands in for the sum and the factor
kept : (z : Float) → T (finite z) → (a : Bool) (x : Float) → T (finite (cond (a && finite x) x z))
kept z h false x = h
kept z h true nan = h
kept z h true (inf s) = h
kept z h true (fin s m e) = tt

pub slot_finite : (w v s : List Float) (scale : Float) (counts : Bool) (i : ℕ) → T (finite (slot_def w v s scale counts i))
unfolding slot_def of_bits
slot_finite w v s scale counts i = kept zero32 tt counts (narrow_def binary32 (slope_def (w ! i) (v ! i) (s ! i) scale))

-- ---- grad[i] = ..: slot i is what the formula gives, whatever stood there
module _ (w v s : List Float) (scale : Float) (counts : Bool) where
  stored : (n : ℕ) (slots : List Float) → List Float
  stored n slots = through (store_slot_def w v s scale counts) n slots

  stored_length : (n : ℕ) (slots : List Float) → length (stored n slots) ≡ length slots
  unfolding stored through store_slot_def
  stored_length zero slots = refl
  stored_length (suc n) slots = length-set (stored n slots) n _ ∙ stored_length n slots

  stored_turn :
      (n i : ℕ) (slots : List Float) → n < length slots → i < suc n → (i < n → stored n slots ! i ≡ slot_def w v s scale counts i)
      → (b : Bool) → b ≡ leb n i → set (stored n slots) n (slot_def w v s scale counts n) ! i ≡ slot_def w v s scale counts i
  stored_turn n i slots l h before true e =
      let same : n ≡ i = omega (arith, leb-true n i (sym e), h) in
      subst (λ (k : ℕ). set (stored n slots) n (slot_def w v s scale counts n) ! k ≡ slot_def w v s scale counts k) same
      (get_or-set_same (stored n slots) n _ nan (subst (λ (m : ℕ). n < m) (sym (stored_length n slots)) l))
  stored_turn n i slots l h before false e =
      let less = leb-false n i (sym e) in get_or-set_other (stored n slots) n i _ nan (ne_of_lt less) ∙ before less

  stored_slot :
      (n i : ℕ) (slots : List Float) → n ≤ length slots → i < n → stored n slots ! i ≡ slot_def w v s scale counts i
  unfolding stored through store_slot_def
  stored_slot zero i slots l h = absurd (not-suc-le-zero h)
  stored_slot (suc n) i slots l h = stored_turn n i slots l h (stored_slot n i slots (le_of_lt l)) (leb n i) refl

module _ (w v : List Float) (batch-size total_size : ℕ) (l2-weight : Float) (s : List Float) where
  -- 'It writes its own 21 single slots, all of them'
  pub slot_written :
      (slots : List Float) → length slots ≡ 21 → (i : ℕ) → i < 21
      → slots_def w v batch-size total_size l2-weight s slots ! i
      ≡ slot_def w v s (scale_def l2-weight batch-size total_size) (counted w v batch-size total_size l2-weight s) i
  unfolding slots_def stored
  slot_written slots l i h = stored_slot w v s _ _ 21 i slots (omega (arith, l)) h

  pub slots_length : (slots : List Float) → length (slots_def w v batch-size total_size l2-weight s slots) ≡ length slots
  unfolding slots_def stored
  slots_length slots = stored_length w v s _ _ 21 slots

  pub slots_forget :
      (slots others : List Float) → length slots ≡ 21 → length others ≡ 21
      → slots_def w v batch-size total_size l2-weight s slots ≡ slots_def w v batch-size total_size l2-weight s others
  slots_forget slots others l k =
      ext_get_or nan _ _ (slots_length slots ∙ l ∙ sym (slots_length others ∙ k))
      (λ i h. let j : i < 21 = subst (λ (m : ℕ). i < m) (slots_length slots ∙ l) h in slot_written slots l i j ∙ sym (slot_written others k i j))

  -- '(penalty, grad)' as they are, where the total is not 0 and the penalty is finite; the batch may be 0
  pub penalty_given :
      (total_size ≡ 0 → ⊥) → finite (raw_penalty w v batch-size total_size l2-weight s) ≡ true
      → penalty_def w v batch-size total_size l2-weight s ≡ raw_penalty w v batch-size total_size l2-weight s
  unfolding penalty_def counts_def
  penalty_given h e = rw (ne_eqb _ 0 h, e)

-- 'a zero total gives zeros', whatever the factor
pub no_total : (w v : List Float) (batch-size : ℕ) (l2-weight : Float) (s : List Float) → penalty_def w v batch-size 0 l2-weight s ≡ zero64
unfolding penalty_def counts_def
no_total w v batch-size l2-weight s = refl

-- 'a zero total gives zeros, a penalty not finite gives zero throughout'
pub none_slot : (w v s : List Float) (scale : Float) (i : ℕ) → slot_def w v s scale false i ≡ zero32
unfolding slot_def
none_slot w v s scale i = refl

-- 'a penalty not finite gives zero throughout'
pub penalty_finite :
    (w v : List Float) (batch-size total_size : ℕ) (l2-weight : Float) (s : List Float)
    → T (finite (penalty_def w v batch-size total_size l2-weight s))
unfolding penalty_def counts_def of_bits
penalty_finite w v batch-size total_size l2-weight s = kept zero64 tt (not (eqb total_size 0)) (raw_penalty w v batch-size total_size l2-weight s)
