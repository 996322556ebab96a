-- A deck from SM-2 (model_v6/specs/Sm2.antt): a stability that is not above 0 has no difficulty, a retention outside 0 to 1 no such stability, and what
-- that makes of the answer. Assumes nothing.
use mathlib.Core.Path.{◌≡◌, refl, sym, ap, ◌∙◌, subst}
use mathlib.Core.Bool.{Bool, true, false, not, ◌&&◌, ◌||◌, cond, true≢false}
use mathlib.Core.List.{List}
use Prim.Native.Nat.{ℕ, zero, suc, ◌+◌, ◌-◌, ◌*◌, ◌/◌, ◌^◌, ◌≤◌, ◌<◌}
use native.Mathlib.Nat.{zero-mul, zero-lt-suc, mul-pos}
use native.Mathlib.Omega.{arith}
use borrow.Author.Tests.{eqb-true, ltb-false, lt-ltb}
use lib.Dec.{T, eqb, ltb, lt→ltb, eqb-suc-zero, lit<}
use lib.IntN.{ℤ, pos, negsuc, neg_ℤ, ◌*ℤ◌}
use lib.Pow.{pow_pos}
use lib.Signed.{shr_z}
use lib.Ieee.{Float, nan, inf, fin, binary32, up, down, size, round, fits, is_nan, neg, sum, add, sub, mul, div, lt, le, eq, of_bits}
use lib.Ieee.Bits.{is_true}
use lib.Ieee.Fits.{and_i, and_r, down_pos, up_pos, div-fits}
use lib.Ieee.Positive.{positive as above0}
use lib.Ieee.Order.{le_of_values}
use lib.Ieee.Scale.{finite}
use Rattle.std.proofs.lemmas.Bool.{and_right}
use Rattle.table.specs.Exact.{P, taylor, fact}
use Rattle.table.specs.Entry.{entry, first_from}
use Rattle.table.specs.Whole.{below0}
use Rattle.soft.proofs.Rounding.Pattern.{round_not_nan}
use Rattle.soft.proofs.Rounding.Place.{round_none}
use Rattle.soft.proofs.units.Value.{holds}
use Rattle.kernels.specs.Power.{power}
use Rattle.kernels.specs.Logarithm.{gap63, low22, below24, step_log_def}
use Rattle.kernels.specs.Kernels.{powered, pow_at_def, raised, expm1_def}
use Rattle.kernels.specs.Calls.{exp32, pow32}
use Rattle.kernels.proofs.Definitions.Cases.{below_or, in_domain, powered_finite}
use Rattle.domain.specs.Floats.{◌-ᶠ◌, ◌*ᶠ◌, ◌/ᶠ◌, clamp_def, max_def}
use Rattle.domain.specs.Limits.{decimal, zero32, one, eleven, s_min_def, d_min, d_max, difficulty_good_def}
use Rattle.domain.specs.Weights.{◌!◌, weights_refusal_def}
use Rattle.model_v6.specs.Answers.{scalar_refusal_def, finite_memory, refused_state_def, accepted_state, sm2_refusal, sm2_held, sm2_scalar}
use Rattle.model_v6.specs.Curve.{factor_def}
use Rattle.model_v6.specs.Sm2.{sm2_stability_def, sm2_difficulty_def, sm2_raw}
use Rattle.laws.specs.Distances.{positive}
use Rattle.laws.proofs.Distances.pow.Laws.{pow_at_most_one, pow_nan}
use Rattle.laws.proofs.Values.Box.{above_20}
use Rattle.laws.proofs.Values.Curve.{yes}
use Rattle.laws.proofs.Values.Powers.{plus_pow, power_least}
use Rattle.laws.proofs.Values.Operations.{plus_mul}
use Rattle.laws.proofs.Values.Signs.{less_one}
use Rattle.laws.proofs.Values.Zeros.{one_is}
use Rattle.laws.proofs.Values.Sizes.{plus, plus_cond, plus_round, neg-round, unit}

-- ---- a NaN goes through
over_nan : (x : Float) → x /ᶠ nan ≡ nan
unfolding div
over_nan nan = refl
over_nan (inf s) = refl
over_nan (fin s m e) = refl

times_nan : (x : Float) → x *ᶠ nan ≡ nan
unfolding mul
times_nan nan = refl
times_nan (inf s) = refl
times_nan (fin s m e) = refl

less_nan : (x : Float) → x -ᶠ nan ≡ nan
unfolding sub add neg
less_nan nan = refl
less_nan (inf s) = refl
less_nan (fin s m e) = refl

nan_less : (y : Float) → nan -ᶠ y ≡ nan
unfolding sub add neg
nan_less y = refl

nan_times : (y : Float) → nan *ᶠ y ≡ nan
unfolding mul
nan_times y = refl

nan_only : (x : Float) → is_nan x ≡ true → x ≡ nan
unfolding is_nan
nan_only nan h = refl
nan_only (inf s) h = absurd (true≢false (sym h))
nan_only (fin s m e) h = absurd (true≢false (sym h))

-- ---- what is not above 0 has no power
no_power : (x y : Float) → positive x ≡ false → pow32 x y ≡ nan
no_power x y h = nan_only (pow32 x y) (pow_nan binary32 x y ∙ ap (λ (b : Bool). not (b && powered y)) h)

no_difficulty : (w : List Float) (ease s retention : Float) → positive s ≡ false → sm2_difficulty_def w ease s retention ≡ nan
unfolding sm2_difficulty_def
no_difficulty w ease s retention h =
    let e = expm1_def ((one -ᶠ retention) *ᶠ w ! 10) in
    ap (λ (p : Float). eleven -ᶠ (ease -ᶠ one) /ᶠ (exp32 (w ! 8) *ᶠ p *ᶠ e)) (no_power s (neg (w ! 9)) h)
    ∙ ap (λ (p : Float). eleven -ᶠ (ease -ᶠ one) /ᶠ (p *ᶠ e)) (times_nan (exp32 (w ! 8)))
    ∙ ap (λ (p : Float). eleven -ᶠ (ease -ᶠ one) /ᶠ p) (nan_times e)
    ∙ ap (λ (p : Float). eleven -ᶠ p) (over_nan (ease -ᶠ one))
    ∙ less_nan eleven

no_stability : (w : List Float) (interval retention : Float) → positive retention ≡ false → sm2_stability_def w interval retention ≡ nan
unfolding sm2_stability_def
no_stability w interval retention h =
    let x = max_def interval s_min_def *ᶠ factor_def (neg (w ! 20)) in
    ap (λ (p : Float). x /ᶠ (p -ᶠ one)) (no_power retention (one /ᶠ neg (w ! 20)) h) ∙ ap (λ (p : Float). x /ᶠ p) (nan_less one) ∙ over_nan x

no_state : (w : List Float) (ease interval retention : Float) → positive (sm2_stability_def w interval retention) ≡ false → finite_memory (sm2_raw w ease interval retention) ≡ false
unfolding sm2_raw
no_state w ease interval retention h =
    let s = sm2_stability_def w interval retention in
    ap (λ (d : Float). finite s && finite d) (no_difficulty w ease s retention h) ∙ and_right (finite s) false refl

-- ---- the answer
module _ (w : List Float) (ease interval retention : Float) where
  abbrev good : Bool
  good = (finite ease && finite interval) && finite retention

  abbrev raw : Bool
  raw = finite_memory (sm2_raw w ease interval retention)

  number_is : (sm2_scalar w ease interval retention).refusal ≡ sm2_refusal w ease interval retention
  unfolding sm2_scalar
  number_is = go (sm2_refusal w ease interval retention) (eqb (sm2_refusal w ease interval retention) 0) refl
    where
      go : (n : ℕ) (b : Bool) → b ≡ eqb n 0 → (cond b (accepted_state (sm2_held (sm2_raw w ease interval retention))) (refused_state_def n)).refusal ≡ n
      go n true e = sym (eqb-true n 0 (sym e))
      go n false e = refl

  box_good : weights_refusal_def w ≡ 0 → T good → scalar_refusal_def w good ≡ 0
  unfolding scalar_refusal_def
  box_good h g = rw (h, is_true good g)

  -- 14 where the formula leaves no state
  pub fourteen : weights_refusal_def w ≡ 0 → T good → raw ≡ false → (sm2_scalar w ease interval retention).refusal ≡ 14
  unfolding sm2_refusal
  fourteen h g r = number_is ∙ rw (box_good h g, r)

  accepted_raw : (sm2_scalar w ease interval retention).refusal ≡ 0 → raw ≡ true
  unfolding sm2_refusal
  accepted_raw h = go (scalar_refusal_def w good) (eqb (scalar_refusal_def w good) 0) raw refl (sym number_is ∙ h)
    where
      go : (n : ℕ) (b r : Bool) → b ≡ eqb n 0 → cond b (cond r 0 14) n ≡ 0 → r ≡ true
      go n true true e k = refl
      go n true false e k = absurd (omega (arith, k))
      go n false r e k = absurd (true≢false (sym (e ∙ ap (λ (m : ℕ). eqb m 0) k)))

  zero_is : sm2_refusal w ease interval retention ≡ 0 → sm2_scalar w ease interval retention ≡ accepted_state (sm2_held (sm2_raw w ease interval retention))
  unfolding sm2_scalar
  zero_is e = rw e

  accepted_is : (sm2_scalar w ease interval retention).refusal ≡ 0 → sm2_scalar w ease interval retention ≡ accepted_state (sm2_held (sm2_raw w ease interval retention))
  accepted_is h = zero_is (sym number_is ∙ h)

-- ---- a difficulty in its range
-- a number that is not below 1 and not above 10
inside : (d : Float) → T (finite d) → lt d d_min ≡ false → lt d_max d ≡ false → T (difficulty_good_def d)
unfolding lt of_bits
inside nan a l h = absurd a
inside (inf s) a l h = absurd a
inside (fin true m e) a l h = absurd (true≢false (sym (lt-ltb 0 (m * up e * 1 + 1 * 1 * down e) (some (m * up e) (down e) (down_pos e))) ∙ l))
  where
    some : (x d : ℕ) → 0 < d → 0 < x * 1 + 1 * 1 * d
    some x d h = omega arith
inside (fin false m e) a l h =
    and_i (le d_min (fin false m e)) (le (fin false m e) d_max)
    (le_of_values d_min (fin false m e) 1 1 (m * up e) (down e) (lit< tt) (down_pos e) (refl, refl) (refl, refl) (low (m * up e) (down e) (ltb-false (m * up e * 1) (1 * 1 * down e) l)))
    (le_of_values (fin false m e) d_max (m * up e) (down e) 10 1 (down_pos e) (lit< tt) (refl, refl) (refl, refl) (high (m * up e) (down e) (ltb-false (5 * 2 ^ 1 * down e) (m * up e * 1) h)))
  where
    low : (x d : ℕ) → 1 * 1 * d ≤ x * 1 → 1 * d ≤ x * 1
    low x d h = omega arith

    high : (x d : ℕ) → x * 1 ≤ 5 * 2 ^ 1 * d → x * 1 ≤ 10 * d
    high x d h = omega arith

ends_good : T (difficulty_good_def d_min) × T (difficulty_good_def d_max)
unfolding le of_bits
ends_good = (tt, tt)

held_good : (d : Float) → T (finite d) → T (difficulty_good_def (clamp_def d d_min d_max))
unfolding clamp_def
held_good d a = go (lt d d_min) (lt d_max d) refl refl
  where
    go : (p q : Bool) → p ≡ lt d d_min → q ≡ lt d_max d → T (difficulty_good_def (cond p d_min (cond q d_max d)))
    go true q e f = ends_good.0
    go false true e f = ends_good.1
    go false false e f = inside d a (sym e) (sym f)

-- ---- an accepted state
raw_positive : (w : List Float) (ease interval retention : Float) → finite_memory (sm2_raw w ease interval retention) ≡ true → T (positive (sm2_raw w ease interval retention).stability)
unfolding sm2_raw
raw_positive w ease interval retention e = at (positive (sm2_stability_def w interval retention)) refl
  where
    at : (b : Bool) → positive (sm2_stability_def w interval retention) ≡ b → T b
    at true k = tt
    at false k = true≢false (sym e ∙ no_state w ease interval retention k)

pub accepted_good : (w : List Float) (ease interval retention : Float) → (sm2_scalar w ease interval retention).refusal ≡ 0
    → T (positive (sm2_scalar w ease interval retention).state.stability) × T (difficulty_good_def (sm2_scalar w ease interval retention).state.difficulty)
accepted_good w ease interval retention h =
    rw (accepted_is w ease interval retention h)
    (go (accepted_raw w ease interval retention h))
  where
    go : finite_memory (sm2_raw w ease interval retention) ≡ true
        → T (positive (sm2_raw w ease interval retention).stability) × T (difficulty_good_def (clamp_def (sm2_raw w ease interval retention).difficulty d_min d_max))
    go e = (
      raw_positive w ease interval retention e,
      held_good (sm2_raw w ease interval retention).difficulty
          (and_r (finite (sm2_raw w ease interval retention).stability) (finite (sm2_raw w ease interval retention).difficulty) (holds e)),
    )

-- ---- a retention of 0 or below
not_positive : (x : Float) → T (finite x) → T (le x zero32) → positive x ≡ false
unfolding le of_bits
not_positive nan a h = absurd a
not_positive (inf s) a h = absurd a
not_positive (fin s zero e) a h = refl
not_positive (fin true (suc m) e) a h = refl
not_positive (fin false (suc m) e) a h =
    absurd (none (suc m * up e) (0 * 1 * down e) (zero-mul (down e)) (mul-pos (zero-lt-suc m) (up_pos e)) (below_or (suc m * up e * 1) (0 * 1 * down e) true h))
  where
    none : (x z : ℕ) → z ≡ 0 → 0 < x → x * 1 ≤ z → ⊥
    none x z e p l = omega arith

pub none_kept : (w : List Float) (ease interval retention : Float) → T (finite retention) → T (le retention zero32) → finite_memory (sm2_raw w ease interval retention) ≡ false
none_kept w ease interval retention a h =
    no_state w ease interval retention (ap positive (no_stability w interval retention (not_positive retention a h)))

-- ---- a retention of 1 or above: the power is at most 1, so that the stability is divided by what is not above 0
abbrev not_above_def : Float → Bool
not_above_def nan = true
not_above_def (inf s) = s
not_above_def (fin true m e) = true
not_above_def (fin false m e) = eqb m 0

neg_not_above : (x : Float) → T (plus x) → T (not_above_def (neg x))
unfolding neg
neg_not_above nan p = tt
neg_not_above (inf true) p = absurd p
neg_not_above (inf false) p = tt
neg_not_above (fin true m e) p = absurd p
neg_not_above (fin false m e) p = tt

neg_not_positive : (x : Float) → T (plus x) → positive (neg x) ≡ false
unfolding neg
neg_not_positive nan p = refl
neg_not_positive (inf s) p = refl
neg_not_positive (fin true m e) p = absurd p
neg_not_positive (fin false zero e) p = refl
neg_not_positive (fin false (suc m) e) p = refl

positive_cond : (b : Bool) (x y : Float) → positive x ≡ false → positive y ≡ false → positive (cond b x y) ≡ false
positive_cond true x y h g = h
positive_cond false x y h g = g

-- a number that is not negative, over one that is not above 0
quotient : (n d : Float) → T (plus n) → T (not_above_def d) → positive (n /ᶠ d) ≡ false
unfolding div
quotient nan d p h = refl
quotient (inf s) nan p h = refl
quotient (inf s) (inf t) p h = refl
quotient (inf s) (fin t k c) p h = refl
quotient (fin true m e) d p h = absurd p
quotient (fin false m e) nan p h = refl
quotient (fin false m e) (inf t) p h = refl
quotient (fin false m e) (fin true k c) p h =
    let r = round binary32 true (m * up e * down c) (k * up c * down e) in
    positive_cond (eqb k 0) (cond (eqb m 0) nan (inf true)) r (positive_cond (eqb m 0) nan (inf true) refl refl)
    (ap positive (neg-round binary32 (m * up e * down c) (k * up c * down e))
    ∙ neg_not_positive (round binary32 false (m * up e * down c) (k * up c * down e)) (plus_round binary32 (m * up e * down c) (k * up c * down e)))
quotient (fin false m e) (fin false zero c) p h = positive_cond (eqb m 0) nan (inf false) refl refl
quotient (fin false m e) (fin false (suc k) c) p h = absurd (subst T (eqb-suc-zero k) h)

-- a power of at most 1, less 1
difference : (x y c : ℕ) → x ≤ y → 0 < c → T (not_above_def (cond (ltb x y) (round binary32 true (y - x) c) (round binary32 false (x - y) c)))
difference x y c l z = go (ltb x y) refl
  where
    go : (b : Bool) → ltb x y ≡ b → T (not_above_def (cond b (round binary32 true (y - x) c) (round binary32 false (x - y) c)))
    go true k = subst (λ (r : Float). T (not_above_def r)) (sym (neg-round binary32 (y - x) c)) (neg_not_above (round binary32 false (y - x) c) (plus_round binary32 (y - x) c))
    go false k =
        subst (λ (r : Float). T (not_above_def r)) (sym (ap (λ (n : ℕ). round binary32 false n c) (omega (arith, l, ltb-false x y k)) ∙ round_none binary32 false c z)) tt

one_less : (x : Float) → T (plus x) → T (le x unit) → T (not_above_def (x -ᶠ one))
unfolding sub add neg sum of_bits le
one_less nan p h = tt
one_less (inf true) p h = absurd p
one_less (inf false) p h = absurd h
one_less (fin true m e) p h = absurd p
one_less (fin false m e) p h = difference (m * up e * 1) (1 * 1 * down e) (down e * 1) (below_or (m * up e * 1) (1 * 1 * down e) true h) (mul-pos (down_pos e) (pow_pos 0))

-- 1 over the decay is not above 0
low_or : (a b : ℕ) → b ≡ 0 → T (ltb 0 (a + b) || (eqb a b && (false || eqb a 0)))
low_or zero b e = rw e tt
low_or (suc a) b e = yes (ltb 0 (suc a + b)) (eqb (suc a) b && (false || eqb (suc a) 0)) (lt→ltb 0 (suc a + b) (omega arith))

neg_low : (x : Float) → T (plus x) → T (not (is_nan x)) → T (le (neg x) (fin false 0 (pos 0)))
unfolding le lt eq neg is_nan
neg_low nan p h = absurd h
neg_low (inf true) p h = absurd p
neg_low (inf false) p h = tt
neg_low (fin true m e) p h = absurd p
neg_low (fin false m e) p h = low_or (m * up e * 1) (0 * 1 * down e) (zero-mul (down e))

over_decay : (v : Float) → T (above0 v) → T (le (one /ᶠ neg v) (fin false 0 (pos 0)))
unfolding div neg of_bits
over_decay nan p = absurd p
over_decay (inf s) p = absurd p
over_decay (fin true m e) p = absurd p
over_decay (fin false zero e) p = absurd p
over_decay (fin false (suc m) e) p =
    rw (eqb-suc-zero m)
    (subst (λ (z : Float). T (le z (fin false 0 (pos 0)))) (sym (neg-round binary32 (1 * 1 * down e) (suc m * up e * 1)))
    (neg_low (round binary32 false (1 * 1 * down e) (suc m * up e * 1)) (plus_round binary32 (1 * 1 * down e) (suc m * up e * 1)) (round_not_nan binary32 false (1 * 1 * down e) (suc m * up e * 1))))

-- ---- 0.9 to a power that is not above 0 is 1 or more
pub nine_is : decimal 9 10 ≡ fin false 7549747 (negsuc 22)
unfolding decimal
nine_is = refl

nine_below : below0 (step_log_def binary32 7549747 (negsuc 22)) ≡ true
unfolding step_log_def below24 first_from gap63 low22 entry P taylor fact size
nine_below = refl

raised_up : (t : Bool) (x b : ℕ) (l : ℤ) → below0 l ≡ true → (t ≡ false → x ≡ 0) → (z : ℕ) × (raised binary32 t x b l ≡ pos z)
unfolding raised
raised_up t x b (pos k) h e = absurd (true≢false (sym h))
raised_up true (suc x) b (negsuc k) h e = (suc x * suc k * 2 ^ 19 / b * 8, refl)
raised_up true zero b (negsuc k) h e = (0 * 2 ^ 19 / b * 8, ap (λ (n : ℕ). shr_z (neg_ℤ (pos n) *ℤ pos (2 ^ 19)) b *ℤ pos 8) (zero-mul (suc k)))
raised_up false x b (negsuc k) h e =
    (0 * 2 ^ 19 / b * 8, ap (λ (n : ℕ). shr_z (neg_ℤ (pos n) *ℤ pos (2 ^ 19)) b *ℤ pos 8) (ap (λ (n : ℕ). n * suc k) (e refl) ∙ zero-mul (suc k)))

no_size : (n : ℕ) (d : ℤ) → T (le (fin false n d) (fin false 0 (pos 0))) → n * up d ≡ 0
unfolding le lt eq
no_size n d h = none (n * up d) (0 * 1 * down d) (zero-mul (down d)) (below_or (n * up d * 1) (0 * 1 * down d) true h)
  where
    none : (x z : ℕ) → z ≡ 0 → x * 1 ≤ z → x ≡ 0
    none x z e l = omega arith

pow_nine : (y : Float) → T (powered y) → T (le y (fin false 0 (pos 0))) → T (le unit (pow32 (decimal 9 10) y))
pow_nine y p h = rw (nine_is, in_domain binary32 7549746 (negsuc 22) y p) (at y (powered_finite y p) h)
  where
    signs : (t : Bool) (n : ℕ) (d : ℤ) → T (le (fin t n d) (fin false 0 (pos 0))) → t ≡ false → n * up d ≡ 0
    signs true n d h e = absurd (true≢false e)
    signs false n d h e = no_size n d h

    at : (y : Float) → T (finite y) → T (le y (fin false 0 (pos 0))) → T (le unit (pow_at_def binary32 (step_log_def binary32 7549747 (negsuc 22)) y))
    at nan a h = absurd a
    at (inf s) a h = absurd a
    at (fin t n d) a h =
        let r = raised_up t (n * up d) (down d) (step_log_def binary32 7549747 (negsuc 22)) nine_below (signs t n d h) in
        subst (λ (z : ℤ). T (le unit (power binary32 z))) (sym r.1) (power_least r.0)

more_less : (x : Float) → T (plus x) → T (le unit x) → T (plus (x -ᶠ one))
unfolding sub add neg of_bits le
more_less nan p h = absurd h
more_less (inf true) p h = absurd p
more_less (inf false) p h = tt
more_less (fin true m e) p h = absurd p
more_less (fin false m e) p h = less_one (fin false m e) tt p h

-- by whether there is a power
by_power : (x y : Float) (Q : Float → Type 0) → Q nan → (T (powered y) → Q (pow32 x y)) → Q (pow32 x y)
by_power x y Q n h = go (powered y) refl
  where
    go : (b : Bool) → powered y ≡ b → Q (pow32 x y)
    go true e = h (holds e)
    go false e = subst Q (sym (nan_only (pow32 x y) (pow_nan binary32 x y ∙ ap (λ (b : Bool). not (positive x && b)) e ∙ ap not (and_right (positive x) false refl)))) n

pub factor_plus : (v : Float) → T (above0 v) → T (plus (factor_def (neg v)))
unfolding factor_def
factor_plus v p =
    let y = one /ᶠ neg v in
    by_power (decimal 9 10) y (λ (x : Float). T (plus (x -ᶠ one))) (subst (λ (x : Float). T (plus x)) (sym (nan_less one)) tt)
    (λ (q : T (powered y)). more_less (pow32 (decimal 9 10) y) (plus_pow (decimal 9 10) y) (pow_nine y q (over_decay v p)))

floor_plus : (x : Float) → T (plus (max_def x s_min_def))
unfolding max_def s_min_def decimal is_nan lt
floor_plus nan = tt
floor_plus (inf true) = tt
floor_plus (inf false) = tt
floor_plus (fin true m e) = tt
floor_plus (fin false m e) = plus_cond (lt (decimal 1 10000) (fin false m e)) (fin false m e) (decimal 1 10000) tt tt

no_whole : (w : List Float) (interval retention : Float) → T (above0 (w ! 20)) → T (fits binary32 retention) → T (finite retention) → T (le one retention)
    → positive (sm2_stability_def w interval retention) ≡ false
unfolding sm2_stability_def
no_whole w interval retention v k a h =
    let y = one /ᶠ neg (w ! 20) in
    quotient (max_def interval s_min_def *ᶠ factor_def (neg (w ! 20))) (pow32 retention y -ᶠ one) (plus_mul (max_def interval s_min_def) (factor_def (neg (w ! 20))) (floor_plus interval) (factor_plus (w ! 20) v))
    (by_power retention y (λ (x : Float). T (not_above_def (x -ᶠ one))) (subst (λ (x : Float). T (not_above_def x)) (sym (nan_less one)) tt)
    (λ (q : T (powered y)). one_less (pow32 retention y) (plus_pow retention y)
    (pow_at_most_one binary32 retention y k (div-fits binary32 one (neg (w ! 20))) a q (subst (λ (x : Float). T (le x retention)) one_is h) (over_decay (w ! 20) v))))

pub all_kept : (w : List Float) (ease interval retention : Float) → weights_refusal_def w ≡ 0 → T (fits binary32 retention) → T (finite retention) → T (le one retention)
    → finite_memory (sm2_raw w ease interval retention) ≡ false
all_kept w ease interval retention b k a h = no_state w ease interval retention (no_whole w interval retention (above_20 w b) k a h)
