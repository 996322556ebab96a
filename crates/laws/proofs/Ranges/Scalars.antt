-- The formulas of model_v6.rs, which a study screen calls: from weights inside the box, a stability and a difficulty inside the ranges and a retrievability of at most 1 each leaves a stability
-- or a difficulty inside the ranges; the curve is a number from 0 to 1; and so a whole step, and a first one. Assumes nothing.
use mathlib.Core.Path.{◌≡◌, refl, sym, ap, ◌∙◌, subst}
use mathlib.Core.Bool.{Bool, true, false, cond, true≢false}
use mathlib.Core.List.{List}
use Prim.Native.Nat.{ℕ, zero, suc, ◌+◌, ◌-◌, ◌*◌, ◌^◌, ◌≤◌, ◌<◌}
use native.Mathlib.Nat.{le_refl, le_trans, le_of_eq, mul-one, mul-pos, mul-le-mul, mul-mul-mul_comm, div-le_of_le-mul, not-suc-le-zero}
use native.Mathlib.Omega.{arith}
use borrow.Author.Tests.{ltb-false}
use lib.Dec.{T, eqb, ltb, leb, lit<, lit≤}
use lib.IntN.{ℤ, negsuc, nat_abs}
use lib.Pow.{pow_pos, pow-add}
use lib.Ieee.{Float, nan, inf, fin, binary32, of_bits, of_int, up, down, size, round, fits, neg, sub, sum, is_nan, lt, le, eq}
use lib.Ieee.Fits.{down_pos, round-fits, neg-fits}
use lib.Ieee.Order.{round_mono}
use lib.Ieee.Positive.{positive, positive-finite}
use lib.Ieee.Scale.{finite}
use lib.ListN.{get_or}
use Rattle.table.specs.Exact.{P, taylor, fact}
use Rattle.table.specs.Entry.{entry, first_from}
use Rattle.soft.proofs.units.Value.{holds}
use Rattle.soft.specs.Fma.{times, plus as plusExact, fma_def}
use Rattle.soft.specs.HalfAway.{half_away_def, round_def}
use Rattle.kernels.specs.Calls.{exp32, pow32}
use Rattle.kernels.specs.Logarithm.{gap63, low22, below24, step_log_def}
use Rattle.domain.specs.Floats.{◌+ᶠ◌, ◌-ᶠ◌, ◌*ᶠ◌, ◌/ᶠ◌, max_def, min_def}
use Rattle.domain.specs.Limits.{decimal, zero32, one, three, nine, ten, rating_offset_def, s_min_def, day_good_def, stability_good, difficulty_good_def}
use Rattle.domain.specs.Weights.{◌!◌, low_def, high_def, weights_refusal_def}
use Rattle.forward.specs.Stability.{short_raw_def, lapse_raw_def}
use Rattle.forward.specs.Step.{clamp_state_def}
use Rattle.forward.specs.Params.{init_difficulty_of}
use Rattle.forward.specs.declared.state.State.{State}
use Rattle.model_v6.specs.Curve.{mul-add, factor_def, days_def, curve_def}
use Rattle.model_v6.specs.Difficulty.{init_difficulty_def, mean_reversion_def, next_difficulty_def}
use Rattle.model_v6.specs.Stability.{as_f32, stability_after_success_def, failure_floor_def, failure_raw_def, stability_after_failure_def, increase_def, stability_short_term_def}
use Rattle.model_v6.specs.NextState.{clamp_rating_def, stability_after_def, next_state_def, first_state_def}
use Rattle.model_v6.specs.declared.state.MemoryState.{MemoryState}
use Rattle.laws.proofs.Values.Sizes.{Size, size_finite, size_number, wider, neg_size, plus, plus_round, most, unit, one_round, round_size}
use Rattle.laws.proofs.Values.Operations.{mul_size, add_size, sub_size, Least, div_size}
use Rattle.laws.proofs.Values.Between.{least_of}
use Rattle.laws.proofs.Values.Signs.{plus_over}
use Rattle.laws.proofs.Values.Powers.{plus_pow, pow_size_by}
use Rattle.laws.proofs.Values.Logs.{in_reach}
use Rattle.laws.proofs.Values.Zeros.{one_is}
use Rattle.laws.proofs.Values.Box.{sizes, weight_size, inside, above_20, least_20}
use Rattle.laws.proofs.Values.Curve.{yes, neg_least, decay_low, decay_in}
use Rattle.laws.proofs.Values.Difficulty.{init_size, ten_size}
use Rattle.laws.proofs.Values.Imports.{nine_is, factor_plus}
use Rattle.laws.proofs.Values.States.{Held}
use Rattle.laws.proofs.Distances.pow.Laws.{pow_at_most_one}
use Rattle.laws.proofs.Ranges.States.{Inside, inside_held, number, stability_clamped, difficulty_clamped, clamped}
use Rattle.laws.proofs.Ranges.Low.{above_finite}
use Rattle.laws.proofs.Ranges.Curve.{day_size, not_negative}
use Rattle.laws.proofs.Ranges.Branches.{one_size, unit_size, size_cond, short_raw_size, lapse_raw_size, floor_size, success_size}
use Rattle.laws.proofs.Ranges.Difficulty.{offsets, nine_least}
use Rattle.laws.proofs.Ranges.Params.{exp_w8_size, divisor_size, divisor_least, easy_d_size}

-- ---- a rating from 1 to 4
by_grade : (P : ℕ → Type 0) → P 1 → P 2 → P 3 → P 4 → (n : ℕ) → 1 ≤ n → n ≤ 4 → P n
by_grade P a b c d zero l h = absurd (not-suc-le-zero l)
by_grade P a b c d (suc zero) l h = a
by_grade P a b c d (suc (suc zero)) l h = b
by_grade P a b c d (suc (suc (suc zero))) l h = c
by_grade P a b c d (suc (suc (suc (suc zero)))) l h = d
by_grade P a b c d (suc (suc (suc (suc (suc n))))) l h = absurd (omega (arith, h))

shifts : Size 1 (as_f32 1 -ᶠ three) × Size 1 (as_f32 2 -ᶠ three) × Size 1 (as_f32 3 -ᶠ three) × Size 1 (as_f32 4 -ᶠ three)
unfolding of_int sub of_bits
shifts = (lit≤ tt, lit≤ tt, lit≤ tt, lit≤ tt)

shift_size : (n : ℕ) → 1 ≤ n → n ≤ 4 → Size 1 (as_f32 n -ᶠ three)
shift_size = by_grade (λ (n : ℕ). Size 1 (as_f32 n -ᶠ three)) shifts.0 shifts.1 shifts.2 shifts.3

grade_offset : (n : ℕ) → 1 ≤ n → n ≤ 4 → Size 2 (rating_offset_def n)
grade_offset = by_grade (λ (n : ℕ). Size 2 (rating_offset_def n)) offsets.0 offsets.1 offsets.2 offsets.3

pub rating_clamped : (n : ℕ) → (1 ≤ clamp_rating_def n) × (clamp_rating_def n ≤ 4)
unfolding clamp_rating_def
rating_clamped n = go (ltb n 1) (ltb 4 n) refl refl
  where
    go : (a b : Bool) → a ≡ ltb n 1 → b ≡ ltb 4 n → (1 ≤ cond a 1 (cond b 4 n)) × (cond a 1 (cond b 4 n) ≤ 4)
    go true b e f = (lit≤ tt, lit≤ tt)
    go false true e f = (lit≤ tt, lit≤ tt)
    go false false e f = (ltb-false n 1 (sym e), ltb-false 4 n (sym f))

-- ---- days, rounded
half_size : (j m : ℕ) (e : ℤ) → m * up e ≤ 2 ^ j * down e → half_away_def m e ≤ 2 ^ (j + 1) * 1
half_size j m e h =
    div-le_of_le-mul (down e * 2) (le_trans (most_of (m * up e) (down e) (2 ^ j) h (pow_pos j)) (le_of_eq (turn (2 ^ j) (down e) (2 ^ (j + 1)) (pow-add 2 j 1))))
  where
    most_of : (x d p : ℕ) → x ≤ p * d → 0 < p → x * 2 + d ≤ p * d * 4
    most_of x d p h z = omega (arith, h, one_of p d z)
      where
        one_of : (p d : ℕ) → 0 < p → 1 * d ≤ p * d
        one_of p d z = mul-le-mul z (le_refl d)

    turn : (p d q : ℕ) → q ≡ p * 2 → p * d * 4 ≡ d * 2 * (q * 1)
    turn p d q e = rw e (omega arith)

rounded : (j : ℕ) (x : Float) → j + 1 < 128 → Size j x → T (plus x) → Size (j + 1) (round_def binary32 x) × T (plus (round_def binary32 x))
unfolding round_def
rounded j nan l h p = absurd h
rounded j (inf s) l h p = absurd h
rounded j (fin true m e) l h p = absurd p
rounded j (fin false m e) l h p = (round_size false (half_away_def m e) 1 (j + 1) (pow_pos 0) l (half_size j m e h), plus_round binary32 (half_away_def m e) 1)

days_size : (j : ℕ) (t : Float) → j + 1 < 128 → Size j t → Size (j + 1) (days_def t) × T (plus (days_def t))
unfolding days_def
days_size j t l h = let n = not_negative j t h in rounded j (max_def t zero32) l n.0 n.1

-- ---- x a + 1, for an x and an a that are not negative
fused : (j k : ℕ) (x a : Float) → j + k + 1 < 128 → Size j x → T (plus x) → Size k a → T (plus a) →
    Size (j + k + 1) (mul-add x a unit) × T (le unit (mul-add x a unit)) × T (fits binary32 (mul-add x a unit))
unfolding fma_def times plusExact sum
fused j k nan a l h p g q = absurd h
fused j k (inf s) a l h p g q = absurd h
fused j k (fin true m e) a l h p g q = absurd p
fused j k (fin false m e) nan l h p g q = absurd g
fused j k (fin false m e) (inf t) l h p g q = absurd g
fused j k (fin false m e) (fin true n d) l h p g q = absurd q
fused j k (fin false m e) (fin false n d) l h p g q =
    let x = m * up e * (n * up d) in
    let c = down e * down d in
    let z : 0 < c = mul-pos (down_pos e) (down_pos d) in (
      round_size false (x * 1 + 1 * 1 * c) (c * 1) (j + k + 1) (le_trans z (le_of_eq (sym (mul-one c)))) l
          (doubled x c (2 ^ (j + k)) (2 ^ (j + k + 1)) (le_trans (mul-le-mul h g) (le_of_eq (mul-mul-mul_comm (2 ^ j) (down e) (2 ^ k) (down d) ∙ ap (λ (y : ℕ). y * c) (sym (pow-add 2 j k))))) (pow_pos (j + k)) (pow-add 2 (j + k) 1)),
      subst (λ (y : Float). T (le y (round binary32 false (x * 1 + 1 * 1 * c) (c * 1)))) one_round
          (round_mono binary32 1 1 (x * 1 + 1 * 1 * c) (c * 1) (pow_pos 0) (le_trans z (le_of_eq (sym (mul-one c)))) (more x c)),
      round-fits binary32 false (x * 1 + 1 * 1 * c) (c * 1),
    )
  where
    doubled : (x c p q : ℕ) → x ≤ p * c → 0 < p → q ≡ p * 2 → x * 1 + 1 * 1 * c ≤ q * (c * 1)
    doubled x c p q h z e = rw e (omega (arith, h, one_of p c z))
      where
        one_of : (p c : ℕ) → 0 < p → 1 * c ≤ p * c
        one_of p c z = mul-le-mul z (le_refl c)

    more : (x c : ℕ) → 1 * (c * 1) ≤ (x * 1 + 1 * 1 * c) * 1
    more x c = omega arith

-- ---- the curve's factor: 0.9 to the power of at most 10 in size, less 1
nine_log : 2 ^ 4 * nat_abs (step_log_def binary32 7549747 (negsuc 22)) < 3 * 256 * 2 ^ 22
unfolding step_log_def below24 first_from gap63 low22 entry P taylor fact size
nine_log = lit< tt

stable_least : T (positive s_min_def) × Least 14 s_min_def
unfolding s_min_def decimal
stable_least = (tt, lit≤ tt)

no_nan : is_nan s_min_def ≡ false
unfolding s_min_def decimal is_nan
no_nan = refl

below_le : (x y : Float) → lt x y ≡ true → T (le x y)
unfolding le
below_le x y e = yes (lt x y) (eq x y) (holds e)

-- s.max(S_MIN), of a finite s
raised : (s : Float) → T (finite s) → T (positive (max_def s s_min_def)) × Least 14 (max_def s s_min_def)
unfolding max_def
raised s a = first (is_nan s_min_def) refl
  where
    above : lt s_min_def s ≡ true → T (positive s) × Least 14 s
    above e =
        let h = below_le s_min_def s e in
        let p = above_finite s_min_def s stable_least.0 a h in
        (p, least_of 14 s_min_def s stable_least.0 p h stable_least.1)

    go : (b : Bool) → b ≡ lt s_min_def s → T (positive (cond b s s_min_def)) × Least 14 (cond b s s_min_def)
    go true e = above (sym e)
    go false e = stable_least

    first : (b : Bool) → b ≡ is_nan s_min_def → T (positive (cond b s (cond (lt s_min_def s) s s_min_def))) × Least 14 (cond b s (cond (lt s_min_def s) s s_min_def))
    first true e = absurd (true≢false (e ∙ no_nan))
    first false e = go (lt s_min_def s) refl

module _ (w : List Float) (singles : (k : ℕ) → T (fits binary32 (w ! k))) (box : weights_refusal_def w ≡ 0) where
  abbrev decay : Float
  decay = neg (w ! 20)

  -- ---- power_forgetting_curve_scalar
  inverse_size : Size 4 (one /ᶠ decay)
  inverse_size = let l = neg_least 4 (w ! 20) (above_20 w box) (least_20 w box) in div_size 0 4 one decay (lit< tt) unit_size l.0 l.1

  nine_size : Size 3 (pow32 (decimal 9 10) (one /ᶠ decay))
  nine_size =
      subst (λ (x : Float). Size 3 (pow32 x (one /ᶠ decay))) (sym nine_is)
      (pow_size_by 4 3 7549746 (negsuc 22) (one /ᶠ decay) (lit< tt) nine_log (in_reach (one /ᶠ decay) inverse_size) inverse_size)

  pub factor_scalar : Size 4 (factor_def decay)
  unfolding factor_def
  factor_scalar = sub_size 3 (pow32 (decimal 9 10) (one /ᶠ decay)) one (lit< tt) nine_size (one_size 3 unit_size)

  -- of a day of at most 2 ^ 18 and a finite stability: at most 1, and not negative
  pub curve_size : (t s : Float) → Size 18 t → T (finite s) → Size 0 (curve_def w t s)
  unfolding curve_def
  curve_size t s h a =
      let days = days_size 18 t (lit< tt) h in
      let held = raised s a in
      let x = days_def t /ᶠ max_def s s_min_def in
      let b =
      fused 33 4 x (factor_def decay) (lit< tt) (div_size 19 14 (days_def t) (max_def s s_min_def) (lit< tt) days.0 (positive-finite (max_def s s_min_def) held.0) held.1)
      (plus_over (days_def t) (max_def s s_min_def) days.1 (size_finite 19 (days_def t) days.0) held.0) factor_scalar (factor_plus (w ! 20) (above_20 w box)) in
      let base = mul-add x (factor_def decay) unit in
      subst (λ (y : Float). Size 0 (pow32 (mul-add x (factor_def decay) y) decay)) (sym one_is)
      (most 0 (pow32 base decay) (plus_pow base decay)
      (pow_at_most_one binary32 base decay b.2 (neg-fits binary32 (w ! 20) (singles 20)) (size_finite 38 base b.0) (decay_in (w ! 20) (above_20 w box) (weight_size w box 20 (lit< tt)) (least_20 w box)) b.1 (decay_low (w ! 20) (above_20 w box))))

  pub curve_plus : (t s : Float) → T (plus (curve_def w t s))
  unfolding curve_def
  curve_plus t s = plus_pow _ _

  -- ---- the stability, from a state inside the ranges
  module _ (q : State) (i : Inside q) where
    abbrev mine : Held q
    mine = inside_held q i

    pub success_good : (r : Float) (rating : ℕ) → Size 0 r → T (stability_good (stability_after_success_def w q.s r q.d rating))
    unfolding stability_after_success_def
    success_good r rating hr =
        stability_clamped _
        (size_number 85 _
        (success_size (exp32 (w ! 8)) (w ! 9) (w ! 10) q.s q.d r (exp_w8_size w box) (weight_size w box 9 (lit< tt)) (weight_size w box 10 (lit< tt)) mine.above_s mine.size_s mine.least_s mine.size_d hr
        (cond (eqb rating 2) (w ! 15) one) (cond (eqb rating 4) (w ! 16) one) (size_cond 0 (eqb rating 2) (w ! 15) one (weight_size w box 15 (lit< tt)) unit_size)
        (size_cond 4 (eqb rating 4) (w ! 16) one (weight_size w box 16 (lit< tt)) (one_size 4 unit_size))))

    pub failure_good : (r : Float) → Size 0 r → T (stability_good (stability_after_failure_def w q.s r q.d))
    unfolding stability_after_failure_def failure_raw_def failure_floor_def min_def lapse_raw_def
    failure_good r hr =
        let divisor = exp32 (w ! 17 *ᶠ w ! 18) in
        let raw = failure_raw_def w q.s r q.d in
        let floor = failure_floor_def w q.s in
        let of : (k : ℕ) → k < 21 → Size (get_or sizes k 0) (w ! k) = weight_size w box in
        let finite-divisor = size_finite 24 divisor (divisor_size w box) in
        let raw-size : Size 74 raw =
        lapse_raw_size (w ! 11) (w ! 12) (w ! 13) (w ! 14) divisor q r (of 11 (lit< tt)) (of 12 (lit< tt)) (of 13 (lit< tt)) (of 14 (lit< tt)) finite-divisor (divisor_least w box) mine hr in
        let low-size : Size 74 floor =
        wider 40 74 floor (lit≤ tt)
        (floor_size (w ! 11) (w ! 12) (w ! 13) (w ! 14) divisor q r (of 11 (lit< tt)) (of 12 (lit< tt)) (of 13 (lit< tt)) (of 14 (lit< tt)) finite-divisor (divisor_least w box) mine hr) in
        stability_clamped (min_def raw floor) (size_number 74 (min_def raw floor) (size_cond 74 (is_nan floor) raw (cond (lt raw floor) raw floor) raw-size (size_cond 74 (lt raw floor) raw floor raw-size low-size)))

    pub short_good : (rating : ℕ) → 1 ≤ rating → rating ≤ 4 → T (stability_good (stability_short_term_def w q.s rating))
    unfolding stability_short_term_def increase_def max_def short_raw_def
    short_good rating l h =
        let raw = short_raw_def (w ! 17) (w ! 18) (w ! 19) q.s (as_f32 rating) in
        let value = cond (leb 2 rating) (max_def raw one) raw in
        let raw-size : Size 69 raw =
        short_raw_size (w ! 17) (w ! 18) (w ! 19) q.s (as_f32 rating) (weight_size w box 17 (lit< tt)) (weight_size w box 18 (lit< tt)) (weight_size w box 19 (lit< tt)) mine.above_s mine.size_s mine.least_s (shift_size rating l h) in
        let value-size : Size 69 value =
        size_cond 69 (leb 2 rating) (max_def raw one) raw (size_cond 69 (is_nan one) raw (cond (lt one raw) raw one) raw-size (size_cond 69 (lt one raw) raw one raw-size (one_size 69 unit_size))) raw-size in
        stability_clamped (q.s *ᶠ value) (size_number 85 (q.s *ᶠ value) (mul_size 16 69 q.s value (lit< tt) mine.size_s value-size))

    pub after_good : (delta-t : Float) (rating : ℕ) (r : Float) → 1 ≤ rating → rating ≤ 4 → Size 0 r → T (stability_good (stability_after_def w q.s q.d delta-t rating r))
    unfolding stability_after_def
    after_good delta-t rating r l h hr = choose (eq delta-t zero32) _ _ (short_good rating l h) (choose (eqb rating 1) _ _ (failure_good r hr) (success_good r rating hr))
      where
        choose : (b : Bool) (x y : Float) → T (stability_good x) → T (stability_good y) → T (stability_good (cond b x y))
        choose true x y a b = a
        choose false x y a b = b

    -- ---- the difficulty
    pub difficulty_good : (rating : ℕ) → 1 ≤ rating → rating ≤ 4 → T (difficulty_good_def (next_difficulty_def w q.d rating))
    unfolding next_difficulty_def mean_reversion_def init_difficulty_def init_difficulty_of
    difficulty_good rating l h =
        let delta = neg (w ! 6) *ᶠ (as_f32 rating -ᶠ three) in
        let next = q.d +ᶠ (ten -ᶠ q.d) /ᶠ nine *ᶠ delta in
        let easy = init_difficulty_def w 4 in
        let delta-size : Size 4 delta = mul_size 3 1 (neg (w ! 6)) (as_f32 rating -ᶠ three) (lit< tt) (neg_size 3 (w ! 6) (weight_size w box 6 (lit< tt))) (shift_size rating l h) in
        let share : Size 5 ((ten -ᶠ q.d) /ᶠ nine) = div_size 5 0 (ten -ᶠ q.d) nine (lit< tt) (sub_size 4 ten q.d (lit< tt) ten_size mine.size_d) nine_least.0 nine_least.1 in
        let next-size : Size 10 next = add_size 9 q.d ((ten -ᶠ q.d) /ᶠ nine *ᶠ delta) (lit< tt) (wider 4 9 q.d (lit≤ tt) mine.size_d) (mul_size 5 4 ((ten -ᶠ q.d) /ᶠ nine) delta (lit< tt) share delta-size) in
        difficulty_clamped (w ! 7 *ᶠ easy +ᶠ (one -ᶠ w ! 7) *ᶠ next)
        (size_number 27 (w ! 7 *ᶠ easy +ᶠ (one -ᶠ w ! 7) *ᶠ next)
        (add_size 26 (w ! 7 *ᶠ easy) ((one -ᶠ w ! 7) *ᶠ next) (lit< tt) (mul_size 0 26 (w ! 7) easy (lit< tt) (weight_size w box 7 (lit< tt)) (easy_d_size w box))
        (wider 11 26 ((one -ᶠ w ! 7) *ᶠ next) (lit≤ tt) (mul_size 1 10 (one -ᶠ w ! 7) next (lit< tt) (sub_size 0 one (w ! 7) (lit< tt) unit_size (weight_size w box 7 (lit< tt))) next-size))))

  -- ---- next_state_scalar, from any finite state on a good day, and first_state_scalar
  pub next_good :
      (q : MemoryState) (delta-t : Float) (rating : ℕ) → T (fits binary32 q.stability) → T (fits binary32 q.difficulty) → T (finite q.stability) → T (finite q.difficulty) → T (day_good_def delta-t) →
      T (stability_good (next_state_def w q delta-t rating).stability) × T (difficulty_good_def (next_state_def w q delta-t rating).difficulty)
  unfolding next_state_def clamp_state_def
  next_good q delta-t rating ks kd fs fd g =
      let last = clamp_state_def (record { s = q.stability; d = q.difficulty }) in
      let i : Inside last = clamped (record { s = q.stability; d = q.difficulty }) ks kd (number q.stability fs) (number q.difficulty fd) in
      let n = rating_clamped rating in
      let day = days_def delta-t in
      let r_size = curve_size day last.s (days_size 17 delta-t (lit< tt) (day_size delta-t g)).0 (size_finite 16 last.s (inside_held last i).size_s) in
      (after_good last i day (clamp_rating_def rating) (curve_def w day last.s) n.0 n.1 r_size, difficulty_good last i (clamp_rating_def rating) n.0 n.1)

  own_weight : (rating : ℕ) → 1 ≤ rating → rating ≤ 4 → T (stability_good (w ! (rating - 1)))
  unfolding low_def high_def
  own_weight = by_grade (λ (n : ℕ). T (stability_good (w ! (n - 1)))) (inside w box 0 (lit< tt)) (inside w box 1 (lit< tt)) (inside w box 2 (lit< tt)) (inside w box 3 (lit< tt))

  pub first_good : (rating : ℕ) → 1 ≤ rating → rating ≤ 4 → T (stability_good (first_state_def w rating).stability) × T (difficulty_good_def (first_state_def w rating).difficulty)
  unfolding first_state_def init_difficulty_def init_difficulty_of
  first_good rating l h = (
    own_weight rating l h,
    difficulty_clamped (init_difficulty_of (w ! 4) (w ! 5) rating)
        (size_number 26 (init_difficulty_of (w ! 4) (w ! 5) rating) (init_size (w ! 4) (w ! 5) rating (grade_offset rating l h) (weight_size w box 4 (lit< tt)) (weight_size w box 5 (lit< tt)))),
  )
