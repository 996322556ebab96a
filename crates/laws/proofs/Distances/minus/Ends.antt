-- exp less 1 at its ends: from 89 on exp in double is 2 ^ 128 or more, which is no single; from -89 on it is 2 ^ -127 at most, and 1 less it rounds to 1.
-- Assumes nothing.
use mathlib.Core.Path.{◌≡◌, refl, sym, ap, ◌∙◌, subst}
use mathlib.Core.Bool.{Bool, true, false, cond}
use mathlib.Core.Logic.{inl, inr}
use Prim.Native.Nat.{ℕ, zero, ◌+◌, ◌-◌, ◌*◌, ◌/◌, ◌^◌, ◌≤◌, ◌<◌}
use native.Mathlib.Nat.{le_trans, le_of_eq, le_of_lt, one-mul, mul-one, mul-pos, mul-le-mul_left, mul-le-mul_right, le-add_right, le_antisymm, mul-le-mul}
use native.Mathlib.Omega.{arith}
use borrow.Author.Tests.{le-ltb, lt-ltb}
use lib.Dec.{T, eqb, eqb→eq, lit<, lit≤}
use lib.IntN.{ℤ, pos, negsuc}
use lib.Pow.{pow_pos, pow-add, pow_mono, shl_lt}
use lib.Ieee.{Float, nan, inf, fin, binary32, binary64, up, down, round, fits, neg, add, sub, le, lt, eq, of_bits}
use lib.Ieee.Exact.{HasValue}
use lib.Ieee.Fits.{and_r, down_pos, round-fits}
use lib.Ieee.Order.{round_mono}
use lib.Ieee.Positive.{num, den, positive, between, le→cross}
use Rattle.columns.proofs.scores.Settled.{unique}
use Rattle.soft.specs.Narrow.{narrow_def}
use Rattle.table.specs.Exact.{N}
use Rattle.table.specs.Whole.{signed}
use Rattle.kernels.specs.Power.{hi, power}
use Rattle.kernels.specs.Kernels.{one64, turns, exp_def}
use Rattle.kernels.proofs.Definitions.Cases.{below_or}
use Rattle.kernels.proofs.Definitions.Hi.{hi_ge}
use Rattle.kernels.proofs.Definitions.Natural.{lift, whole, finish_n, power_n, at_low, at_high, at_mid, lt-or-ge, power_is}
use Rattle.laws.proofs.Distances.Ends.{quotient, past_three}
use Rattle.laws.proofs.Distances.power.Near.{M, M-low, M-high}
use Rattle.laws.proofs.Distances.minus.Away.{minus_one}
use Rattle.laws.proofs.Values.Sizes.{plus, plus_round, neg-round}

-- 89 is more than 128 factors of 2
turns_far : (s b : ℕ) → zero < b → 89 * b ≤ s → 128 * 2 ^ 52 ≤ turns binary64 s b
unfolding turns
turns_far s b z h =
    past_three (hi (s * 2 ^ 53 / b) (2 ^ 127 / N)) (128 * 2 ^ 52) (s * 2 ^ 53 / b) (2 ^ 127 / N) (89 * 2 ^ 53) (2 ^ 64) (hi_ge (s * 2 ^ 53 / b) (2 ^ 127 / N))
    (quotient 89 s b (2 ^ 53) z h) (lit≤ tt)

-- ---- 2 ^ 128 or more
abbrev Huge : Float → Type 0
Huge nan = ⊥
Huge (inf s) = s ≡ false
Huge (fin true m e) = ⊥
Huge (fin false m e) = 2 ^ 128 * down e ≤ m * up e

huge : (x : Float) → T (le (fin false 1 (pos 128)) x) → Huge x
unfolding le lt eq
huge nan h = absurd h
huge (inf true) h = absurd h
huge (inf false) h = refl
huge (fin true m e) h =
    let x : ℕ = 1 * 2 ^ 128 * down e in
    absurd (none x (mul-pos {m = 1 * 2 ^ 128} (lit< tt) (down_pos e)) (eqb→eq x 0 (and_r (eqb x (m * up e * 1)) (eqb x 0) h)))
  where
    none : (x : ℕ) → 0 < x → x ≡ 0 → ⊥
    none x z e = omega arith
huge (fin false m e) h = le_trans (below_or (2 ^ 128 * down e) (m * up e * 1) true h) (le_of_eq (mul-one (m * up e)))

computed : (round binary64 false (2 ^ 128 - 1) 1 ≡ fin false 1 (pos 128)) × (round binary32 false (2 ^ 128) 1 ≡ inf false)
unfolding round
computed = (refl, refl)

-- a difference from 1, rounded
round_huge : (a c : ℕ) → zero < c → 2 ^ 128 * c ≤ a + c → Huge (round binary64 false a c)
round_huge a c z h =
    huge (round binary64 false a c)
    (subst (λ (x : Float). T (le x (round binary64 false a c))) computed.0
    (round_mono binary64 (2 ^ 128 - 1) 1 a c (lit< tt) z (le_trans (less (2 ^ 128 - 1) c a h) (le_of_eq (sym (mul-one a))))))
  where
    less : (k c a : ℕ) → (k + 1) * c ≤ a + c → k * c ≤ a
    less k c a h = omega arith

finish_huge : (K m : ℕ) → 2 ^ 62 ≤ m → 2176 ≤ K → Huge (finish_n binary64 K m)
finish_huge K m a b = elim (lt-or-ge (2048 + 1023) K) [
  | inl l ↦ subst Huge (sym (at_high binary64 K m l)) refl
  | inr g ↦ subst Huge (sym (at_mid binary64 K m (le_trans (lit≤ tt) (le_trans b (le-add_right K 1023))) g))
      (round_huge (m * 2 ^ K) (2 ^ 2110) (pow_pos 2110)
      (le_trans (le_of_eq (sym (pow-add 2 128 2110) ∙ pow-add 2 62 2176)) (le_trans (mul-le-mul a (pow_mono b)) (le-add_right (m * 2 ^ K) (2 ^ 2110)))))
]

power_huge : (z : ℕ) → 128 * 2 ^ 52 ≤ z → Huge (power_n binary64 false z)
unfolding power_n
power_huge z h = let Y : ℕ = 2 ^ 63 + z in finish_huge (whole Y) (M binary64 Y * lift binary64) (M-low binary64 Y) (omega arith)

less_one_inf : (s : Bool) → sub binary64 (inf s) one64 ≡ inf s
unfolding sub add neg of_bits
less_one_inf s = refl

less_one_huge : (x : Float) → Huge x → Huge (sub binary64 x one64)
less_one_huge nan h = absurd h
less_one_huge (inf s) h = subst Huge (sym (less_one_inf s)) h
less_one_huge (fin true m e) h = absurd h
less_one_huge (fin false m e) h =
    rw (minus_one m e, le-ltb (m * up e) (down e) (more (2 ^ 128) (down e) (m * up e) (lit< tt) h))
    (round_huge (m * up e - down e) (down e) (down_pos e) (le_trans h (le_of_eq (sym (back (down e) (m * up e) (more (2 ^ 128) (down e) (m * up e) (lit< tt) h))))))
  where
    more : (k d y : ℕ) → zero < k → k * d ≤ y → d ≤ y
    more k d y z h = le_trans (le_of_eq (sym (one-mul d))) (le_trans (mul-le-mul_right d z) h)

    back : (d y : ℕ) → d ≤ y → y - d + d ≡ y
    back d y l = omega arith

infinite : (x : Float) → T (le (inf false) x) → x ≡ inf false
unfolding le lt eq
infinite nan h = absurd h
infinite (inf true) h = absurd h
infinite (inf false) h = refl
infinite (fin s m e) h = absurd h

narrow_huge : (x : Float) → Huge x → narrow_def binary32 x ≡ inf false
unfolding narrow_def
narrow_huge nan h = absurd h
narrow_huge (inf s) h = ap inf h
narrow_huge (fin true m e) h = absurd h
narrow_huge (fin false m e) h =
    infinite (round binary32 false (m * up e) (down e))
    (subst (λ (x : Float). T (le x (round binary32 false (m * up e) (down e)))) computed.1
    (round_mono binary32 (2 ^ 128) 1 (m * up e) (down e) (lit< tt) (down_pos e) (le_trans h (le_of_eq (sym (mul-one (m * up e)))))))

-- ---- 2 ^ -127 or less
abbrev Small : Float → Type 0
Small nan = ⊥
Small (inf s) = ⊥
Small (fin true m e) = ⊥
Small (fin false m e) = m * up e * 2 ^ 127 ≤ down e

small : (x : Float) → T (plus x) → T (le x (fin false 1 (negsuc 126))) → Small x
unfolding le lt eq
small nan p h = absurd h
small (inf true) p h = absurd p
small (inf false) p h = absurd h
small (fin true m e) p h = absurd p
small (fin false m e) p h = le_trans (below_or (m * up e * 2 ^ 127) (1 * 1 * down e) true h) (le_of_eq (one-mul (down e)))

abbrev unit : Float
unit = fin false 1 (pos 0)

computed_small : (round binary64 false 1 (2 ^ 127) ≡ fin false 1 (negsuc 126)) × (round binary64 false (2 ^ 127 - 1) (2 ^ 127) ≡ unit) × (round binary64 false 1 1 ≡ unit)
    × (neg unit ≡ fin true 1 (pos 0)) × T (fits binary64 unit)
unfolding round neg fits
computed_small = (refl, refl, refl, refl, tt)

finish_small : (K m : ℕ) → m < 2 ^ 63 → K ≤ 1920 → Small (finish_n binary64 K m)
finish_small K m a b = elim (lt-or-ge (K + 1023) 2049) [
  | inl l ↦ subst Small (sym (at_low binary64 K m l)) (lit≤ tt)
  | inr g ↦ subst Small (sym (at_mid binary64 K m g (wide K b)))
      (small (round binary64 false (m * 2 ^ K) (2 ^ 2110)) (plus_round binary64 (m * 2 ^ K) (2 ^ 2110))
      (subst (λ (x : Float). T (le (round binary64 false (m * 2 ^ K) (2 ^ 2110)) x)) computed_small.0
      (round_mono binary64 (m * 2 ^ K) (2 ^ 2110) 1 (2 ^ 127) (pow_pos 2110) (pow_pos 127)
      (le_trans (mul-le-mul_right (2 ^ 127) (le_of_lt (shl_lt 63 K a)))
      (le_trans (le_of_eq (sym (pow-add 2 (63 + K) 127))) (le_trans (pow_mono (reach K b)) (le_of_eq (sym (one-mul (2 ^ 2110))))))))))
]
  where
    wide : (K : ℕ) → K ≤ 1920 → K ≤ 2048 + 1023
    wide K b = omega arith

    reach : (K : ℕ) → K ≤ 1920 → 63 + K + 127 ≤ 2110
    reach K b = omega arith

power_small : (z : ℕ) → 128 * 2 ^ 52 ≤ z → Small (power_n binary64 true z)
unfolding power_n
power_small z h = let Y : ℕ = 2 ^ 63 - z in finish_small (whole Y) (M binary64 Y * lift binary64) (M-high binary64 Y) (omega arith)

-- what lies from 1 to 1 is 1
one_one : (x : Float) → T (fits binary64 x) → T (le unit x) → T (le x unit) → x ≡ unit
one_one x k l g =
    let p : T (positive x) = between unit x unit tt tt l g in
    unique binary64 x unit false 1 1 k computed_small.4 (lit< tt) (value x p (le→cross unit x tt p l) (le→cross x unit p tt g)) (refl, refl)
  where
    value : (x : Float) → T (positive x) → 1 * 1 * den x ≤ num x * 1 → num x * 1 ≤ 1 * 1 * den x → HasValue x false 1 1
    value nan p a b = absurd p
    value (inf s) p a b = absurd p
    value (fin true m e) p a b = absurd p
    value (fin false m e) p a b = (refl, le_antisymm b a)

-- 1 less that, rounded
near_one : (y d : ℕ) → zero < d → y * 2 ^ 127 ≤ d → round binary64 false (d - y) d ≡ unit
near_one y d z h = one_one (round binary64 false (d - y) d) (round-fits binary64 false (d - y) d) from to
  where
    spread : (k r y d : ℕ) → d ≤ r + y → y * (k + 1) ≤ d → k * d ≤ r * (k + 1)
    spread k r y d e h = omega (arith, mul-le-mul_right (k + 1) e, h)

    from : T (le unit (round binary64 false (d - y) d))
    from =
        subst (λ (x : Float). T (le x (round binary64 false (d - y) d))) computed_small.1
        (round_mono binary64 (2 ^ 127 - 1) (2 ^ 127) (d - y) d (pow_pos 127) z (spread (2 ^ 127 - 1) (d - y) y d (omega arith) h))

    to : T (le (round binary64 false (d - y) d) unit)
    to = subst (λ (x : Float). T (le (round binary64 false (d - y) d) x)) computed_small.2 (round_mono binary64 (d - y) d 1 1 z (lit< tt) (omega arith))

less_one_small : (x : Float) → Small x → sub binary64 x one64 ≡ fin true 1 (pos 0)
less_one_small nan h = absurd h
less_one_small (inf s) h = absurd h
less_one_small (fin true m e) h = absurd h
less_one_small (fin false m e) h =
    let y : ℕ = m * up e in
    let d : ℕ = down e in
    minus_one m e
    ∙ ap (λ (b : Bool). cond b (round binary64 true (d - y) d) (round binary64 false (y - d) d)) (lt-ltb y d (less (2 ^ 127) y d (lit< tt) (down_pos e) h))
    ∙ neg-round binary64 (d - y) d
    ∙ ap neg (near_one y d (down_pos e) h)
    ∙ computed_small.3
  where
    less : (k y d : ℕ) → 1 < k → zero < d → y * k ≤ d → y < d
    less k y d l z h = omega (arith, z, mul-le-mul_left y l)

narrow_one : narrow_def binary32 (fin true 1 (pos 0)) ≡ fin true 1 (pos 0)
unfolding narrow_def round
narrow_one = refl

-- ---- exp less 1
pub far_up : (m : ℕ) (e : ℤ) → 89 * down e ≤ m * up e → narrow_def binary32 (sub binary64 (exp_def binary64 (fin false m e)) one64) ≡ inf false
unfolding exp_def
far_up m e h =
    let z = turns binary64 (m * up e) (down e) in
    narrow_huge (sub binary64 (power binary64 (pos z)) one64)
    (less_one_huge (power binary64 (pos z)) (subst Huge (sym (power_is binary64 false z)) (power_huge z (turns_far (m * up e) (down e) (down_pos e) h))))

pub far_down : (m : ℕ) (e : ℤ) → 89 * down e ≤ m * up e → narrow_def binary32 (sub binary64 (exp_def binary64 (fin true m e)) one64) ≡ fin true 1 (pos 0)
unfolding exp_def
far_down m e h =
    let z = turns binary64 (m * up e) (down e) in
    ap (narrow_def binary32) (less_one_small (power binary64 (signed true z)) (subst Small (sym (power_is binary64 true z)) (power_small z (turns_far (m * up e) (down e) (down_pos e) h))))
    ∙ narrow_one
