-- From the power's core to the float: where M * 2 ^ K / 2 ^ 2110 is near a fraction, so is the float that `finish_n` rounds it to. Assumes nothing.
use mathlib.Core.Path.{◌≡◌, sym, ap, ◌∙◌, subst}
use mathlib.Core.Bool.{true, false, true≢false}
use Prim.Native.Nat.{ℕ, suc, ◌+◌, ◌-◌, ◌*◌, ◌/◌, ◌^◌, ◌≤◌, ◌<◌}
use native.Mathlib.Nat.{le_trans, le_of_eq, le_of_lt, lt_of_lt_of_le, mul-pos, mul-le-mul_left, mul-le-mul_right, mul-lt-mul_of_pos_left, le_of_mul-le-mul_right, lt_of_mul-lt-mul_right}
use native.Mathlib.Omega.{arith}
use lib.Dec.{lit≤}
use lib.Pow.{pow_pos, pow-add, pow_mono, shl_lt}
use lib.Ieee.{Float, nan, inf, fin, Format, binary32, binary64, prec, emax, low, size, up, down}
use lib.Ieee.Exact.{HasValue}
use lib.Ieee.Nearest.{closest}
use lib.Ieee.Scale.{normal_of_fraction}
use Rattle.table.specs.Exact.{Frac}
use Rattle.table.proofs.Exact.Chain.{ac}
use Rattle.soft.proofs.Rounding.Relative.{kept_up, kept_down, kept_value}
use Rattle.kernels.proofs.Definitions.Natural.{finish_n, at_mid}
use Rattle.laws.specs.Distances.{Near, power_bits}
use Rattle.laws.proofs.Distances.power.Near.{grain, grain_pos, most}

-- ---- two relative distances in a row: x / e is c / l, that is v / W rounded, and v / W is near n / m
over : (x e c l v W n m r r' g g' p p' : ℕ) → 0 < l * W → 0 < r * g → x * l ≡ c * e → c * W * r ≤ v * l * r' → v * m * g ≤ n * W * g' → r' * g' * p ≤ r * g * p'
    → x * m * p ≤ n * e * p'
over x e c l v W n m r r' g g' p p' z y i hr hg t =
    le_of_mul-le-mul_right {k = l * W * (r * g)} (le_trans {m = c * e * (m * p * W * r * g)}
    (le_of_eq (simp ac (simp ac at (ap (λ (k : ℕ). k * (m * p * W * r * g)) i)))) (le_trans {m = v * l * r' * (e * m * p * g)}
    (simp ac (simp ac at (mul-le-mul_right (e * m * p * g) hr))) (le_trans {m = n * W * g' * (l * r' * e * p)}
    (simp ac (simp ac at (mul-le-mul_right (l * r' * e * p) hg))) (simp ac (simp ac at (mul-le-mul_left (n * W * l * e) t)))))) (mul-pos z y)

below : (x e c l v W n m r r' g g' p p' : ℕ) → 0 < l * W → 0 < r * g → x * l ≡ c * e → v * l * r' ≤ c * W * r → n * W * g' ≤ v * m * g → r * g * p' ≤ r' * g' * p
    → n * e * p' ≤ x * m * p
below x e c l v W n m r r' g g' p p' z y i hr hg t =
    le_of_mul-le-mul_right {k = l * W * (r * g)} (le_trans {m = n * W * g' * (l * r' * e * p)}
    (simp ac (simp ac at (mul-le-mul_left (n * W * l * e) t))) (le_trans {m = v * l * r' * (e * m * p * g)}
    (simp ac (simp ac at (mul-le-mul_right (l * r' * e * p) hg))) (le_trans {m = c * e * (m * p * W * r * g)}
    (simp ac (simp ac at (mul-le-mul_right (e * m * p * g) hr))) (le_of_eq (sym (simp ac (simp ac at (ap (λ (k : ℕ). k * (m * p * W * r * g)) i)))))))) (mul-pos z y)

-- M * 2 ^ K / 2 ^ 2110 within most / grain of q
abbrev pub CoreNear : Format → (K M : ℕ) → Frac → Type 0
CoreNear f K M q =
    (M * 2 ^ K * q.den * grain f ≤ q.num * 2 ^ 2110 * (grain f + most f)) × (q.num * 2 ^ 2110 * (grain f - most f) ≤ M * 2 ^ K * q.den * grain f)

-- both distances together are within the promise
total : (f : Format) → ((2 ^ prec f + 1) * (grain f + most f) * 2 ^ power_bits f ≤ 2 ^ prec f * grain f * (2 ^ power_bits f + 1))
    × (2 ^ prec f * grain f * (2 ^ power_bits f - 1) ≤ (2 ^ prec f - 1) * (grain f - most f) * 2 ^ power_bits f)
total binary32 = (lit≤ tt, lit≤ tt)
total binary64 = (lit≤ tt, lit≤ tt)

-- ---- the normal range
starts : (f : Format) (K : ℕ) → 2049 ≤ K + emax f → prec f - 1 + 2110 ≤ 62 + K + low f
starts binary32 K h = omega arith
starts binary64 K h = omega arith

-- c is what is kept of x / W, in units of 1 / l
within : (c x l t W r : ℕ) → 0 < l → 1 ≤ r → c * W * r ≤ x * l * (r + 1) → x < W * t → c < l * (t * 2)
within c x l t W r z y h m = lt_of_mul-lt-mul_right (W * r) (omega (arith, mul-lt-mul_of_pos_left {k = l * (r + 1)} m (mul-pos z (omega arith)), mul-le-mul_left (W * t * l) y))

module _ (f : Format) (K M : ℕ) (lo : 2 ^ 62 ≤ M) (hi : M < 2 ^ 63) (a : 2049 ≤ K + emax f) (b : K < 2048 + emax f) where
  normal : prec f ≤ size (M * 2 ^ K * 2 ^ low f / 2 ^ 2110)
  normal =
      normal_of_fraction f (M * 2 ^ K) (2 ^ 2110) (pow_pos 2110)
      (le_trans (le_of_eq (sym (pow-add 2 (prec f - 1) 2110))) (le_trans (pow_mono (starts f K a))
      (le_trans (le_of_eq (pow-add 2 (62 + K) (low f) ∙ ap (λ (x : ℕ). x * 2 ^ low f) (pow-add 2 62 K))) (mul-le-mul_right (2 ^ low f) (mul-le-mul_right (2 ^ K) lo)))))

  -- what is kept, in units of the format's smallest value
  kept : ℕ
  kept = let k = size (M * 2 ^ K * 2 ^ low f / 2 ^ 2110) - prec f in closest (M * 2 ^ K * 2 ^ low f) (2 ^ 2110 * 2 ^ k) * 2 ^ k

  near_up : kept * 2 ^ 2110 * 2 ^ prec f ≤ M * 2 ^ K * 2 ^ low f * (2 ^ prec f + 1)
  unfolding kept
  near_up = kept_up f false (M * 2 ^ K) (2 ^ 2110) (pow_pos 2110) normal

  near_down : M * 2 ^ K * 2 ^ low f * (2 ^ prec f - 1) ≤ kept * 2 ^ 2110 * 2 ^ prec f
  unfolding kept
  near_down = kept_down f false (M * 2 ^ K) (2 ^ 2110) (pow_pos 2110) normal

  under : kept < 2 ^ (low f + suc (emax f))
  under =
      lt_of_lt_of_le
      (within kept (M * 2 ^ K) (2 ^ low f) (2 ^ emax f) (2 ^ 2110) (2 ^ prec f) (pow_pos (low f)) (pow_pos (prec f)) near_up
      (lt_of_lt_of_le (shl_lt 63 K hi) (le_trans (pow_mono (omega (arith, b))) (le_of_eq (pow-add 2 2110 (emax f))))))
      (le_of_eq (ap (λ (x : ℕ). 2 ^ low f * x) (sym (pow-add 2 (emax f) 1)) ∙ sym (pow-add 2 (low f) (emax f + 1)) ∙ ap (λ (x : ℕ). 2 ^ (low f + x)) (next (emax f))))
    where
      next : (e : ℕ) → e + 1 ≡ suc e
      next e = omega arith

  value : HasValue (finish_n f K M) false kept (2 ^ low f)
  unfolding kept
  value =
      subst (λ (y : Float). HasValue y false kept (2 ^ low f)) (sym (at_mid f K M a (le_of_lt b)))
      (kept_value f false (M * 2 ^ K) (2 ^ 2110) (pow_pos 2110) normal under)

  pub finish_near : (q : Frac) → CoreNear f K M q → Near (power_bits f) (finish_n f K M) q
  finish_near q h = go (finish_n f K M) value
    where
      go : (y : Float) → HasValue y false kept (2 ^ low f) → Near (power_bits f) y q
      go nan v = absurd v
      go (inf s) v = absurd v
      go (fin true m e) v = absurd (true≢false v.0)
      go (fin false m e) v = (
        over (m * up e) (down e) kept (2 ^ low f) (M * 2 ^ K) (2 ^ 2110) q.num q.den (2 ^ prec f) (2 ^ prec f + 1) (grain f) (grain f + most f) (2 ^ power_bits f)
            (2 ^ power_bits f + 1) (mul-pos (pow_pos (low f)) (pow_pos 2110)) (mul-pos (pow_pos (prec f)) (grain_pos f)) v.1 near_up h.0 (total f).0,
        below (m * up e) (down e) kept (2 ^ low f) (M * 2 ^ K) (2 ^ 2110) q.num q.den (2 ^ prec f) (2 ^ prec f - 1) (grain f) (grain f - most f) (2 ^ power_bits f)
            (2 ^ power_bits f - 1) (mul-pos (pow_pos (low f)) (pow_pos 2110)) (mul-pos (pow_pos (prec f)) (grain_pos f)) v.1 near_down h.1 (total f).1,
      )
