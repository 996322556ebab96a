-- A number with its digits moved up to w has 2 ^ (w - 1) as its leading digit's weight, and L's series is at both one number. Assumes nothing.
use mathlib.Core.Path.{◌≡◌, sym, ap, ◌∙◌, subst}
use Prim.Native.Nat.{ℕ, zero, ◌+◌, ◌-◌, ◌*◌, ◌^◌, ◌≤◌, ◌<◌}
use native.Mathlib.Nat.{mul_comm, mul-sub, le_trans, mul-le-mul_left, mul-le-mul_right, le_of_mul-le-mul_left, mul-pos, one-le-pow}
use native.Mathlib.Omega.{arith}
use lib.Ieee.{size}
use lib.Ieee.Digits.{size-lt, size-le, size_reaches}
use lib.Pow.{pow-add, pow_mono}
use Rattle.table.specs.Exact.{odd_fact, lead, series_num, series_den}
use Rattle.table.proofs.Exact.Poly.{h}
use Rattle.table.proofs.Exact.Laws.{pow-mul}
use Rattle.table.proofs.Exact.Series.{scoef, d_s}
use Rattle.table.proofs.Exact.Frac.{h_homog}
use Rattle.table.proofs.Exact.Odds.{odds_series}
use Rattle.soft.proofs.Rounding.Place.{size_pos}
use Rattle.kernels.specs.Logarithm.{moved}
use Rattle.laws.proofs.Distances.logarithm.Sum.{Sn, Sd, d_s_pos}
use Rattle.laws.proofs.Distances.logarithm.Core.{Sides, Scaled}

-- ---- S / D and n / d are one number
pub record Same (S D n d : ℕ) : Type 0 where
  pub o : ℕ
  pub c : ℕ
  pub some : zero < c
  pub num : o * S ≡ c * n
  pub den : o * D ≡ c * d

move : (o c S D n d A B C E : ℕ) → zero < c → o * S ≡ c * n → o * D ≡ c * d → S * A + B * D ≤ S * C + E * D → n * A + B * d ≤ n * C + E * d
move o c S D n d A B C E z e1 e2 h =
    le_of_mul-le-mul_left {k = c}
    (omega (arith, mul-le-mul_left o h, ap (λ (t : ℕ). t * A) e1, ap (λ (t : ℕ). t * C) e1, ap (λ (t : ℕ). B * t) e2, ap (λ (t : ℕ). E * t) e2)) z

pub move_both : {S D n d : ℕ} → Same S D n d → (A B C E : ℕ) → S * A + B * D ≤ S * C + E * D → n * A + B * d ≤ n * C + E * d
move_both {S} {D} {n} {d} r A B C E h = move r.o r.c S D n d A B C E r.some r.num r.den h

move_up : {S D n d : ℕ} → Same S D n d → (W X Y : ℕ) → S * W + Y * D ≤ X * D → n * W + Y * d ≤ X * d
move_up {S} {D} {n} {d} r W X Y h = off n (X * d) (move_both r W Y 0 X (on S (X * D) h))
  where
    on : (S y : ℕ) {x : ℕ} → x ≤ y → x ≤ S * 0 + y
    on S y l = omega (arith, l)

    off : (n y : ℕ) {x : ℕ} → x ≤ n * 0 + y → x ≤ y
    off n y l = omega (arith, l)

move_down : {S D n d : ℕ} → Same S D n d → (W X Y : ℕ) → X * D ≤ S * W + Y * D → X * d ≤ n * W + Y * d
move_down {S} {D} {n} {d} r W X Y h = off n (X * d) (move_both r 0 X W Y (on S (X * D) h))
  where
    on : (S x : ℕ) {y : ℕ} → x ≤ y → S * 0 + x ≤ y
    on S x l = omega (arith, l)

    off : (n x : ℕ) {y : ℕ} → n * 0 + x ≤ y → x ≤ y
    off n x l = omega (arith, l)

pub move_sides : {S D n d : ℕ} (c l k j : ℕ) → Same S D n d → Sides c l k j S D → Sides c l k j n d
move_sides c l k j r h = record { above = move_up r (2 ^ 72) (c + k) (256 * l) h.above; below = move_down r (2 ^ 72) c (256 * l + j) h.below }

pub move_scaled : {S D n d : ℕ} (c y k j a : ℕ) → Same S D n d → Scaled c y k j a S D → Scaled c y k j a n d
move_scaled c y k j a r h = record { above = move_up r (2 ^ 72 * a) ((c + k) * a) y h.above; below = move_down r (2 ^ 72 * a) (c * a) (y + j) h.below }

-- ---- L's series at m, and at m k with its leading digit's weight t
minus_is : (m h k t : ℕ) → k * h ≡ t → m * k - t ≡ k * (m - h)
minus_is m h k t e = rw (mul-sub k m h) (omega (arith, e))

plus_is : (m h k t : ℕ) → k * h ≡ t → m * k + t ≡ k * (m + h)
plus_is m h k t e = omega (arith, e)

pub series : (m k t : ℕ) → zero < k → k * lead m ≡ t → Same (Sn (m * k - t) (m * k + t)) (Sd (m * k + t)) (series_num m) (series_den m)
series m k t z e =
    rw (minus_is m (lead m) k t e, plus_is m (lead m) k t e)
    (record {
      o = odd_fact 23;
      c = k ^ 47 * d_s;
      some = mul-pos (one-le-pow 47 k z) d_s_pos;
      num = rw (h_homog 47 scoef k (m - lead m) (m + lead m)) (omega (arith, ap (λ (t : ℕ). (k ^ 47) * t) (odds_series (m - lead m) (m + lead m))));
      den = rw (pow-mul k (m + lead m) 47) (omega arith);
    })

-- ---- the digits moved up to w
pub lead_moved : (w m : ℕ) → zero < m → m < 2 ^ w → 2 ^ (w - size m) * lead m ≡ 2 ^ (w - 1)
lead_moved w m z l = sym (pow-add 2 (w - size m) (size m - 1)) ∙ ap (λ (y : ℕ). 2 ^ y) (omega (arith, size_pos m z, size-le m w l))

pub moved_ge : (w m : ℕ) → zero < m → m < 2 ^ w → 2 ^ (w - 1) ≤ moved w m
moved_ge w m z l =
    rw (← lead_moved w m z l, mul_comm (2 ^ (w - size m)) (lead m)) (mul-le-mul_right (2 ^ (w - size m)) (size_reaches m (size m - 1) (omega (arith, size_pos m z))))

-- m of p digits or fewer ends in w - p zeros
pub moved_room : (w p m : ℕ) → p ≤ w → m < 2 ^ p → moved w m + 2 ^ (w - p) ≤ 2 ^ w
moved_room w p m n l =
    le_trans (fit m (2 ^ (w - size m)) (2 ^ (w - p)) (2 ^ size m) (size-lt m) (pow_mono (omega (arith, size-le m p l))))
    (subst (λ (y : ℕ). 2 ^ size m * 2 ^ (w - size m) ≤ y) (sym (pow-add 2 (size m) (w - size m)) ∙ ap (λ (y : ℕ). 2 ^ y) (omega (arith, le_trans (size-le m p l) n)))
    (omega arith))
  where
    fit : (m k j t : ℕ) → m < t → j ≤ k → m * k + j ≤ t * k
    fit m k j t a b = omega (arith, mul-le-mul_right k a)
