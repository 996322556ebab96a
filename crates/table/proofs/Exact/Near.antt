-- P at neighbouring arguments: it grows, from 1 on, and a little more in the argument is a little more in the value. Assumes nothing.
use mathlib.Core.Path.{◌≡◌, refl}
use mathlib.Core.List.{List, [], ◌∷◌}
use Prim.Native.Nat.{ℕ, zero, suc, ◌+◌, ◌*◌, ◌^◌, ◌≤◌, ◌<◌}
use native.Mathlib.Nat.{mul_assoc, mul-le-mul, mul-le-mul_left, mul-le-mul_right, le_of_mul-le-mul_right, le_of_mul-le-mul_left, mul-pos, one-le-pow, le-add_right, pow-succ'}
use native.Mathlib.Omega.{arith}
use lib.Dec.{lit<, lit≤}
use Rattle.table.proofs.Exact.Poly.{h}
use Rattle.table.proofs.Exact.Laws.{h_mono}
use Rattle.table.proofs.Exact.Terms.{pcoef, f23}
use Rattle.table.proofs.Exact.Sums.{sum-le}

-- in the argument, at one denominator
pub h_grows : (K : ℕ) (p : List ℕ) (a c b : ℕ) → a ≤ c → h K p a b ≤ h K p c b
unfolding h
h_grows zero [] a c b l = omega arith
h_grows zero (x ∷ p) a c b l = omega arith
h_grows (suc K) [] a c b l = omega arith
h_grows (suc K) (x ∷ p) a c b l = omega (arith, mul-le-mul l (h_grows K p a c b l))

rest : List ℕ → List ℕ
rest [] = []
rest (x ∷ p) = p

shape : pcoef ≡ f23 ∷ rest pcoef
unfolding pcoef f23 rest
shape = refl

split : (x b : ℕ) → h 23 pcoef x b ≡ f23 * b ^ 23 + x * h 22 (rest pcoef) x b
unfolding h rest
split x b = rw shape

-- 1 ≤ P(x)
pub P-one : (x b : ℕ) → f23 * b ^ 23 ≤ h 23 pcoef x b
P-one x b = rw (split x b) (le-add_right (f23 * b ^ 23) (x * h 22 (rest pcoef) x b))

pub P-den-pos : (b : ℕ) → zero < b → zero < f23 * b ^ 23
unfolding f23
P-den-pos b z = mul-pos {m = 25852016738884976640000} (lit< tt) (one-le-pow 23 b z)

rest_small : h 22 (rest pcoef) 1 256 * 256 ≤ 257 * f23 * 256 ^ 22
unfolding h pcoef rest f23
rest_small = lit≤ tt

rest_at : (x b : ℕ) → x * 256 ≤ 1 * b → h 22 (rest pcoef) x b * 256 ≤ 257 * f23 * b ^ 22
rest_at x b l =
    le_of_mul-le-mul_right {k = 256 ^ 22}
    (turn (h 22 (rest pcoef) x b) (256 ^ 22) (h 22 (rest pcoef) 1 256) (b ^ 22) (257 * f23) (h_mono 22 (rest pcoef) x b 1 256 l) rest_small)
    (lit< tt)
  where
    turn : (y e u p v : ℕ) → y * e ≤ u * p → u * 256 ≤ v * e → y * 256 * e ≤ v * p * e
    turn y e u p v m n = omega (arith, mul-le-mul_right p n)

-- P(x) ≤ 1 + 257 / 256 x, for x ≤ 1 / 256
pub P-small : (x b : ℕ) → x * 256 ≤ 1 * b → h 23 pcoef x b * (256 * b) ≤ f23 * b ^ 23 * (256 * b + 257 * x)
P-small x b l = rw (split x b) (go f23 (b ^ 22) (b ^ 23) b x (h 22 (rest pcoef) x b) (pow-succ' b 22) (rest_at x b l))
  where
    go : (f c d b x t : ℕ) → d ≡ b * c → t * 256 ≤ 257 * f * c → (f * d + x * t) * (256 * b) ≤ f * d * (256 * b + 257 * x)
    go f c d b x t e m = rw e (omega (arith, mul-le-mul_left (x * b) m))

-- P(r + x) ≤ P(r) (1 + 257 / 256 x)
pub P-step : (r x b : ℕ) → zero < b → r * 2560 ≤ 1792 * b → x * 256 ≤ 1 * b → h 23 pcoef (r + x) b * (256 * b) ≤ h 23 pcoef r b * (256 * b + 257 * x)
P-step r x b z l m =
    over (f23 * b ^ 23) (h 23 pcoef (r + x) b) (h 23 pcoef r b) (h 23 pcoef x b) (256 * b) (256 * b + 257 * x) (P-den-pos b z)
    (rw (mul_assoc f23 (b ^ 23) (h 23 pcoef (r + x) b)) (sum-le r x b l (omega arith)))
    (P-small x b m)
  where
    over : (d x y z w v : ℕ) → zero < d → d * x ≤ y * z → z * w ≤ d * v → x * w ≤ y * v
    over d x y z w v p l m = le_of_mul-le-mul_left {k = d} (omega (arith, mul-le-mul_right w l, mul-le-mul_left y m)) p
