-- From P back to its argument by the ratio: P(X) is at least P(Y) (1 + (X - Y)), but for 2 ^ -93. Assumes nothing.
use mathlib.Core.Path.{◌≡◌, subst}
use mathlib.Core.Logic.{◌⊎◌, inl, inr}
use Prim.Native.Nat.{ℕ, zero, ◌+◌, ◌-◌, ◌*◌, ◌^◌, ◌≤◌, ◌<◌}
use native.Mathlib.Nat.{le_trans, mul_comm, mul-le-mul_left, mul-le-mul_right, le_of_mul-le-mul_right, le_of_mul-le-mul_left, mul-pos, one-le-pow, pow-succ', le-add_right}
use native.Mathlib.Omega.{arith}
use lib.Dec.{lit<, lit≤}
use lib.Pow.{pow-add}
use Rattle.table.proofs.Exact.Poly.{h}
use Rattle.table.proofs.Exact.Laws.{h_mono}
use Rattle.table.proofs.Exact.Near.{P-one}
use Rattle.table.proofs.Exact.Terms.{pcoef, f23}
use Rattle.table.proofs.Exact.Sums.{prod_le}
use Rattle.table.proofs.Exact.Frac.{h_homog, P-grow, either}
use Rattle.table.proofs.Exact.Chain.{nearer, ac}
use Rattle.laws.proofs.Distances.logarithm.Sum.{PP, FF, f_pos}

-- P(a / b) is at least 1 + a / b
more : (x : ℕ) {y z : ℕ} → y ≤ z → x + y ≤ x + z
more x l = omega (arith, l)

two_le : (a b : ℕ) → f23 * b ^ 23 + a * (f23 * b ^ 22) ≤ PP a b
unfolding h pcoef f23
two_le a b = more _ (mul-le-mul_left a (le-add_right _ _))

-- P ≤ 3 up to 7 / 10
top : PP 7 10 ≤ 3 * f23 * 10 ^ 23
unfolding h pcoef f23
top = lit≤ tt

-- arithmetic alone: R is P(Y), X is P(X), Q is P(X - Y), all over B ^ 23 = W = B Y
cancel : (R Q X F W t w k : ℕ) → zero < R → R * Q * t ≤ F * (W * X) * t + F * F * (W * W) → F * W ≤ X → X * w ≤ R * (w + k)
    → Q * (t * w) ≤ F * W * ((t + 1) * (w + k))
cancel R Q X F W t w k z a b c = le_of_mul-le-mul_left {k = R} (le_trans {m = F * W * (t + 1) * (X * w)} (simp ac (simp ac at (mul-le-mul_right w s0)))
    (simp ac (simp ac at (mul-le-mul_left (F * W * (t + 1)) c)))) z
  where
    s0 : R * Q * t ≤ F * W * (t + 1) * X
    s0 = omega (arith, mul-le-mul_left (F * W) b)

rest : (Q F Y B e t w k : ℕ) → zero < F * Y → F * (B * Y) + e * (F * Y) ≤ Q → Q * (t * w) ≤ F * (B * Y) * ((t + 1) * (w + k))
    → e * w * t ≤ (k * t + w + k) * B
rest Q F Y B e t w k z a b = drop e (t * w) B k t w (le_of_mul-le-mul_left {k = F * Y} (le_trans {m = Q * (t * w)} (omega (arith, a, mul-le-mul_right (t * w) a))
    (subst (λ (x : ℕ). Q * (t * w) ≤ x) (simp ac) b)) z)
  where
    drop : (e u B k t w : ℕ) → (B + e) * (t * w) ≤ B * ((t + 1) * (w + k)) → e * w * t ≤ (k * t + w + k) * B
    drop e u B k t w l = omega arith

finish : (a b c d e w t k : ℕ) → c * b + e ≡ a * d → e * w * t ≤ (k * t + w + k) * (b * d) → a * d * w * t ≤ (c * w * t + (k * t + w + k) * d) * b
finish a b c d e w t k q l = rw (← q) (omega (arith, l))

coarse : (a b c d w k : ℕ) → zero < b → zero < d → c * 10 ≤ 7 * d → PP a b * FF d * w ≤ PP c d * FF b * (w + k) → a * d * w ≤ (c * w + 3 * k * d) * b
coarse a b c d w k zb zd m l =
    nearer f23 a b c d (b ^ 22) (d ^ 22) (PP a b) (PP c d) w k 3 f_pos (mul-pos (one-le-pow 22 b zb) (one-le-pow 22 d zd)) (P-grow a b c d)
    (rw (← pow-succ' b 22, ← pow-succ' d 22) l) (rw (← pow-succ' d 22)
    (le_of_mul-le-mul_right {k = 10 ^ 23} (omega (arith, h_mono 23 pcoef c d 7 10 m, top, mul-le-mul_right (d ^ 23) top)) (lit< tt))) (either (a * d) (c * b))

small_e : (a b c d e w k : ℕ) → zero < w → c * b + e ≡ a * d → a * d * w ≤ (c * w + 3 * k * d) * b → 3 * k * 256 ≤ w → e * 2560 ≤ 13 * (b * d)
small_e a b c d e w k z q l m = le_of_mul-le-mul_right {k = w} (omega (arith, mul-le-mul_right (b * d) m, rw (← q) at l)) z

pub nearest_at : (a b c d e w k : ℕ) → zero < b → zero < d → zero < w → c * 10 ≤ 7 * d → 3 * k * 256 ≤ w → PP a b * FF d * w ≤ PP c d * FF b * (w + k)
    → c * b + e ≡ a * d → e * w * 2 ^ 93 ≤ (k * 2 ^ 93 + w + k) * (b * d)
nearest_at a b c d e w k zb zd zw m n l q =
    let B = b * d in
    let Y = B ^ 22 in
    let zB : zero < B = mul-pos zb zd in
    let X = d ^ 23 * PP a b in
    let R = b ^ 23 * PP c d in
    let eX : PP (a * d) B ≡ X = rw (mul_comm a d, mul_comm b d) (h_homog 23 pcoef d a b) in
    let eR : PP (c * b) B ≡ R = rw (mul_comm c b) (h_homog 23 pcoef b c d) in
    let se : e * 2560 ≤ 13 * B = small_e a b c d e w k zw q (coarse a b c d w k zb zd m l) n in
    let sc : c * b * 2560 ≤ 1792 * B = omega (arith, m, mul-le-mul_right b m) in
    let pr : R * PP e B * 2 ^ 93 ≤ f23 * (B ^ 23 * X) * 2 ^ 93 + f23 * f23 * (B ^ 23 * B ^ 23) =
    rw (q, eX, eR, pow-add B 23 23) at (prod_le (c * b) e B sc se) in
    rest (PP e B) f23 Y B e (2 ^ 93) w k (mul-pos f_pos (one-le-pow 22 B zB)) (rw (pow-succ' B 22) at (two_le e B))
    (rw (pow-succ' B 22) at (cancel R (PP e B) X f23 (B ^ 23) (2 ^ 93) w k (rw eR at (le_trans (mul-pos f_pos (one-le-pow 23 B zB)) (P-one (c * b) B))) pr (rw eX at (P-one (a * d) B))
    (le_of_mul-le-mul_left {k = f23} (simp ac (simp ac at l)) f_pos)))

-- P(a / b) ≤ P(c / d) (w + k) / w gives a / b ≤ c / d + k / w, and a little
pub nearest : (a b c d w k : ℕ) → zero < b → zero < d → zero < w → c * 10 ≤ 7 * d → 3 * k * 256 ≤ w → PP a b * FF d * w ≤ PP c d * FF b * (w + k)
    → a * d * w * 2 ^ 93 ≤ (c * w * 2 ^ 93 + (k * 2 ^ 93 + w + k) * d) * b
nearest a b c d w k zb zd zw m n l = go (either (a * d) (c * b))
  where
    go : (a * d ≤ c * b) ⊎ (c * b ≤ a * d) → a * d * w * 2 ^ 93 ≤ (c * w * 2 ^ 93 + (k * 2 ^ 93 + w + k) * d) * b
    go (inl s) = omega (arith, s, mul-le-mul_right (w * (2 ^ 93)) s)
    go (inr s) = finish a b c d (a * d - c * b) w (2 ^ 93) k (back (c * b) (a * d) s) (nearest_at a b c d (a * d - c * b) w k zb zd zw m n l (back (c * b) (a * d) s))
      where
        back : (x y : ℕ) → x ≤ y → x + (y - x) ≡ y
        back x y l = omega arith
