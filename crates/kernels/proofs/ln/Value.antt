-- Floats that hold z / 2 ^ u, z a whole number of either sign: casts, products and sums that are exact, and the sum that rounds once. Assumes nothing.
use Rattle.std.proofs.Common.{◌≡◌, ℕ, suc, ◌+◌, ◌-◌, ◌*◌, ◌^◌, ◌<◌, ◌≤◌, Bool, true, false, cond, not, ◌&&◌, T, ltb, ℤ, pos, negsuc, ◌+ℤ◌, ◌*ℤ◌, nat_abs, sym, refl, ap, ◌∙◌, subst, ap₂, lt_of_lt_of_le, mul_assoc, mul_comm, mul-pos, mul_right_comm, arith, ltb→lt, nltb→le, pow_pos, pow_mono, pow-add, shl_lt}
use native.Mathlib.Nat.{mul-mul-mul_comm}
use lib.Ieee.{Float, nan, inf, fin, Format, prec, emax, low, up, down, unlike, round, of_int, sum, add, mul}
use lib.Ieee.Exact.{HasValue, round_exact}
use lib.Ieee.Back.{round_whole}
use lib.Ieee.Digits.{back}
use lib.Ieee.Fits.{down_pos, reach}
use lib.Ieee.Scale.{round_same}
use Rattle.soft.proofs.Rounding.Sum.{sum_same}
use Rattle.table.specs.Whole.{below0}
use Rattle.kernels.specs.Kernels.{nearest_of}
use Rattle.kernels.proofs.Definitions.Sizes.{nat_abs_mul}
use Rattle.kernels.proofs.ln.Whole.{sign_times}

abbrev pub Holds : Float → ℤ → ℕ → Type 0
Holds x z u = HasValue x (below0 z) (nat_abs z) (2 ^ u)

-- ---- a fraction that the format holds
nearest_holds : (f : Format) (z : ℤ) (u : ℕ) → nat_abs z < 2 ^ prec f → u ≤ low f → Holds (nearest_of f z u) z u
nearest_holds f z u h k =
    let n = nat_abs z in
    let j = low f - u in
    round_exact f (below0 z) n (2 ^ u) n j (pow_pos u) h
    (lt_of_lt_of_le (shl_lt (prec f) j h) (pow_mono (room (prec f) (emax f) (low f) u (reach f))))
    (ap (λ (x : ℕ). n * x) (ap (λ (x : ℕ). 2 ^ x) (sym (back (low f) u k)) ∙ pow-add 2 j u) ∙ sym (mul_assoc n (2 ^ j) (2 ^ u)))
  where
    room : (p e l u : ℕ) → p ≤ suc e → p + (l - u) ≤ l + suc e
    room p e l u h = omega arith

pub cast_holds : (f : Format) (z : ℤ) → nat_abs z ≤ 2 ^ prec f → Holds (of_int f z) z 0
unfolding of_int
cast_holds f (pos n) h = round_whole f false n h
cast_holds f (negsuc n) h = round_whole f true (suc n) h

-- ---- in smaller units
pub finer : (x : Float) (z : ℤ) (u k : ℕ) → Holds x z u → Holds x (z *ℤ pos (2 ^ k)) (u + k)
finer nan z u k h = h
finer (inf s) z u k h = h
finer (fin s m e) z u k (t, h) = (
  t ∙ sym (sign_times z (2 ^ k) (pow_pos k)),
  ap (λ (x : ℕ). m * up e * x) (pow-add 2 u k) ∙ sym (mul_assoc (m * up e) (2 ^ u) (2 ^ k)) ∙ ap (λ (x : ℕ). x * 2 ^ k) h
      ∙ mul_right_comm (nat_abs z) (down e) (2 ^ k) ∙ ap (λ (x : ℕ). x * down e) (sym (nat_abs_mul z (pos (2 ^ k)))),
)

-- ---- products
like : (s : Bool) → unlike s false ≡ s
like true = refl
like false = refl

mul_is : (f : Format) (x y : Float) (s : Bool) (a c b d : ℕ) → 0 < c → 0 < d → HasValue x s a c → HasValue y false b d → mul f x y ≡ round f s (a * b) (c * d)
unfolding mul
mul_is f nan y s a c b d C D h k = absurd h
mul_is f (inf t) y s a c b d C D h k = absurd h
mul_is f (fin t m e) nan s a c b d C D h k = absurd k
mul_is f (fin t m e) (inf r) s a c b d C D h k = absurd k
mul_is f (fin t m e) (fin r n i) s a c b d C D h k =
    ap₂ (λ (v w : Bool). round f (unlike v w) (m * up e * (n * up i)) (down e * down i)) h.0 k.0
    ∙ ap (λ (v : Bool). round f v (m * up e * (n * up i)) (down e * down i)) (like s)
    ∙ round_same f s (m * up e * (n * up i)) (down e * down i) (a * b) (c * d) (mul-pos (down_pos e) (down_pos i)) (mul-pos C D)
    (mul-mul-mul_comm (m * up e) (n * up i) c d ∙ ap₂ (λ (v w : ℕ). v * w) h.1 k.1 ∙ mul-mul-mul_comm a (down e) b (down i))

pub mul_holds : (f : Format) (x y : Float) (z : ℤ) (u n w : ℕ) → 0 < n → nat_abs z * n < 2 ^ prec f → u + w ≤ low f → Holds x z u → HasValue y false n (2 ^ w)
    → Holds (mul f x y) (z *ℤ pos n) (u + w)
mul_holds f x y z u n w N h k hx hy =
    subst (λ (v : Float). Holds v (z *ℤ pos n) (u + w)) (sym is) (nearest_holds f (z *ℤ pos n) (u + w) (subst (λ (v : ℕ). v < 2 ^ prec f) (sym (nat_abs_mul z (pos n))) h) k)
  where
    is : mul f x y ≡ nearest_of f (z *ℤ pos n) (u + w)
    is = mul_is f x y (below0 z) (nat_abs z) (2 ^ u) n (2 ^ w) (pow_pos u) (pow_pos w) hx hy
        ∙ ap (round f (below0 z) (nat_abs z * n)) (sym (pow-add 2 u w))
        ∙ ap (λ (v : ℕ). round f (below0 z) v (2 ^ (u + w))) (sym (nat_abs_mul z (pos n)))
        ∙ ap (λ (v : Bool). round f v (nat_abs (z *ℤ pos n)) (2 ^ (u + w))) (sym (sign_times z n N))

-- ---- sums: a sum of nothing is +0
sum_whole : (f : Format) (z w : ℤ) (c : ℕ) → sum f (below0 z) (nat_abs z) (below0 w) (nat_abs w) c ≡ round f (below0 (z +ℤ w)) (nat_abs (z +ℤ w)) c
unfolding sum
sum_whole f (pos a) (pos b) c = refl
sum_whole f (negsuc a) (negsuc b) c = ap (λ (x : ℕ). round f true x c) (omega arith)
sum_whole f (pos a) (negsuc b) c = go (ltb a (suc b)) (ltb→lt a (suc b))
  where
    go : (t : Bool) → (T t → a < suc b) → cond t (round f true (suc b - a) c) (round f false (a - suc b) c)
        ≡ round f (below0 (cond t (negsuc (suc b - suc a)) (pos (a - suc b)))) (nat_abs (cond t (negsuc (suc b - suc a)) (pos (a - suc b)))) c
    go true h = let l : a < suc b = h tt in ap (λ (x : ℕ). round f true x c) (omega arith)
    go false h = refl
sum_whole f (negsuc a) (pos b) c = go (ltb (suc a) b) (ltb b (suc a)) (ltb→lt (suc a) b) (ltb→lt b (suc a)) (nltb→le (suc a) b) (nltb→le b (suc a))
  where
    go : (t r : Bool) → (T t → suc a < b) → (T r → b < suc a) → (T (not t) → b ≤ suc a) → (T (not r) → suc a ≤ b)
        → cond t (round f false (b - suc a) c) (round f (true && r) (suc a - b) c)
        ≡ round f (below0 (cond r (negsuc (suc a - suc b)) (pos (b - suc a)))) (nat_abs (cond r (negsuc (suc a - suc b)) (pos (b - suc a)))) c
    go true true p q u v = let h : suc a < b = p tt in let k : b < suc a = q tt in absurd (omega arith)
    go true false p q u v = refl
    go false true p q u v = let h : b < suc a = q tt in ap (λ (x : ℕ). round f true x c) (omega arith)
    go false false p q u v = let h : b ≤ suc a = u tt in let k : suc a ≤ b = v tt in ap (λ (x : ℕ). round f false x c) (omega arith)

over : (a d b c : ℕ) → a * c ≡ b * d → (i : ℕ) → a * i * c ≡ b * (d * i)
over a d b c h i = mul_right_comm a i c ∙ ap (λ (x : ℕ). x * i) h ∙ mul_assoc b d i

pub add_is : (f : Format) (x y : Float) (z w : ℤ) (u : ℕ) → Holds x z u → Holds y w u → add f x y ≡ nearest_of f (z +ℤ w) u
unfolding add
add_is f nan y z w u h k = absurd h
add_is f (inf t) y z w u h k = absurd h
add_is f (fin t m e) nan z w u h k = absurd k
add_is f (fin t m e) (inf r) z w u h k = absurd k
add_is f (fin t m e) (fin r n i) z w u h k =
    ap₂ (λ (p q : Bool). sum f p (m * up e * down i) q (n * up i * down e) (down e * down i)) h.0 k.0
    ∙ sum_same (down e * down i) (2 ^ u) (mul-pos (down_pos e) (down_pos i)) (pow_pos u) f (below0 z) (m * up e * down i) (nat_abs z) (below0 w) (n * up i * down e) (nat_abs w)
    (over (m * up e) (down e) (nat_abs z) (2 ^ u) h.1 (down i))
    (over (n * up i) (down i) (nat_abs w) (2 ^ u) k.1 (down e) ∙ ap (λ (x : ℕ). nat_abs w * x) (mul_comm (down i) (down e)))
    ∙ sum_whole f z w (2 ^ u)

pub add_holds : (f : Format) (x y : Float) (z w : ℤ) (u : ℕ) → nat_abs (z +ℤ w) < 2 ^ prec f → u ≤ low f → Holds x z u → Holds y w u → Holds (add f x y) (z +ℤ w) u
add_holds f x y z w u b l h k = subst (λ (v : Float). Holds v (z +ℤ w) u) (sym (add_is f x y z w u h k)) (nearest_holds f (z +ℤ w) u b l)
