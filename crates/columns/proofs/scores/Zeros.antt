-- Products with 1 and with a zero, and sums with a zero of either sign, of values other than -0. Assumes nothing.
use Rattle.std.proofs.Common.{◌≡◌, ℕ, zero, suc, ◌-◌, ◌*◌, ◌<◌, Bool, true, false, cond, T, ltb, ℤ, pos, sym, refl, ap, ◌∙◌, add-zero, zero-lt-suc, mul_assoc, mul_comm, mul-pos, one-mul, zero-add, zero-mul, arith, ltb→lt, pow_pos, lt-ltb}
use lib.Arith.{le→nltb}
use lib.Ieee.{Float, nan, inf, fin, Format, unlike, up, down, round, fits, sum, add, mul}
use lib.Ieee.Bits.{is_false}
use lib.Ieee.Fits.{up_pos, down_pos}
use Rattle.soft.proofs.Rounding.Place.{round_none}
use Rattle.columns.proofs.scores.Settled.{settles}

-- a number, and not -0
abbrev pub plain : Float → Bool
plain nan = false
plain (inf s) = false
plain (fin true m e) = ltb 0 m
plain (fin false m e) = true

-- ---- products
pub one_times : (f : Format) (x : Float) → T (fits f x) → mul f (fin false 1 (pos 0)) x ≡ x
unfolding mul
one_times f nan k = refl
one_times f (inf true) k = refl
one_times f (inf false) k = refl
one_times f (fin s n d) k = ap (λ (t : Bool). round f t (1 * (n * up d)) (1 * down d)) (same s) ∙ settles f s n d (1 * (n * up d)) (1 * down d) k (mul-pos (pow_pos 0) (down_pos d)) (ap (λ (x : ℕ). x * down d) (one-mul (n * up d)) ∙ ap (λ (x : ℕ). n * up d * x) (sym (one-mul (down d))))
  where
    same : (t : Bool) → unlike false t ≡ t
    same true = refl
    same false = refl

pub zero_times : (f : Format) (s : Bool) (e : ℤ) (x : Float) → T (plain x) → (t : Bool) × (mul f (fin s 0 e) x ≡ fin t 0 (pos 0))
unfolding mul
zero_times f s e nan h = absurd h
zero_times f s e (inf t) h = absurd h
zero_times f s e (fin t n d) h = (
  unlike s t,
  ap (λ (x : ℕ). round f (unlike s t) x (down e * down d)) (ap (λ (x : ℕ). x * (n * up d)) (zero-mul (up e)) ∙ zero-mul (n * up d)) ∙ round_none f (unlike s t) (down e * down d) (mul-pos (down_pos e) (down_pos d)),
)

-- ---- sums
less_none : (a : ℕ) → a - 0 ≡ a
less_none a = omega arith

none_below : (a : ℕ) → ltb a 0 ≡ false
none_below a = is_false (ltb a 0) (le→nltb a 0 (omega arith))

sum-zero : (f : Format) (s : Bool) (a : ℕ) (t : Bool) (c : ℕ) → (T s → 0 < a) → sum f s a t 0 c ≡ round f s a c
unfolding sum
sum-zero f true a true c h = ap (λ (x : ℕ). round f true x c) (add-zero a)
sum-zero f false a false c h = ap (λ (x : ℕ). round f false x c) (add-zero a)
sum-zero f false a true c h = ap (λ (b : Bool). cond b (round f true (0 - a) c) (round f false (a - 0) c)) (none_below a) ∙ ap (λ (x : ℕ). round f false x c) (less_none a)
sum-zero f true a false c h =
    ap (λ (b : Bool). cond b (round f false (0 - a) c) (round f (ltb 0 a) (a - 0) c)) (none_below a)
    ∙ ap (λ (b : Bool). round f b (a - 0) c) (lt-ltb 0 a (h tt))
    ∙ ap (λ (x : ℕ). round f true x c) (less_none a)

zero_sum : (f : Format) (t s : Bool) (b c : ℕ) → (T s → 0 < b) → sum f t 0 s b c ≡ round f s b c
unfolding sum
zero_sum f true true b c h = ap (λ (x : ℕ). round f true x c) (zero-add b)
zero_sum f false false b c h = ap (λ (x : ℕ). round f false x c) (zero-add b)
zero_sum f true false zero c h = refl
zero_sum f true false (suc b) c h = ap (λ (x : Bool). cond x (round f false (suc b - 0) c) (round f (ltb (suc b) 0) (0 - suc b) c)) (lt-ltb 0 (suc b) (zero-lt-suc b)) ∙ ap (λ (x : ℕ). round f false x c) (less_none (suc b))
zero_sum f false true b c h = ap (λ (x : Bool). cond x (round f true (b - 0) c) (round f false (0 - b) c)) (lt-ltb 0 b (h tt)) ∙ ap (λ (x : ℕ). round f true x c) (less_none b)

-- a negative number that is not -0
sized : (s : Bool) (m : ℕ) (e d : ℤ) → T (plain (fin s m e)) → T s → 0 < m * up e * down d
sized true m e d h t = mul-pos (mul-pos (ltb→lt 0 m h) (up_pos e)) (down_pos d)
sized false m e d h t = absurd t

none : (e d : ℤ) → zero * up d * down e ≡ 0
none e d = ap (λ (x : ℕ). x * down e) (zero-mul (up d)) ∙ zero-mul (down e)

pub plus_zero : (f : Format) (x : Float) (t : Bool) (d : ℤ) → T (fits f x) → T (plain x) → add f x (fin t 0 d) ≡ x
unfolding add
plus_zero f nan t d k h = absurd h
plus_zero f (inf s) t d k h = absurd h
plus_zero f (fin s m e) t d k h =
    ap (λ (x : ℕ). sum f s (m * up e * down d) t x (down e * down d)) (none e d)
    ∙ sum-zero f s (m * up e * down d) t (down e * down d) (sized s m e d h)
    ∙ settles f s m e (m * up e * down d) (down e * down d) k (mul-pos (down_pos e) (down_pos d)) (mul_assoc (m * up e) (down d) (down e) ∙ ap (λ (x : ℕ). m * up e * x) (mul_comm (down d) (down e)))

pub zero_plus : (f : Format) (t : Bool) (d : ℤ) (x : Float) → T (fits f x) → T (plain x) → add f (fin t 0 d) x ≡ x
unfolding add
zero_plus f t d nan k h = absurd h
zero_plus f t d (inf s) k h = absurd h
zero_plus f t d (fin s m e) k h =
    ap (λ (x : ℕ). sum f t x s (m * up e * down d) (down d * down e)) (none e d)
    ∙ zero_sum f t s (m * up e * down d) (down d * down e) (sized s m e d h)
    ∙ settles f s m e (m * up e * down d) (down d * down e) k (mul-pos (down_pos d) (down_pos e)) (mul_assoc (m * up e) (down d) (down e))
