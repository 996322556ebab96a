-- pow at a logarithm that is near L: near E (y L) within the reach, +infinity or +0 from 89 or 710 on, 1 at exponent 0 and at logarithm 0, at most 1 for
-- a logarithm from 0 on and an exponent up to 0, and no NaN for a finite exponent. Assumes nothing.
use mathlib.Core.Path.{◌≡◌, refl, sym, ap, ◌∙◌, subst}
use mathlib.Core.Bool.{Bool, true, false}
use Prim.Native.Nat.{ℕ, zero, suc, ◌+◌, ◌*◌, ◌^◌, ◌≤◌, ◌<◌}
use native.Mathlib.Nat.{mul-zero, zero-mul, mul-pos, mul-le-mul_left, le_of_mul-le-mul_right, lt_of_mul-lt-mul_right}
use native.Mathlib.Omega.{arith}
use lib.Dec.{T, lit<, lit≤}
use lib.IntN.{ℤ, pos, nat_abs}
use lib.Ieee.{Float, nan, inf, fin, Format, binary32, binary64, up, down, unlike, is_nan, le, lt, eq}
use lib.Ieee.Fits.{down_pos}
use lib.Ieee.Scale.{finite}
use Rattle.table.specs.Exact.{Signed, N, E}
use Rattle.table.specs.Whole.{below0}
use Rattle.kernels.specs.Power.{power}
use Rattle.kernels.specs.Kernels.{powered, pow_at_def}
use Rattle.kernels.proofs.Definitions.Cases.{powered_finite, at_most_16, below_or}
use Rattle.kernels.proofs.Definitions.Natural.{power_n, power_is}
use Rattle.laws.specs.Distances.{Near, power_bits, argument, reach, edge, ended, float_one}
use Rattle.laws.proofs.Distances.power.Near.{grain, slack}
use Rattle.laws.proofs.Distances.Exp.{far, power_is_near}
use Rattle.laws.proofs.Distances.Ends.{power_zero, least, power_ends, one_below, under_power, power_number}
use Rattle.laws.proofs.Distances.logarithm.Steps.{LogNear, lacking, stray}
use Rattle.laws.proofs.Distances.pow.Raised.{raised_n, raised_is, raised_nothing, spread, argument_hi, argument_lo}
use Rattle.laws.proofs.Distances.pow.One.{power_one, one_unit}

-- what that leaves within the reach and at the edge
fits : (f : Format) → (spread f * grain f ≤ slack f * 2 ^ 116) × (reach f * 2 ^ 116 + spread f < far f * 2 ^ 52 * N) × (least f * N + spread f ≤ edge f * 2 ^ 116)
fits binary32 = (lit≤ tt, lit< tt, lit≤ tt)
fits binary64 = (lit≤ tt, lit< tt, lit≤ tt)

-- a / k the argument
within : (z n k a r X D F : ℕ) → zero < k → z * (n * k) ≤ X * a + D * k → a ≤ r * k → r * X + D < F * n → z < F
within z n k a r X D F y h l c = lt_of_mul-lt-mul_right n (last (z * n) (r * X + D) (F * n) (le_of_mul-le-mul_right {k = k} (omega (arith, h, l, mul-le-mul_left X l)) y) c)
  where
    last : (a b c : ℕ) → a ≤ b → b < c → a < c
    last a b c h l = omega arith

beyond : (z n k a r X D F : ℕ) → zero < k → zero < n → X * a ≤ z * (n * k) + D * k → r * k ≤ a → F * n + D ≤ r * X → F ≤ z
beyond z n k a r X D F y w h l c = le_of_mul-le-mul_right {k = n} (last (r * X) (z * n) D (F * n) (le_of_mul-le-mul_right {k = k} (omega (arith, h, l, mul-le-mul_left X l)) y) c) w
  where
    last : (x y D c : ℕ) → x ≤ y + D → c + D ≤ x → c ≤ y
    last x y D c h l = omega arith

-- ---- the power of ±z
abbrev size : Format → ℤ → Bool → ℕ → ℤ → ℕ
size f l t n d = raised_n f (unlike (below0 l) t) (down d) (n * up d * nat_abs l)

at : (f : Format) (l : ℤ) (t : Bool) (n : ℕ) (d : ℤ) → pow_at_def f l (fin t n d) ≡ power_n f (unlike (below0 l) t) (size f l t n d)
at f l t n d = ap (power f) (raised_is f t (n * up d) (down d) l (down_pos d)) ∙ power_is f (unlike (below0 l) t) (size f l t n d)

module _ (f : Format) (l : ℤ) (q : Signed) (den : zero < q.size.den) (near : LogNear f (lacking f) (below0 l) (nat_abs l) q) (t : Bool) (n : ℕ) (d : ℤ) (dom : T (powered (fin t n d))) where
  abbrev a : ℕ
  a = (argument n d q.size).num

  abbrev k : ℕ
  k = (argument n d q.size).den

  abbrev s : Bool
  s = unlike (below0 l) t

  abbrev z : ℕ
  z = size f l t n d

  k_pos : zero < k
  k_pos = mul-pos (down_pos d) den

  high : z * (N * k) ≤ 2 ^ 116 * a + spread f * k
  high = argument_hi f s (down d) (n * up d) (nat_abs l) q.size.den q.size.num (down_pos d) (at_most_16 t n d dom) near.above

  low : 2 ^ 116 * a ≤ z * (N * k) + spread f * k
  low = argument_lo f s (down d) (n * up d) (nat_abs l) q.size.den q.size.num (down_pos d) (at_most_16 t n d dom) near.below

  pub pow_near : a ≤ reach f * k → Near (power_bits f) (pow_at_def f l (fin t n d)) (E (unlike q.negative t) a k)
  pow_near r =
      subst (λ (y : Float). Near (power_bits f) y (E (unlike q.negative t) a k)) (sym (at f l t n d))
      (subst (λ (b : Bool). Near (power_bits f) (power_n f s z) (E (unlike b t) a k)) near.sign
      (power_is_near f s a k z (spread f) k_pos (within z N k a (reach f) (2 ^ 116) (spread f) (far f * 2 ^ 52) k_pos high r (fits f).1) low high (fits f).0))

  pub pow_ends : edge f * k ≤ a → pow_at_def f l (fin t n d) ≡ ended (unlike q.negative t)
  pow_ends r =
      at f l t n d ∙ power_ends f s z (beyond z N k a (edge f) (2 ^ 116) (spread f) (least f) k_pos (lit< tt) low r (fits f).2)
      ∙ ap (λ (b : Bool). ended (unlike b t)) near.sign

-- ---- 1
nothing : (f : Format) (l : ℤ) (t : Bool) (n : ℕ) (d : ℤ) → n * up d * nat_abs l ≡ 0 → pow_at_def f l (fin t n d) ≡ float_one
nothing f l t n d h =
    let s : Bool = unlike (below0 l) t in
    at f l t n d ∙ ap (λ (k : ℕ). power_n f s (raised_n f s (down d) k)) h ∙ ap (power_n f s) (raised_nothing f s (down d) (down_pos d)) ∙ power_zero f s

pub pow-zero : (f : Format) (l : ℤ) (s : Bool) → pow_at_def f l (fin s 0 (pos 0)) ≡ float_one
pow-zero f l s = nothing f l s 0 (pos 0) (zero-mul (nat_abs l))

pub pow-one : (f : Format) (l : ℤ) (y : Float) → nat_abs l ≤ stray f → T (powered y) → pow_at_def f l y ≡ float_one
pow-one f l nan k h = absurd (powered_finite nan h)
pow-one f l (inf s) k h = absurd (powered_finite (inf s) h)
pow-one f l (fin t n d) k h = go f (nat_abs l) refl k
  where
    same : (n : ℕ) → suc n ≤ 1 → suc n ≡ 1
    same n k = omega arith

    go : (f : Format) (g : ℕ) → nat_abs l ≡ g → g ≤ stray f → pow_at_def f l (fin t n d) ≡ float_one
    go f zero e k = nothing f l t n d (ap (λ (g : ℕ). n * up d * g) e ∙ mul-zero (n * up d))
    go binary32 (suc m) e k =
        let s : Bool = unlike (below0 l) t in
        ap (power binary32) (raised_is binary32 t (n * up d) (down d) l (down_pos d))
        ∙ power_one s (size binary32 l t n d)
        (subst (λ (g : ℕ). raised_n binary32 s (down d) (n * up d * g) ≤ 2 ^ 26) (sym (e ∙ same m k)) (one_unit s (n * up d) (down d) (at_most_16 t n d h) (down_pos d)))
    go binary64 (suc m) e k = absurd (omega (arith, k))

-- ---- never above 1
up_to_zero : (n : ℕ) (d : ℤ) → T (le (fin false n d) (fin false 0 (pos 0))) → n * up d ≡ 0
unfolding le lt eq
up_to_zero n d h = omega (arith, below_or (n * up d * 1) (0 * 1 * down d) true h)

pub pow_at_most_one : (f : Format) (l : ℤ) (y : Float) → below0 l ≡ false → T (powered y) → T (le y (fin false 0 (pos 0))) → T (le (pow_at_def f l y) float_one)
pow_at_most_one f l nan b p h = absurd (powered_finite nan p)
pow_at_most_one f l (inf t) b p h = absurd (powered_finite (inf t) p)
pow_at_most_one f l (fin true n d) b p h =
    subst (λ (x : Float). T (le x float_one)) (sym (at f l true n d ∙ ap (λ (s : Bool). power_n f (unlike s true) (size f l true n d)) b)) (under_power f (size f l true n d))
pow_at_most_one f l (fin false n d) b p h =
    subst (λ (x : Float). T (le x float_one)) (sym (nothing f l false n d (ap (λ (x : ℕ). x * nat_abs l) (up_to_zero n d h) ∙ zero-mul (nat_abs l)))) one_below

-- ---- no NaN
pub pow_number : (f : Format) (l : ℤ) (y : Float) → T (finite y) → is_nan (pow_at_def f l y) ≡ false
pow_number f l nan h = absurd h
pow_number f l (inf t) h = absurd h
pow_number f l (fin t n d) h = ap is_nan (at f l t n d) ∙ power_number f (unlike (below0 l) t) (size f l t n d)
