-- y times a logarithm, by its sign and its size: `raised` is ±raised_n, and the size is near y times the exact logarithm where the logarithm is near its
-- own. Assumes nothing.
use mathlib.Core.Path.{◌≡◌, refl, sym, ap, ◌∙◌}
use mathlib.Core.Bool.{Bool, true, false}
use Prim.Native.Nat.{ℕ, zero, suc, ◌+◌, ◌-◌, ◌*◌, ◌/◌, ◌^◌, ◌≤◌, ◌<◌}
use native.Mathlib.Nat.{le_trans, le_of_eq, mul_assoc, le_of_mul-le-mul_right, mul-le-mul_left, mul-le-mul_right, mul-pos, mul_comm, mul-one, one-mul, zero-mul, add-zero, zero-add, div-eq_of_lt, add-mul-div_right, div-mul-le_self, lt-div-mul-add}
use native.Mathlib.Omega.{arith}
use lib.Dec.{lit<, lit≤}
use lib.IntN.{ℤ, pos, negsuc, neg_ℤ, nat_abs, ◌*ℤ◌}
use lib.Signed.{shr_z}
use lib.Ieee.{Format, binary32, binary64, unlike}
use Rattle.table.specs.Exact.{N}
use Rattle.table.specs.Whole.{signed, below0}
use Rattle.kernels.specs.Kernels.{raised}
use Rattle.laws.proofs.Distances.logarithm.Steps.{units, lacking}

-- ---- n / b, n = x |Λ|, in units of 2 ^ -44 of a step
abbrev parts : Format → ℕ
parts binary32 = 1
parts binary64 = 64

abbrev fine : Format → ℕ
fine binary32 = 2 ^ 19
fine binary64 = 1

abbrev gone : Format → ℕ
gone binary32 = 8
gone binary64 = 1

-- in single the size of a negative number is rounded up
abbrev pub over : Format → Bool → ℕ → ℕ
over binary32 true b = b - 1
over binary32 false b = 0
over binary64 neg b = 0

unfoldable pub raised_n : Format → (neg : Bool) → (b n : ℕ) → ℕ
raised_n f neg b n = gone f * ((n * fine f + over f neg b) / (b * parts f))

pub over_lt : (f : Format) (s : Bool) (b : ℕ) → zero < b → over f s b < b * parts f
over_lt binary32 true b z = omega arith
over_lt binary32 false b z = omega arith
over_lt binary64 s b z = omega arith

-- ---- the law between the two
product : (t : Bool) (x : ℕ) (l : ℤ) → signed t x *ℤ l ≡ signed (unlike (below0 l) t) (x * nat_abs l)
product false x (pos n) = refl
product false x (negsuc n) = refl
product true zero (pos n) = ap pos (zero-mul n) ∙ sym (ap (λ (k : ℕ). neg_ℤ (pos k)) (zero-mul n))
product true zero (negsuc n) = ap (λ (k : ℕ). neg_ℤ (pos k)) (zero-mul (suc n)) ∙ sym (ap pos (zero-mul (suc n)))
product true (suc x) (pos n) = refl
product true (suc x) (negsuc n) = refl

times : (s : Bool) (n k : ℕ) → signed s n *ℤ pos k ≡ signed s (n * k)
times false n k = refl
times true n k = product true n (pos k)

floor : (s : Bool) (k b : ℕ) → zero < b → shr_z (signed s k) b ≡ signed s ((k + over binary32 s b) / (b * 1))
floor false k b z = ap (λ (n : ℕ). pos (n / b)) (sym (add-zero k)) ∙ ap (λ (n : ℕ). pos ((k + 0) / n)) (sym (mul-one b))
floor true zero b z = ap pos (div-eq_of_lt z) ∙ sym (ap (λ (n : ℕ). neg_ℤ (pos n)) (ap (λ (n : ℕ). n / (b * 1)) (zero-add (b - 1)) ∙ div-eq_of_lt (over_lt binary32 true b z)))
floor true (suc k) b z =
    ap (λ (n : ℕ). neg_ℤ (pos n)) (sym (ap (λ (n : ℕ). (suc k + (b - 1)) / n) (mul-one b) ∙ ap (λ (n : ℕ). n / b) (omega (arith, z)) ∙ add-mul-div_right k 1 z ∙ one (k / b)))
  where
    one : (n : ℕ) → n + 1 ≡ suc n
    one n = omega arith

pub raised_is : (f : Format) (t : Bool) (x b : ℕ) (l : ℤ) → zero < b
    → raised f t x b l ≡ signed (unlike (below0 l) t) (raised_n f (unlike (below0 l) t) b (x * nat_abs l))
unfolding raised raised_n
raised_is binary32 t x b l z = ap (λ (k : ℤ). shr_z (k *ℤ pos (2 ^ 19)) b *ℤ pos 8) (product t x l) ∙ down (unlike (below0 l) t) (x * nat_abs l)
  where
    down : (s : Bool) (n : ℕ) → shr_z (signed s n *ℤ pos (2 ^ 19)) b *ℤ pos 8 ≡ signed s (raised_n binary32 s b n)
    down s n =
        let q : ℕ = (n * 2 ^ 19 + over binary32 s b) / (b * 1) in
        ap (λ (k : ℤ). shr_z k b *ℤ pos 8) (times s n (2 ^ 19)) ∙ ap (λ (k : ℤ). k *ℤ pos 8) (floor s (n * 2 ^ 19) b z) ∙ times s q 8 ∙ ap (signed s) (mul_comm q 8)
raised_is binary64 t x b l z = ap (signed (unlike (below0 l) t)) (sym (one-mul ((x * nat_abs l * 1 + 0) / (b * 64)) ∙ ap (λ (k : ℕ). k / (b * 64)) (add-zero (x * nat_abs l * 1) ∙ mul-one (x * nat_abs l))))

-- ---- the cut alone
parts_pos : (f : Format) → zero < parts f
parts_pos binary32 = lit< tt
parts_pos binary64 = lit< tt

module _ (f : Format) (s : Bool) (b n : ℕ) (z : zero < b) where
  raised_hi : raised_n f s b n * (parts f * b) ≤ gone f * fine f * n + parts f * gone f * b
  unfolding raised_n
  raised_hi = omega (arith, mul-le-mul_left (gone f) (div-mul-le_self (n * fine f + over f s b) (b * parts f)), mul-le-mul_left (gone f) (over_lt f s b z))

  raised_lo : gone f * fine f * n ≤ raised_n f s b n * (parts f * b) + parts f * gone f * b
  unfolding raised_n
  raised_lo = omega (arith, mul-le-mul_left (gone f) (lt-div-mul-add {a = n * fine f + over f s b} (mul-pos z (parts_pos f))))

-- nothing for nothing
pub raised_nothing : (f : Format) (s : Bool) (b : ℕ) → zero < b → raised_n f s b 0 ≡ 0
unfolding raised_n
raised_nothing f s b z =
    ap (λ (q : ℕ). gone f * q) (ap (λ (k : ℕ). (k + over f s b) / (b * parts f)) (zero-mul (fine f)) ∙ ap (λ (k : ℕ). k / (b * parts f)) (zero-add (over f s b)) ∙ div-eq_of_lt (over_lt f s b z)) ∙ none (gone f)
  where
    none : (g : ℕ) → g * 0 ≡ 0
    none g = omega arith

-- ---- what a logarithm's error and the cut make of the argument, in units of 2 ^ -116
abbrev pub spread : Format → ℕ
spread binary32 = 2 ^ 26 * lacking binary32 + 8 * N
spread binary64 = lacking binary64 / 4 + N

units_is : (f : Format) → parts f * 2 ^ 116 ≡ gone f * fine f * units f
units_is binary32 = refl
units_is binary64 = refl

spread_is : (f : Format) → 16 * (gone f * fine f) * lacking f + parts f * gone f * N ≤ parts f * spread f
spread_is binary32 = lit≤ tt
spread_is binary64 = lit≤ tt

-- n for N, X for 2 ^ 116, U for units, p for gone * fine, c for parts, r for gone
cut_hi : (z c b p x g r n : ℕ) → z * (c * b) ≤ p * (x * g) + c * r * b → z * n * c * b ≤ p * x * (g * n) + c * r * n * b
cut_hi z c b p x g r n h = omega (arith, mul-le-mul_right n h)

cut_lo : (z c b p x g r n : ℕ) → p * (x * g) ≤ z * (c * b) + c * r * b → p * x * (g * n) ≤ z * n * c * b + c * r * n * b
cut_lo z c b p x g r n h = omega (arith, mul-le-mul_right n h)

end_hi : (z n c b w p x U v D X : ℕ) → c * X ≡ p * U → z * n * c * b * w ≤ p * x * (U * v) + c * D * b * w → z * (n * (b * w)) * c ≤ (X * (x * v) + D * (b * w)) * c
end_hi z n c b w p x U v D X e h = omega (arith, ap (λ (k : ℕ). k * (x * v)) e)

end_lo : (z n c b w p x U v D X : ℕ) → c * X ≡ p * U → p * x * (U * v) ≤ z * n * c * b * w + c * D * b * w → X * (x * v) * c ≤ (z * (n * (b * w)) + D * (b * w)) * c
end_lo z n c b w p x U v D X e h = omega (arith, ap (λ (k : ℕ). k * (x * v)) e)

-- y = ±x / b, |y| at most 16
module _ (f : Format) (s : Bool) (b x g w v : ℕ) (pos-b : zero < b) (y : x ≤ 16 * b) where
  abbrev z : ℕ
  z = raised_n f s b (x * g)

  abbrev p : ℕ
  p = gone f * fine f

  sixteen : p * x ≤ 16 * p * b
  sixteen = omega (arith, y, mul-le-mul_left p y)

  pub argument_hi : g * (N * w) ≤ units f * v + lacking f * w → z * (N * (b * w)) ≤ 2 ^ 116 * (x * v) + spread f * (b * w)
  argument_hi l =
      le_of_mul-le-mul_right {k = parts f}
      (end_hi z N (parts f) b w p x (units f) v (spread f) (2 ^ 116) (units_is f)
      (omega (
        arith,
        sixteen,
        mul-le-mul_right w (cut_hi z (parts f) b p x g (gone f) N (raised_hi f s b (x * g) pos-b)),
        mul-le-mul_left (p * x) (le_trans (le_of_eq (mul_assoc g N w)) l),
        mul-le-mul_right (lacking f * w) sixteen,
        mul-le-mul_right (b * w) (spread_is f),
      ))) (parts_pos f)

  pub argument_lo : units f * v ≤ g * (N * w) + lacking f * w → 2 ^ 116 * (x * v) ≤ z * (N * (b * w)) + spread f * (b * w)
  argument_lo l =
      le_of_mul-le-mul_right {k = parts f}
      (end_lo z N (parts f) b w p x (units f) v (spread f) (2 ^ 116) (units_is f)
      (omega (
        arith,
        sixteen,
        mul-le-mul_right w (cut_lo z (parts f) b p x g (gone f) N (raised_lo f s b (x * g) pos-b)),
        mul-le-mul_left (p * x) (le_trans l (le_of_eq (ap (λ (k : ℕ). k + lacking f * w) (sym (mul_assoc g N w))))),
        mul-le-mul_right (lacking f * w) sixteen,
        mul-le-mul_right (b * w) (spread_is f),
      )))
      (parts_pos f)
