-- ln within its distance of L: the whole logarithm is a little off, and is rounded once. Assumes nothing.
use mathlib.Core.Path.{◌≡◌, refl, sym, ap, ◌∙◌, subst}
use mathlib.Core.Bool.{Bool, true, false, not}
use mathlib.Core.Logic.{inl, inr}
use Prim.Native.Nat.{ℕ, zero, suc, ◌+◌, ◌-◌, ◌*◌, ◌/◌, ◌^◌, ◌≤◌, ◌<◌, zero-le}
use native.Mathlib.Nat.{one-mul, le_trans, le_of_eq, lt_of_le_of_lt, zero-lt-suc, eq-zero-or-pos, zero-mul, mul-pos, mul-le-mul_left, mul-le-mul_right, le_of_mul-le-mul_right}
use native.Mathlib.Omega.{arith}
use lib.Dec.{T, leb, leb→le, nleb→lt, lit≤}
use lib.IntN.{ℤ, pos, nat_abs}
use lib.Pow.{pow_pos, pow-add, pow_mono, pow-lt}
use lib.Ieee.{Float, nan, inf, fin, Format, binary32, binary64, prec, emax, low, size, up, down, round, is_nan}
use lib.Ieee.Exact.{HasValue}
use lib.Ieee.Nearest.{closest}
use lib.Ieee.Scale.{normal_of_fraction}
use Rattle.table.specs.Exact.{Signed, L}
use Rattle.table.specs.Whole.{below0}
use Rattle.kernels.specs.Logarithm.{logarithm, log_units}
use Rattle.kernels.specs.Kernels.{ln_def}
use Rattle.soft.proofs.Rounding.Pattern.{round_not_nan}
use Rattle.soft.proofs.Rounding.Place.{round_none}
use Rattle.soft.proofs.Rounding.Relative.{kept_up, kept_down, kept_value}
use Rattle.laws.specs.Distances.{apart, Close, log_bits, abs_bits, LnClose, LnOne, positive}
use Rattle.laws.proofs.Distances.logarithm.Near.{L-den-pos}
use Rattle.laws.proofs.Distances.logarithm.Pairs.{Away, absolute, relative}
use Rattle.laws.proofs.Distances.logarithm.Size.{digits_below, L-size}
use Rattle.laws.proofs.Distances.logarithm.Joined.{log_near}

-- ---- numbers alone: x / e the result, g / t the whole logarithm, v / w the exact one, k = 2 ^ prec
pub less_by : (a b c k : ℕ) → a * k ≤ b * k + c → (a - b) * k ≤ c
less_by a b c k h = go (leb b a) (leb→le b a) (nleb→lt b a)
  where
    go : (t : Bool) → (T t → b ≤ a) → (T (not t) → a < b) → (a - b) * k ≤ c
    go true l n = from (a - b) (omega (arith, l tt))
      where
        from : (d : ℕ) → d + b ≡ a → d * k ≤ c
        from d e = omega (arith, h, ap (λ (x : ℕ). x * k) e)
    go false l n = le_trans (le_of_eq (ap (λ (x : ℕ). x * k) (omega (arith, n tt)) ∙ zero-mul k)) zero-le

pub both : (x v c y : ℕ) → (x - v) * c ≤ y → (v - x) * c ≤ y → (x - v + (v - x)) * c ≤ y
both x v c y h g = go (leb x v) (leb→le x v) (nleb→lt x v)
  where
    one : (x v : ℕ) → x ≤ v → x - v + (v - x) ≡ v - x
    one x v l = omega arith

    two : (x v : ℕ) → v < x → x - v + (v - x) ≡ x - v
    two x v l = omega arith

    go : (b : Bool) → (T b → x ≤ v) → (T (not b) → v < x) → (x - v + (v - x)) * c ≤ y
    go true l n = rw (one x v (l tt)) g
    go false l n = rw (two x v (n tt)) h

-- what the logarithm and its rounding leave, against the promise 1 / p and 1 / q
settle : (D v e w α β K p q : ℕ) → D * K ≤ v * e * α + β * (w * e) → α * p ≤ K → β * q ≤ K → zero < K → D * (p * q) ≤ v * e * q + w * e * p
settle D v e w α β K p q h hp hq z =
    le_of_mul-le-mul_right {k = K} (omega (arith, mul-le-mul_right (p * q) h, mul-le-mul_left (v * e * q) hp, mul-le-mul_left (w * e * p) hq)) z

up_go : (x e g v w a b t k : ℕ) → x * t * k ≤ g * e * (k + 1) → g * w ≤ v * t + a * w + b * v → (x * w - v * e) * (t * k) ≤ v * e * (t + b * (k + 1)) + a * (k + 1) * (w * e)
up_go x e g v w a b t k h1 h2 =
    less_by (x * w) (v * e) (v * e * (t + b * (k + 1)) + a * (k + 1) * (w * e)) (t * k) (omega (arith, mul-le-mul_right w h1, mul-le-mul_right (e * (k + 1)) h2))

down_go : (x e g v w a b t k k1 : ℕ) → g * e * k1 ≤ x * t * k → v * t ≤ (g + a) * w + b * v → k ≡ k1 + 1
    → (v * e - x * w) * (t * k) ≤ v * e * (t + b * (k + 1)) + a * (k + 1) * (w * e)
down_go x e g v w a b t k k1 h1 h2 ek =
    less_by (v * e) (x * w) (v * e * (t + b * (k + 1)) + a * (k + 1) * (w * e)) (t * k)
    (subst (λ (y : ℕ). v * e * (t * y) ≤ x * w * (t * y) + (v * e * (t + b * (y + 1)) + a * (y + 1) * (w * e))) (sym ek)
    (omega (arith, subst (λ (y : ℕ). g * e * k1 * w ≤ x * t * y * w) ek (mul-le-mul_right w h1), mul-le-mul_right (e * k1) h2)))

-- from smallest values to the value: x / e is c / l
carry_up : (x c e g l t p r : ℕ) → zero < l → x * l ≡ c * e → c * t * p ≤ g * l * r → x * t * p ≤ g * e * r
carry_up x c e g l t p r z h k = le_of_mul-le-mul_right {k = l} (omega (arith, mul-le-mul_right e k, ap (λ (y : ℕ). y * (t * p)) h)) z

carry_down : (x c e g l t p r : ℕ) → zero < l → x * l ≡ c * e → g * l * r ≤ c * t * p → g * e * r ≤ x * t * p
carry_down x c e g l t p r z h k = le_of_mul-le-mul_right {k = l} (omega (arith, mul-le-mul_right e k, ap (λ (y : ℕ). y * (t * p)) h)) z

-- ---- the room that is left
pub record Roomy (f : Format) : Type 0 where
  pub relates : (2 ^ log_units f + relative f * (2 ^ prec f + 1)) * 2 ^ log_bits f ≤ 2 ^ log_units f * 2 ^ prec f
  pub absolves : absolute f * (2 ^ prec f + 1) * 2 ^ abs_bits f ≤ 2 ^ log_units f * 2 ^ prec f
  pub normal : prec f - 1 + log_units f ≤ low f
  pub size : 1075 * 2 ^ log_units f + absolute f + 1075 * relative f ≤ 2 ^ 11 * 2 ^ log_units f
  pub ends : low f + 12 < low f + suc (emax f)

roomy : (f : Format) → Roomy f
roomy binary32 = record { relates = lit≤ tt; absolves = lit≤ tt; normal = lit≤ tt; size = lit≤ tt; ends = lit≤ tt }
roomy binary64 = record { relates = lit≤ tt; absolves = lit≤ tt; normal = lit≤ tt; size = lit≤ tt; ends = lit≤ tt }

-- ---- ±g / t rounded once, where it is near q and q is at most 1075
module _ (f : Format) (s : Bool) (g : ℕ) (q : Signed) (den : zero < q.size.den) (most : q.size.num ≤ 1075 * q.size.den)
    (near : Away (2 ^ log_units f) (absolute f) (relative f) s g q) where
  abbrev t : ℕ
  t = 2 ^ log_units f

  abbrev k : ℕ
  k = 2 ^ prec f

  abbrev v : ℕ
  v = q.size.num

  abbrev w : ℕ
  w = q.size.den

  abbrev a : ℕ
  a = absolute f

  abbrev b : ℕ
  b = relative f

  -- of a result x / e with g's sign that lies within 2 ^ -prec of g / t
  conclude : (r : Bool) (n : ℕ) (d : ℤ) → r ≡ s → n * up d * t * k ≤ g * down d * (k + 1) → g * down d * (k - 1) ≤ n * up d * t * k
      → Close (log_bits f) (abs_bits f) (fin r n d) q
  conclude r n d rs hu hd = rw (rs, pow-add 2 (log_bits f) (abs_bits f)) (go near)
    where
      x : ℕ
      x = n * up d * w

      y : ℕ
      y = v * down d

      room : (D : ℕ) → D * (t * k) ≤ y * (t + b * (k + 1)) + a * (k + 1) * (w * down d) → D * (2 ^ log_bits f * 2 ^ abs_bits f) ≤ y * 2 ^ abs_bits f + w * down d * 2 ^ log_bits f
      room D h =
          settle D v (down d) w (t + b * (k + 1)) (a * (k + 1)) (t * k) (2 ^ log_bits f) (2 ^ abs_bits f) h (roomy f).relates (roomy f).absolves
          (mul-pos (pow_pos (log_units f)) (pow_pos (prec f)))

      back : (p : ℕ) → zero < p → p ≡ p - 1 + 1
      back p h = omega arith

      go : Away t a b s g q → apart s x q.negative y * (2 ^ log_bits f * 2 ^ abs_bits f) ≤ y * 2 ^ abs_bits f + w * down d * 2 ^ log_bits f
      go (inl (same, sides)) =
          rw same
          (both x y (2 ^ log_bits f * 2 ^ abs_bits f) (y * 2 ^ abs_bits f + w * down d * 2 ^ log_bits f) (room (x - y) (up_go (n * up d) (down d) g v w a b t k hu sides.0))
          (room (y - x) (down_go (n * up d) (down d) g v w a b t k (k - 1) hd sides.1 (back k (pow_pos (prec f))))))
      go (inr (other, sum)) = rw other (room (x + y) (omega (arith, hu, sum, mul-le-mul_right w hu, mul-le-mul_right ((down d) * (k + 1)) sum)))

  -- nothing to round
  at_zero : g ≡ 0 → Close (log_bits f) (abs_bits f) (round f s g t) q
  at_zero z =
      subst (λ (y : Float). Close (log_bits f) (abs_bits f) y q) (sym (ap (λ (x : ℕ). round f s x t) z ∙ round_none f s t (pow_pos (log_units f))))
      (conclude s 0 (pos 0) refl (none t k (g * 1 * (k + 1))) (rw z (none 1 (k - 1) (0 * 1 * t * k))))
    where
      none : (t k y : ℕ) → 0 * 1 * t * k ≤ y
      none t k y = omega arith

  -- 1 / t is in the normal range of either format
  normal : zero < g → prec f ≤ size (g * 2 ^ low f / t)
  normal h =
      normal_of_fraction f g t (pow_pos (log_units f))
      (le_trans (le_of_eq (sym (pow-add 2 (prec f - 1) (log_units f))))
      (le_trans (pow_mono (roomy f).normal) (le_trans (le_of_eq (sym (one-mul (2 ^ low f)))) (mul-le-mul_right (2 ^ low f) h))))

  kept : ℕ
  kept = closest (g * 2 ^ low f) (t * 2 ^ (size (g * 2 ^ low f / t) - prec f)) * 2 ^ (size (g * 2 ^ low f / t) - prec f)

  -- and far below what overflows
  g_le : g ≤ 2 ^ 11 * t
  g_le = le_trans (go near) (roomy f).size
    where
      one : (g v w a b t : ℕ) → zero < w → g * w ≤ v * t + a * w + b * v → v ≤ 1075 * w → g ≤ 1075 * t + a + 1075 * b
      one g v w a b t z h l = le_of_mul-le-mul_right {k = w} (omega (arith, h, mul-le-mul_right t l, mul-le-mul_right b l)) z

      go : Away t a b s g q → g ≤ 1075 * t + a + 1075 * b
      go (inl (same, sides)) = one g v w a b t den sides.0 most
      go (inr (other, sum)) = one g v w a b t den (omega (arith, sum)) most

  small : zero < g → kept < 2 ^ (low f + suc (emax f))
  unfolding kept
  small h =
      lt_of_le_of_lt
      (le_trans (fit kept g (2 ^ low f) t k (pow_pos (log_units f)) (pow_pos (prec f)) (kept_up f s g t (pow_pos (log_units f)) (normal h)) g_le)
      (le_of_eq (sym (pow-add 2 (low f) 12))))
      (pow-lt (roomy f).ends)
    where
      twice : (c g l t p : ℕ) → zero < p → c * t * p ≤ g * l * (p + 1) → c * t ≤ g * l * 2
      twice c g l t p z h = le_of_mul-le-mul_right {k = p} (le_trans h (omega (arith, mul-le-mul_left (g * l) z))) z

      fit : (c g l t p : ℕ) → zero < t → zero < p → c * t * p ≤ g * l * (p + 1) → g ≤ 2 ^ 11 * t → c ≤ l * 2 ^ 12
      fit c g l t p zt zp h m = le_of_mul-le-mul_right {k = t} (le_trans (twice c g l t p zp h) (omega (arith, mul-le-mul_right l m))) zt

  -- one rounding
  at_more : zero < g → Close (log_bits f) (abs_bits f) (round f s g t) q
  unfolding kept
  at_more h = go (round f s g t) (kept_value f s g t (pow_pos (log_units f)) (normal h) (small h))
    where
      go : (y : Float) → HasValue y s kept (2 ^ low f) → Close (log_bits f) (abs_bits f) y q
      go nan h' = absurd h'
      go (inf r) h' = absurd h'
      go (fin r n d) h' =
          conclude r n d h'.0
          (carry_up (n * up d) kept (down d) g (2 ^ low f) t k (k + 1) (pow_pos (low f)) h'.1 (kept_up f s g t (pow_pos (log_units f)) (normal h)))
          (carry_down (n * up d) kept (down d) g (2 ^ low f) t k (k - 1) (pow_pos (low f)) h'.1 (kept_down f s g t (pow_pos (log_units f)) (normal h)))

  rounded : Close (log_bits f) (abs_bits f) (round f s g t) q
  rounded = elim (eq-zero-or-pos g) [ inl z ↦ at_zero z | inr h ↦ at_more h ]

-- ---- ln
pub ln_close : (f : Format) → LnClose f
unfolding ln_def
ln_close f m e k =
    let z = logarithm f (suc m) e in
    rounded f (below0 z) (nat_abs z) (L (suc m) e) (L-den-pos (suc m) e (zero-lt-suc m)) (L-size f m e k) (log_near f (suc m) e (zero-lt-suc m) (digits_below f m e k))

-- ---- ln 1, and the domain
pub ln_one : (f : Format) → LnOne f
unfolding ln_def logarithm size
ln_one binary32 = round_none binary32 false (2 ^ 56) (pow_pos 56)
ln_one binary64 = round_none binary64 false (2 ^ 64) (pow_pos 64)

number : (b : Bool) → T (not b) → b ≡ false
number true h = absurd h
number false h = refl

pub ln_nan : (f : Format) (x : Float) → is_nan (ln_def f x) ≡ not (positive x)
unfolding ln_def is_nan
ln_nan f nan = refl
ln_nan f (inf s) = refl
ln_nan f (fin s zero e) = refl
ln_nan f (fin true (suc m) e) = refl
ln_nan f (fin false (suc m) e) =
    let z = logarithm f (suc m) e in
    let y = round f (below0 z) (nat_abs z) (2 ^ log_units f) in
    number (is_nan y) (round_not_nan f (below0 z) (nat_abs z) (2 ^ log_units f))
