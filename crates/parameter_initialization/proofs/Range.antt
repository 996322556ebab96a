-- The starting stability lies between the ends of the search, whatever the two derivatives are, a NaN included: a Newton step is taken only strictly
-- inside the bracket, and the middle of two doubles between two ends lies between them, since rounding keeps the order. Assumes nothing.
use Rattle.std.proofs.Common.{◌≡◌, ℕ, zero, suc, ◌+◌, ◌*◌, ◌^◌, ◌<◌, ◌≤◌, Bool, true, false, cond, ◌&&◌, ◌||◌, T, pos, negsuc, sym, refl, subst, mul-le-mul_right, mul-pos, le_of_mul-le-mul_right, arith, lit<}
use lib.Ieee.{Float, nan, inf, fin, Format, binary32, binary64, round, add, div, sum, lt, le, eq, neg, of_bits}
use lib.Ieee.Fits.{and_i, and_l, and_r}
use lib.Ieee.Order.{round_mono}
use lib.Ieee.Positive.{positive, num, den, den_pos, le→cross, le_trans_positive, between}
use Rattle.soft.specs.Narrow.{narrow_def}
use Rattle.domain.specs.Doubles.{◌+ᵈ◌, ◌-ᵈ◌, ◌/ᵈ◌, zero64}
use Rattle.domain.specs.Floats.{within}
use Rattle.domain.specs.Limits.{decimal, s_min_def}
use Rattle.parameter_initialization.specs.Search.{two64, sixteenth, init_s_max_def, rounds_def, narrowed, middle, same_single, next_guess_def, search_def, flat, side_def, keeps, sought_def}
use Rattle.parameter_initialization.specs.declared.derivatives.Derivatives.{Derivatives}
use Rattle.parameter_initialization.specs.declared.search.Bracket.{Bracket}
use Rattle.parameter_initialization.specs.declared.search.Side.{Side}

-- ---- fractions: x / p and y / q between l / d and h / d, whose doubles are l2 / d2 and h2 / d2
scaled : (a b c : ℕ) → a ≡ b → a * c ≡ b * c
scaled a b c e = rw e

-- twice the lower end is at most the sum
low_sum : (l d l2 d2 x p y q : ℕ) → 0 < d → l2 * d ≡ 2 * l * d2 → l * p ≤ x * d → l * q ≤ y * d → l2 * (p * q) ≤ (x * q + y * p) * d2
low_sum l d l2 d2 x p y q z e g h =
    le_of_mul-le-mul_right (go (mul-le-mul_right (q * d2) g) (mul-le-mul_right (p * d2) h) (scaled (l2 * d) (2 * l * d2) (p * q) e)) z
  where
    go :
        l * p * (q * d2) ≤ x * d * (q * d2) → l * q * (p * d2) ≤ y * d * (p * d2) → l2 * d * (p * q) ≡ 2 * l * d2 * (p * q)
        → l2 * (p * q) * d ≤ (x * q + y * p) * d2 * d
    go a b c = omega (arith, a, b, c)

high_sum : (h d h2 d2 x p y q : ℕ) → 0 < d → h2 * d ≡ 2 * h * d2 → x * d ≤ h * p → y * d ≤ h * q → (x * q + y * p) * d2 ≤ h2 * (p * q)
high_sum h d h2 d2 x p y q z e g i =
    le_of_mul-le-mul_right (go (mul-le-mul_right (q * d2) g) (mul-le-mul_right (p * d2) i) (scaled (h2 * d) (2 * h * d2) (p * q) e)) z
  where
    go :
        x * d * (q * d2) ≤ h * p * (q * d2) → y * d * (p * d2) ≤ h * q * (p * d2) → h2 * d * (p * q) ≡ 2 * h * d2 * (p * q)
        → (x * q + y * p) * d2 * d ≤ h2 * (p * q) * d
    go a b c = omega (arith, a, b, c)

low_half : (l d l2 d2 z r : ℕ) → 0 < d2 → l2 * d ≡ 2 * l * d2 → l2 * r ≤ z * d2 → l * (1 * 2 ^ 1 * r) ≤ z * 1 * d
low_half l d l2 d2 z r k e g = le_of_mul-le-mul_right (go (mul-le-mul_right d g) (scaled (l2 * d) (2 * l * d2) r e)) k
  where
    go : l2 * r * d ≤ z * d2 * d → l2 * d * r ≡ 2 * l * d2 * r → l * (1 * 2 ^ 1 * r) * d2 ≤ z * 1 * d * d2
    go a b = omega (arith, a, b)

high_half : (h d h2 d2 z r : ℕ) → 0 < d2 → h2 * d ≡ 2 * h * d2 → z * d2 ≤ h2 * r → z * 1 * d ≤ h * (1 * 2 ^ 1 * r)
high_half h d h2 d2 z r k e g = le_of_mul-le-mul_right (go (mul-le-mul_right d g) (scaled (h2 * d) (2 * h * d2) r e)) k
  where
    go : z * d2 * d ≤ h2 * r * d → h2 * d * r ≡ 2 * h * d2 * r → z * 1 * d * d2 ≤ h * (1 * 2 ^ 1 * r) * d2
    go a b = omega (arith, a, b)

-- ---- a sum, a half and a narrowing of numbers above 0, each one rounding
sum_is : (x y : Float) → T (positive x) → T (positive y) → x +ᵈ y ≡ round binary64 false (num x * den y + num y * den x) (den x * den y)
unfolding add sum
sum_is nan y p q = absurd p
sum_is (inf s) y p q = absurd p
sum_is (fin true m e) y p q = absurd p
sum_is (fin false m e) nan p q = absurd q
sum_is (fin false m e) (inf t) p q = absurd q
sum_is (fin false m e) (fin true n d) p q = absurd q
sum_is (fin false m e) (fin false n d) p q = refl

half_is : (z : Float) → T (positive z) → z /ᵈ two64 ≡ round binary64 false (num z * 1) (1 * 2 ^ 1 * den z)
unfolding div of_bits
half_is nan p = absurd p
half_is (inf s) p = absurd p
half_is (fin true m e) p = absurd p
half_is (fin false m e) p = refl

narrow_is : (x : Float) → T (positive x) → narrow_def binary32 x ≡ round binary32 false (num x) (den x)
unfolding narrow_def
narrow_is nan p = absurd p
narrow_is (inf s) p = absurd p
narrow_is (fin true m e) p = absurd p
narrow_is (fin false m e) p = refl

-- ---- between two ends that a format has
rounded :
    (f : Format) (lo hi : Float) → round f false (num lo) (den lo) ≡ lo → round f false (num hi) (den hi) ≡ hi
    → (a c : ℕ) → 0 < c → num lo * c ≤ a * den lo → a * den hi ≤ num hi * c → T (within (round f false a c) lo hi)
rounded f lo hi e g a c z l h =
    and_i (le lo (round f false a c)) (le (round f false a c) hi)
    (subst (λ (x : Float). T (le x (round f false a c))) e (round_mono f (num lo) (den lo) a c (den_pos lo) z l))
    (subst (λ (x : Float). T (le (round f false a c) x)) g (round_mono f a c (num hi) (den hi) z (den_pos hi) h))

or_l : (a b : Bool) → T a → T (a || b)
or_l true b t = tt
or_l false b t = absurd t

below_at : (x y : Float) → T (lt x y) → T (le x y)
unfolding le
below_at x y h = or_l (lt x y) (eq x y) h

-- ---- the ends of the search, as m * 2 ^ e, and their doubles
abbrev lo : Float
lo = fin false 13743895 (negsuc 36)

abbrev hi : Float
hi = fin false 25 (pos 2)

abbrev lo2 : Float
lo2 = fin false 13743895 (negsuc 35)

abbrev hi2 : Float
hi2 = fin false 25 (pos 3)

lo_is : s_min_def ≡ lo
unfolding s_min_def decimal
lo_is = refl

hi_is : init_s_max_def ≡ hi
unfolding init_s_max_def decimal
hi_is = refl

doubles :
    (round binary64 false (num lo) (den lo) ≡ lo) × (round binary64 false (num hi) (den hi) ≡ hi) ×
    (round binary64 false (num lo2) (den lo2) ≡ lo2) × (round binary64 false (num hi2) (den hi2) ≡ hi2)
unfolding round
doubles = (refl, refl, refl, refl)

singles : (round binary32 false (num lo) (den lo) ≡ lo) × (round binary32 false (num hi) (den hi) ≡ hi)
unfolding round
singles = (refl, refl)

twice : (num lo2 * den lo ≡ 2 * num lo * den lo2) × (num hi2 * den hi ≡ 2 * num hi * den hi2)
twice = (refl, refl)

-- ---- inside
abbrev Inside : Float → Type 0
Inside x = T (within x lo hi)

module _ (x : Float) (h : Inside x) where
  from : T (le lo x)
  from = and_l (le lo x) (le x hi) h

  to : T (le x hi)
  to = and_r (le lo x) (le x hi) h

  above : T (positive x)
  above = between lo x hi tt tt from to

  from_cross : num lo * den x ≤ num x * den lo
  from_cross = le→cross lo x tt above from

  to_cross : num x * den hi ≤ num hi * den x
  to_cross = le→cross x hi above tt to

  narrow_inside : Inside (narrow_def binary32 x)
  narrow_inside =
      subst Inside (sym (narrow_is x above))
      (rounded binary32 lo hi singles.0 singles.1 (num x) (den x) (den_pos x) from_cross to_cross)

ends : Inside s_min_def × Inside init_s_max_def
unfolding le lt eq
ends = (subst Inside (sym lo_is) tt, subst Inside (sym hi_is) tt)

sum_inside : (x y : Float) → Inside x → Inside y → T (within (x +ᵈ y) lo2 hi2)
sum_inside x y h g =
    subst (λ (z : Float). T (within z lo2 hi2)) (sym (sum_is x y (above x h) (above y g)))
    (rounded binary64 lo2 hi2 doubles.2 doubles.3 (num x * den y + num y * den x) (den x * den y) (mul-pos (den_pos x) (den_pos y))
    (low_sum (num lo) (den lo) (num lo2) (den lo2) (num x) (den x) (num y) (den y) (den_pos lo) twice.0 (from_cross x h) (from_cross y g))
    (high_sum (num hi) (den hi) (num hi2) (den hi2) (num x) (den x) (num y) (den y) (den_pos hi) twice.1 (to_cross x h) (to_cross y g)))

half_inside : (z : Float) → T (within z lo2 hi2) → Inside (z /ᵈ two64)
half_inside z h =
    let l = and_l (le lo2 z) (le z hi2) h in
    let r = and_r (le lo2 z) (le z hi2) h in
    let p = between lo2 z hi2 tt tt l r in
    subst Inside (sym (half_is z p))
    (rounded binary64 lo hi doubles.0 doubles.1 (num z * 1) (1 * 2 ^ 1 * den z) (mul-pos (lit< tt) (den_pos z))
    (low_half (num lo) (den lo) (num lo2) (den lo2) (num z) (den z) (den_pos lo2) twice.0 (le→cross lo2 z tt p l))
    (high_half (num hi) (den hi) (num hi2) (den hi2) (num z) (den z) (den_pos hi2) twice.1 (le→cross z hi2 p tt r)))

strictly_inside : (x y z : Float) → Inside x → Inside y → T (lt x z && lt z y) → Inside z
strictly_inside x y z h g k =
    let l = below_at x z (and_l (lt x z) (lt z y) k) in
    let r = below_at z y (and_r (lt x z) (lt z y) k) in
    let p = between x z y (above x h) (above y g) l r in
    and_i (le lo z) (le z hi)
    (le_trans_positive lo x z tt (above x h) p (from x h) l)
    (le_trans_positive z y hi p (above y g) tt r (to y g))

-- ---- the search
abbrev Held : Bracket → Type 0
Held b = Inside b.low × Inside b.high × Inside b.s

middle_inside : (b : Bracket) → Held b → Inside (middle b)
unfolding middle
middle_inside b h = half_inside (b.low +ᵈ b.high) (sum_inside b.low b.high h.0 h.1)

held_cond : (p : Bool) (x y : Bracket) → Held x → Held y → Held (cond p x y)
held_cond true x y h g = h
held_cond false x y h g = g

narrowed_held : (b : Bracket) (slope : Float) → Held b → Held (narrowed b slope)
unfolding narrowed
narrowed_held b slope h =
    held_cond (lt zero64 slope) (record { low = b.low; high = b.s; s = b.s }) (record { low = b.s; high = b.high; s = b.s }) (h.0, h.2, h.2) (h.2, h.1, h.2)

next_inside : (b : Bracket) (slope curvature : Float) → Held b → Inside (next_guess_def b slope curvature)
unfolding next_guess_def
next_inside b slope curvature h =
    let newton = b.s -ᵈ slope /ᵈ curvature in
    let strict = lt b.low newton && lt newton b.high in
    go newton (lt zero64 curvature) strict (λ (t : T strict). strictly_inside b.low b.high newton h.0 h.1 t)
  where
    go : (newton : Float) (p q : Bool) → (T q → Inside newton) → Inside (cond (p && q) newton (middle b))
    go newton true true k = k tt
    go newton true false k = middle_inside b h
    go newton false q k = middle_inside b h

inside_cond : (p : Bool) (x y : Float) → Inside x → Inside y → Inside (cond p x y)
inside_cond true x y h g = h
inside_cond false x y h g = g

search_inside : (D : Float → Derivatives) (prior : Float) (rounds : ℕ) (b : Bracket) → Held b → Inside (search_def D prior rounds b)
unfolding search_def
search_inside D prior zero b h = middle_inside b h
search_inside D prior (suc k) b h =
    let slope = (D b.s).slope +ᵈ prior in
    let c = narrowed b slope in
    let next = next_guess_def c slope (D b.s).curvature in
    let held = narrowed_held b slope h in
    let inside = next_inside c slope (D b.s).curvature held in
    inside_cond (same_single c.low c.high) (middle c) _ (middle_inside c held)
    (inside_cond (same_single next b.s) next _ inside
    (search_inside D prior k (record { low = c.low; high = c.high; s = next }) (held.0, held.1, inside)))

-- a side of a default inside
module _ (default : Float) (h : Inside default) where
  side_inside :
      (slope : Float)
      → (let side = side_def slope default in Inside side.low × Inside side.high × Inside side.boundary)
  unfolding side_def
  side_inside slope = go (lt zero64 slope)
    where
      go :
          (p : Bool)
          → (let side : Side = cond p (record { low = s_min_def; high = default; prior = neg sixteenth; boundary = s_min_def })
          (record { low = default; high = init_s_max_def; prior = sixteenth; boundary = init_s_max_def }) in
          Inside side.low × Inside side.high × Inside side.boundary)
      go true = (ends.0, h, ends.0)
      go false = (h, ends.1, ends.1)

  sought_inside : (D : Float → Derivatives) → Inside (sought_def D default)
  unfolding sought_def
  sought_inside D =
      let slope = (D default).slope in
      let side = side_def slope default in
      let i = side_inside slope in
      inside_cond (flat slope) default _ h
      (inside_cond (keeps slope ((D side.boundary).slope +ᵈ side.prior)) side.boundary _ i.2
      (search_inside D side.prior rounds_def (record { low = side.low; high = side.high; s = default }) (i.0, i.1, h)))

-- the single that it is narrowed to, of a default between the ends
pub found_inside :
    (D : Float → Derivatives) (default : Float) → T (within default s_min_def init_s_max_def)
    → T (within (narrow_def binary32 (sought_def D default)) s_min_def init_s_max_def)
found_inside D default h =
    let inside = subst (λ (e : Float). T (within default lo e)) hi_is (subst (λ (e : Float). T (within default e init_s_max_def)) lo_is h) in
    let x = narrow_def binary32 (sought_def D default) in
    subst (λ (e : Float). T (within x e init_s_max_def)) (sym lo_is)
    (subst (λ (e : Float). T (within x lo e)) (sym hi_is) (narrow_inside (sought_def D default) (sought_inside default inside D)))
