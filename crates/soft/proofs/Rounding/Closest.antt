-- A fraction to the nearest whole number, ties to the even one: what `compare` decides, the shift that computes it, and what is too small to count.
-- Assumes nothing.
use Rattle.std.proofs.Common.{◌≡◌, ℕ, zero, suc, ◌+◌, ◌-◌, ◌*◌, ◌/◌, ◌%◌, ◌<◌, ◌≤◌, not, T, eqb, sym, refl, ap, ◌∙◌, subst, mod-lt, mod-eq_of_lt, div-add-mod', arith, eqb→eq, leb→le}
use Prim.Native.Nat.{compare, Ordering}
use native.Mathlib.Nat.{div-eq_of_lt}
use lib.Dec.{is_le, compare_is_eq, nleb→lt, eqb_refl}
use lib.Arith.{lt_of_le-ne, digits_div}
use lib.Ieee.{nearest}
use lib.Ieee.Nearest.{closest}

-- ---- what `compare` says
abbrev pub Cmp : Ordering → ℕ → ℕ → Type 0
Cmp Ordering.lt a b = a < b
Cmp Ordering.eq a b = a ≡ b
Cmp Ordering.gt a b = b < a

pub cmp : (a b : ℕ) → Cmp (compare a b) a b
cmp a b = go (compare a b) (leb→le a b) (nleb→lt a b) (eqb→eq a b) (λ (e : a ≡ b). subst (λ (x : ℕ). T (eqb a x)) e (eqb_refl a))
  where
    go : (o : Ordering) → (T (is_le o) → a ≤ b) → (T (not (is_le o)) → b < a) → (T (compare_is_eq o) → a ≡ b) → (a ≡ b → T (compare_is_eq o)) → Cmp o a b
    go Ordering.lt h k e n = lt_of_le-ne (h tt) n
    go Ordering.eq h k e n = e tt
    go Ordering.gt h k e n = k tt

pub is_lt : (o : Ordering) (a b : ℕ) → Cmp o a b → a < b → o ≡ Ordering.lt
is_lt Ordering.lt a b c h = refl
is_lt Ordering.eq a b c h = absurd (omega arith)
is_lt Ordering.gt a b c h = absurd (omega arith)

pub is_gt : (o : Ordering) (a b : ℕ) → Cmp o a b → b < a → o ≡ Ordering.gt
is_gt Ordering.lt a b c h = absurd (omega arith)
is_gt Ordering.eq a b c h = absurd (omega arith)
is_gt Ordering.gt a b c h = refl

-- ---- by a shift: a divisor 2 h, and h - 1 added before it, or h where the whole part is odd
form : (o : Ordering) (w r h : ℕ) → Cmp o (r * 2) (h * 2) → r < h * 2 → (q : ℕ) × (w * (h * 2) + r + (h - 1) + w % 2 ≡ nearest w o * (h * 2) + q) × (q < h * 2)
form Ordering.lt w r h c l = (r + (h - 1) + w % 2, omega arith, omega arith)
form Ordering.eq w r h c l = go (w % 2) (omega arith)
  where
    go : (b : ℕ) → b < 2 → (q : ℕ) × (w * (h * 2) + r + (h - 1) + b ≡ (w + b) * (h * 2) + q) × (q < h * 2)
    go zero x = (r + (h - 1), omega arith, omega arith)
    go (suc zero) x = (0, omega arith, omega arith)
    go (suc (suc b)) x = absurd (omega arith)
form Ordering.gt w r h c l = (r + (h - 1) + w % 2 - h * 2, omega arith, omega arith)

pub by_shift : (a h : ℕ) → 0 < h → (a + (h - 1) + a / (h * 2) % 2) / (h * 2) ≡ closest a (h * 2)
by_shift a h p =
    let u = h * 2 in
    let g = form (compare (a % u * 2) u) (a / u) (a % u) h (cmp (a % u * 2) u) (mod-lt a (omega arith)) in
    ap (λ (x : ℕ). (x + (h - 1) + a / u % 2) / u) (sym (div-add-mod' a u)) ∙ ap (λ (x : ℕ). x / u) g.1 ∙ digits_div (closest a u) g.2

-- ---- less than a half is nothing
half_below : (a u : ℕ) → a * 2 < u → a < u
half_below a u h = omega arith

pub too_small : (a u : ℕ) → a * 2 < u → closest a u ≡ 0
too_small a u h =
    ap (λ (x : ℕ). nearest x (compare (a % u * 2) u)) (div-eq_of_lt (half_below a u h)) ∙ ap (λ (x : ℕ). nearest 0 (compare (x * 2) u)) (mod-eq_of_lt (half_below a u h))
    ∙ ap (nearest 0) (is_lt (compare (a * 2) u) (a * 2) u (cmp (a * 2) u) h)

-- ---- twice the distance is at most the divisor
near_go : (o : Ordering) (w r u : ℕ) → Cmp o (r * 2) u → r < u → (nearest w o * u * 2 ≤ (w * u + r) * 2 + u) × ((w * u + r) * 2 ≤ nearest w o * u * 2 + u)
near_go Ordering.lt w r u c h = (omega arith, omega arith)
near_go Ordering.eq w r u c h = go (w % 2) (omega arith)
  where
    go : (b : ℕ) → b < 2 → ((w + b) * u * 2 ≤ (w * u + r) * 2 + u) × ((w * u + r) * 2 ≤ (w + b) * u * 2 + u)
    go zero l = (omega arith, omega arith)
    go (suc zero) l = (omega arith, omega arith)
    go (suc (suc b)) l = absurd (omega arith)
near_go Ordering.gt w r u c h = (omega arith, omega arith)

pub closest_near : (a u : ℕ) → 0 < u → (closest a u * u * 2 ≤ a * 2 + u) × (a * 2 ≤ closest a u * u * 2 + u)
closest_near a u h =
    subst (λ (x : ℕ). (closest a u * u * 2 ≤ x * 2 + u) × (x * 2 ≤ closest a u * u * 2 + u)) (div-add-mod' a u)
    (near_go (compare (a % u * 2) u) (a / u) (a % u) u (cmp (a % u * 2) u) (mod-lt a h))
