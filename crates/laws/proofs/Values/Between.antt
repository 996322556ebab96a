-- A number between two ends: how large it is, and that a clamp to them leaves it. Assumes nothing.
use mathlib.Core.Path.{◌≡◌, sym, ap, ◌∙◌}
use mathlib.Core.Bool.{Bool, true, false, ◌||◌, cond}
use Prim.Native.Nat.{ℕ, ◌*◌, ◌^◌, ◌≤◌, ◌<◌}
use native.Mathlib.Nat.{le_trans, le_of_eq, mul_assoc, mul_comm, mul_right_comm, mul-le-mul_left, mul-le-mul_right, le_of_mul-le-mul_right}
use borrow.Author.Tests.{le-ltb}
use lib.Dec.{T, eqb, eqb→eq}
use lib.Ieee.{Float, nan, inf, fin, up, down, le, below, level, lt}
use lib.Ieee.Fits.{and_l, down_pos, and_r}
use lib.Ieee.Positive.{positive, num, den, den_pos, le→cross, between}
use Rattle.domain.specs.Floats.{clamp_def, within}
use Rattle.kernels.proofs.Definitions.Cases.{below_or, or_below}
use Rattle.laws.proofs.Values.Sizes.{Size}
use Rattle.laws.proofs.Values.Operations.{Least}

-- ---- its size
left : (s : Bool) (a b : ℕ) → T (below s a true b || level s a true b) → b ≤ a
left true a b h = or_below b a true h
left false a b h = le_of_eq (sym (eqb→eq a b (and_l (eqb a b) (eqb a 0) h)))

right : (t : Bool) (a b : ℕ) → T (below false a t b || level false a t b) → a ≤ b
right true a b h = le_of_eq (eqb→eq a b (and_l (eqb a b) (eqb a 0) h))
right false a b h = below_or a b true h

cancel : (k x e n d : ℕ) → 0 < d → x * d ≤ n * e → n ≤ 2 ^ k * d → x ≤ 2 ^ k * e
cancel k x e n d z g h = le_of_mul-le-mul_right (le_trans g (le_trans (mul-le-mul_right e h) (le_of_eq (mul_right_comm (2 ^ k) d e)))) z

between_size : (k : ℕ) (lo x hi : Float) → Size k lo → Size k hi → T (le lo x) → T (le x hi) → Size k x
unfolding le
between_size k nan x hi a b g h = absurd a
between_size k (inf s) x hi a b g h = absurd a
between_size k (fin s n d) x nan a b g h = absurd b
between_size k (fin s n d) x (inf t) a b g h = absurd b
between_size k (fin s n d) nan (fin t p c) a b g h = absurd g
between_size k (fin s n d) (inf true) (fin t p c) a b g h = absurd g
between_size k (fin s n d) (inf false) (fin t p c) a b g h = absurd h
between_size k (fin s n d) (fin true m e) (fin t p c) a b g h = cancel k (m * up e) (down e) (n * up d) (down d) (down_pos d) (left s (n * up d * down e) (m * up e * down d) g) a
between_size k (fin s n d) (fin false m e) (fin t p c) a b g h = cancel k (m * up e) (down e) (p * up c) (down c) (down_pos c) (right t (m * up e * down c) (p * up c * down e) h) b

pub least_of : (j : ℕ) (lo x : Float) → T (positive lo) → T (positive x) → T (le lo x) → Least j lo → Least j x
least_of j lo x p q h g =
    le_of_mul-le-mul_right
    (le_trans (mul-le-mul_left (den x) g)
    (le_trans (le_of_eq (turn (den x) (num lo) (2 ^ j))) (le_trans (mul-le-mul_right (2 ^ j) (le→cross lo x p q h)) (le_of_eq (mul_right_comm (num x) (den lo) (2 ^ j))))))
    (den_pos lo)
  where
    turn : (e n p : ℕ) → e * (n * p) ≡ n * e * p
    turn e n p = sym (mul_assoc e n p) ∙ ap (λ (x : ℕ). x * p) (mul_comm e n)

pub within_size : (k : ℕ) (lo x hi : Float) → Size k lo → Size k hi → T (within x lo hi) → Size k x
within_size k lo x hi a b h = between_size k lo x hi a b (and_l (le lo x) (le x hi) h) (and_r (le lo x) (le x hi) h)

-- ---- between two that are above 0
not-below : (x y : Float) → T (positive x) → T (positive y) → T (le x y) → lt y x ≡ false
unfolding lt
not-below nan y p q h = absurd p
not-below (inf s) y p q h = absurd p
not-below (fin true m e) y p q h = absurd p
not-below (fin false m e) nan p q h = absurd q
not-below (fin false m e) (inf t) p q h = absurd q
not-below (fin false m e) (fin true n d) p q h = absurd q
not-below (fin false m e) (fin false n d) p q h = le-ltb (n * up d * down e) (m * up e * down d) (le→cross (fin false m e) (fin false n d) p q h)

module _ (lo x hi : Float) (p : T (positive lo)) (q : T (positive hi)) (h : T (within x lo hi)) where
  low : T (le lo x)
  low = and_l (le lo x) (le x hi) h

  high : T (le x hi)
  high = and_r (le lo x) (le x hi) h

  pub above : T (positive x)
  above = between lo x hi p q low high

  pub least : (j : ℕ) → Least j lo → Least j x
  least j l = least_of j lo x p above low l

  pub stays : clamp_def x lo hi ≡ x
  unfolding clamp_def
  stays = ap (λ (b : Bool). cond b lo (cond (lt hi x) hi x)) (not-below lo x p above low) ∙ ap (λ (b : Bool). cond b hi x) (not-below x hi above q high)
