-- The signed exponent n - l, as code computes it in a word and reads it back. Assumes nothing.
use Rattle.std.proofs.Common.{◌≡◌, ℕ, suc, ◌-◌, ◌^◌, ◌<◌, ◌≤◌, Bool, true, false, cond, not, T, ltb, leb, ℤ, pos, negsuc, ◌-ℤ◌, sym, refl, ap, ◌∙◌, subst, lt_of_lt_of_le, arith, lit≤, ltb→lt, leb→le, nltb→le, to_z-of_z, w64, SFits, to_z, of_z}
use lib.Dec.{nleb→lt}
use lib.IntN.{sub_ℕ}
use lib.Signed.{mag}
use lib.Ieee.{minus}
use mir.Facts.{to_z_pos}

-- a signed word, read back
abbrev pub read : ℤ → ℤ
read k = to_z w64 (of_z w64 k)

pub sub_minus : (a b : ℕ) → sub_ℕ a b ≡ minus a b
sub_minus a b = go (ltb a b) (leb b a) (ltb→lt a b) (nltb→le a b) (leb→le b a) (nleb→lt b a)
  where
    clash : a < b → b ≤ a → ⊥
    clash h k = omega arith

    go : (s t : Bool) → (T s → a < b) → (T (not s) → b ≤ a) → (T t → b ≤ a) → (T (not t) → a < b)
        → cond s (negsuc (b - suc a)) (pos (a - b)) ≡ cond t (pos (a - b)) (negsuc (b - suc a))
    go true true p q u v = absurd (clash (p tt) (u tt))
    go true false p q u v = refl
    go false true p q u v = refl
    go false false p q u v = absurd (clash (v tt) (q tt))

-- l is not 0, so that its negative is `negsuc`
module _ (b n : ℕ) (l_lt : suc b < 2 ^ 13) (n_lt : n < 2 ^ 13) where
  abbrev l : ℕ
  l = suc b

  pub minus_fits : SFits w64 (minus n l)
  minus_fits = record { sfits = go (leb l n) }
    where
      go : (t : Bool) → mag (cond t (pos (n - l)) (negsuc (l - suc n))) < 2 ^ 63
      go true = omega arith
      go false = omega arith

  as_pos : to_z w64 n -ℤ pos l ≡ minus n l
  as_pos = ap (λ (z : ℤ). z -ℤ pos l) (to_z_pos w64 (lt_of_lt_of_le n_lt (lit≤ tt))) ∙ sub_minus n l

  pub exponent_fits : SFits w64 (to_z w64 n -ℤ pos l)
  exponent_fits = subst (SFits w64) (sym as_pos) minus_fits

  pub exponent_is : read (to_z w64 n -ℤ pos l) ≡ minus n l
  exponent_is = to_z-of_z exponent_fits ∙ as_pos
