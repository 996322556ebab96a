-- The kit's `sum` as one rounding of one exact number, and that it sees only the values of its fractions. Assumes nothing.
use Rattle.std.proofs.Common.{◌≡◌, ℕ, ◌+◌, ◌-◌, ◌*◌, ◌<◌, Bool, true, false, cond, ◌&&◌, T, ltb, sym, refl, ap, ◌∙◌, le_of_eq, lt_of_lt_of_le, lt_of_le_of_lt, mul_comm, add-mul, lt_of_mul-lt-mul_right, mul-lt-mul_of_pos_right, ltb→lt, lt→ltb}
use mathlib.Core.Bool.{beq}
use native.Mathlib.Nat.{mul-sub}
use lib.Ieee.{Format, round, sum}
use Rattle.soft.specs.inner.Cuts.{sum_sign, sum_size_def}
use lib.Ieee.Scale.{round_same}

-- the sign and the size of ±a + ±b; a zero from unlike signs is positive
pub sum_is : (f : Format) (s : Bool) (a : ℕ) (t : Bool) (b c : ℕ) → sum f s a t b c ≡ round f (sum_sign s a t b) (sum_size_def s a t b) c
unfolding sum sum_sign sum_size_def
sum_is f s a t b c = go (beq s t) (ltb a b)
  where
    go : (p q : Bool) → cond p (round f s (a + b) c) (cond q (round f t (b - a) c) (round f (s && ltb b a) (a - b) c)) ≡ round f
        (cond p s (cond q t (s && ltb b a))) (cond p (a + b) (cond q (b - a) (a - b))) c
    go true q = refl
    go false true = refl
    go false false = refl

sub-mul : (m n k : ℕ) → (m - n) * k ≡ m * k - n * k
sub-mul m n k = mul_comm (m - n) k ∙ mul-sub k m n ∙ ap (λ (z : ℕ). z - k * n) (mul_comm k m) ∙ ap (λ (z : ℕ). m * k - z) (mul_comm k n)

same_test : (x y : Bool) → (T x → T y) → (T y → T x) → x ≡ y
same_test true true p q = refl
same_test true false p q = absurd (p tt)
same_test false true p q = absurd (q tt)
same_test false false p q = refl

module _ (c d : ℕ) (C : 0 < c) (D : 0 < d) where
  over : (a b a' b' : ℕ) → a * d ≡ a' * c → b * d ≡ b' * c → a < b → a' < b'
  over a b a' b' p q h = lt_of_mul-lt-mul_right c (lt_of_le_of_lt (le_of_eq (sym p)) (lt_of_lt_of_le (mul-lt-mul_of_pos_right h D) (le_of_eq q)))

  back : (a b a' b' : ℕ) → a * d ≡ a' * c → b * d ≡ b' * c → a' < b' → a < b
  back a b a' b' p q h = lt_of_mul-lt-mul_right d (lt_of_le_of_lt (le_of_eq p) (lt_of_lt_of_le (mul-lt-mul_of_pos_right h C) (le_of_eq (sym q))))

  tests : (a b a' b' : ℕ) → a * d ≡ a' * c → b * d ≡ b' * c → ltb a b ≡ ltb a' b'
  tests a b a' b' p q = same_test (ltb a b) (ltb a' b') (λ t. lt→ltb a' b' (over a b a' b' p q (ltb→lt a b t))) (λ t. lt→ltb a b (back a b a' b' p q (ltb→lt a' b' t)))

  pub sum_same : (f : Format) (s : Bool) (a a' : ℕ) (t : Bool) (b b' : ℕ) → a * d ≡ a' * c → b * d ≡ b' * c → sum f s a t b c ≡ sum f s a' t b' d
  unfolding sum_sign sum_size_def
  sum_same f s a a' t b b' p q =
      sum_is f s a t b c ∙ ap (λ (x : Bool). round f x (sum_size_def s a t b) c) sign
      ∙ round_same f (sum_sign s a' t b') (sum_size_def s a t b) c (sum_size_def s a' t b') d C D size
      ∙ sym (sum_is f s a' t b' d)
    where
      sign : sum_sign s a t b ≡ sum_sign s a' t b'
      sign =
          ap (λ (x : Bool). cond (beq s t) s (cond x t (s && ltb b a))) (tests a b a' b' p q)
          ∙ ap (λ (x : Bool). cond (beq s t) s (cond (ltb a' b') t (s && x))) (tests b a b' a' q p)

      go : (x y : Bool) → cond x (a + b) (cond y (b - a) (a - b)) * d ≡ cond x (a' + b') (cond y (b' - a') (a' - b')) * c
      go true y = add-mul a b d ∙ ap (λ (z : ℕ). z + b * d) p ∙ ap (λ (z : ℕ). a' * c + z) q ∙ sym (add-mul a' b' c)
      go false true = sub-mul b a d ∙ ap (λ (z : ℕ). z - a * d) q ∙ ap (λ (z : ℕ). b' * c - z) p ∙ sym (sub-mul b' a' c)
      go false false = sub-mul a b d ∙ ap (λ (z : ℕ). z - b * d) p ∙ ap (λ (z : ℕ). a' * c - z) q ∙ sym (sub-mul a' b' c)

      size : sum_size_def s a t b * d ≡ sum_size_def s a' t b' * c
      size = ap (λ (x : Bool). cond (beq s t) (a + b) (cond x (b - a) (a - b)) * d) (tests a b a' b' p q) ∙ go (beq s t) (ltb a' b')
