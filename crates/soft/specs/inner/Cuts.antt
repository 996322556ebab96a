-- What is cut off a number before it is rounded, and how two signed numbers add. Assumes nothing.
use Rattle.std.specs.Prelude.{◌≡◌, ℕ, ◌+◌, ◌-◌, ◌*◌, ◌^◌, ◌<◌, ◌≤◌, Bool, true, false, cond, ◌&&◌, nat_lt}
use Rattle.std.specs.Bool.{beq}

-- x is w * 2 ^ y, and a little more exactly where the bit is set: then w is m or more
abbrev pub Cut : (m x w y : ℕ) → Bool → Type 0
Cut m x w y true = (w * 2 ^ y < x) × (x < (w + 1) * 2 ^ y) × (m ≤ w)
Cut m x w y false = x ≡ w * 2 ^ y

-- ±a + ±b: a zero from unlike signs is positive
unfoldable pub sum_sign : Bool → ℕ → Bool → ℕ → Bool
sum_sign s a t b = cond (beq s t) s (cond (nat_lt a b) t (s && nat_lt b a))

unfoldable pub sum_size_def : Bool → ℕ → Bool → ℕ → ℕ
sum_size_def s a t b = cond (beq s t) (a + b) (cond (nat_lt a b) (b - a) (a - b))
