-- Words of either sign, within the range of a word by their sizes: z + n and z - n, and k c in the place of z. Assumes nothing.
use Rattle.std.proofs.Common.{◌≡◌, ℕ, ◌+◌, ◌*◌, ◌^◌, ◌<◌, ◌≤◌, Bool, true, false, ℤ, pos, negsuc, ◌+ℤ◌, ◌-ℤ◌, ◌*ℤ◌, neg_ℤ, nat_abs, sym, ap, ◌∙◌, subst, ap₂, le_trans, le_of_eq, le_refl, lt_trans, lt_of_le_of_lt, arith, lit<, to_z-of_z, w64, SFits, to_z}
use lib.Signed.{mag}
use mir.Facts.{to_z_pos}
use Rattle.soft.proofs.Rounding.Exponent.{read}
use Rattle.kernels.proofs.Definitions.Sizes.{nat_abs_neg, nat_abs_mul, nat_abs_add}

pub mag-le : (z : ℤ) → mag z ≤ nat_abs z
mag-le (pos n) = le_refl n
mag-le (negsuc n) = omega arith

pub fits_size : (z : ℤ) → nat_abs z < 2 ^ 63 → SFits w64 z
fits_size z h = record { sfits = lt_of_le_of_lt (mag-le z) h }

pub fits_few : (z : ℤ) → mag z < 2 ^ 19 → SFits w64 z
fits_few z h = record { sfits = lt_trans h (lit< {m = 2 ^ 19} {n = 2 ^ 63} tt) }

-- what holds of z holds of a word that is z
pub given : (P : ℤ → Type 0) (r z : ℤ) → r ≡ z → P z → (r ≡ z) × P r
given P r z e p = (e, subst P (sym e) p)

-- taken off, or added
abbrev op : Bool → ℤ → ℤ → ℤ
op true a b = a -ℤ b
op false a b = a +ℤ b

size_op : (s : Bool) (z : ℤ) (n : ℕ) → nat_abs (op s z (pos n)) ≤ nat_abs z + n
size_op true z n = le_trans (nat_abs_add z (neg_ℤ (pos n))) (le_of_eq (ap (λ (x : ℕ). nat_abs z + x) (nat_abs_neg (pos n))))
size_op false z n = nat_abs_add z (pos n)

both : {a b : ℕ} → a + b < 2 ^ 63 → (a < 2 ^ 63) × (b < 2 ^ 63)
both h = (omega arith, omega arith)

-- w is z
pub record Joined (s : Bool) (w z : ℤ) (n : ℕ) : Type 0 where
  pub cast : SFits w64 (pos n)
  pub fits : SFits w64 (op s w (to_z w64 n))
  pub is : read (op s w (to_z w64 n)) ≡ op s z (pos n)
  pub size : nat_abs (op s z (pos n)) ≤ nat_abs z + n

pub join : (s : Bool) (w z : ℤ) (n : ℕ) → w ≡ z → nat_abs z + n < 2 ^ 63 → Joined s w z n
join s w z n e room =
    let is : op s w (to_z w64 n) ≡ op s z (pos n) = ap₂ (op s) e (to_z_pos w64 (both room).1) in
    let fits : SFits w64 (op s w (to_z w64 n)) = subst (SFits w64) (sym is) (fits_size (op s z (pos n)) (lt_of_le_of_lt (size_op s z n) room)) in
    record { cast = record { sfits = (both room).1 }; fits = fits; is = to_z-of_z fits ∙ is; size = size_op s z n }

pub record Line (s : Bool) (k : ℤ) (c n : ℕ) : Type 0 where
  pub times : SFits w64 (read k *ℤ pos c)
  pub sum : Joined s (read (read k *ℤ pos c)) (k *ℤ pos c) n
  pub size : nat_abs (op s (k *ℤ pos c) (pos n)) ≤ nat_abs k * c + n

pub line : (s : Bool) (k : ℤ) (c n : ℕ) → SFits w64 k → nat_abs k * c + n < 2 ^ 63 → Line s k c n
line s k c n f room =
    let a = nat_abs_mul k (pos c) in
    let p = fits_size (k *ℤ pos c) (subst (λ (x : ℕ). x < 2 ^ 63) (sym a) (both room).0) in
    let t = subst (λ (z : ℤ). SFits w64 (z *ℤ pos c)) (sym (to_z-of_z f)) p in
    let j = join s (read (read k *ℤ pos c)) (k *ℤ pos c) n (to_z-of_z t ∙ ap (λ (z : ℤ). z *ℤ pos c) (to_z-of_z f)) (subst (λ (x : ℕ). x + n < 2 ^ 63) (sym a) room) in
    record { times = t; sum = j; size = subst (λ (x : ℕ). nat_abs (op s (k *ℤ pos c) (pos n)) ≤ x + n) a j.size }
