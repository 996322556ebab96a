-- Single ln before its rounding, from the two sides of its core: arithmetic alone. v = N, r = N56, y = n 2 ^ 72, u is L's numerator over 2 ^ 64 d. Assumes nothing.
use mathlib.Core.Path.{◌≡◌, ap}
use Prim.Native.Nat.{ℕ, ◌+◌, ◌*◌, ◌^◌, ◌≤◌}
use native.Mathlib.Nat.{mul-le-mul_left, mul-le-mul_right}
use native.Mathlib.Omega.{arith}

pub lift : (a u c d : ℕ) → 2 ^ 41 * (a * d) ≤ 2 ^ 33 * u + 2 ^ 41 * (c * d) + 256 * u → a * (2 ^ 64 * d) ≤ u * 2 ^ 56 + c * (2 ^ 64 * d) + 2 ^ 31 * u
lift a u c d l = omega arith

pub lift' : (a u c d : ℕ) → 2 ^ 33 * u + 2 ^ 41 * (c * d) ≤ 2 ^ 41 * (a * d) + 256 * u → u * 2 ^ 56 + c * (2 ^ 64 * d) ≤ a * (2 ^ 64 * d) + 2 ^ 31 * u
lift' a u c d l = omega arith

-- l is the chain's answer in units of 2 ^ -63, c that in units of 2 ^ -56, s what it lacks and k the upper side, in units of 2 ^ -72
pub pos_above : (K i l c y d v r u s : ℕ) → 65536 * r ≤ v → 256 * u ≡ 256 * (K * v * d) + y → i * v * d ≤ y + (256 * (2 * l) + s) * d → l ≤ 128 * c + 128
    → 2 ^ 25 * (s + 65536) + 512 * l + s ≤ (256 * K + i) * v + 2 ^ 25 * 255 * 65536 → (256 * K + i) * r * (2 ^ 64 * d) ≤ u * 2 ^ 56 + (c + 255) * (2 ^ 64 * d) + 2 ^ 31 * u
pos_above K i l c y d v r u s e f a b t =
    lift ((256 * K + i) * r) u (c + 255) d
    (omega (arith, mul-le-mul_left ((256 * K + i) * d) e, f, a, mul-le-mul_right d b, mul-le-mul_right d t))

pub pos_below : (K i l c y d v r u s k p : ℕ) → v ≤ 65536 * r + p → 256 * u ≡ 256 * (K * v * d) + y → y + 256 * (2 * l) * d ≤ (i * v + k) * d
    → i * v * d ≤ y + (256 * (2 * l) + s) * d → 128 * c ≤ l
    → 2 ^ 25 * (k + p * (256 * K + i)) + 512 * l + s ≤ (256 * K + i) * v + 2 ^ 25 * 255 * 65536
    → u * 2 ^ 56 + c * (2 ^ 64 * d) ≤ ((256 * K + i) * r + 255) * (2 ^ 64 * d) + 2 ^ 31 * u
pos_below K i l c y d v r u s k p e f a a' b t =
    lift' ((256 * K + i) * r + 255) u c d
    (omega (arith, mul-le-mul_left ((256 * K + i) * d) e, f, a, a', mul-le-mul_right d b, mul-le-mul_right d t))

pub neg_above : (K i l c y d v r u k j : ℕ) → 65536 * r ≤ v → 256 * u + y ≡ 256 * (K * v * d) → j + i ≡ 256 * K → y + 256 * (2 * l) * d ≤ (i * v + k) * d → 128 * c ≤ l
    → 2 ^ 25 * k + k ≤ j * v + 512 * l + 2 ^ 25 * 255 * 65536 → (j * r + c) * (2 ^ 64 * d) ≤ u * 2 ^ 56 + (0 + 255) * (2 ^ 64 * d) + 2 ^ 31 * u
neg_above K i l c y d v r u k j e f g a b t =
    lift (j * r + c) u (0 + 255) d
    (omega (arith, mul-le-mul_left (j * d) e, f, a, ap (λ (x : ℕ). x * (v * d)) g, mul-le-mul_right d b, mul-le-mul_right d t))

pub neg_below : (K i l c y d v r u s k p j : ℕ) → v ≤ 65536 * r + p → 256 * u + y ≡ 256 * (K * v * d) → j + i ≡ 256 * K → y + 256 * (2 * l) * d ≤ (i * v + k) * d
    → i * v * d ≤ y + (256 * (2 * l) + s) * d → l ≤ 128 * c + 128
    → 2 ^ 25 * (s + 65536 + p * j) + k ≤ j * v + 512 * l + 2 ^ 25 * 255 * 65536 → u * 2 ^ 56 + 0 * (2 ^ 64 * d) ≤ (j * r + c + 255) * (2 ^ 64 * d) + 2 ^ 31 * u
neg_below K i l c y d v r u s k p j e f g a a' b t =
    lift' (j * r + c + 255) u 0 d
    (omega (arith, mul-le-mul_left (j * d) e, f, a, a', ap (λ (x : ℕ). x * (v * d)) g, mul-le-mul_right d b, mul-le-mul_right d t))
