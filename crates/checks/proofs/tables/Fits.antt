-- A cell's number fits 64 bits where its row, columns and column each fit 32. Assumes nothing.
use Prim.Native.Nat.{ℕ, suc, ◌+◌, ◌*◌, ◌^◌, ◌<◌, ◌≤◌}
use mathlib.Core.Path.{subst⁻¹}
use native.Mathlib.Nat.{le-add_right, le_of_lt, lt_of_le_of_lt, mul-le-mul_left, mul-le-mul_right, suc-mul}
use native.Mathlib.Omega.{arith}
use lib.Dec.{lit≤}
use lib.Pow.{pow-add}

square : (n a b c : ℕ) → a < n → b < n → c < n → a * b + c < n * n
square n a b c ha hb hc =
    let down : a * b ≤ a * n = mul-le-mul_left a (le_of_lt hb) in
    let up : suc a * n ≤ n * n = mul-le-mul_right n ha in
    let turn = suc-mul a n in
    omega (arith, down, up, turn)

pub cell_fits : (a b c : ℕ) → a < 2 ^ 32 → b < 2 ^ 32 → c < 2 ^ 32 → a * b + c < 2 ^ (32 + 32)
cell_fits a b c ha hb hc = subst⁻¹ (λ (n : ℕ). a * b + c < n) (pow-add 2 32 32) (square (2 ^ 32) a b c ha hb hc)

pub product_fits : (a b : ℕ) → a < 2 ^ 32 → b < 2 ^ 32 → a * b < 2 ^ (32 + 32)
product_fits a b ha hb = lt_of_le_of_lt (le-add_right (a * b) 0) (cell_fits a b 0 ha hb (lit≤ tt))
