-- The table's entries against P, to the digits that a significand starts with; arguments over 2 ^ 116. Assumes nothing.
use mathlib.Core.Path.{◌≡◌}
use Prim.Native.Nat.{ℕ, zero, ◌+◌, ◌*◌, ◌/◌, ◌^◌, ◌≤◌, ◌<◌}
use native.Mathlib.Nat.{mul-le-mul_left, mul-le-mul_right, mul-pos, one-le-pow, mul-lt-mul_of_pos_left, div-mul-le_self, lt-div-mul-add}
use native.Mathlib.Omega.{arith}
use lib.Dec.{lit<}
use lib.Ieee.{Format, binary32, binary64}
use borrow.Author.Tests.{lt-ltb}
use Rattle.table.specs.Exact.{N}
use Rattle.table.proofs.Exact.Poly.{h}
use Rattle.table.proofs.Exact.Terms.{pcoef, f23}
use Rattle.table.proofs.Exact.Taylor.{P-num, P-den}
use Rattle.table.proofs.Exact.Near.{h_grows, P-den-pos}
use Rattle.table.specs.Entry.{entry}
use Rattle.table.proofs.Entries.{entry_ge}
use Rattle.laws.proofs.Distances.power.Steps.{value, denom, D, value-is, denom_is}

-- the unit of a significand
abbrev pub top : Format → ℕ
top binary32 = 2 ^ 31
top binary64 = 2 ^ 62

abbrev pub start : Format → ℕ → ℕ
start binary32 i = entry i / 2 ^ 31
start binary64 i = entry i

D-pos : zero < D
unfolding D
D-pos = P-den-pos (2 ^ 72) (lit< tt)

pub denom_pos : (W : ℕ) → zero < W → zero < denom W
denom_pos W z = P-den-pos (W * 2 ^ 72) (mul-pos z (lit< tt))

entry_is : (i : ℕ) → i < 256 → entry i ≡ 2 ^ 62 * h 23 pcoef (i * N) (2 ^ 72) / D
unfolding entry D
entry_is i l = rw (lt-ltb i 256 l, P-num (i * N) (2 ^ 72), P-den (i * N) (2 ^ 72))

entry_le : (W i : ℕ) → i < 256 → entry i * denom W ≤ 2 ^ 62 * value W (W * (i * N))
entry_le W i l = rw (denom_is W, value-is W (i * N), entry_is i l) (omega (arith, mul-le-mul_left (W ^ 23) (div-mul-le_self ((2 ^ 62) * (h 23 pcoef (i * N) (2 ^ 72))) D)))

le_entry : (W i : ℕ) → i < 256 → 2 ^ 62 * value W (W * (i * N)) ≤ (entry i + 1) * denom W
le_entry W i l = rw (denom_is W, value-is W (i * N), entry_is i l) (omega (arith, D-pos, mul-le-mul_left (W ^ 23) (lt-div-mul-add {a = (2 ^ 62) * (h 23 pcoef (i * N) (2 ^ 72))} D-pos)))

pub start_le : (f : Format) (W i : ℕ) → i < 256 → start f i * denom W ≤ top f * value W (W * (i * N))
start_le binary32 W i l = omega (arith, entry_le W i l, mul-le-mul_right (denom W) (div-mul-le_self (entry i) (2 ^ 31)))
start_le binary64 W i l = entry_le W i l

pub le_start : (f : Format) (W i : ℕ) → i < 256 → top f * value W (W * (i * N)) ≤ (start f i + 1) * denom W
le_start binary32 W i l = omega (arith, le_entry W i l, mul-le-mul_right (denom W) (next (entry i)))
  where
    next : (t : ℕ) → t + 1 ≤ (t / 2 ^ 31 + 1) * 2 ^ 31
    next t = omega arith
le_start binary64 W i l = le_entry W i l

pub start_low : (f : Format) (i : ℕ) → i < 256 → top f ≤ start f i
start_low binary32 i l = omega (arith, entry_ge i l)
start_low binary64 i l = entry_ge i l

-- up to ln 2, P stays below 2, with room for what a significand may have over it
last : h 23 pcoef (256 * N) (2 ^ 72) * 2 ^ 93 + D < 2 * D * 2 ^ 93
unfolding h pcoef f23 D
last = lit< tt

pub below_two : (W x : ℕ) → zero < W → x ≤ W * (256 * N) → value W x * 2 ^ 93 + denom W < 2 * denom W * 2 ^ 93
below_two W x z l =
    go (value W x) (value W (W * (256 * N))) (2 ^ 93) (denom W) (h_grows 23 pcoef x (W * (256 * N)) (W * 2 ^ 72) l)
    (rw (denom_is W, value-is W (256 * N)) (omega (arith, last, mul-lt-mul_of_pos_left {k = (W ^ 23)} last (one-le-pow 23 W z))))
  where
    go : (x y t d : ℕ) → x ≤ y → y * t + d < 2 * d * t → x * t + d < 2 * d * t
    go x y t d l m = omega (arith, mul-le-mul_right t l)
