-- The chains of the single logarithms: every product and sum fits a word, since they ascend and those of the largest gap, 12 / 2560, do. Assumes nothing.
use Rattle.std.proofs.Common.{◌≡◌, ℕ, ◌+◌, ◌*◌, ◌/◌, ◌^◌, ◌<◌, ◌≤◌, refl, le_refl, lt_of_le_of_lt, add-le-add, mul-le-mul_right, mul-le-mul, mul-le-mul_left, le-div_iff_mul-le, lit<}
use lib.Pow.{shr_mono}
use Rattle.kernels.specs.Logarithm.{low63, low22}

abbrev G : ℕ
G = 12 * 2 ^ 63 / 2560

abbrev E : ℕ
E = G / 2 ^ 24

-- in units of 2 ^ -22 of a step
abbrev w22 : ℕ → ℕ
w22 e = 1549082004 + e * 8068135 / 2 ^ 32

abbrev sum22 : ℕ → ℕ
sum22 e = 3098164009 * e + e * e / 2 ^ 31 * w22 e / 2 ^ 8

-- and of 2 ^ -63
abbrev c63 : ℕ → ℕ
c63 e = 0x2aaaaaaa + e / 2 ^ 10

abbrev w63 : ℕ → ℕ
w63 e = 0x40000000 + e * c63 e / 2 ^ 39

abbrev sum63 : ℕ → ℕ → ℕ
sum63 g e = g + e * e / 2 ^ 31 * w63 e / 2 ^ 15

module _ (g : ℕ) (h : g * 2560 ≤ 12 * 2 ^ 63) where
  abbrev e : ℕ
  e = g / 2 ^ 24

  g_le : g ≤ G
  g_le = (le-div_iff_mul-le {k = 2560} {x = g} {y = 12 * 2 ^ 63} (lit< tt)).1 h

  e_le : e ≤ E
  e_le = shr_mono 24 g_le

  square : e * e ≤ E * E
  square = mul-le-mul e_le e_le

  pub steps : (w22 e < 2 ^ 64) × (e * e < 2 ^ 64) × (e * e / 2 ^ 31 * w22 e < 2 ^ 64) × (sum22 e < 2 ^ 64) × (sum22 e / 2 ^ 40 < 2 ^ 23)
  steps =
      let w = add-le-add (le_refl 1549082004) (shr_mono 32 (mul-le-mul_right 8068135 e_le)) in
      let s = mul-le-mul (shr_mono 31 square) w in
      let l = add-le-add (mul-le-mul_left 3098164009 e_le) (shr_mono 8 s) in
      (lt_of_le_of_lt w (lit< tt), lt_of_le_of_lt square (lit< tt), lt_of_le_of_lt s (lit< tt), lt_of_le_of_lt l (lit< tt), lt_of_le_of_lt (shr_mono 40 l) (lit< tt))

  pub units : (e * c63 e < 2 ^ 64) × (w63 e < 2 ^ 64) × (e * e < 2 ^ 64) × (e * e / 2 ^ 31 * w63 e < 2 ^ 64) × (sum63 g e < 2 ^ 64) × (sum63 g e < 2 ^ 56)
  units =
      let p = mul-le-mul e_le (add-le-add (le_refl 0x2aaaaaaa) (shr_mono 10 e_le)) in
      let w = add-le-add (le_refl 0x40000000) (shr_mono 39 p) in
      let s = mul-le-mul (shr_mono 31 square) w in
      let l = add-le-add g_le (shr_mono 15 s) in
      (lt_of_le_of_lt p (lit< tt), lt_of_le_of_lt w (lit< tt), lt_of_le_of_lt square (lit< tt), lt_of_le_of_lt s (lit< tt), lt_of_le_of_lt l (lit< tt), lt_of_le_of_lt l (lit< tt))

pub steps_is : (g : ℕ) → sum22 (g / 2 ^ 24) / 2 ^ 40 ≡ low22 g
unfolding low22
steps_is g = refl

pub units_is : (g : ℕ) → sum63 g (g / 2 ^ 24) ≡ low63 g
unfolding low63
units_is g = refl
