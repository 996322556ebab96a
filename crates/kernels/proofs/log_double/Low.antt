-- The chain of -ln(1 - g): each of its products and sums fits in a word, since they ascend and those of the largest gap do. Assumes nothing.
use Rattle.std.proofs.Common.{◌≡◌, ℕ, ◌+◌, ◌*◌, ◌/◌, ◌^◌, ◌<◌, ◌≤◌, sym, ap, ◌∙◌, subst, le_trans, le_refl, lt_of_le_of_lt, add-le-add, mul-le-mul, le-div_iff_mul-le, lit<}
use lib.Pow.{shr_mono}
use Rattle.kernels.specs.Power.{hi}
use Rattle.kernels.specs.Logarithm.{low64}
use Rattle.kernels.proofs.Definitions.Hi.{hi_le}
use Rattle.kernels.proofs.high.Halves.{hi_first}

-- the largest g, and its upper digits
abbrev G : ℕ
G = 12 * 2 ^ 64 / 2560

abbrev E : ℕ
E = G / 2 ^ 24

-- the terms from the last on, at the upper digits e
abbrev term6 : ℕ → ℕ
term6 e = 0x5555_5555 + e * 0x4924_9249 / 2 ^ 40

abbrev term5 : ℕ → ℕ
term5 e = 0x6666_6666 + e * term6 e / 2 ^ 40

abbrev term4 : ℕ → ℕ
term4 e = 0x8000_0000 + e * term5 e / 2 ^ 40

abbrev term3 : ℕ → ℕ
term3 e = 0x5555_5555_5555_5555 + e * term4 e / 2 ^ 9

more : (c e p d E P : ℕ) → e ≤ E → p ≤ P → (e * p ≤ E * P) × (c + e * p / 2 ^ d ≤ c + E * P / 2 ^ d)
more c e p d E P h k = (mul-le-mul h k, add-le-add (le_refl c) (shr_mono d (mul-le-mul h k)))

-- g with c, the rest of the sum
pub record Low (g c : ℕ) : Type 0 where
  pub is : g + c ≡ low64 g
  pub short : g + c < 2 ^ 57
  pub fits : g + c < 2 ^ 64

module _ (g : ℕ) (s : g * 2560 ≤ 12 * 2 ^ 64) where
  abbrev e : ℕ
  e = g / 2 ^ 24

  g_le : g ≤ G
  g_le = (le-div_iff_mul-le {k = 2560} {x = g} {y = 12 * 2 ^ 64} (lit< tt)).1 s

  pub chain : (e * 0x4924_9249 < 2 ^ 64) × (term6 e < 2 ^ 64) × (e * term6 e < 2 ^ 64) × (term5 e < 2 ^ 64) × (e * term5 e < 2 ^ 64) × (term4 e < 2 ^ 64) × (e * term4 e < 2 ^ 64) × (term3 e < 2 ^ 64)
  chain =
      let l = shr_mono 24 g_le in
      let h6 = more 0x5555_5555 e 0x4924_9249 40 E 0x4924_9249 l (le_refl 0x4924_9249) in
      let h5 = more 0x6666_6666 e (term6 e) 40 E (term6 E) l h6.1 in
      let h4 = more 0x8000_0000 e (term5 e) 40 E (term5 E) l h5.1 in
      let h3 = more 0x5555_5555_5555_5555 e (term4 e) 9 E (term4 E) l h4.1 in (
        lt_of_le_of_lt h6.0 (lit< tt),
        lt_of_le_of_lt h6.1 (lit< tt),
        lt_of_le_of_lt h5.0 (lit< tt),
        lt_of_le_of_lt h5.1 (lit< tt),
        lt_of_le_of_lt h4.0 (lit< tt),
        lt_of_le_of_lt h4.1 (lit< tt),
        lt_of_le_of_lt h3.0 (lit< tt),
        lt_of_le_of_lt h3.1 (lit< tt),
      )

  -- ---- the last three terms: a product by g, cut, is at most g
  cut_le : (a b : ℕ) → a ≡ hi g b → b < 2 ^ 64 → a ≤ G
  cut_le a b e h = le_trans (subst (λ (x : ℕ). x ≤ g) (sym e) (hi_first g b h)) g_le

  module _ (a : ℕ) (p : a ≡ hi g (term3 e)) where
    pub sum2 : 0x8000_0000_0000_0000 + a < 2 ^ 64
    sum2 = lt_of_le_of_lt (add-le-add (le_refl 0x8000_0000_0000_0000) (cut_le a (term3 e) p chain.7)) (lit< tt)

    pub low_given : (b c : ℕ) → b ≡ hi g (0x8000_0000_0000_0000 + a) → c ≡ hi g b → Low g c
    unfolding low64
    low_given b c q r =
        let c_le = (le-div_iff_mul-le {k = 2 ^ 64} {x = c} {y = G * G} (lit< tt)).1 (subst (λ (x : ℕ). x * 2 ^ 64 ≤ G * G) (sym r) (le_trans (hi_le g b) (mul-le-mul g_le (cut_le b (0x8000_0000_0000_0000 + a) q sum2)))) in
        record { is = ap (λ (x : ℕ). g + x) (r ∙ ap (hi g) (q ∙ ap (λ (x : ℕ). hi g (0x8000_0000_0000_0000 + x)) p)); short = lt_of_le_of_lt (add-le-add g_le c_le) (lit< tt); fits = lt_of_le_of_lt (add-le-add g_le c_le) (lit< tt) }
