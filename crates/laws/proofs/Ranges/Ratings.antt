-- A good rating that is not 0 is one of four singles. Assumes nothing.
use mathlib.Core.Path.{◌≡◌, refl, sym, ◌∙◌, subst}
use mathlib.Core.Bool.{Bool, true, false, ◌||◌, true≢false}
use lib.Dec.{T, lit≤}
use lib.Ieee.{Float, nan, inf, fin, binary32, of_bits, fits, neg, sub, sum, add, eq, round}
use lib.Ieee.Positive.{positive}
use lib.Ieee.Scale.{finite}
use Rattle.soft.proofs.units.Value.{holds}
use Rattle.domain.specs.Floats.{◌-ᶠ◌}
use Rattle.domain.specs.Limits.{zero32, one, two, three, four}
use Rattle.checks.specs.Reads.{rating_good_def}
use Rattle.laws.proofs.Values.Sizes.{Size}
use Rattle.laws.proofs.Ranges.Order.{equal_is}

four_fit : T (fits binary32 one) × T (fits binary32 two) × T (fits binary32 three) × T (fits binary32 four)
unfolding of_bits fits
four_fit = (tt, tt, tt, tt)

four_positive : T (positive one) × T (positive two) × T (positive three) × T (positive four)
unfolding of_bits
four_positive = (tt, tt, tt, tt)

module _ (rating : Float) (k : T (fits binary32 rating)) (P : Float → Type 0) where
  at : (y : Float) → T (fits binary32 y) → T (positive y) → eq rating y ≡ true → P y → P rating
  at y l p e h = subst P (sym (equal_is binary32 rating y k l p (holds e))) h

  pub by_rating : rating_good_def rating ≡ true → eq rating zero32 ≡ false → P one → P two → P three → P four → P rating
  by_rating g z a b c d = go (eq rating zero32) (eq rating one) (eq rating two) (eq rating three) (eq rating four) refl refl refl refl refl g
    where
      go : (o p q r s : Bool) → o ≡ eq rating zero32 → p ≡ eq rating one → q ≡ eq rating two → r ≡ eq rating three → s ≡ eq rating four →
          (o || (p || q)) || (r || s) ≡ true → P rating
      go true p q r s e1 e2 e3 e4 e5 h = absurd (true≢false (e1 ∙ z))
      go false true q r s e1 e2 e3 e4 e5 h = at one four_fit.0 four_positive.0 (sym e2) a
      go false false true r s e1 e2 e3 e4 e5 h = at two four_fit.1 four_positive.1 (sym e3) b
      go false false false true s e1 e2 e3 e4 e5 h = at three four_fit.2 four_positive.2 (sym e4) c
      go false false false false true e1 e2 e3 e4 e5 h = at four four_fit.3 four_positive.3 (sym e5) d
      go false false false false false e1 e2 e3 e4 e5 h = absurd (true≢false (sym h))

-- what equals 0 is a number
pub zero_finite : (x : Float) → eq x zero32 ≡ true → T (finite x)
unfolding eq of_bits
zero_finite nan e = absurd (true≢false (sym e))
zero_finite (inf s) e = absurd (true≢false (sym e))
zero_finite (fin s m e) h = tt

-- by its four cases: the law of differences would give 2 ^ 3
offsets : Size 1 (one -ᶠ three) × Size 1 (two -ᶠ three) × Size 1 (three -ᶠ three) × Size 1 (four -ᶠ three)
unfolding sub add neg sum round of_bits
offsets = (lit≤ tt, lit≤ tt, lit≤ tt, lit≤ tt)

pub offset_size : (rating : Float) → T (fits binary32 rating) → rating_good_def rating ≡ true → eq rating zero32 ≡ false → Size 1 (rating -ᶠ three)
offset_size rating k g z = by_rating rating k (λ (x : Float). Size 1 (x -ᶠ three)) g z offsets.0 offsets.1 offsets.2 offsets.3
