-- The reason by the tests that a step makes: it is true, and no other is. A step's tests are its flags here: whether the rating is 0, the step a first one, the day 0, the
-- multiplier below 1 for ratings 2-4, the rating 1, the floor below the raw value, the rating 2, 3, 4. Assumes nothing.
use mathlib.Core.Bool.{Bool, true, false, not, ◌&&◌, cond, true≢false}
use mathlib.Core.Path.{◌≡◌, refl, sym}
use borrow.Author.Tests.{not-true}
use Rattle.std.proofs.lemmas.Bool.{and_parts}
use Rattle.explain.specs.declared.reasons.Reason.{Reason}
use Rattle.explain.specs.declared.reasons.Reason.TheVariants.{Padding, First, SameDayRaw, SameDayOne, LapseRaw, LapseFloor, Success, SuccessHard, SuccessEasy}

module _ (padding first same_day one_taken again floored hard easy : Bool) where
  abbrev pub picked : Reason
  picked =
      cond padding Padding
      (cond first First
      (cond same_day (cond (not one_taken) SameDayRaw SameDayOne)
      (cond again (cond floored LapseFloor LapseRaw)
      (cond hard SuccessHard (cond easy SuccessEasy Success)))))

  module _ (good : Bool) where
    abbrev pub holding : Reason → Bool
    holding Padding = padding
    holding First = not padding && first
    holding SameDayRaw = ((not padding && not first) && same_day) && not one_taken
    holding SameDayOne = ((not padding && not first) && same_day) && one_taken
    holding LapseRaw = ((not padding && not first) && not same_day) && (again && not floored)
    holding LapseFloor = ((not padding && not first) && not same_day) && (again && floored)
    holding Success = ((not padding && not first) && not same_day) && good
    holding SuccessHard = ((not padding && not first) && not same_day) && hard
    holding SuccessEasy = ((not padding && not first) && not same_day) && easy

-- ---- a rating of 1 to 4 is one of them
abbrev pub one_of : (again hard good easy : Bool) → Bool
one_of again hard good easy = cond again (not hard && (not good && not easy)) (cond hard (not good && not easy) (cond good (not easy) easy))

not_again : (o t h f : Bool) → one_of o t h f ≡ true → cond t true (cond h true f) ≡ true → o ≡ false
not_again false t h f e k = refl
not_again true true h f e k = absurd (true≢false (sym e))
not_again true false true f e k = absurd (true≢false (sym e))
not_again true false false true e k = absurd (true≢false (sym e))
not_again true false false false e k = absurd (true≢false (sym k))

not_hard : (o t h f : Bool) → one_of o t h f ≡ true → cond h true f ≡ true → t ≡ false
not_hard o false h f e k = refl
not_hard true true h f e k = absurd (true≢false (sym e))
not_hard false true true f e k = absurd (true≢false (sym e))
not_hard false true false true e k = absurd (true≢false (sym e))
not_hard false true false false e k = absurd (true≢false (sym k))

not_easy : (o t h f : Bool) → one_of o t h f ≡ true → h ≡ true → f ≡ false
not_easy o t h false e k = refl
not_easy o t false true e k = absurd (true≢false (sym k))
not_easy true true true true e k = absurd (true≢false (sym e))
not_easy true false true true e k = absurd (true≢false (sym e))
not_easy false true true true e k = absurd (true≢false (sym e))
not_easy false false true true e k = absurd (true≢false (sym e))

good_left : (h : Bool) → one_of false false h false ≡ true → h ≡ true
good_left true e = refl
good_left false e = e

-- ---- 'this reason'
pub picked_holds : (z first s m o l t h f : Bool) → (z ≡ false → one_of o t h f ≡ true) → holding z first s m o l t f h (picked z first s m o l t f) ≡ true
picked_holds true first s m o l t h f g = refl
picked_holds false true s m o l t h f g = refl
picked_holds false false true true o l t h f g = refl
picked_holds false false true false o l t h f g = refl
picked_holds false false false m true true t h f g = refl
picked_holds false false false m true false t h f g = refl
picked_holds false false false m false l true h f g = refl
picked_holds false false false m false l false h true g = refl
picked_holds false false false m false l false h false g = good_left h (g refl)

-- ---- 'and no other of the list'
-- a review, on the same day or on a later one
pub review_of : (z first b c : Bool) → ((not z && not first) && b) && c ≡ true → (z ≡ false) × (first ≡ false) × (b ≡ true) × (c ≡ true)
review_of z first b c e =
    let p = and_parts ((not z && not first) && b) c e in
    let q = and_parts (not z && not first) b p.0 in
    let r = and_parts (not z) (not first) q.0 in
    (not-true z r.0, not-true first r.1, q.1, p.1)

module _ (z first s m o l t h f : Bool) (g : z ≡ false → one_of o t h f ≡ true) where
  abbrev the : Reason
  the = picked z first s m o l t f

  pub no_other : (reason : Reason) → holding z first s m o l t f h reason ≡ true → reason ≡ the
  no_other Padding e = rw e
  no_other First e = let p = and_parts (not z) first e in rw (not-true z p.0, p.1)
  no_other SameDayRaw e = let p = review_of z first s (not m) e in rw (p.0, p.1, p.2, p.3)
  no_other SameDayOne e = let p = review_of z first s m e in rw (p.0, p.1, p.2, p.3)
  no_other LapseRaw e =
      let p = review_of z first (not s) (o && not l) e in
      let q = and_parts o (not l) p.3 in
      rw (p.0, p.1, not-true s p.2, q.0, not-true l q.1)
  no_other LapseFloor e =
      let p = review_of z first (not s) (o && l) e in
      let q = and_parts o l p.3 in
      rw (p.0, p.1, not-true s p.2, q.0, q.1)
  no_other Success e =
      let p = review_of z first (not s) h e in
      let k = g p.0 in
      rw (p.0, p.1, not-true s p.2, not_again o t h f k (some t p.3), not_hard o t h f k (left p.3), not_easy o t h f k p.3)
    where
      some : (t : Bool) → h ≡ true → cond t true (cond h true f) ≡ true
      some true d = refl
      some false d = rw d

      left : h ≡ true → cond h true f ≡ true
      left d = rw d
  no_other SuccessHard e =
      let p = review_of z first (not s) t e in
      rw (p.0, p.1, not-true s p.2, not_again o t h f (g p.0) (hard p.3), p.3)
    where
      hard : t ≡ true → cond t true (cond h true f) ≡ true
      hard d = rw d
  no_other SuccessEasy e =
      let p = review_of z first (not s) f e in
      let k = g p.0 in
      rw (p.0, p.1, not-true s p.2, not_again o t h f k (easy t h p.3), not_hard o t h f k (right h p.3), p.3)
    where
      easy : (t h : Bool) → f ≡ true → cond t true (cond h true f) ≡ true
      easy true h d = refl
      easy false true d = refl
      easy false false d = d

      right : (h : Bool) → f ≡ true → cond h true f ≡ true
      right true d = refl
      right false d = d
