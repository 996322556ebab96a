-- A refusal has one number, and none has 0. Assumes nothing.
use Rattle.std.proofs.Common.{◌≡◌, ℕ, cond, eqb, sym, refl, ap, ◌∙◌, Result, Ok, Err, List, subst, T}
use lib.Ieee.{Float}
use Rattle.domain.specs.Refusals.{number, number_of}
use Rattle.domain.specs.Taken.{Taken}
use Rattle.domain.specs.declared.weights.Weights.{Weights}
use Rattle.domain.specs.declared.refusal.Refusal.{Refusal}
use Rattle.domain.specs.declared.refusal.Refusal.TheVariants.{WeightCount, WeightBox, Sizes, Room, SlotCount, Rating, Day, Review, EmptyPrefix, Kernel, File, FillingCount, Argument, Import, Earlier}

-- the refusal of a number
abbrev pub named : ℕ → Refusal
named n =
    cond (eqb n 1) WeightCount (cond (eqb n 2) WeightBox (cond (eqb n 3) Sizes (cond (eqb n 4) Room (cond (eqb n 5) SlotCount
    (cond (eqb n 6) Rating (cond (eqb n 7) Day (cond (eqb n 8) Review (cond (eqb n 9) EmptyPrefix (cond (eqb n 10) Kernel
    (cond (eqb n 11) File (cond (eqb n 12) FillingCount (cond (eqb n 13) Argument (cond (eqb n 14) Import Earlier)))))))))))))

pub named_back : (e : Refusal) → named (number e) ≡ e
named_back WeightCount = refl
named_back WeightBox = refl
named_back Sizes = refl
named_back Room = refl
named_back SlotCount = refl
named_back Rating = refl
named_back Day = refl
named_back Review = refl
named_back EmptyPrefix = refl
named_back Kernel = refl
named_back File = refl
named_back FillingCount = refl
named_back Argument = refl
named_back Import = refl
named_back Earlier = refl

pub same_refusal : (e f : Refusal) → number e ≡ number f → e ≡ f
same_refusal e f h = sym (named_back e) ∙ ap named h ∙ named_back f

pub never_0 : (e : Refusal) → number e ≡ 0 → ⊥
never_0 WeightCount h = subst T (sym (ap (eqb 0) h)) tt
never_0 WeightBox h = subst T (sym (ap (eqb 0) h)) tt
never_0 Sizes h = subst T (sym (ap (eqb 0) h)) tt
never_0 Room h = subst T (sym (ap (eqb 0) h)) tt
never_0 SlotCount h = subst T (sym (ap (eqb 0) h)) tt
never_0 Rating h = subst T (sym (ap (eqb 0) h)) tt
never_0 Day h = subst T (sym (ap (eqb 0) h)) tt
never_0 Review h = subst T (sym (ap (eqb 0) h)) tt
never_0 EmptyPrefix h = subst T (sym (ap (eqb 0) h)) tt
never_0 Kernel h = subst T (sym (ap (eqb 0) h)) tt
never_0 File h = subst T (sym (ap (eqb 0) h)) tt
never_0 FillingCount h = subst T (sym (ap (eqb 0) h)) tt
never_0 Argument h = subst T (sym (ap (eqb 0) h)) tt
never_0 Import h = subst T (sym (ap (eqb 0) h)) tt
never_0 Earlier h = subst T (sym (ap (eqb 0) h)) tt

-- two answers of the same number are one, if two values that are accepted are
pub same_answer : {A : Type 0} (r s : Result A Refusal) → number_of r ≡ number_of s → ((x y : A) → r ≡ Ok x → s ≡ Ok y → x ≡ y) → r ≡ s
same_answer (Ok x) (Ok y) n v = ap Ok (v x y refl refl)
same_answer (Ok x) (Err f) n v = absurd (never_0 f (sym n))
same_answer (Err e) (Ok y) n v = absurd (never_0 e n)
same_answer (Err e) (Err f) n v = ap Err (same_refusal e f n)

-- a weight set is taken in one way
pub taken_one : (w : List Float) (r s : Result Weights Refusal) → Taken w r → Taken w s → r ≡ s
taken_one w (Ok u) (Ok v) p q = λ i. Ok (record { values = (p.1 ∙ sym q.1) i })
taken_one w (Ok u) (Err f) p q = absurd (never_0 f (q ∙ p.0))
taken_one w (Err e) (Ok v) p q = absurd (never_0 e (p ∙ q.0))
taken_one w (Err e) (Err f) p q = ap Err (same_refusal e f (p ∙ sym q))
