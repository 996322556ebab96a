-- An outcome, and what a call leaves of its parameters, part by part. Assumes nothing.
use mathlib.Core.Path.{◌≡◌, refl}
use denote.Ref.{MutBor, at_last}

infixr 30 ◌⨾◌
-- the first part, then the others
pub ◌⨾◌ : {A B : Type 0} {o : A × B} {x : A} {xs : B} → o.0 ≡ x → o.1 ≡ xs → o ≡ (x, xs)
◌⨾◌ p q i = (p i, q i)

-- a parameter that lends nothing by `&mut`; also the answer of a function that returns nothing
pub none : {o : Unit {0}} → o ≡ tt
none = refl

-- after the last parameter
pub end : {o : Unit {0}} → o ≡ tt
end = refl

-- a parameter that the call could not change, and one with a final content that is what it was
pub still : {A : Type 0} {x : A} → x ≡ x
still = refl

pub back : {X : Type 0} {x : MutBor X} {w : X} → w ≡ x.now → at_last x w ≡ x
back {x = x} p i = at_last x (p i)
