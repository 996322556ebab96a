-- A fault is settled by its three numbers and by where it has a place. Assumes nothing.
use Prim.Native.Nat.{ℕ}
use mathlib.Core.Bool.{Bool}
use mathlib.Core.Path.{◌≡◌, refl, sym, ◌∙◌, subst}
use lib.Dec.{T}
use Rattle.checks.specs.Faults.{PlacedWhere, placed, fault_of}
use Rattle.checks.specs.declared.fault.Fault as found
use Rattle.checks.specs.declared.fault.Place.{Place}
use Rattle.checks.proofs.Placed.{told}
use Rattle.domain.proofs.Refusals.{never_0, same_refusal}
use Rattle.std.specs.Prelude.{Result, Ok, Err, Option, Some, None, is_some}

same_place : (n m : ℕ) (p q : Option Place) → is_some p ≡ is_some q → placed n p ≡ placed m q → p ≡ q
same_place n m None None b h = refl
same_place n m None (Some q) b h = absurd (subst T (sym b) tt)
same_place n m (Some p) None b h = absurd (subst T b tt)
same_place n m (Some p) (Some q) b h = λ i. Some (record { column = (h i).column; row = (h i).row })

pub same_fault : (b : Bool) (r s : Result (Unit {0}) found.Fault) → fault_of r ≡ fault_of s → PlacedWhere b r → PlacedWhere b s → r ≡ s
same_fault b (Ok x) (Ok y) h p q = refl
same_fault b (Ok x) (Err f) h p q = absurd (never_0 f.refusal (told {A = Unit {0}} (Err f) _ (sym h)))
same_fault b (Err e) (Ok y) h p q = absurd (never_0 e.refusal (told {A = Unit {0}} (Err e) _ h))
same_fault b (Err e) (Err f) h p q =
    let n = told {A = Unit {0}} (Err e) _ h ∙ sym (told {A = Unit {0}} (Err f) _ refl) in
    let place = same_place _ _ e.place f.place (p ∙ sym q) h in
    λ i. Err (record { refusal = same_refusal e.refusal f.refusal n i; place = place i })
