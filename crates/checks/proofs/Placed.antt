-- A refusal with its place: which fault comes of the tests, each in its turn, and that its number is the call's refusal. Assumes nothing.
use Prim.Native.Nat.{ℕ}
use mathlib.Core.Bool.{Bool, true, false, cond}
use mathlib.Core.List.{List}
use mathlib.Core.Path.{◌≡◌, refl, sym, ap, ◌∙◌}
use borrow.Author.Tests.{ne_eqb}
use lib.Dec.{eqb}
use lib.Ieee.{Float}
use Rattle.checks.specs.Batch.{Prefixes, Cards}
use Rattle.checks.specs.Reads.{first}
use Rattle.checks.specs.Faults.{unplaced, or_else}
use Rattle.checks.specs.Refusals.{loss_refusal_def, grad_refusal_def}
use Rattle.checks.specs.Refusals.{prefix_loss_refusal_def, prefix_grad_refusal_def, card_loss_refusal_def, card_grad_refusal_def}
use Rattle.checks.specs.Refusals.{prefix_loss_fault, prefix_grad_fault, card_loss_fault_def, card_grad_fault}
use Rattle.checks.specs.Faults.{Fault, PlacedWhere, placed, fault_of, refusal_of}
use Rattle.checks.specs.declared.fault.Fault as found
use Rattle.checks.specs.declared.fault.Place.{Place}
use Rattle.domain.proofs.Refusals.{never_0}
use Rattle.domain.specs.Refusals.{number}
use Rattle.domain.specs.declared.refusal.Refusal.{Refusal}
use Rattle.std.specs.Prelude.{Result, Ok, Err, Option, Some, None}

-- m: the call's number if none of its cells are bad
pub refused : (e : Refusal) (m : ℕ) (f : Fault) → number e ≡ m → record { refusal = number e; column = 0; row = 0 } ≡ or_else (unplaced m) f
unfolding or_else unplaced
refused e m f h = rw (← h, ne_eqb _ 0 (never_0 e))

pub reached : (m : ℕ) (x f : Fault) → 0 ≡ m → x ≡ f → x ≡ or_else (unplaced m) f
unfolding or_else unplaced
reached m x f e u = rw (← e) u

pub told : {A : Type 0} (r : Result A found.Fault) (x : Fault) → fault_of r ≡ x → refusal_of r ≡ x.refusal
told r x h = told_by r ∙ ap (λ (y : Fault). y.refusal) h
  where
    told_at : (n : ℕ) (p : Option Place) → n ≡ (placed n p).refusal
    told_at n None = refl
    told_at n (Some p) = refl

    told_by : {A : Type 0} (r : Result A found.Fault) → refusal_of r ≡ (fault_of r).refusal
    told_by (Ok x) = refl
    told_by (Err e) = told_at (number e.refusal) e.place

-- no cell is read, or all are
pub unread : (e : Refusal) (m : ℕ) → number e ≡ m → false ≡ eqb m 0
unread e m h = rw (← h) (sym (ne_eqb _ 0 (never_0 e)))

pub read : {A : Type 0} (r : Result A found.Fault) (m : ℕ) → 0 ≡ m → PlacedWhere true r → PlacedWhere (eqb m 0) r
read r m h p = rw (← h) p

pub ruleset places = (unread, read)

pub ruleset tests = (refused, reached, told)

-- ---- its number
pick_number : (b : Bool) (x y : Fault) → (cond b x y).refusal ≡ cond b x.refusal y.refusal
pick_number true x y = refl
pick_number false x y = refl

else_number : (m : ℕ) (f : Fault) → (or_else (unplaced m) f).refusal ≡ first m f.refusal
unfolding or_else unplaced first
else_number m f = pick_number (eqb m 0) f _

first_twice : (a m k : ℕ) → first (first a m) k ≡ first a (first m k)
unfolding first
first_twice a m k = by_none (eqb a 0) refl where
  by_none : (t : Bool) → t ≡ eqb a 0 → cond (eqb (cond t m a) 0) k (cond t m a) ≡ cond t (cond (eqb m 0) k m) a
  by_none true e = refl
  by_none false e = rw (← e)

none_first : (k : ℕ) → first 0 k ≡ k
unfolding first
none_first k = refl

pub loss_number : (w : List Float) (sized : Bool) (f : Fault) → (or_else (unplaced (loss_refusal_def w sized 0)) f).refusal ≡ loss_refusal_def w sized f.refusal
unfolding loss_refusal_def
loss_number w sized f = rw (else_number _ f, first_twice, first_twice, none_first)

pub grad_number :
    (w : List Float) (slots sized room : Bool) (f : Fault) →
    (or_else (unplaced (grad_refusal_def w slots sized room 0)) f).refusal ≡ grad_refusal_def w slots sized room f.refusal
unfolding grad_refusal_def
grad_number w slots sized room f = rw (else_number _ f, first_twice, first_twice, first_twice, first_twice, none_first)

pub prefix_loss_number : (w : List Float) (x : Prefixes) → (prefix_loss_fault w x).refusal ≡ prefix_loss_refusal_def w x
unfolding prefix_loss_fault prefix_loss_refusal_def
prefix_loss_number w x = loss_number w _ _

pub prefix_grad_number : (w : List Float) (x : Prefixes) (slots records : ℕ) → (prefix_grad_fault w x slots records).refusal ≡ prefix_grad_refusal_def w x slots records
unfolding prefix_grad_fault prefix_grad_refusal_def
prefix_grad_number w x slots records = grad_number w _ _ _ _

pub card_loss_number : (w : List Float) (x : Cards) → (card_loss_fault_def w x).refusal ≡ card_loss_refusal_def w x
unfolding card_loss_fault_def card_loss_refusal_def
card_loss_number w x = loss_number w _ _

pub card_grad_number :
    (w : List Float) (x : Cards) (slots records step_grads : ℕ) → (card_grad_fault w x slots records step_grads).refusal ≡ card_grad_refusal_def w x slots records step_grads
unfolding card_grad_fault card_grad_refusal_def
card_grad_number w x slots records step_grads = grad_number w _ _ _ _
