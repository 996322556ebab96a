-- The search for the first fault: none in the first places, one more place without one, and the place that has it. Assumes nothing.
use Prim.Native.Nat.{ℕ, zero, suc, ◌+◌, ◌<◌}
use mathlib.Core.Path.{◌≡◌, refl, sym, ap, ◌∙◌, subst}
use native.Mathlib.Nat.{add-sub_of_le, add-zero, add-suc}
use native.Mathlib.Numerals.{add-one}
use borrow.Author.Tests.{ne_eqb}
use Rattle.checks.specs.Faults.{Fault, no_fault_def, or_else, first_fault_def, fault_at_def, rows_fault, placed}
use Rattle.checks.specs.declared.fault.Place.{Place}
use Rattle.domain.proofs.Refusals.{never_0}
use Rattle.domain.specs.Refusals.{number}
use Rattle.domain.specs.declared.refusal.Refusal.{Refusal}
use Rattle.std.specs.Prelude.{Option, Some, None}

abbrev pub none : Fault
none = record { refusal = 0; column = 0; row = 0 }

-- a refusal is a fault, wherever it is
refusal_placed : (n : ℕ) (p : Option Place) → (placed n p).refusal ≡ n
refusal_placed n None = refl
refusal_placed n (Some p) = refl

pub is_found : (e : Refusal) (p : Option Place) (x : Fault) → placed (number e) p ≡ x → x.refusal ≡ 0 → ⊥
is_found e p x h z = never_0 e (sym (refusal_placed (number e) p) ∙ ap (λ (y : Fault). y.refusal) h ∙ z)

pub failed : (e : Refusal) (p : Option Place) (a b : Fault) → placed (number e) p ≡ a → placed (number e) p ≡ or_else a b
unfolding or_else
failed e p a b h = rw (ne_eqb _ 0 (is_found e p a h)) h

pub passed : (x a b : Fault) → none ≡ a → x ≡ b → x ≡ or_else a b
unfolding or_else
passed x a b z h = rw (← z) h

pub ruleset chain = (failed, passed)

module _ (f : ℕ → Fault) where
  pub none_yet : none ≡ first_fault_def f 0
  unfolding first_fault_def no_fault_def
  none_yet = refl

  next : (k : ℕ) → none ≡ first_fault_def f k → f k ≡ first_fault_def f (suc k)
  unfolding first_fault_def
  next k e = passed (f k) _ (f k) e refl

  pub none_more : (k : ℕ) → none ≡ first_fault_def f k → none ≡ f k → none ≡ first_fault_def f (k + 1)
  none_more k e h = rw (add-one k) (h ∙ next k e)

  stays : (k d : ℕ) (e : Refusal) (p : Option Place) → placed (number e) p ≡ first_fault_def f (suc k) → placed (number e) p ≡ first_fault_def f (suc k + d)
  unfolding first_fault_def
  stays k zero e p h = rw (add-zero (suc k)) h
  stays k (suc d) e p h = rw (add-suc (suc k) d) (failed e p (first_fault_def f (suc k + d)) (f (suc k + d)) (stays k d e p h))

  pub found_at :
      (k n : ℕ) (e : Refusal) (p : Option Place) → k < n → none ≡ first_fault_def f k → placed (number e) p ≡ f k → placed (number e) p ≡ first_fault_def f n
  found_at k n e p l z h = subst (λ (m : ℕ). placed (number e) p ≡ first_fault_def f m) (add-sub_of_le l) (stays k _ e p (h ∙ next k z))

pub ruleset search = (none_yet, none_more, found_at)

-- a cell's test
pub at_none : (n column row : ℕ) → n ≡ 0 → none ≡ fault_at_def n column row
unfolding fault_at_def no_fault_def
at_none n column row e = rw e

pub at_cell : (e : Refusal) (n column row : ℕ) → number e ≡ n → record { refusal = number e; column = column; row = row } ≡ fault_at_def n column row
unfolding fault_at_def
at_cell e n column row h = rw (← h, ne_eqb _ 0 (never_0 e))

pub ruleset cell = (at_none, at_cell)

-- rows: m is the number that the test of row k gives
module _ (bad : ℕ → ℕ) (column : ℕ) where
  pub rows_none : none ≡ rows_fault bad column 0
  unfolding rows_fault
  rows_none = none_yet _

  pub rows_more : (k m : ℕ) → none ≡ rows_fault bad column k → m ≡ bad k → none ≡ fault_at_def m column k → none ≡ rows_fault bad column (k + 1)
  unfolding rows_fault
  rows_more k m z e h = none_more (λ row. fault_at_def (bad row) column row) k z (rw (← e) h)

  pub rows_found :
      (k m n : ℕ) (e : Refusal) (p : Option Place) → k < n → none ≡ rows_fault bad column k → m ≡ bad k → placed (number e) p ≡ fault_at_def m column k →
      placed (number e) p ≡ rows_fault bad column n
  unfolding rows_fault
  rows_found k m n e p l z d h = found_at (λ row. fault_at_def (bad row) column row) k n e p l z (rw (← d) h)

pub ruleset rows = (rows_none, rows_more, rows_found)
