-- Tests one after the other: the first that fails gives the number. Assumes nothing.
use Prim.Native.Nat.{ℕ}
use mathlib.Core.Path.{◌≡◌, refl, ap, ◌∙◌}
use borrow.Author.Tests.{ne_eqb}
use Rattle.checks.specs.Reads.{first}
use Rattle.domain.proofs.Refusals.{never_0}
use Rattle.domain.specs.Refusals.{number, number_of}
use Rattle.std.specs.Result.{result_and}
use Rattle.std.specs.Prelude.{Result, Ok, Err}
use Rattle.domain.specs.declared.refusal.Refusal.{Refusal}

pub failed : (a b : ℕ) (e : Refusal) → number e ≡ a → number e ≡ first a b
unfolding first
failed a b e h = rw (← h, ne_eqb _ 0 (never_0 e))

pub passed : (a b n : ℕ) → 0 ≡ a → n ≡ b → n ≡ first a b
unfolding first
passed a b n z h = rw (← z) h

pub ruleset chain = (failed, passed)

and_first : {A : Type 0} (r s : Result A Refusal) → number_of (result_and r s) ≡ first (number_of r) (number_of s)
unfolding first
and_first (Ok x) s = refl
and_first (Err e) s = failed (number e) (number_of s) e refl

-- two tests, both made
pub both : {A : Type 0} (x r s : Result A Refusal) (a b : ℕ) → x ≡ result_and r s → number_of r ≡ a → number_of s ≡ b → number_of x ≡ first a b
both x r s a b h p q = ap number_of h ∙ (rw (← p, ← q) (and_first r s))
