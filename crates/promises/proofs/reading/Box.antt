-- One weight changed within the box. Assumes nothing.
use Prim.Native.Nat.{ℕ, zero, suc, ◌≤◌, ◌<◌}
use mathlib.Core.Bool.{Bool, true, false}
use mathlib.Core.List.{List}
use mathlib.Core.Path.{◌≡◌, refl, sym, subst}
use native.Mathlib.Nat.{le_refl, le_of_lt}
use borrow.Author.Tests.{eq-eqb, eqb-true, eqb-false}
use lib.Dec.{eqb}
use lib.Ieee.{Float, nan}
use lib.ListN.{length, length-set, set}
use lib.Seq.{get_or-set_same, get_or-set_other}
use Rattle.domain.specs.Weights.{◌!◌, in_box, all, weights_refusal_def}
use Rattle.domain.proofs.weights.Accepted.{accepted_length, accepted_box}
use Rattle.analytic_v6.proofs.cards.Entry.{halves}

module _ (w : List Float) (k : ℕ) (a : Float) (good : in_box k a ≡ true) where
  at_k : (n : ℕ) → n < length w → in_box n (w ! n) ≡ true → (b : Bool) → b ≡ eqb n k → in_box n (set w k a ! n) ≡ true
  at_k n l h true e =
      let same = eqb-true n k (sym e) in
      subst (λ (j : ℕ). in_box j (set w k a ! j) ≡ true) (sym same)
      (rw (get_or-set_same w k a nan (subst (λ (j : ℕ). j < length w) same l)) good)
  at_k n l h false e = rw (get_or-set_other w k n a nan (eqb-false n k (sym e))) h

  all_set : (n : ℕ) → n ≤ length w → all in_box n w ≡ true → all in_box n (set w k a) ≡ true
  unfolding all
  all_set zero l h = refl
  all_set (suc n) l h =
      let both = halves (all in_box n w) (in_box n (w ! n)) h in
      rw (all_set n (le_of_lt l) both.0, at_k n l both.1 (eqb n k) refl)

  pub still_boxed : weights_refusal_def w ≡ 0 → weights_refusal_def (set w k a) ≡ 0
  unfolding weights_refusal_def
  still_boxed z =
      let size = accepted_length w z in
      rw (length-set w k a, eq-eqb (length w) 21 size, all_set 21 (subst (λ (n : ℕ). 21 ≤ n) (sym size) (le_refl 21)) (accepted_box w z))

  -- the other weights stay
  pub others : (j : ℕ) → eqb j k ≡ false → w ! j ≡ set w k a ! j
  others j e = sym (get_or-set_other w k j a nan (eqb-false j k e))
