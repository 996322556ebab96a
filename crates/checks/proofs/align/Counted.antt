-- What a review weight counts for in either mode, and what that depends on. Assumes nothing.
use Prim.Native.Nat.{ℕ, ◌<◌}
use mathlib.Core.Bool.{Bool, true, false, not, ◌||◌, cond}
use mathlib.Core.Path.{◌≡◌, refl, sym, ap, ◌∙◌}
use borrow.Author.Tests.{lt-ltb, le-ltb}
use native.Mathlib.Nat.{le_refl}
use lib.Ieee.{Float}
use Rattle.domain.specs.Limits.{zero32}
use Rattle.checks.specs.Align.{is_end_def, counts, weighed, target_read_def, target_weight_def}
use Rattle.checks.specs.Reads.{non_zero}
use Rattle.checks.specs.declared.align.Align.{Align}
use Rattle.checks.specs.declared.align.Align.TheVariants.{Start, End}

-- at the start every weight is its cell's, at the end a review's is, and padding weighs nothing
pub start_kept : (rating weight : Float) → weighed Start rating weight ≡ weight
unfolding weighed counts is_end_def
start_kept rating weight = refl

pub padding_weightless : (rating weight : Float) → non_zero rating ≡ false → weighed End rating weight ≡ zero32
unfolding weighed counts is_end_def
padding_weightless rating weight e = rw e

pub review_kept : (align : Align) (rating weight : Float) → non_zero rating ≡ true → weighed align rating weight ≡ weight
unfolding weighed counts is_end_def
review_kept Start rating weight e = refl
review_kept End rating weight e = rw e

-- a target's likewise, behind a review or behind padding alone
pub target_kept : (align : Align) (first n : ℕ) (weight : Float) → first < n → target_weight_def align first n weight ≡ weight
unfolding target_weight_def target_read_def is_end_def
target_kept Start first n weight l = refl
target_kept End first n weight l = rw (lt-ltb first n l)

pub target_weightless : (n : ℕ) (weight : Float) → target_weight_def End n n weight ≡ zero32
unfolding target_weight_def target_read_def is_end_def
target_weightless n weight = rw (le-ltb n n (le_refl n))

-- what counts hangs on the rating at the end alone, and a weight only where it counts
module _ (align : Align) (rating rating' : Float) (r : is_end_def align ≡ true → rating ≡ rating') where
  pub counts_same : counts align rating ≡ counts align rating'
  unfolding counts
  counts_same = go (is_end_def align) refl
    where
      go : (b : Bool) → b ≡ is_end_def align → not b || non_zero rating ≡ not b || non_zero rating'
      go true e = ap non_zero (r (sym e))
      go false e = refl

  pub weighed_same :
      (weight weight' : Float) → (counts align rating ≡ true → weight ≡ weight') → weighed align rating weight ≡ weighed align rating' weight'
  unfolding weighed
  weighed_same weight weight' h = go (counts align rating) refl ∙ (rw counts_same)
    where
      go : (b : Bool) → b ≡ counts align rating → cond b weight zero32 ≡ cond b weight' zero32
      go true e = h (sym e)
      go false e = refl

-- over a column
pub weights_same :
    (align : Align) (ratings ratings' weights weights' : ℕ → Float) → ratings ≡ ratings' → weights ≡ weights' →
    ◌≡◌ {A = ℕ → Float} (λ row. weighed align (ratings row) (weights row)) (λ row. weighed align (ratings' row) (weights' row))
weights_same align ratings ratings' weights weights' r w = λ i row. weighed align (r i row) (w i row)
