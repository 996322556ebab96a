-- What is easily mistaken: which rating is hard and which easy, that a number at an end was not held there, and what stood before the clamp of a padding. Assumes nothing.
use mathlib.Core.Path.{◌≡◌, refl}
use lib.Ieee.{Float, of_bits, lt, eq, le}
use Rattle.domain.specs.Limits.{decimal, two, three, four, s_min_def, s_max_def, d_min, d_max}
use Rattle.forward.specs.Step.{padding_def}
use Rattle.forward.specs.declared.state.State.{State}
use Rattle.explain.specs.Reasons.{success_reason_def, held_at}
use Rattle.explain.specs.Step.{is_padding_def, before_clamp_def}
use Rattle.explain.specs.declared.reasons.Held.TheVariants.{Free}
use Rattle.explain.specs.declared.reasons.Reason.TheVariants.{Success, SuccessHard, SuccessEasy}

-- 'plain, hard or easy'
successes : (success_reason_def two ≡ SuccessHard) × (success_reason_def three ≡ Success) × (success_reason_def four ≡ SuccessEasy)
unfolding success_reason_def eq of_bits
successes = (refl, refl, refl)

-- 'lay outside'
at_the_ends :
    (held_at s_min_def s_min_def s_max_def ≡ Free) × (held_at s_max_def s_min_def s_max_def ≡ Free) × (held_at d_min d_min d_max ≡ Free) × (held_at d_max d_min d_max ≡ Free)
unfolding held_at s_min_def s_max_def decimal of_bits lt eq le
at_the_ends = (refl, refl, refl, refl)

-- 'in padding, the given one'
pub padding_given : (q : State) (rating : Float) → before_clamp_def (padding_def q rating).step ≡ q
unfolding before_clamp_def is_padding_def padding_def
padding_given q rating = refl
