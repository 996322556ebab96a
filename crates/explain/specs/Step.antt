-- Change request K7: one training step, explained. 'Refusals: those of the step'. Assumes nothing.
use Rattle.std.specs.Prelude.{ℕ, Bool, true, false, cond, List, eqb, Float}
use Rattle.domain.specs.Limits.{s_min_def, s_max_def, d_min, d_max}
use Rattle.forward.specs.declared.state.Branch.{Branch}
use Rattle.forward.specs.declared.state.Branch.TheVariants.{Padding as PaddingBranch, First as FirstBranch, SameDay, Lapse, Success as SuccessBranch}
use Rattle.forward.specs.declared.state.State.{State}
use Rattle.forward.specs.declared.state.StepRecord.{StepRecord}
use Rattle.analytic_v6.specs.Step.{step_refusal_def, stepped}
use Rattle.explain.specs.Reasons.{reason_of_def, held_at}
use Rattle.explain.specs.declared.reasons.Held.TheVariants.{Free}
use Rattle.explain.specs.declared.reasons.Reason.TheVariants.{Padding}
use Rattle.explain.specs.Results.{Explained}

unfoldable pub is_padding_def : Branch → Bool
is_padding_def PaddingBranch = true
is_padding_def (FirstBranch number) = false
is_padding_def (SameDay raw value active) = false
is_padding_def (Lapse raw floor floored) = false
is_padding_def SuccessBranch = false

-- 'the value before the last clamp (in padding, the given one)'
unfoldable pub before_clamp_def : StepRecord → State
before_clamp_def c = cond (is_padding_def c.branch) c.state (record { s = c.pre_s; d = c.pre_d })

unfoldable pub explained : StepRecord → Explained
explained c =
    let before = before_clamp_def c in
    record {
      refusal = 0;
      reason = reason_of_def c.branch c.rating;
      stability = held_at before.s s_min_def s_max_def;
      difficulty = held_at before.d d_min d_max;
    }

-- 'A refusal gives +0.0 in every number of its answer': here the numbers are 0
unfoldable pub unexplained : (n : ℕ) → Explained
unexplained n = record { refusal = n; reason = Padding; stability = Free; difficulty = Free }

unfoldable pub explain_def : List Float → (q : State) (day rating : Float) (row : ℕ) → Explained
explain_def w q day rating row =
    let n = step_refusal_def w true q day rating row in
    cond (eqb n 0) (explained (stepped w q day rating row).step) (unexplained n)
