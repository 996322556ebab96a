use Rattle.model_v6.specs.NextState.{first_state_def}
use Rattle.model_v6.proofs.formulas.state.first_state.Goals as goal

pub returns : goal.returns
unfolding first_state_def
returns c = cc
