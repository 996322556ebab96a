use Rattle.model_v6.proofs.filling.Lists.{stores_19}
use Rattle.model_v6.proofs.filling.filled_19.Goals as goal

pub returns : goal.returns
returns c = rw c.copy_weights-w.ensures (stores_19 _ c.requires)
