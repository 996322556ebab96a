use Rattle.std.proofs.Common.{sym}
use Rattle.domain.proofs.weights.Tables.{defaults}
use Rattle.domain.proofs.defaults.default_weights.Goals as goal

pub returns : goal.returns
returns c = sym defaults
