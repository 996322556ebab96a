use Rattle.std.proofs.Common.{rules}
use Rattle.domain.proofs.weights.Copy.{first_copied}
use Rattle.domain.proofs.weights.copy_weights.Goals as goal

pub returns : goal.returns
returns c = first_copied c.args.w.now _ c.copy_from_slice.new.self c.min-n.ensures (search rules)
