use Rattle.table.proofs.Indices.{rule}
use Rattle.table.proofs.index.index_at.Goals as goal
use mathlib.Core.Path.{◌∙◌}
use native.Mathlib.Nat.{mod-lt}
use lib.Dec.{lit<}

pub returns : goal.returns
returns c = c.from.ensures ∙ rule _ (mod-lt c.args.k (lit< tt))
