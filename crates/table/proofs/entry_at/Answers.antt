use Rattle.table.proofs.Entries.{rule, entry_end}
use Rattle.table.proofs.entry_at.Goals as goal
use mathlib.Core.Path.{sym}

pub returns-then-i-lt256 : goal.returns-then-i-lt256
returns-then-i-lt256 c = rule c.args.i c.if-i-lt256.true

pub returns-else-i-lt256 : goal.returns-else-i-lt256
returns-else-i-lt256 c = sym (entry_end c.args.i c.if-i-lt256.false)
