use Rattle.std.proofs.Common.{◌≡◌, ℕ, ◌+◌, ◌<◌, length, get_or}
use Rattle.batch.specs.Words.{word_at_def}
use Rattle.batch.proofs.words.fill.Given as goal

abbrev pub invariant-loop-i : goal.invariant-loop-i
invariant-loop-i g l = (length l.xs ≡ length l.initial.xs) × ((i : ℕ) (d : _) → i < l.i → get_or l.xs i d ≡ g.E.Entry.of_word (word_at_def l.file (l.from + i)))
