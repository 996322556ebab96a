use Rattle.std.proofs.Common.{[], ◌∙◌}
use Rattle.batch.proofs.words.Patterns.{word_past, word_in}
use Rattle.batch.proofs.words.word_at.Goals as goal

pub returns-in-Some : goal.returns-in-Some
returns-in-Some c =
    let a = c.in-Some.ensures.lookup.3 in
    let e = c.as_chunks.ensures in
    c.from_le_bytes.ensures ∙ word_in c.args.file.now _ _ c.args.k e.front a.0 e.front_len (a.1 [])

pub returns-in-None : goal.returns-in-None
returns-in-None c = word_past c.args.file.now c.args.k (rw c.as_chunks.ensures.front_len at c.in-None.ensures.lookup.3)
