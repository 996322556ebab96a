use Rattle.model_v6.proofs.filling.Lists.{stores_17}
use Rattle.model_v6.proofs.filling.filled_17.Goals as goal

pub returns : goal.returns
returns c =
    rw (c.copy_weights-w.ensures, c.fma_f32.ensures, c.ln.ensures, c.fma_f32-2.ensures)
    (stores_17 _ c.requires)
