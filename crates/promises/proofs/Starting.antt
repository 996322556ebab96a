-- A starting stability from first recalls: the laws stand beside the definition (parameter_initialization/proofs/Range.antt, Entry.antt). Assumes nothing.
use Rattle.parameter_initialization.specs.Search.{init_s_max_def}
use Rattle.parameter_initialization.proofs.Entry.{answer_inside, no_rows}
use Rattle.promises.specs.Starting.{Starting}

pub starting : Starting
unfolding init_s_max_def
starting = record { in_range = answer_inside; no_rows = no_rows }
