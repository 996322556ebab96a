-- Demand 3, for both kinds of loss call. Assumes nothing.
use Rattle.promises.specs.Frozen.{Demand3}
use Rattle.promises.proofs.reading.Prefix.{prefixes_frozen}
use Rattle.promises.proofs.reading.Card.{cards_frozen}

pub demand3 : Demand3
demand3 = (prefixes_frozen, cards_frozen)
