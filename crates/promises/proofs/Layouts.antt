-- Both losses over both layouts of the step records. Assumes nothing.
use Rattle.promises.specs.Layouts.{TwoLayouts}
use Rattle.promises.proofs.stepping.Prefix.{prefix_layouts}
use Rattle.promises.proofs.stepping.Card.{card_layouts}

pub two_layouts : TwoLayouts
two_layouts = (prefix_layouts, card_layouts)
