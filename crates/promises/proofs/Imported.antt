-- Decks from SM-2: which retentions are refused, and what an accepted card is given. The laws stand in laws/proofs/Values/Imports.antt. Assumes nothing.
use mathlib.Core.Bool.{◌&&◌}
use lib.Ieee.Fits.{and_r}
use lib.Ieee.Scale.{finite}
use Rattle.soft.proofs.units.Value.{holds}
use Rattle.laws.proofs.Values.Imports.{fourteen, none_kept, all_kept, accepted_good}
use Rattle.promises.specs.Imported.{Imported}

pub imported : Imported
imported = record {
  none_kept = λ w e i r b g h. fourteen w e i r b g (none_kept w e i r (and_r (finite e && finite i) (finite r) g) h);
  all_kept = λ w e i r b k g h. fourteen w e i r b.boxed g (all_kept w e i r b.boxed (holds k) (and_r (finite e && finite i) (finite r) g) h);
  accepted = accepted_good;
}
