-- Change request K5's promises hold. Assumes nothing.
use Rattle.promises.specs.Aligned.{Aligned}
use Rattle.promises.proofs.shifting.Prefix.{prefix_loss, prefix_slots, padding_loss, padding_slots}
use Rattle.promises.proofs.shifting.Card.{card_loss, card_slots}
use Rattle.promises.proofs.shifting.Whole.{prefix_calls, card_calls}
use Rattle.promises.proofs.shifting.PrefixModes.{prefix_modes}
use Rattle.promises.proofs.shifting.CardModes.{card_modes}

pub aligned : Aligned
aligned =
    record {
      prefix = λ p x y column s. (prefix_loss x y column s p, prefix_slots x y column s p);
      card = λ p x y column s. (card_loss x y column s p, card_slots x y column s p);
      all_padding = λ p x column e all. (padding_loss p x column e all, padding_slots p x column e all);
      prefix_calls = prefix_calls;
      card_calls = card_calls;
      prefix_modes = prefix_modes;
      card_modes = card_modes;
    }
