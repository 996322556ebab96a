-- A number at or above an end is not below it. Assumes nothing.
use Rattle.std.proofs.Common.{◌≡◌, true, false}
use Rattle.std.proofs.lemmas.Bool.{false_from_ne_true}
use Rattle.std.proofs.lemmas.Float.{T_from_true, lt_irrefl, lt_of_lt_of_le}
use Rattle.std.specs.Prelude.{Float}
use Rattle.std.specs.Float.Ieee.{lt, le}

pub not_below : (x y : Float) → le y x ≡ true → lt x y ≡ false
not_below x y h =
    false_from_ne_true (lt x y) (λ k. lt_irrefl x (lt_of_lt_of_le x y x (T_from_true (lt x y) k) (T_from_true (le y x) h)))
