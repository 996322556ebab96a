-- What the functions for one training step and its reverse give. Assumes nothing.
use Rattle.std.specs.Prelude.{ℕ, ◌≡◌, List, Float, length}
use Rattle.forward.specs.declared.state.State.{State}
use Rattle.analytic_v6.specs.Step.{training_step_def, training_reverse, reverse_slots_def}
use Rattle.fsrs6.specs.Places.{written}
use Rattle.fsrs6.specs.Numbers.{recorded}

module _ (w : List Float) (stability difficulty day rating : Float) (row : ℕ) where
  abbrev pub given : State
  given = record { s = stability; d = difficulty }

  abbrev pub GivesStep : (n : ℕ) (s s-exit d d-exit : Float) (numbers numbers-exit : List Float) → Type 0
  GivesStep n s s-exit d d-exit numbers numbers-exit =
      let a = training_step_def w given day rating row in
      (n ≡ a.refusal) ×
      (s-exit ≡ written a.refusal a.state.s s) ×
      (d-exit ≡ written a.refusal a.state.d d) ×
      (numbers-exit ≡ recorded a.refusal a.step numbers)

  abbrev pub GivesReverse : (g-s g-d g-r : Float) (n : ℕ) (gw gw-exit : List Float) (s s-exit d d-exit : Float) → Type 0
  GivesReverse g-s g-d g-r n gw gw-exit s s-exit d d-exit =
      let a = training_reverse w given day rating row g-s g-d g-r (length gw) in
      (n ≡ a.refusal) ×
      (gw-exit ≡ reverse_slots_def w given day rating row g-s g-d g-r gw) ×
      (s-exit ≡ written a.refusal a.grad.s s) ×
      (d-exit ≡ written a.refusal a.grad.d d)
