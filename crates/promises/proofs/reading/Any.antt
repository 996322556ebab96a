-- What follows for either kind: the statement is symmetric, and a weight that no column reads is free. Assumes nothing.
use Prim.Native.Nat.{ℕ}
use mathlib.Core.Bool.{true, false}
use mathlib.Core.Path.{◌≡◌, refl, sym, ap, ◌∙◌, subst}
use borrow.Author.Tests.{eq-eqb, ne_eqb}
use lib.Dec.{T, eqb, ltb}
use lib.Ieee.{Float}
use Rattle.domain.specs.Weights.{◌!◌, in_box, weights_refusal_def}
use Rattle.forward.proofs.Agreement.{by_cases}
use Rattle.analytic_v6.specs.Answers.{answer}
use Rattle.promises.specs.CallReads.{Slice, call_reads}
use Rattle.promises.specs.LossCalls.{Call, Kind}
use Rattle.promises.specs.Frozen.{SameInputs, Alike, weight_read, may_move, with_weight}
use Rattle.promises.proofs.reading.Box.{still_boxed, others}
use Rattle.promises.proofs.reading.Steps.{SameSteps, steps_read_same, moves_none}

-- of an answer the loss counts where the call is accepted
pub answer_same : (refusal : ℕ) (a b : Float) → (eqb refusal 0 ≡ true → a ≡ b) → answer refusal a ≡ answer refusal b
unfolding answer
answer_same refusal a b h = ap (λ (x : Float). record { refusal = refusal; loss = x }) (by_cases (eqb refusal 0) _ _ _ _ h (λ e. refl))

module _ (K : Kind) where
  -- ---- the second call reads what the first does
  module _ (cells : (x y : K.Input) → SameInputs K x y → (s : Slice) (row column : ℕ) → K.reads x s row column ≡ K.reads y s row column) where
    pub turned_inputs : (x y : K.Input) → SameInputs K x y → SameInputs K y x
    turned_inputs x y h =
        record {
          modes = sym h.modes;
          rows = sym h.rows;
          columns = sym h.columns;
          counts = sym h.counts;
          sizes = λ s. sym (h.sizes s);
          lengths = λ column l. sym (h.lengths column (subst (λ (n : ℕ). ltb column n ≡ true) (sym h.columns) l));
          cells = λ s row column e. sym (h.cells s row column (cells x y h s row column ∙ e));
        }

    module _ (steps : (x y : K.Input) → SameInputs K x y → SameSteps (K.table x) (K.table y) (K.steps x) (K.steps y))
        (refusals : (c d : Call K.Input) → Alike K c d → K.refusal c ≡ K.refusal d) where
      pub weights_read : (c d : Call K.Input) → Alike K c d → (k : ℕ) → weight_read K c k ≡ weight_read K d k
      unfolding call_reads
      weights_read c d h k = rw (refusals c d h, steps_read_same _ _ _ _ (steps c.x d.x h.inputs) k)

      pub turned : (c d : Call K.Input) → Alike K c d → Alike K d c
      turned c d h =
          record {
            inputs = turned_inputs c.x d.x h.inputs;
            weights = record { boxed = (h.weights.boxed.1, h.weights.boxed.0); weights = λ k e. sym (h.weights.weights k (weights_read c d h k ∙ e)) };
            room = (h.room.1, h.room.0);
            gradients = sym h.gradients;
          }

  -- ---- a weight that no column reads
  module _ (outcome : (c d : Call K.Input) → Alike K c d → (K.answer c ≡ K.answer d) × (K.slots c ≡ K.slots d))
      (kept : (c : Call K.Input) (k : ℕ) → K.refusal c ≡ 0 → may_move K c k ≡ false → K.slots c ! k ≡ c.gw ! k)
      (passed : (c : Call K.Input) → K.refusal c ≡ 0 → (weights_refusal_def c.w ≡ 0) × (K.room c ≡ true))
      (room : (c : Call K.Input) (k : ℕ) (a : Float) → K.room (with_weight K c k a) ≡ K.room c)
      (c : Call K.Input) (k : ℕ) (accepted : K.refusal c ≡ 0) (unread : weight_read K c k ≡ false) where
    other : (j : ℕ) → weight_read K c j ≡ true → eqb j k ≡ false
    other j e = ne_eqb j k (λ same. absurd (subst T (sym e ∙ ap (weight_read K c) same ∙ unread) tt))

    alike : (a : Float) → in_box k a ≡ true → Alike K c (with_weight K c k a)
    alike a good =
        record {
          inputs = record {
            modes = refl;
            rows = refl;
            columns = refl;
            counts = refl;
            sizes = λ s. refl;
            lengths = λ column l. refl;
            cells = λ s row column e. refl;
          };
          weights = record { boxed = ((passed c accepted).0, still_boxed c.w k a good (passed c accepted).0); weights = λ j e. others c.w k a good j (other j e) };
          room = ((passed c accepted).1, room c k a ∙ (passed c accepted).1);
          gradients = refl;
        }

    pub free : ((a : Float) → in_box k a ≡ true → (K.answer (with_weight K c k a) ≡ K.answer c) × (K.slots (with_weight K c k a) ≡ K.slots c)) × (K.slots c ! k ≡ c.gw ! k)
    free = (
      λ a good. let e = outcome c (with_weight K c k a) (alike a good) in (sym e.0, sym e.1),
      kept c k accepted (moves_none (K.table c.x) (K.steps c.x) (K.refusal c) (eq-eqb _ 0 accepted) c.w (K.scored c.x) k unread),
    )
