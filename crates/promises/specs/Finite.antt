-- Change request K14, no silent NaN: 'in every accepted call, each state after a step has stability in [0.0001, 36500] and difficulty in [1, 10], each loss is finite, and no forward calculation
-- meets refusal 10.' For both kinds of loss call, with gradient and alone, in both padding modes. A state alone would not tell: a maximum and a comparison hide a NaN. So it is said besides of
-- every number that is worked, and of the list of kernel calls (laws/specs/KernelCalls.antt). What is not read may be anything; gradients are left out. Assumes nothing.
use Rattle.std.specs.Prelude.{ℕ, zero, suc, ◌-◌, ◌≤◌, ◌<◌, true, cond, List, [], ◌++◌, ◌≡◌, eqb, Float}
use Rattle.std.specs.Float.{binary32}
use Rattle.std.specs.Float.Ieee.{fits}
use Rattle.domain.specs.Doubles.{zero64}
use Rattle.domain.specs.Floats.{within, clamp_def}
use Rattle.domain.specs.Limits.{decimal, s_min_def, s_max_def}
use Rattle.domain.specs.Weights.{◌!◌}
use Rattle.checks.specs.Batch.{History, Prefixes, Cards, length_at, history, target_weight_at, label_at, weight_at_def}
use Rattle.checks.specs.Reads.{card_label}
use Rattle.forward.specs.Params.{params_def}
use Rattle.forward.specs.declared.parameters.RuntimeParams.{RuntimeParams}
use Rattle.forward.specs.declared.state.State.{State}
use Rattle.columns.specs.LastReview.{target_loss_def}
use Rattle.columns.specs.ForwardPass.{step_at, state_at, record_at, score_at_def}
use Rattle.analytic_v6.specs.Prefixes.{target_stability, prefix_loss_def, prefixes_total}
use Rattle.analytic_v6.specs.Cards.{card_length, last_row, last_number_def, last_stability, last_day_def, card_loss_def, cards_total}
use Rattle.laws.specs.KernelCalls.{KernelCall, NoneRefused, param_calls, step_calls, row_calls, target_calls}
use Rattle.laws.specs.Numbers.{Finite, FiniteRecord, FiniteParams}
use Rattle.promises.specs.CallReads.{Slice}
use Rattle.promises.specs.LossCalls.{Call, Kind, prefixes, cards}

-- 'stability in [0.0001, 36500] and difficulty in [1, 10]'
pub record Ranged (q : State) : Type 0 where
  pub stability : within q.s (decimal 1 10000) (decimal 36500 1) ≡ true
  pub difficulty : within q.d (decimal 1 1) (decimal 10 1) ≡ true

-- the weights and the cells are singles, as all that is lent as `f32` is
pub record Singles (K : Kind) (w : List Float) (x : K.Input) : Type 0 where
  pub weights : (k : ℕ) → fits binary32 (w ! k) ≡ true
  pub cells : (slice : Slice) (i : ℕ) → fits binary32 (K.slice x slice ! i) ≡ true

-- ---- the kernel calls of n rows of a column, and of the columns
module _ (p : RuntimeParams) (h : History) where
  unfoldable pub steps_calls : (rows : ℕ) → List KernelCall
  steps_calls zero = []
  steps_calls (suc row) = steps_calls row ++ step_calls p (state_at p h row) (h.day row) (h.rating row) (row - h.first)

  -- a card's rows are scored, at the retrievability of their records
  unfoldable pub scores_calls : (weight : ℕ → Float) (rows : ℕ) → List KernelCall
  scores_calls weight zero = []
  scores_calls weight (suc row) = scores_calls weight row ++ row_calls (row - h.first) (record_at p h row).retrievability (weight row)

unfoldable pub prefix_calls_def : (p : RuntimeParams) (x : Prefixes) (column : ℕ) → List KernelCall
prefix_calls_def p x column =
    steps_calls p (history x.table column) (length_at x.table column) ++ target_calls p (target_stability p x column) (x.days ! column) (target_weight_at x column)

-- a card's last row is scored where its label is read, at the clamped stability
module _ (p : RuntimeParams) (x : Cards) (column : ℕ) where
  abbrev pub last_weight : Float
  last_weight = weight_at_def x column (last_row p x column)

  abbrev pub last_curve : Float
  last_curve = clamp_def (last_stability p x column) s_min_def s_max_def

  unfoldable pub last_score : Float
  last_score =
      cond (card_label (last_number_def p x column) last_weight) (target_loss_def p last_curve (last_day_def p x column) (label_at x column (last_row p x column)) last_weight) zero64

  unfoldable pub card_calls_def : List KernelCall
  card_calls_def =
      let h = history x.table column in
      cond (eqb (card_length p x column) 0) []
      (steps_calls p h (last_row p x column) ++
      (scores_calls p h (weight_at_def x column) (last_row p x column) ++ cond (card_label (last_number_def p x column) last_weight) (target_calls p last_curve (last_day_def p x column) last_weight) []))

unfoldable pub columns_calls : (calls : ℕ → List KernelCall) (columns : ℕ) → List KernelCall
columns_calls calls zero = []
columns_calls calls (suc column) = columns_calls calls column ++ calls column

-- ---- what a kind works forward: the loss of a step's own score, of the review that ends a column, of a column, the total, and the kernel calls of a column
pub record Forward (K : Kind) : Type 1 where
  pub score : (p : RuntimeParams) (x : K.Input) (column row : ℕ) → Float
  pub end : (p : RuntimeParams) (x : K.Input) (column : ℕ) → Float
  pub column : (p : RuntimeParams) (x : K.Input) (column : ℕ) → Float
  pub total : (w : List Float) (x : K.Input) → Float
  pub calls : (p : RuntimeParams) (x : K.Input) (column : ℕ) → List KernelCall

-- no step of a prefix is scored
abbrev pub prefix_forward_def : Forward prefixes
prefix_forward_def = record {
  score = λ p x column row. zero64;
  end = prefix_loss_def;
  column = prefix_loss_def;
  total = prefixes_total;
  calls = prefix_calls_def;
}

abbrev pub card_forward_def : Forward cards
card_forward_def = record {
  score = λ p x column row. (score_at_def p (history x.table column) (label_at x column) (weight_at_def x column) row).loss;
  end = last_score;
  column = card_loss_def;
  total = cards_total;
  calls = card_calls_def;
}

-- ---- what is promised of one call's forward pass
module _ (K : Kind) (F : Forward K) (w : List Float) (x : K.Input) where
  abbrev params : RuntimeParams
  params = params_def w

  abbrev hist : ℕ → History
  hist column = history (K.table x) column

  -- P of each row that has a step, in each column
  abbrev Rows : (P : (column row : ℕ) → Type 0) → Type 0
  Rows P = (column row : ℕ) → column < (K.table x).columns → row < K.steps x column → P column row

  abbrev Columns : (P : (column : ℕ) → Type 0) → Type 0
  Columns P = (column : ℕ) → column < (K.table x).columns → P column

  pub record Sound : Type 0 where
    -- 'each state after a step', padding in front included; and what is carried on from it, which up to the first review is (0, 0)
    pub states : Rows (λ column row. Ranged (step_at params (hist column) (state_at params (hist column) row) row).state)
    pub carried : Rows (λ column row. (hist column).first ≤ row → Ranged (state_at params (hist column) (suc row)))
    -- every number of the records, and of what is worked out of the weights
    pub records : Rows (λ column row. FiniteRecord (record_at params (hist column) row))
    pub run_value : FiniteParams params
    -- 'each loss is finite': of each scored row and target, of each column, and the total
    pub scores : Rows (λ column row. Finite (F.score params x column row))
    pub ends : Columns (λ column. Finite (F.end params x column))
    pub columns : Columns (λ column. Finite (F.column params x column))
    pub total : Finite (F.total w x)
    -- 'no forward calculation meets refusal 10'
    pub kernels : NoneRefused (param_calls w ++ columns_calls (F.calls params x) (K.table x).columns)

pub record NoSilentNaN (K : Kind) (F : Forward K) : Type 0 where
  pub with_gradient : (c : Call K.Input) → Singles K c.w c.x → K.refusal c ≡ 0 → Sound K F c.w c.x
  pub alone : (w : List Float) (x : K.Input) → Singles K w x → K.alone_refusal w x ≡ 0 → Sound K F w x
  -- the answer's own loss, which is +0.0 where the call is refused
  pub answer : (c : Call K.Input) → Singles K c.w c.x → Finite (K.answer c).loss
  pub answer_alone : (w : List Float) (x : K.Input) → Singles K w x → Finite (K.alone w x).loss

abbrev pub NoSilentNaNs : Type 0
NoSilentNaNs = NoSilentNaN prefixes prefix_forward_def × NoSilentNaN cards card_forward_def
