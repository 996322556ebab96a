-- No silent NaN: from what an accepted call has of its cells, down the columns and over them. The laws stand in laws/proofs/Ranges. Assumes nothing.
use Prim.Native.Nat.{ℕ, zero, suc, ◌-◌, ◌*◌, ◌≤◌, ◌<◌}
use mathlib.Core.Bool.{Bool, true, false, ◌&&◌, cond, true≢false}
use mathlib.Core.List.{List, [], ◌++◌}
use mathlib.Core.Path.{◌≡◌, refl, sym, ◌∙◌, subst}
use native.Mathlib.Nat.{le_trans, le-suc, lt_of_lt_of_le, lt-suc_self, mul-le-mul}
use native.Mathlib.Omega.{arith}
use borrow.Author.Tests.{eqb-true, leb-true}
use lib.Dec.{T, eqb, leb, lit≤}
use lib.Ieee.{Float, binary32, of_bits, fits}
use lib.Ieee.Bits.{is_true}
use lib.ListN.{length}
use Rattle.std.proofs.lemmas.Bool.{and_parts}
use Rattle.soft.proofs.units.Value.{holds}
use Rattle.domain.specs.Doubles.{zero64}
use Rattle.domain.specs.Floats.{within}
use Rattle.domain.specs.Limits.{decimal, s_min_def, s_max_def, d_min, d_max}
use Rattle.domain.specs.Weights.{◌!◌, weights_refusal_def}
use Rattle.checks.specs.Batch.{History, Prefixes, Cards, length_at, history, label_at, weight_at_def}
use Rattle.checks.specs.Faults.{prefix_fault_def, card_fault_def}
use Rattle.checks.specs.Reads.{later, card_label}
use Rattle.checks.specs.Refusals.{prefixes_sized, cards_sized, prefix_loss_refusal_def, prefix_grad_refusal_def, card_loss_refusal_def, card_grad_refusal_def}
use Rattle.checks.specs.Sizes.{max_rows, max_columns, table_sized_def, prefix_sized_def, card_sized_def}
use Rattle.checks.proofs.Orders.{loss_accepted, alone_accepted}
use Rattle.forward.specs.Params.{params_def}
use Rattle.forward.specs.declared.parameters.RuntimeParams.{RuntimeParams}
use Rattle.forward.specs.declared.state.State.{State}
use Rattle.columns.specs.LastReview.{target_loss_def}
use Rattle.columns.specs.ForwardPass.{step_at, state_at, record_at, score_at_def}
use Rattle.analytic_v6.specs.Answers.{answer}
use Rattle.analytic_v6.specs.Prefixes.{prefix_loss_def, prefixes_total, batch_loss_and_grad_def, batch_loss_def}
use Rattle.analytic_v6.specs.Cards.{card_length, last_row, last_number_def, last_day_def, card_loss_def, cards_total, cards_loss_and_grad, cards_loss}
use Rattle.laws.specs.KernelCalls.{KernelCall, NoneRefused, param_calls, step_calls, row_calls, target_calls}
use Rattle.laws.specs.Numbers.{Finite}
use Rattle.laws.proofs.Values.Sizes.{size_finite}
use Rattle.laws.proofs.Ranges.Accepted.{none_append}
use Rattle.laws.proofs.Ranges.States.{Inside}
use Rattle.laws.proofs.Ranges.Params.{params_finite, params_called}
use Rattle.laws.proofs.Ranges.Steps.{Worked}
use Rattle.laws.proofs.Ranges.Sums.{most_finite}
use Rattle.laws.proofs.Ranges.Reads.{ReadRow, prefix_row}
use Rattle.laws.proofs.Ranges.Columns.{worked_at, inside_at, score_at, called_at}
use Rattle.laws.proofs.Ranges.Losses.{prefix_size, prefix_end_called, prefixes_most, card_steps, card_scores, card_cells, last_size, last_called, card_number, cards_most}
use Rattle.promises.specs.CallReads.{ratings}
use Rattle.promises.specs.LossCalls.{Call, prefix_slice, card_slice, prefixes, cards}
use Rattle.promises.specs.Finite.{Ranged, Singles, steps_calls, scores_calls, prefix_calls_def, last_weight, last_curve, last_score, card_calls_def, columns_calls, prefix_forward_def, card_forward_def, Sound, NoSilentNaN, NoSilentNaNs}

-- ---- ranges
ends : (d_min ≡ decimal 1 1) × (d_max ≡ decimal 10 1)
unfolding decimal of_bits
ends = (refl, refl)

ranged : (q : State) → Inside q → Ranged q
unfolding s_min_def s_max_def
ranged q i = record {
  stability = is_true (within q.s s_min_def s_max_def) i.stability;
  difficulty =
      is_true (within q.d (decimal 1 1) (decimal 10 1))
      (subst (λ (x : Float). T (within q.d x (decimal 10 1))) ends.0 (subst (λ (x : Float). T (within q.d d_min x)) ends.1 i.difficulty));
}

-- ---- 8,192 rows and 512 columns, of which no more are accepted, have 2 ^ 22 cells
cells_few : (a b rows columns c : ℕ) → table_sized_def a b rows columns c ≡ true → (rows ≤ 8192) × (columns ≤ 512)
unfolding table_sized_def
cells_few a b rows columns c e =
    let both = and_parts (leb rows max_rows && leb columns max_columns) _ e in
    let each = and_parts (leb rows max_rows) (leb columns max_columns) both.0 in
    (le_trans (leb-true rows max_rows each.0) (lit≤ tt), le_trans (leb-true columns max_columns each.1) (lit≤ tt))

-- ---- the calls of rows, and of columns
module _ (w : List Float) (singles : (k : ℕ) → T (fits binary32 (w ! k))) (box : weights_refusal_def w ≡ 0) (h : History) where
  abbrev p : RuntimeParams
  p = params_def w

  steps_called : (n : ℕ) → ((row : ℕ) → row < n → NoneRefused (step_calls p (state_at p h row) (h.day row) (h.rating row) (row - h.first))) → NoneRefused (steps_calls p h n)
  unfolding steps_calls
  steps_called zero c = tt
  steps_called (suc n) c = none_append (steps_calls p h n) _ (steps_called n (λ row l. c row (lt_of_lt_of_le l (le-suc n)))) (c n (lt-suc_self n))

  scores_called : (weight : ℕ → Float) (n : ℕ) → ((row : ℕ) → row < n → NoneRefused (row_calls (row - h.first) (record_at p h row).retrievability (weight row))) → NoneRefused (scores_calls p h weight n)
  unfolding scores_calls
  scores_called weight zero c = tt
  scores_called weight (suc n) c = none_append (scores_calls p h weight n) _ (scores_called weight n (λ row l. c row (lt_of_lt_of_le l (le-suc n)))) (c n (lt-suc_self n))

columns_called : (calls : ℕ → List KernelCall) (n : ℕ) → ((column : ℕ) → column < n → NoneRefused (calls column)) → NoneRefused (columns_calls calls n)
unfolding columns_calls
columns_called calls zero c = tt
columns_called calls (suc n) c = none_append (columns_calls calls n) (calls n) (columns_called calls n (λ column l. c column (lt_of_lt_of_le l (le-suc n)))) (c n (lt-suc_self n))

cond_called : (b : Bool) (cs : List KernelCall) → (b ≡ true → NoneRefused cs) → NoneRefused (cond b cs [])
cond_called true cs h = h refl
cond_called false cs h = tt

unless_called : (b : Bool) (cs : List KernelCall) → NoneRefused cs → NoneRefused (cond b [] cs)
unless_called true cs h = tt
unless_called false cs h = h

cond_finite : (b : Bool) (y : Float) → (b ≡ true → Finite y) → Finite (cond b y zero64)
unfolding of_bits
cond_finite true y h = h refl
cond_finite false y h = tt

-- a card with no row scores nothing: its last row is numbered 0
none_scored : (row : ℕ) (weight : Float) → row ≡ 0 → card_label row weight ≡ false
unfolding card_label later
none_scored row weight e = rw e

some_row : (n first : ℕ) (weight : Float) → card_label (n - 1 - first) weight ≡ true → 0 < n
some_row zero first weight c = absurd (true≢false (sym c ∙ none_scored (zero - 1 - first) weight (omega arith)))
some_row (suc n) first weight c = omega arith

-- ---- prefixes
module _ (w : List Float) (x : Prefixes) (s : Singles prefixes w x) (box : weights_refusal_def w ≡ 0) (sized : prefixes_sized x ≡ true) (clear : (prefix_fault_def x).refusal ≡ 0) where
  own : (k : ℕ) → T (fits binary32 (w ! k))
  own k = holds (s.weights k)

  rated : (i : ℕ) → T (fits binary32 (x.table.ratings ! i))
  unfolding prefix_slice
  rated i = holds (s.cells ratings i)

  abbrev past : ℕ → History
  past column = history x.table column

  worked : (column row : ℕ) → column < x.table.columns → row < length_at x.table column →
      Worked (step_at (params_def w) (past column) (state_at (params_def w) (past column) row) row)
      (step_calls (params_def w) (state_at (params_def w) (past column) row) ((past column).day row) ((past column).rating row) (row - (past column).first))
  worked column row l m = worked_at w own box (past column) (length_at x.table column) (λ i. rated _) (prefix_row x column l clear) row m

  few : (x.table.rows ≤ 8192) × (x.table.columns ≤ 512)
  unfolding prefix_sized_def
  few = cells_few _ _ _ _ _ (and_parts (table_sized_def (length x.table.days) (length x.table.ratings) x.table.rows x.table.columns (length x.table.lengths)) _ sized).0

  prefix_called : (column : ℕ) → column < x.table.columns → NoneRefused (prefix_calls_def (params_def w) x column)
  unfolding prefix_calls_def
  prefix_called column l =
      none_append (steps_calls (params_def w) (past column) (length_at x.table column)) _
      (steps_called w own box (past column) (length_at x.table column) (λ row m. (worked column row l m).called)) (prefix_end_called w own box x rated clear column l)

  prefix_sound : Sound prefixes prefix_forward_def w x
  unfolding record_at of_bits
  prefix_sound = record {
    states = λ column row l m. ranged _ (worked column row l m).inside;
    carried = λ column row l m f. ranged _ (inside_at w own box (past column) (length_at x.table column) (λ i. rated _) (prefix_row x column l clear) row m f);
    records = λ column row l m. (worked column row l m).numbers;
    run_value = params_finite w box;
    scores = λ column row l m. tt;
    ends = λ column l. size_finite 27 (prefix_loss_def (params_def w) x column) (prefix_size w own box x rated clear column l);
    columns = λ column l. size_finite 27 (prefix_loss_def (params_def w) x column) (prefix_size w own box x rated clear column l);
    total = most_finite _ (prefixes_total w x) (prefixes_most w own box x rated clear (le_trans few.1 (lit≤ tt)));
    kernels = none_append (param_calls w) _ (params_called w box) (columns_called (prefix_calls_def (params_def w) x) x.table.columns prefix_called);
  }

-- ---- cards
module _ (w : List Float) (x : Cards) (s : Singles cards w x) (box : weights_refusal_def w ≡ 0) (sized : cards_sized x ≡ true) (clear : (card_fault_def x).refusal ≡ 0) where
  own_card : (k : ℕ) → T (fits binary32 (w ! k))
  own_card k = holds (s.weights k)

  rated_card : (i : ℕ) → T (fits binary32 (x.table.ratings ! i))
  unfolding card_slice
  rated_card i = holds (s.cells ratings i)

  abbrev played : ℕ → History
  played column = history x.table column

  abbrev steps : ℕ → ℕ
  steps column = last_row (params_def w) x column

  reads : (column : ℕ) → column < x.table.columns → (row : ℕ) → row < steps column → ReadRow (row - (played column).first) ((played column).day row) ((played column).rating row)
  reads column l = card_steps w own_card box x rated_card clear column l

  single : (column : ℕ) → column < x.table.columns → (row : ℕ) → T (fits binary32 ((played column).rating row))
  single column l = card_cells w own_card box x rated_card clear column l

  worked_card : (column row : ℕ) → column < x.table.columns → row < steps column →
      Worked (step_at (params_def w) (played column) (state_at (params_def w) (played column) row) row)
      (step_calls (params_def w) (state_at (params_def w) (played column) row) ((played column).day row) ((played column).rating row) (row - (played column).first))
  worked_card column row l m = worked_at w own_card box (played column) (steps column) (single column l) (reads column l) row m

  cells_all : x.table.rows * x.table.columns ≤ 4194304
  unfolding card_sized_def
  cells_all =
      let f = cells_few _ _ _ _ _ (and_parts (table_sized_def (length x.table.days) (length x.table.ratings) x.table.rows x.table.columns (length x.table.lengths)) _ sized).0 in
      mul-le-mul f.0 f.1

  last_number : (column : ℕ) → column < x.table.columns → Finite (last_score (params_def w) x column)
  unfolding last_score
  last_number column l =
      let y = target_loss_def (params_def w) (last_curve (params_def w) x column) (last_day_def (params_def w) x column) (label_at x column (steps column)) (last_weight (params_def w) x column) in
      cond_finite (card_label (last_number_def (params_def w) x column) (last_weight (params_def w) x column)) y
      (λ c. size_finite 27 y (last_size w own_card box x rated_card clear column l (some_row _ _ _ c) c))

  card_called : (column : ℕ) → column < x.table.columns → NoneRefused (card_calls_def (params_def w) x column)
  unfolding card_calls_def
  card_called column l =
      let h = played column in
      let scored = cond (card_label (last_number_def (params_def w) x column) (last_weight (params_def w) x column)) (target_calls (params_def w) (last_curve (params_def w) x column) (last_day_def (params_def w) x column) (last_weight (params_def w) x column)) [] in
      let middle = scores_calls (params_def w) h (weight_at_def x column) (steps column) in
      unless_called (eqb (card_length (params_def w) x column) 0) _
      (none_append (steps_calls (params_def w) h (steps column)) (middle ++ scored) (steps_called w own_card box h (steps column) (λ row m. (worked_card column row l m).called))
      (none_append middle scored
      (scores_called w own_card box h (weight_at_def x column) (steps column)
      (λ row m. called_at w own_card box h (steps column) (single column l) (reads column l) (label_at x column) (weight_at_def x column) (card_scores w own_card box x rated_card clear column l) row m))
      (cond_called (card_label (last_number_def (params_def w) x column) (last_weight (params_def w) x column)) _ (λ c. last_called w own_card box x rated_card clear column l (some_row _ _ _ c) c))))

  card_sound : Sound cards card_forward_def w x
  unfolding record_at
  card_sound = record {
    states = λ column row l m. ranged _ (worked_card column row l m).inside;
    carried = λ column row l m f. ranged _ (inside_at w own_card box (played column) (steps column) (single column l) (reads column l) row m f);
    records = λ column row l m. (worked_card column row l m).numbers;
    run_value = params_finite w box;
    scores = λ column row l m. size_finite 27 (score_at_def (params_def w) (played column) (label_at x column) (weight_at_def x column) row).loss
        (score_at w own_card box (played column) (steps column) (single column l) (reads column l) (label_at x column) (weight_at_def x column) (card_scores w own_card box x rated_card clear column l) row m);
    ends = last_number;
    columns = λ column l. most_finite _ (card_loss_def (params_def w) x column) (card_number w own_card box x rated_card clear cells_all column l);
    total = most_finite _ (cards_total w x) (cards_most w own_card box x rated_card clear cells_all);
    kernels = none_append (param_calls w) _ (params_called w box) (columns_called (card_calls_def (params_def w) x) x.table.columns card_called);
  }

-- ---- what an accepted call has passed, with its gradient and without
prefix_alone : (w : List Float) (x : Prefixes) → Singles prefixes w x → prefix_loss_refusal_def w x ≡ 0 → Sound prefixes prefix_forward_def w x
unfolding prefix_loss_refusal_def
prefix_alone w x s z = let a = loss_accepted w (prefixes_sized x) (prefix_fault_def x).refusal z in prefix_sound w x s a.0 a.1 a.2

card_alone : (w : List Float) (x : Cards) → Singles cards w x → card_loss_refusal_def w x ≡ 0 → Sound cards card_forward_def w x
unfolding card_loss_refusal_def
card_alone w x s z = let a = loss_accepted w (cards_sized x) (card_fault_def x).refusal z in card_sound w x s a.0 a.1 a.2

prefix_graded : (c : Call Prefixes) → Singles prefixes c.w c.x → prefixes.refusal c ≡ 0 → Sound prefixes prefix_forward_def c.w c.x
unfolding prefix_loss_refusal_def prefix_grad_refusal_def
prefix_graded c s z = prefix_alone c.w c.x s (alone_accepted c.w _ _ _ _ z)

card_graded : (c : Call Cards) → Singles cards c.w c.x → cards.refusal c ≡ 0 → Sound cards card_forward_def c.w c.x
unfolding card_loss_refusal_def card_grad_refusal_def
card_graded c s z = card_alone c.w c.x s (alone_accepted c.w _ _ _ _ z)

answered : (refusal : ℕ) (loss : Float) → (refusal ≡ 0 → Finite loss) → Finite (answer refusal loss).loss
unfolding answer
answered refusal loss h = cond_finite (eqb refusal 0) loss (λ e. h (eqb-true refusal 0 e))

no_silent_prefix : NoSilentNaN prefixes prefix_forward_def
unfolding batch_loss_and_grad_def batch_loss_def
no_silent_prefix = record {
  with_gradient = prefix_graded;
  alone = prefix_alone;
  answer = λ c s. answered _ (prefixes_total c.w c.x) (λ z. (prefix_graded c s z).total);
  answer_alone = λ w x s. answered _ (prefixes_total w x) (λ z. (prefix_alone w x s z).total);
}

no_silent_card : NoSilentNaN cards card_forward_def
unfolding cards_loss_and_grad cards_loss
no_silent_card = record {
  with_gradient = card_graded;
  alone = card_alone;
  answer = λ c s. answered _ (cards_total c.w c.x) (λ z. (card_graded c s z).total);
  answer_alone = λ w x s. answered _ (cards_total w x) (λ z. (card_alone w x s z).total);
}

pub no_silent_nan : NoSilentNaNs
no_silent_nan = (no_silent_prefix, no_silent_card)
