-- The losses of calls without a fault: a column's is at most 2 ^ 27 for each review that it scores, and the total of up to 2 ^ 22 of them is a number. Assumes nothing.
use mathlib.Core.Path.{◌≡◌, refl, sym, ◌∙◌, subst}
use mathlib.Core.Bool.{Bool, true, false, not, ◌||◌, cond, true≢false}
use mathlib.Core.List.{List}
use Prim.Native.Nat.{ℕ, zero, suc, ◌+◌, ◌-◌, ◌*◌, ◌^◌, ◌≤◌, ◌<◌}
use native.Mathlib.Nat.{le_of_eq, lt_of_le_of_lt, le_refl, mul-le-mul_left, mul-le-mul_right}
use native.Mathlib.Omega.{arith}
use borrow.Author.Tests.{ne_eqb, eq-eqb, ltb-true, leb-true}
use lib.Dec.{T, eqb, ltb, leb}
use lib.Ieee.{Float, binary32, binary64, of_bits, fits, eq}
use lib.Ieee.Positive.{positive}
use lib.ListN.{get_or}
use Rattle.std.proofs.lemmas.Bool.{and_parts}
use Rattle.domain.specs.Doubles.{◌+ᵈ◌, zero64}
use Rattle.domain.specs.Floats.{clamp_def}
use Rattle.domain.specs.Limits.{zero32, s_min_def, s_max_def}
use Rattle.domain.specs.Weights.{◌!◌, weights_refusal_def}
use Rattle.checks.specs.Align.{is_end_def, first_of, target_read_def, target_weight_def}
use Rattle.checks.specs.Batch.{History, Table, Prefixes, Cards, length_at, history, view, target_weight_at, label_at, weight_at_def}
use Rattle.checks.specs.Faults.{prefix_fault_def, card_fault_def}
use Rattle.checks.specs.Reads.{later, is_last, non_zero, card_label}
use Rattle.checks.specs.Tables.{cut_at}
use Rattle.checks.specs.declared.align.Align.{Align}
use Rattle.checks.proofs.align.First.{at_start}
use Rattle.forward.specs.Params.{params_def}
use Rattle.forward.specs.Step.{clamp_state_def}
use Rattle.forward.specs.declared.parameters.RuntimeParams.{RuntimeParams}
use Rattle.forward.specs.declared.state.State.{State}
use Rattle.columns.specs.LastReview.{target_loss_def, last_loss_def}
use Rattle.columns.specs.ForwardPass.{state_at}
use Rattle.analytic_v6.specs.Prefixes.{target_stability, prefix_loss_def, prefixes_total}
use Rattle.analytic_v6.specs.Cards.{card_length, last_row, last_number_def, last_stability, last_day_def, loss_before_def, card_loss_def, cards_total}
use Rattle.laws.specs.KernelCalls.{NoneRefused, target_calls}
use Rattle.laws.proofs.Values.Sizes.{Size}
use Rattle.laws.proofs.Values.Operations.{Least}
use Rattle.laws.proofs.Ranges.Sums.{Most, most_wider, size_most, add_most, none_most, total_most}
use Rattle.laws.proofs.Ranges.States.{Plain, inside_held, plain_clamped}
use Rattle.laws.proofs.Ranges.Reads.{ReadRow, ReadScore, ReadTarget, prefix_some, prefix_row, prefix_target, card_row, step_read, score_read, last_read}
use Rattle.laws.proofs.Ranges.Columns.{target_size, target_called, plain_at, inside_end, loss_most}

-- ---- the lengths
pub cut_most : (t : Table) (column : ℕ) → length_at t column ≤ t.rows
unfolding cut_at
cut_most t column = go (leb (get_or t.lengths column 0) t.rows) refl
  where
    go : (b : Bool) → b ≡ leb (get_or t.lengths column 0) t.rows → cond b (get_or t.lengths column 0) t.rows ≤ t.rows
    go true e = leb-true (get_or t.lengths column 0) t.rows (sym e)
    go false e = le_refl t.rows

-- ---- a target that counts stands behind a review
no_zero : non_zero zero32 ≡ false
unfolding non_zero eq of_bits
no_zero = refl

counts_behind :
    (align : Align) (rating : ℕ → Float) (n : ℕ) (weight : Float) → 0 < n → non_zero (target_weight_def align (first_of align rating n) n weight) ≡ true → first_of align rating n < n
unfolding target_weight_def target_read_def
counts_behind align rating n weight z h = go (is_end_def align) (ltb (first_of align rating n) n) refl refl h
  where
    go : (e f : Bool) → e ≡ is_end_def align → f ≡ ltb (first_of align rating n) n → non_zero (cond (not e || f) weight zero32) ≡ true → first_of align rating n < n
    go false f d g h = subst (λ (k : ℕ). k < n) (sym (at_start align rating n (sym d))) z
    go true true d g h = ltb-true (first_of align rating n) n (sym g)
    go true false d g h = absurd (true≢false (sym h ∙ no_zero))

clamped_stability : (q : State) → Plain q → T (positive (clamp_def q.s s_min_def s_max_def)) × Least 14 (clamp_def q.s s_min_def s_max_def)
unfolding clamp_state_def
clamped_stability q i = let h = inside_held (clamp_state_def q) (plain_clamped q i) in (h.above_s, h.least_s)

-- ---- the last row of n
not_last : (n row : ℕ) → row < n - 1 → is_last n row ≡ false
unfolding is_last
not_last n row m = ne_eqb (suc row) n (λ q. omega (arith, m, q))

is_last_row : (n : ℕ) → 0 < n → is_last n (n - 1) ≡ true
unfolding is_last
is_last_row n m = eq-eqb (suc (n - 1)) n (omega arith)

before : (n row : ℕ) → row < n - 1 → row < n
before n row m = omega arith

inner : (n : ℕ) → 0 < n → n - 1 < n
inner n m = omega arith

module _ (w : List Float) (singles : (k : ℕ) → T (fits binary32 (w ! k))) (box : weights_refusal_def w ≡ 0) where
  abbrev p : RuntimeParams
  p = params_def w

  -- ---- prefixes
  module _ (x : Prefixes) (cells : (i : ℕ) → T (fits binary32 (x.table.ratings ! i))) (clear : (prefix_fault_def x).refusal ≡ 0) where
    module _ (column : ℕ) (l : column < x.table.columns) where
      abbrev h : History
      h = history x.table column

      own : non_zero (target_weight_at x column) ≡ true → T (positive (target_stability p x column)) × Least 14 (target_stability p x column)
      own c =
          let n = length_at x.table column in
          let f = counts_behind x.table.align (view x.table.ratings x.table.columns column) n (x.weights ! column) (prefix_some x column l clear) c in
          let k = inside_held (state_at p h n) (inside_end w singles box h n (λ row. cells _) (prefix_row x column l clear) f) in
          (k.above_s, k.least_s)

      pub prefix_size : Size 27 (prefix_loss_def p x column)
      unfolding prefix_loss_def
      prefix_size = target_size w singles box (target_stability p x column) (x.days ! column) (x.labels ! column) (target_weight_at x column) own (prefix_target x column l clear)

      pub prefix_end_called : NoneRefused (target_calls p (target_stability p x column) (x.days ! column) (target_weight_at x column))
      prefix_end_called = target_called w singles box (target_stability p x column) (x.days ! column) (x.labels ! column) (target_weight_at x column) own (prefix_target x column l clear)

    -- one review a column
    pub prefixes_most : x.table.columns ≤ 2 ^ 22 → Most (x.table.columns * 2 ^ 27) (prefixes_total w x)
    prefixes_most m =
        total_most (prefix_loss_def p x) x.table.columns (2 ^ 27) (few x.table.columns m) (λ column l. size_most 27 (prefix_loss_def p x column) (prefix_size column l))
      where
        few : (n : ℕ) → n ≤ 2 ^ 22 → n * 2 ^ 27 < 2 ^ 53
        few n h = omega arith

  -- ---- cards
  module _ (x : Cards) (cells : (i : ℕ) → T (fits binary32 (x.table.ratings ! i))) (clear : (card_fault_def x).refusal ≡ 0) where
    module _ (column : ℕ) (l : column < x.table.columns) where
      abbrev hist : History
      hist = history x.table column

      abbrev n : ℕ
      n = card_length p x column

      pub card_steps : (row : ℕ) → row < last_row p x column → ReadRow (row - hist.first) (hist.day row) (hist.rating row)
      card_steps row m =
          step_read (is_end_def x.table.align) (is_last n row) (row - hist.first) (hist.day row) (hist.rating row) (weight_at_def x column row) (label_at x column row)
          (card_row x column l clear row (before n row m)) (not_last n row m)

      pub card_scores : (row : ℕ) → row < last_row p x column → ReadScore (row - hist.first) (label_at x column row) (weight_at_def x column row)
      card_scores row m =
          score_read (is_end_def x.table.align) (is_last n row) (row - hist.first) (hist.day row) (hist.rating row) (weight_at_def x column row) (label_at x column row)
          (card_row x column l clear row (before n row m))

      pub card_cells : (row : ℕ) → T (fits binary32 (hist.rating row))
      card_cells row = cells _

      -- the last row, where it is scored
      module _ (z : 0 < card_length p x column) (c : card_label (last_number_def p x column) (weight_at_def x column (last_row p x column)) ≡ true) where
        abbrev label : Float
        label = label_at x column (last_row p x column)

        abbrev weight : Float
        weight = weight_at_def x column (last_row p x column)

        abbrev s : Float
        s = clamp_def (last_stability p x column) s_min_def s_max_def

        split : (later (last_number_def p x column) ≡ true) × (non_zero weight ≡ true)
        unfolding card_label
        split = and_parts (later (last_number_def p x column)) (non_zero weight) c

        read : ReadTarget (last_day_def p x column) label weight
        read =
            let row = last_row p x column in
            let e = card_row x column l clear row (inner n z) in
            let end = is_end_def x.table.align in
            let sc = score_read end (is_last n row) (row - hist.first) (hist.day row) (hist.rating row) weight label e in
            record {
              weight_good = sc.weight_good split.0;
              label_good = λ q. sc.label_good c;
              day_good = λ q. last_read end (is_last n row) (row - hist.first) (hist.day row) (hist.rating row) weight label e (is_last_row n z) c;
            }

        stable : T (positive s) × Least 14 s
        stable = clamped_stability (state_at p hist (last_row p x column)) (plain_at w singles box hist (last_row p x column) card_cells card_steps (last_row p x column) (le_refl (last_row p x column)))

        pub last_size : Size 27 (target_loss_def p s (last_day_def p x column) label weight)
        last_size = target_size w singles box s (last_day_def p x column) label weight (λ q. stable) read

        pub last_called : NoneRefused (target_calls p s (last_day_def p x column) weight)
        last_called = target_called w singles box s (last_day_def p x column) label weight (λ q. stable) read

      -- what the last row adds
      with_last : (z : 0 < card_length p x column) (m : card_length p x column * 2 ^ 27 < 2 ^ 53) →
          Most (card_length p x column * 2 ^ 27)
          (last_loss_def p (last_number_def p x column) (last_stability p x column) (last_day_def p x column) (label_at x column (last_row p x column)) (weight_at_def x column (last_row p x column)) (loss_before_def p x column))
      unfolding last_loss_def
      with_last z m = go (card_label (last_number_def p x column) (weight_at_def x column (last_row p x column))) refl
        where
          one_more : (n : ℕ) → 0 < n → (n - 1) * 2 ^ 27 + 2 ^ 27 ≡ n * 2 ^ 27
          one_more n h = omega arith

          fewer : (n : ℕ) → (n - 1) * 2 ^ 27 ≤ n * 2 ^ 27
          fewer n = omega arith

          rows : Most (last_row p x column * 2 ^ 27) (loss_before_def p x column)
          rows =
              loss_most w singles box hist (last_row p x column) card_cells card_steps (label_at x column) (weight_at_def x column) card_scores (last_row p x column) (le_refl (last_row p x column))
              (lt_of_le_of_lt (fewer (card_length p x column)) m)

          go : (b : Bool) → b ≡ card_label (last_number_def p x column) (weight_at_def x column (last_row p x column)) →
              Most (card_length p x column * 2 ^ 27)
              (cond b
              (loss_before_def p x column +ᵈ target_loss_def p (clamp_def (last_stability p x column) s_min_def s_max_def) (last_day_def p x column) (label_at x column (last_row p x column)) (weight_at_def x column (last_row p x column)))
              (loss_before_def p x column))
          go true e =
              let t = target_loss_def p (clamp_def (last_stability p x column) s_min_def s_max_def) (last_day_def p x column) (label_at x column (last_row p x column)) (weight_at_def x column (last_row p x column)) in
              subst (λ (B : ℕ). Most B (loss_before_def p x column +ᵈ t)) (one_more (card_length p x column) z)
              (add_most binary64 (last_row p x column * 2 ^ 27) (2 ^ 27) (loss_before_def p x column) t (lt_of_le_of_lt (le_of_eq (one_more (card_length p x column) z)) m) rows
              (size_most 27 t (last_size z (sym e))))
          go false e = most_wider (last_row p x column * 2 ^ 27) (card_length p x column * 2 ^ 27) (loss_before_def p x column) (fewer (card_length p x column)) rows

      pub card_most : card_length p x column * 2 ^ 27 < 2 ^ 53 → Most (card_length p x column * 2 ^ 27) (card_loss_def p x column)
      unfolding card_loss_def
      card_most m = by_length (card_length p x column) _ (λ z. with_last z m)
        where
          by_length : (n : ℕ) (y : Float) → (0 < n → Most (n * 2 ^ 27) y) → Most (n * 2 ^ 27) (cond (eqb n 0) zero64 y)
          by_length zero y f = none_most
          by_length (suc n) y f = rw (ne_eqb (suc n) 0 (λ q. omega (arith, q))) (f (omega arith))

    -- up to 2 ^ 22 reviews in all: as many as 8,192 rows and 512 columns have
    module _ (m : x.table.rows * x.table.columns ≤ 2 ^ 22) where
      length_few : (column : ℕ) → column < x.table.columns → card_length p x column * 2 ^ 27 < 2 ^ 53
      length_few column l = few (card_length p x column) x.table.rows x.table.columns column l (cut_most x.table column) (mul-le-mul_left x.table.rows (some column x.table.columns l)) m
        where
          some : (c k : ℕ) → c < k → 1 ≤ k
          some c k h = omega arith

          few : (n r k c : ℕ) → c < k → n ≤ r → r * 1 ≤ r * k → r * k ≤ 2 ^ 22 → n * 2 ^ 27 < 2 ^ 53
          few n r k c l h j m = omega (arith, h, j, m)

      pub card_number : (column : ℕ) → column < x.table.columns → Most (x.table.rows * 2 ^ 27) (card_loss_def p x column)
      card_number column l =
          most_wider (card_length p x column * 2 ^ 27) (x.table.rows * 2 ^ 27) (card_loss_def p x column) (mul-le-mul_right (2 ^ 27) (cut_most x.table column)) (card_most column l (length_few column l))

      pub cards_most : Most (x.table.columns * (x.table.rows * 2 ^ 27)) (cards_total w x)
      cards_most = total_most (card_loss_def p x) x.table.columns (x.table.rows * 2 ^ 27) (few x.table.rows x.table.columns m) card_number
        where
          few : (r k : ℕ) → r * k ≤ 2 ^ 22 → k * (r * 2 ^ 27) < 2 ^ 53
          few r k m = omega (arith, m)
