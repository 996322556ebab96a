-- A record's ten numbers, put one by one and read one by one. Assumes nothing.
use Rattle.std.proofs.Common.{◌≡◌, ℕ, zero, suc, ◌+◌, ◌*◌, ◌/◌, ◌<◌, ◌≤◌, List, [], ◌∷◌, length, set, take, sym, refl, ◌∙◌, subst, not-suc-le-zero, le_of_suc-le-suc, add-zero, zero-add, add-suc, suc-add, add-one, length-set, lt_of_lt_of_le, arith}
use Rattle.std.proofs.lemmas.List.Edits.{fill_by_more}
use lib.Ieee.{Float, nan}
use Rattle.domain.specs.Weights.{◌!◌}
use Rattle.forward.specs.declared.state.StepRecord.{StepRecord}
use Rattle.columns.specs.Records.{place, step_values, branch_values, put_all, store_def, load_branch_def, load_def}
use Rattle.columns.specs.inner.Numbers.{numbers_of, record_of_def}

put_next : (cells row j f : ℕ) (given xs : List Float) → j < length given →
    put_all cells row f (take (suc j) given) xs ≡ set (put_all cells row f (take j given) xs) (place cells (f + j) row) (given ! j)
unfolding put_all
put_next cells row j f [] xs h = absurd (not-suc-le-zero h)
put_next cells row zero f (x ∷ given) xs h = rw (add-zero f) refl
put_next cells row (suc j) f (x ∷ given) xs h = rw (add-suc f j ∙ sym (suc-add f j)) (put_next cells row j (suc f) given _ (le_of_suc-le-suc h))

module _ (row : ℕ) (c : StepRecord) (given start : List Float) (is : given ≡ numbers_of c) where
  -- the numbers of the first j columns stand in the row
  abbrev pub Put : (j : ℕ) (xs : List Float) → Type 0
  Put j xs = xs ≡ put_all (length start) row 0 (take j given) start

  count : length given ≡ 10
  unfolding numbers_of
  count = rw is refl

  pub put_none : Put 0 start
  unfolding put_all
  put_none = refl

  pub put_more : (j : ℕ) (xs zs : List Float) → j < 10 → Put j xs → zs ≡ set xs (j * (length start / 10) + row) (given ! j) → Put (j + 1) zs
  unfolding place
  put_more j xs zs h before put =
      let next = put_next (length start) row j 0 given start (subst (λ (n : ℕ). j < n) (sym count) h) in
      put ∙ rw (add-one j, next, zero-add j, before) refl

  pub put_done : (j : ℕ) (xs : List Float) → 10 ≤ j → j ≤ 10 → Put j xs → xs ≡ store_def row c start
  unfolding put_all store_def step_values branch_values numbers_of
  put_done j xs h k put =
      let e : j ≡ 10 = omega (arith, h, k) in
      put ∙ rw (e, is) refl

module _ (row : ℕ) (xs : List Float) where
  -- the first j of the numbers are the row's
  abbrev pub Read : (j : ℕ) (numbers : List Float) → Type 0
  Read j numbers = (length numbers ≡ 10) × ((k : ℕ) → k < j → numbers ! k ≡ xs ! place (length xs) k row)

  pub read_more : (j : ℕ) (numbers zs : List Float) (x : Float) → j < 10 → Read j numbers → x ≡ xs ! (j * (length xs / 10) + row) → zs ≡ set numbers j x → Read (j + 1) zs
  unfolding place
  read_more j numbers zs x h before is put =
      rw (put, is) (
        length-set numbers j _ ∙ before.0,
        fill_by_more (λ (k : ℕ). xs ! place (length xs) k row) numbers j nan (subst (λ (n : ℕ). j < n) (sym before.0) h) before.1,
      )

  pub read_done : (j : ℕ) (numbers : List Float) → 10 ≤ j → Read j numbers → record_of_def numbers ≡ load_def row xs
  unfolding record_of_def load_def load_branch_def
  read_done j numbers h read =
      let at = λ (k : ℕ) (l : k < 10). read.1 k (lt_of_lt_of_le l h) in
      rw (
        at 0 (omega arith),
        at 1 (omega arith),
        at 2 (omega arith),
        at 3 (omega arith),
        at 4 (omega arith),
        at 5 (omega arith),
        at 6 (omega arith),
        at 7 (omega arith),
        at 8 (omega arith),
        at 9 (omega arith),
      ) refl
