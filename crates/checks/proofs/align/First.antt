-- The first review of a column: what stands before it, and how a search finds it. Assumes nothing.
use Prim.Native.Nat.{ℕ, zero, suc, ◌+◌, ◌≤◌, ◌<◌}
use mathlib.Core.Bool.{Bool, true, false, ◌||◌, cond}
use mathlib.Core.Path.{◌≡◌, refl, sym, ◌∙◌, subst}
use native.Mathlib.Nat.{add-suc, add-sub_of_le, add-zero, le_refl, le-suc, le_trans, lt_of_lt_of_le, lt-suc_self, not-suc-le-zero}
use native.Mathlib.Numerals.{add-one}
use native.Mathlib.Omega.{arith}
use borrow.Author.Tests.{ltb-true, ltb-false}
use lib.Dec.{T, ltb}
use lib.Ieee.{Float}
use Rattle.checks.specs.Align.{is_end_def, first_non_zero, first_of}
use Rattle.checks.specs.Reads.{non_zero}
use Rattle.checks.specs.declared.align.Align.{Align}

true_false : ◌≡◌ {A = Bool} true false → ⊥
true_false e = subst T e tt

-- one more row: the first of n rows is f
module _ (n f : ℕ) (x : Float) where
  abbrev turn : ℕ
  turn = cond (ltb f n || non_zero x) f (suc n)

  -- it was found before, it is here, or it is still to come
  by_turn : (P : ℕ → Type 0) → f ≤ n → (f < n → P f) → (f ≡ n → non_zero x ≡ true → P f) → (f ≡ n → non_zero x ≡ false → P (suc n)) → P turn
  by_turn P l before here after = go (ltb f n) (non_zero x) refl refl
    where
      go : (a b : Bool) → a ≡ ltb f n → b ≡ non_zero x → P (cond (a || b) f (suc n))
      go true b e d = before (ltb-true f n (sym e))
      go false true e d = here (omega (arith, l, ltb-false f n (sym e))) (sym d)
      go false false e d = after (omega (arith, l, ltb-false f n (sym e))) (sym d)

module _ (rating : ℕ → Float) where
  abbrev found : (n : ℕ) → ℕ
  found n = first_non_zero rating n

  pub first_within : (n : ℕ) → first_non_zero rating n ≤ n
  unfolding first_non_zero
  first_within zero = le_refl 0
  first_within (suc n) =
      by_turn n (found n) (rating n) (λ f. f ≤ suc n) (first_within n) (λ l. le_trans (first_within n) (le-suc n)) (λ e h. le_trans (first_within n) (le-suc n)) (λ e h. le_refl (suc n))

  last_or : (n row : ℕ) → row < suc n → non_zero (rating n) ≡ false → (row < n → non_zero (rating row) ≡ false) → non_zero (rating row) ≡ false
  last_or n row l h before = go (ltb row n) refl
    where
      go : (b : Bool) → b ≡ ltb row n → non_zero (rating row) ≡ false
      go true e = before (ltb-true row n (sym e))
      go false e = subst (λ (k : ℕ). non_zero (rating k) ≡ false) (omega (arith, l, ltb-false row n (sym e))) h

  pub zeros_before : (n row : ℕ) → row < first_non_zero rating n → non_zero (rating row) ≡ false
  unfolding first_non_zero
  zeros_before zero row = λ l. absurd (not-suc-le-zero l)
  zeros_before (suc n) row =
      by_turn n (found n) (rating n) (λ f. row < f → non_zero (rating row) ≡ false) (first_within n) (λ m. zeros_before n row) (λ e h. zeros_before n row)
      (λ e h l. last_or n row l h (λ m. zeros_before n row (omega (arith, m, e))))

  pub first_nonzero : (n : ℕ) → first_non_zero rating n < n → non_zero (rating (first_non_zero rating n)) ≡ true
  unfolding first_non_zero
  first_nonzero zero = λ l. absurd (not-suc-le-zero l)
  first_nonzero (suc n) =
      by_turn n (found n) (rating n) (λ f. f < suc n → non_zero (rating f) ≡ true) (first_within n) (λ m l. first_nonzero n m)
      (λ e h l. subst (λ (k : ℕ). non_zero (rating k) ≡ true) (sym e) h) (λ e h l. absurd (omega (arith, l)))

  -- a search: none among the first k rows
  pub none_found : found 0 ≡ 0
  unfolding first_non_zero
  none_found = refl

  pub none_more : (k : ℕ) → found k ≡ k → non_zero (rating k) ≡ false → found (k + 1) ≡ k + 1
  unfolding first_non_zero
  none_more k e h =
      rw (add-one k)
      (by_turn k (found k) (rating k) (λ f. f ≡ suc k) (first_within k) (λ l. absurd (omega (arith, l, e))) (λ d g. absurd (true_false (sym g ∙ h))) (λ d g. refl))

  stays : (k d : ℕ) → found k ≡ k → non_zero (rating k) ≡ true → found (suc k + d) ≡ k
  unfolding first_non_zero
  stays k zero e h = rw (add-zero (suc k)) (by_turn k (found k) (rating k) (λ f. f ≡ k) (first_within k) (λ l. e) (λ d g. e) (λ d g. absurd (true_false (sym h ∙ g))))
  stays k (suc d) e h =
      let s = stays k d e h in
      rw (add-suc (suc k) d)
      (by_turn (suc k + d) (found (suc k + d)) (rating (suc k + d)) (λ f. f ≡ k) (first_within (suc k + d)) (λ l. s) (λ i g. s) (λ i g. absurd (omega (arith, i, s))))

  pub found_at : (k n : ℕ) → k < n → found k ≡ k → non_zero (rating k) ≡ true → found n ≡ k
  found_at k n l e h = subst (λ (m : ℕ). found m ≡ k) (add-sub_of_le l) (stays k _ e h)

-- the search in either mode
pub searched_at : (align : Align) (rating : ℕ → Float) (k n : ℕ) → k < n → true ≡ is_end_def align → first_non_zero rating k ≡ k → true ≡ non_zero (rating k) → k ≡ first_of align rating n
unfolding first_of
searched_at align rating k n l m e h = rw (← m) (sym (found_at rating k n l e (sym h)))

pub searched_all : (align : Align) (rating : ℕ → Float) (n : ℕ) → true ≡ is_end_def align → first_non_zero rating n ≡ n → n ≡ first_of align rating n
unfolding first_of
searched_all align rating n m e = rw (← m) (sym e)

pub unsearched : (align : Align) (rating : ℕ → Float) (n : ℕ) → false ≡ is_end_def align → 0 ≡ first_of align rating n
unfolding first_of
unsearched align rating n m = rw (← m)

pub ruleset finding = (none_found, none_more, searched_at, searched_all, unsearched)

-- it depends on the ratings alone
pub firsts_same : (f g : ℕ → Float) (n : ℕ) → ((row : ℕ) → row < n → f row ≡ g row) → first_non_zero f n ≡ first_non_zero g n
unfolding first_non_zero
firsts_same f g zero h = refl
firsts_same f g (suc n) h = rw (firsts_same f g n (λ i l. h i (lt_of_lt_of_le l (le-suc n))), h n (lt-suc_self n))

-- ---- in either mode
module _ (align : Align) where
  pub at_start : (rating : ℕ → Float) (n : ℕ) → is_end_def align ≡ false → first_of align rating n ≡ 0
  unfolding first_of
  at_start rating n e = rw e

  pub at-end : (rating : ℕ → Float) (n : ℕ) → is_end_def align ≡ true → first_of align rating n ≡ first_non_zero rating n
  unfolding first_of
  at-end rating n e = rw e

  by_mode : {P : Type 0} → (is_end_def align ≡ true → P) → (is_end_def align ≡ false → P) → P
  by_mode {P} f g = go (is_end_def align) refl
    where
      go : (b : Bool) → b ≡ is_end_def align → P
      go true e = f (sym e)
      go false e = g (sym e)

  pub before_first : (rating : ℕ → Float) (n row : ℕ) → row < first_of align rating n → non_zero (rating row) ≡ false
  before_first rating n row l =
      by_mode (λ e. zeros_before rating n row (subst (λ (f : ℕ). row < f) (at-end rating n e) l))
      (λ e. absurd (not-suc-le-zero (subst (λ (f : ℕ). row < f) (at_start rating n e) l)))

  pub first_same :
      (f g : ℕ → Float) (n : ℕ) → (is_end_def align ≡ true → (row : ℕ) → row < n → f row ≡ g row) → first_of align f n ≡ first_of align g n
  first_same f g n h =
      by_mode (λ e. at-end f n e ∙ firsts_same f g n (h e) ∙ sym (at-end g n e)) (λ e. at_start f n e ∙ sym (at_start g n e))
