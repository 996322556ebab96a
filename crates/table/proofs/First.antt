-- The index of a number of 63 digits is the first entry that is no smaller, and there is one such place alone. The entries ascend: one computed test. Assumes nothing.
use mathlib.Core.Path.{◌≡◌, sym, ap, ◌∙◌, subst}
use mathlib.Core.Bool.{Bool, true, false, not, cond}
use mathlib.Core.Logic.{inl, inr}
use Prim.Native.Nat.{ℕ, zero, suc, ◌+◌, ◌-◌, ◌^◌, ◌≤◌, ◌<◌}
use native.Mathlib.Nat.{le_trans, le_of_eq, le_antisymm, lt_irrefl, lt_of_lt_of_le, lt_of_le_of_lt, lt_of_not-le, le_of_suc-le-suc, eq-or-lt_of_le, add-zero, add-suc, suc-add}
use native.Mathlib.Omega.{arith}
use lib.Dec.{T, leb, leb→le, nleb→lt}
use Rattle.table.specs.Exact.{P, taylor, fact}
use Rattle.table.specs.Entry.{entry, first_from, index}
use Rattle.table.specs.declared.TheConstants.{POWERS}
use Rattle.table.proofs.Every.{every, at}
use Rattle.table.proofs.Entries.{rule, entry_last}

-- ---- the entries ascend
climbs : ℕ → ℕ → Bool
climbs i x = leb x (entry (suc i))

passes : T (every climbs 0 POWERS)
unfolding climbs entry P taylor fact
passes = tt

next : (i : ℕ) → i < 256 → entry i ≤ entry (suc i)
unfolding climbs
next i h = leb→le (entry i) (entry (suc i)) (subst (λ (x : ℕ). T (climbs i x)) (rule i h) (at climbs POWERS passes i h))

ascend : (i d : ℕ) → i + d ≤ 256 → entry i ≤ entry (i + d)
ascend i zero h = le_of_eq (ap entry (sym (add-zero i)))
ascend i (suc d) h = le_trans (ascend i d (omega arith)) (subst (λ (j : ℕ). entry (i + d) ≤ entry j) (sym (add-suc i d)) (next (i + d) (omega arith)))

pub ordered : (i j : ℕ) → i ≤ j → j ≤ 256 → entry i ≤ entry j
ordered i j a b = subst (λ (k : ℕ). entry i ≤ entry k) (back i j a) (ascend i (j - i) (omega arith))
  where
    back : (i j : ℕ) → i ≤ j → i + (j - i) ≡ j
    back i j a = omega arith

-- ---- the first that m does not pass
pub record Found (m r : ℕ) : Type 0 where
  pub most : r ≤ 256
  pub reached : m ≤ entry r
  pub passed : (j : ℕ) → j < r → entry j < m

-- the same from i on, up to i + d
abbrev From : (i d m r : ℕ) → Type 0
From i d m r = (r ≤ i + d) × (m ≤ entry r) × ((j : ℕ) → i ≤ j → j < r → entry j < m)

from : (d i m : ℕ) → m ≤ entry (i + d) → From i d m (first_from d i m)
unfolding first_from
from zero i m h = (omega arith, subst (λ (j : ℕ). m ≤ entry j) (add-zero i) h, λ (j : ℕ) a b. absurd (lt_irrefl j (lt_of_lt_of_le b a)))
from (suc d) i m h = go (leb m (entry i)) (leb→le m (entry i)) (nleb→lt m (entry i)) (from d (suc i) m (subst (λ (j : ℕ). m ≤ entry j) (add-suc i d ∙ sym (suc-add i d)) h))
  where
    here : (i j : ℕ) → i ≤ j → j < i → ⊥
    here i j a b = omega arith

    far : (r : ℕ) → r ≤ suc i + d → r ≤ i + suc d
    far r a = omega arith

    near : i ≤ i + suc d
    near = omega arith

    two : (r : ℕ) → entry i < m → ((j : ℕ) → suc i ≤ j → j < r → entry j < m) → (j : ℕ) → i ≤ j → j < r → entry j < m
    two r l p j a b = elim (eq-or-lt_of_le a) [ inl e ↦ subst (λ (k : ℕ). entry k < m) e l | inr s ↦ p j s b ]

    go : (b : Bool) → (T b → m ≤ entry i) → (T (not b) → entry i < m) → From (suc i) d m (first_from d (suc i) m) → From i (suc d) m (cond b i (first_from d (suc i) m))
    go true y n f = (near, y tt, λ (j : ℕ) a b. absurd (here i j a b))
    go false y n f = (far (first_from d (suc i) m) f.0, f.1, two (first_from d (suc i) m) (n tt) f.2)

pub index_found : (m : ℕ) → m ≤ 2 ^ 63 → Found m (index m)
index_found m h =
    let f = from 256 0 m (subst (λ (x : ℕ). m ≤ x) (sym entry_last) h) in
    record { most = f.0; reached = f.1; passed = λ (j : ℕ) l. f.2 j (omega arith) l }

-- no two places are first
no_later : (m r s : ℕ) → Found m r → Found m s → r ≤ s
no_later m r s f g = le_of_suc-le-suc (lt_of_not-le (λ (l : s < r). lt_irrefl m (lt_of_le_of_lt g.reached (f.passed s l))))

pub index_is : (m r : ℕ) → m ≤ 2 ^ 63 → Found m r → r ≡ index m
index_is m r h f = le_antisymm (no_later m r (index m) f (index_found m h)) (no_later m (index m) r (index_found m h) f)
