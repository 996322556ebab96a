-- The table's entries, one after the other, and how large they are. Assumes nothing.
use mathlib.Core.Path.{◌≡◌, refl, sym, ap, subst, ◌∙◌}
use mathlib.Core.Bool.{Bool, true, false, not, cond, ◌&&◌}
use Prim.Native.Nat.{ℕ, ◌*◌, ◌/◌, ◌^◌, ◌≤◌, ◌<◌}
use lib.Dec.{T, eqb, eqb→eq, leb, ltb, leb→le, ltb→lt, nltb→le, lit≤}
use lib.Ieee.Fits.{and_l, and_r}
use lib.ListN.{get_or}
use borrow.Author.Tests.{le-ltb}
use Rattle.table.specs.Exact.{N, P, taylor, fact}
use Rattle.table.specs.Entry.{entry}
use Rattle.table.specs.declared.TheConstants.{POWERS}
use Rattle.table.proofs.Every.{every, at, inside, end}

-- ---- the rule of `POWERS`, computed once over all of it: entry i is the i-th, and lies from 2 ^ 62 below 2 ^ 63
right : ℕ → ℕ → Bool
right i x = eqb x (entry i) && (leb (2 ^ 62) x && ltb x (2 ^ 63))

passes : T (every right 0 POWERS)
unfolding right entry P taylor fact
passes = tt

tested : (i : ℕ) → i < 256 → T (right i (get_or POWERS i 0))
tested i h = at right POWERS passes i h

-- an entry of the list, as the code reads it
pub rule : (i : ℕ) → i < 256 → get_or POWERS i 0 ≡ entry i
unfolding right
rule i h = eqb→eq (get_or POWERS i 0) (entry i) (and_l _ _ (tested i h))

pub entry_end : (i : ℕ) → 256 ≤ i → entry i ≡ 2 ^ 63
unfolding entry
entry_end i h = ap (λ (b : Bool). cond b (2 ^ 62 * (P (i * N) (2 ^ 72)).num / (P (i * N) (2 ^ 72)).den) (2 ^ 63)) (le-ltb i 256 h)

-- every entry, in the list or past its end
pub is_entry : (i : ℕ) → get_or POWERS i (2 ^ 63) ≡ entry i
is_entry i = go (ltb i 256) (ltb→lt i 256) (nltb→le i 256)
  where
    go : (b : Bool) → (T b → i < 256) → (T (not b) → 256 ≤ i) → get_or POWERS i (2 ^ 63) ≡ entry i
    go true l g = inside POWERS i (2 ^ 63) 0 (l tt) ∙ rule i (l tt)
    go false l g = end POWERS i (2 ^ 63) (g tt) ∙ sym (entry_end i (g tt))

in_range : (i : ℕ) → i < 256 → T (leb (2 ^ 62) (entry i) && ltb (entry i) (2 ^ 63))
unfolding right
in_range i h = subst (λ (x : ℕ). T (leb (2 ^ 62) x && ltb x (2 ^ 63))) (rule i h) (and_r (eqb (get_or POWERS i 0) (entry i)) _ (tested i h))

pub entry_lt : (i : ℕ) → i < 256 → entry i < 2 ^ 63
entry_lt i h = ltb→lt (entry i) (2 ^ 63) (and_r (leb (2 ^ 62) (entry i)) (ltb (entry i) (2 ^ 63)) (in_range i h))

pub entry_ge : (i : ℕ) → i < 256 → 2 ^ 62 ≤ entry i
entry_ge i h = leb→le (2 ^ 62) (entry i) (and_l (leb (2 ^ 62) (entry i)) (ltb (entry i) (2 ^ 63)) (in_range i h))

pub entry_last : entry 256 ≡ 2 ^ 63
entry_last = entry_end 256 (lit≤ tt)

pub entry_zero : entry 0 ≡ 2 ^ 62
unfolding entry P taylor fact
entry_zero = refl
