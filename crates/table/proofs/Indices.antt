-- The rule of `FIRSTS`, computed once over all its entries. Assumes nothing.
use mathlib.Core.Path.{◌≡◌, ◌∙◌}
use mathlib.Core.Bool.{Bool}
use Prim.Native.Nat.{ℕ, ◌+◌, ◌-◌, ◌*◌, ◌^◌, ◌≤◌, ◌<◌}
use native.Mathlib.Nat.{lt_of_le_of_lt}
use native.Mathlib.Omega.{arith}
use lib.Dec.{T, leb, leb→le, ltb, ltb→lt}
use lib.ListN.{get_or}
use Rattle.table.specs.Exact.{P, taylor, fact}
use Rattle.table.specs.Entry.{entry, index_at_def}
use Rattle.table.specs.declared.index.TheConstants.{FIRSTS}
use Rattle.table.proofs.Every.{both, both_left, both_right, every, at, inside}
use Rattle.table.proofs.First.{ordered, index_is}

-- ---- the indices: the entry reaches the interval's end, and the one before it does not
first : ℕ → ℕ → Bool
first k x = both (both (leb 1 x) (leb x 256)) (both (leb ((513 + k) * 2 ^ 53) (entry x)) (ltb (entry (x - 1)) ((513 + k) * 2 ^ 53)))

firsts_pass : T (every first 0 FIRSTS)
unfolding first entry P taylor fact
firsts_pass = tt

found : (k x : ℕ) → k < 512 → T (first k x) → x ≡ index_at_def k
unfolding first
found k x h t =
    let m : ℕ = (513 + k) * 2 ^ 53 in
    let l = leb 1 x in
    let u = leb x 256 in
    let r = leb m (entry x) in
    let b = ltb (entry (x - 1)) m in
    let ends = both_left (both l u) (both r b) t in
    let sides = both_right (both l u) (both r b) t in
    let least : 1 ≤ x = leb→le 1 x (both_left l u ends) in
    let most : x ≤ 256 = leb→le x 256 (both_right l u ends) in
    index_is m x (inner k h) (record {
      most = most;
      reached = leb→le m (entry x) (both_left r b sides);
      passed = λ (j : ℕ) g. lt_of_le_of_lt (ordered j (x - 1) (before j x g) (short x most)) (ltb→lt (entry (x - 1)) m (both_right r b sides));
    })
  where
    inner : (k : ℕ) → k < 512 → (513 + k) * 2 ^ 53 ≤ 2 ^ 63
    inner k h = omega arith

    before : (j x : ℕ) → j < x → j ≤ x - 1
    before j x g = omega arith

    short : (x : ℕ) → x ≤ 256 → x - 1 ≤ 256
    short x h = omega arith

-- an index of the list, as the code reads it
pub rule : (k : ℕ) → k < 512 → get_or FIRSTS k 0 ≡ index_at_def k
rule k h = found k (get_or FIRSTS k 0) h (at first FIRSTS firsts_pass k h)

pub is_index : (k : ℕ) → k < 512 → get_or FIRSTS k 256 ≡ index_at_def k
is_index k h = inside FIRSTS k 256 0 h ∙ rule k h
