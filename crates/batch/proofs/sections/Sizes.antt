-- What the tests of a header tell: that its positions fit, and that they stand in order. Assumes nothing.
use Prim.Native.Nat.{ℕ, ◌≤◌}
use mathlib.Core.Path.{◌≡◌, refl}
use mathlib.Core.Bool.{Bool, true, false, ◌&&◌}
use lib.Dec.{leb}
use borrow.Author.Tests.{leb-true}
use Rattle.batch.specs.Header.{is_kind_def, sized}

pub right_of : (a b : Bool) → a && b ≡ true → b ≡ true
right_of true b h = h
right_of false b h = cc

pub left_of : (a b : Bool) → a && b ≡ true → a ≡ true
left_of true b h = refl
left_of false b h = h

pub rows_small : (kind rows bytes : ℕ) → sized kind rows bytes ≡ true → rows ≤ 512
unfolding sized
rows_small kind rows bytes h = leb-true rows 512 (left_of _ (leb bytes 65536) (right_of (is_kind_def kind) _ h))

pub bytes_small : (kind rows bytes : ℕ) → sized kind rows bytes ≡ true → bytes ≤ 65536
unfolding sized
bytes_small kind rows bytes h = leb-true bytes 65536 (right_of (leb rows 512) _ (right_of (is_kind_def kind) _ h))
