-- A word by its four bytes, and one that does not stand in the file whole. Assumes nothing.
use Rattle.std.proofs.Common.{drop-drop, ◌≡◌, ℕ, zero, suc, ◌+◌, ◌*◌, ◌/◌, ◌≤◌, ◌<◌, List, [], length, get_or, take, drop, refl, ap, arith, le-leb, w32, ◌∙◌}
use Rattle.std.proofs.lemmas.Bool.{lt-leb}
use Rattle.std.proofs.lemmas.List.{get_or-drop, get_or-take}
use Rattle.std.specs.Simd.{first_chunks}
use Rattle.std.specs.Int.{from_le_bytes}
use Rattle.batch.specs.Words.{word_at_def, little_endian}

pub word_past : (file : List ℕ) (k : ℕ) → length file / 4 ≤ k → 0 ≡ word_at_def file k
unfolding word_at_def
word_past file k h = rw (lt-leb (4 * k + 4) (length file) (omega (arith, h)))

chunk_at : (k m : ℕ) (file d : List ℕ) → k < m → get_or (first_chunks 4 m file) k d ≡ take 4 (drop (4 * k) file)
chunk_at k zero file d h = absurd (omega (arith, h))
chunk_at zero (suc m) file d h = refl
chunk_at (suc k) (suc m) file d h =
    let e : 4 * suc k ≡ 4 + 4 * k = omega arith in rw (e, ← drop-drop (4 * k) 4 file) (chunk_at k m (drop 4 file) d (omega (arith, h)))

in_order_of : (a b c d : ℕ) → a + b * 0x100 + c * 0x1_0000 + d * 0x100_0000 ≡ little_endian a b c d
in_order_of a b c d = omega arith

word_whole : (file : List ℕ) (k : ℕ) → 4 * k + 4 ≤ length file → from_le_bytes w32 (take 4 (drop (4 * k) file)) ≡ word_at_def file k
unfolding word_at_def
word_whole file k h =
    let b : (i j : ℕ) → i < 4 → 4 * k + i ≡ j → get_or (take 4 (drop (4 * k) file)) i 0 ≡ get_or file j 0 =
    λ i j l e. get_or-take 4 (drop (4 * k) file) i 0 l ∙ get_or-drop (4 * k) file i 0 ∙ ap (λ n. get_or file n 0) e in
    rw (le-leb (4 * k + 4) (length file) h, b 0 (4 * k) (omega arith) (omega arith), b 1 _ (omega arith) refl, b 2 _ (omega arith) refl, b 3 _ (omega arith) refl)
    (in_order_of _ _ _ _)

pub word_in : (file bytes : List ℕ) (chunks : List (List ℕ)) (k : ℕ) → chunks ≡ first_chunks 4 (length file / 4) file → k < length chunks → length chunks ≡ length file / 4 → bytes ≡ get_or chunks k [] → from_le_bytes w32 bytes ≡ word_at_def file k
word_in file bytes chunks k c h n e =
    let l : k < length file / 4 = omega (arith, h, n) in
    rw (e, c, chunk_at k (length file / 4) file [] l) (word_whole file k (omega (arith, l)))
