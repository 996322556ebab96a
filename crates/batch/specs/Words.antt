-- Document 01, 'Batch file and program': little-endian 4-byte words, of which lengths are unsigned whole numbers and all other
-- entries single bits. Assumes nothing.
use Rattle.std.specs.Prelude.{ℕ, zero, suc, ◌+◌, ◌*◌, cond, List, [], ◌∷◌, leb, Float, get_or, length}
use Rattle.std.specs.Float.{binary32}
use Rattle.std.specs.Float.Ieee.{of_bits}

abbrev pub byte_at : (file : List ℕ) (i : ℕ) → ℕ
byte_at file i = get_or file i 0

abbrev pub little_endian : (a b c d : ℕ) → ℕ
little_endian a b c d = a + 0x100 * b + 0x1_0000 * c + 0x100_0000 * d

-- the k-th word, 0 where it does not stand in the file whole
unfoldable pub word_at_def : (file : List ℕ) (k : ℕ) → ℕ
word_at_def file k =
    cond
    (leb (4 * k + 4) (length file))
    (little_endian (byte_at file (4 * k)) (byte_at file (4 * k + 1)) (byte_at file (4 * k + 2)) (byte_at file (4 * k + 3)))
    0

-- n entries from the k-th word on: f is what a word stands for
unfoldable pub entries : {A : Type 0} (f : ℕ → A) (k n : ℕ) → List A
entries f k zero = []
entries f k (suc n) = f k ∷ entries f (suc k) n

abbrev pub words : (file : List ℕ) (k n : ℕ) → List ℕ
words file = entries (word_at_def file)

abbrev pub singles : (file : List ℕ) (k n : ℕ) → List Float
singles file = entries (λ (k : ℕ). of_bits binary32 (word_at_def file k))
