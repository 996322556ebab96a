-- The header's definition where its tests fail or pass, and where its sections end. Assumes nothing.
use Rattle.std.proofs.Common.{sym, ap, cond, ◌≡◌, ℕ, ◌*◌, ◌≤◌, ◌<◌, Bool, true, false, ◌&&◌, leb, List, length, refl, ◌∙◌, arith, le-leb, Err}
use Rattle.std.proofs.lemmas.Bool.{lt-leb}
use borrow.Author.Tests.{eqb-true, eqb-false}
use Rattle.domain.proofs.Refusals.{never_0}
use Rattle.domain.specs.Refusals.{number}
use Rattle.domain.specs.declared.refusal.Refusal.{Refusal}
use Rattle.domain.specs.declared.refusal.Refusal.TheVariants.{File}
use Rattle.batch.specs.Words.{word_at_def}
use Rattle.batch.specs.Header.{Header, is_kind_def, offset_is, sized, placed, sections_def, sections_of, well_formed_def, malformed_def, header_def}
use Rattle.batch.specs.Sections.{kind_number, header_read}
use Rattle.batch.specs.declared.sections.Kind.{Kind}
use Rattle.batch.specs.declared.sections.Kind.TheVariants.{Prefixes, Cards}
use Rattle.batch.proofs.sections.Sizes.{left_of, right_of}

false_right : (a : Bool) → a && false ≡ false
false_right true = refl
false_right false = refl

module _ (file : List ℕ) where
  unsized : sized (word_at_def file 0) (word_at_def file 1) (length file) ≡ false → header_read (Err File) ≡ header_def file
  unfolding header_def well_formed_def malformed_def
  unsized s = rw s

  pub not_kind : (e : Refusal) → e ≡ File → is_kind_def (word_at_def file 0) ≡ false → header_read (Err e) ≡ header_def file
  unfolding sized
  not_kind e f k = rw f (unsized (rw k))

  pub rows_over : 512 < word_at_def file 1 → header_read (Err File) ≡ header_def file
  unfolding sized
  rows_over h = unsized (rw (lt-leb (word_at_def file 1) 512 h, false_right (is_kind_def (word_at_def file 0))))

  pub bytes_over : 65536 < length file → header_read (Err File) ≡ header_def file
  unfolding sized
  bytes_over h = unsized (rw (lt-leb (length file) 65536 h, false_right (leb (word_at_def file 1) 512), false_right (is_kind_def (word_at_def file 0))))

is_kind_number : (k : Kind) → is_kind_def (kind_number k) ≡ true
unfolding is_kind_def
is_kind_number Prefixes = refl
is_kind_number Cards = refl

-- the sections that were computed, of a file whose header passed the tests before that
module _ (file : List ℕ) (kind : Kind) (rows columns : ℕ) (h : Header)
    (k : kind_number kind ≡ word_at_def file 0) (r : rows ≡ word_at_def file 1) (c : columns ≡ word_at_def file 2)
    (few : rows ≤ 512) (short : length file ≤ 65536) (s : h ≡ sections_def (kind_number kind) rows columns) where
  stands : h ≡ sections_of file
  stands = s ∙ (λ i. sections_def (k i) (r i) (c i))

  is_sized : sized (word_at_def file 0) (word_at_def file 1) (length file) ≡ true
  unfolding sized
  is_sized = rw (← k, is_kind_number kind, ← r, le-leb rows 512 few, le-leb (length file) 65536 short)

  pub unplaced : placed file h ≡ false → header_read (Err File) ≡ header_def file
  unfolding header_def well_formed_def malformed_def
  unplaced p = rw (is_sized, rw stands at p)

  pub well_placed : placed file h ≡ true → h ≡ header_def file
  unfolding header_def well_formed_def
  well_placed p = stands ∙ rw (is_sized, rw stands at p)

  -- a well-formed file has at most 16,384 words
  pub end_small : placed file h ≡ true → h.end ≤ 16384
  unfolding placed
  end_small p =
      let e = eqb-true (length file) (4 * h.end) (right_of (offset_is file 3 h.weights) _ (left_of _ _ (left_of _ _ p))) in
      omega (arith, e, short)

-- what the header that was read tells of the file
refused_by : (t : Bool) (h : Header) (n : ℕ) → h.refusal ≡ 0 → n ≡ (cond t h malformed_def).refusal → (n ≡ 0 → ⊥) → (t ≡ false) × (n ≡ 11)
unfolding malformed_def
refused_by true h n z e f = absurd (f (e ∙ z))
refused_by false h n z e f = (refl, e)

accepted_by : (t : Bool) (h k : Header) → k ≡ cond t h malformed_def → k.refusal ≡ 0 → (t ≡ true) × (k ≡ h)
unfolding malformed_def
accepted_by true h k e z = (refl, e)
accepted_by false h k e z = absurd (eqb-false 11 0 refl (sym (ap (λ x. x.refusal) e) ∙ z))

module _ (file : List ℕ) where
  pub refused_file : (e : Refusal) → header_read (Err e) ≡ header_def file → (well_formed_def file ≡ false) × (number e ≡ 11)
  unfolding header_def sections_def
  refused_file e r = refused_by (well_formed_def file) _ (number e) refl (ap (λ x. x.refusal) r) (never_0 e)

  pub accepted_file : (h : Header) → h ≡ header_def file → h.refusal ≡ 0 → (well_formed_def file ≡ true) × (h ≡ sections_of file)
  unfolding header_def
  accepted_file h e z = accepted_by (well_formed_def file) _ h e z
