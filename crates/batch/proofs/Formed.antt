-- What a call answers by whether its file is well-formed, where its header and its words were read. Assumes nothing.
use Rattle.std.proofs.Common.{Result, subst, ◌≡◌, ℕ, List, cond, Err, None, ◌∙◌}
use Rattle.std.specs.Float.Ieee.{Float}
use Rattle.domain.specs.declared.refusal.Refusal.{Refusal}
use Rattle.batch.specs.Words.{words, singles}
use Rattle.batch.specs.Header.{Header, header_def, sections_of, well_formed_def}
use Rattle.checks.specs.Batch.{Prefixes, Cards}
use Rattle.checks.specs.Refusals.{prefix_grad_reads, card_grad_reads}
use Rattle.checks.specs.declared.fault.Fault as found
use Rattle.batch.specs.File.{rows_of, weights_in, prefixes_in_def, cards_in_def, call_reads, cells_of, lengths_of, file_loss, file_slots_def, file_fault_def, file_reads}
use Rattle.batch.specs.Sections.{header_read}
use Rattle.checks.specs.Faults.{PlacedWhere, fault_of, unplaced}
use Rattle.analytic_v6.specs.Results.{answered}
use Rattle.analytic_v6.specs.Answers.{answer}
use Rattle.batch.proofs.sections.Headers.{refused_file, accepted_file}

module _ (file : List ℕ) (e : Refusal) (r : header_read (Err e) ≡ header_def file) where
  pub refused_loss : (gw : ℕ) → answered (Err e) ≡ file_loss file gw
  unfolding file_loss answer
  refused_loss gw = rw ((refused_file file e r).0, (refused_file file e r).1)

  pub refused_slots : (gw : List Float) → gw ≡ file_slots_def file gw
  unfolding file_slots_def
  refused_slots gw = rw (refused_file file e r).0

  pub refused_fault : fault_of {A = ℕ} (Err (record { refusal = e; place = None })) ≡ file_fault_def file
  unfolding file_fault_def unplaced
  refused_fault = rw ((refused_file file e r).0, (refused_file file e r).1)

  pub refused_place : PlacedWhere {A = ℕ} (file_reads file) (Err (record { refusal = e; place = None }))
  unfolding file_reads
  refused_place = rw (refused_file file e r).0

-- f: the call's answer
module _ {A : Type 0} (file : List ℕ) where
  pub formed :
      (f : Header → List Float → List ℕ → A) (h : Header) (cells : List Float) (lens : List ℕ) (a b : A) → h ≡ header_def file → h.refusal ≡ 0
      → cells ≡ singles file 0 h.end → lens ≡ words file h.lengths h.columns → a ≡ f h cells lens
      → a ≡ cond (well_formed_def file) (f (sections_of file) (cells_of file) (lengths_of file)) b
  formed f h cells lens a b r z c l e =
      let w = accepted_file file h r z in
      rw (w.0, ← w.1) (e ∙ (λ i. f h (c i) (l i)))

-- where a fault of the call has its place
module _ (h : Header) (cells : List Float) (lens : List ℕ) (w : List Float) (r : Result (Unit {0}) found.Fault) (a : w ≡ weights_in h cells lens) where
  pub prefix_placed : (x : Prefixes) → h.kind ≡ 1 → x ≡ prefixes_in_def h cells lens → PlacedWhere (prefix_grad_reads w x 21 rows_of) r → PlacedWhere (call_reads h cells lens) r
  unfolding call_reads
  prefix_placed x k b p = rw k (subst (λ b. PlacedWhere b r) (λ i. prefix_grad_reads (a i) (b i) 21 rows_of) p)

  pub card_placed : (x : Cards) → h.kind ≡ 2 → x ≡ cards_in_def h cells lens → PlacedWhere (card_grad_reads w x 21 rows_of rows_of) r → PlacedWhere (call_reads h cells lens) r
  unfolding call_reads
  card_placed x k b p = rw k (subst (λ b. PlacedWhere b r) (λ i. card_grad_reads (a i) (b i) 21 rows_of rows_of) p)
