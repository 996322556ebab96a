-- What the walk back over lent step records claims, written out: its `ensures` word for word, over any layout. Assumes nothing.
use Rattle.std.specs.Prelude.{◌≡◌, slice_index_or}
use contract.Lifetimes.{Lfts}
use denote.RattleType.{RattleType}
use denote.Param.Laws.{Laws, IsCopy}
use denote.Triple.Clauses.{AtExit}
use mir.Syntax.{Dict}
use borrow.Fn.Kinds.{Dens, ended_of}
use Rattle.std.specs.declared.clone.Clone
use Rattle.domain.specs.Doubles.{zero64}
use Rattle.columns.specs.declared.layout.Layout
use Rattle.columns.specs.BackwardPass.{start_grad, back_def}
use Rattle.columns.proofs.backward_pass.column_backward

module _ (L C : RattleType) (L1 : Laws L) (L2 : Laws C) (K : IsCopy C) (G1 : Layout.Ghosts L.Denot C.Denot) (D1 : Dict) (G2 : Clone.Ghosts C.Denot) (D2 : Dict) where
  -- column_backward(p, records, step_grads, n, g_s, gw): for each row it reads the record of that row
  abbrev pub column_backward_claim :
      (κs : Lfts 6) → Dens κs (column_backward.Kinds.ps L C L1 L2 K) → AtExit (ended_of 6 (column_backward.Kinds.ps L C L1 L2 K) (column_backward.Kinds.r L C L1 L2 K)) κs → Type 0
  column_backward_claim κs (p, (records, (step_grads, (n, (g-s, (gw, none)))))) (_, (_, (_, (_, (_, (gw', _)))))) =
      gw'.now ≡ back_def p.now (λ i. G1.load records.now i) (λ i. slice_index_or step_grads.now i zero64) n (start_grad g-s) gw.now
