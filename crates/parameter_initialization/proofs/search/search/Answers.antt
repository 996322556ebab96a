use Rattle.parameter_initialization.proofs.Rounds.{ends_last, ends_met, ends_same, goes_on}
use Rattle.std.proofs.Common.{refl, rules}
use Rattle.parameter_initialization.proofs.search.search.Goals as goal

pub loop-round-init : goal.loop-round-init
loop-round-init c = (search rules, refl)

pub loop-round-preserved : goal.loop-round-preserved
loop-round-preserved c =
    let l = c.loop-round in (
      search rules,
      goes_on _ _ _ _ l.round l.b l.invariant.1 l.invariant.0 c.if-round-eq-ROUNDS.false _ c.derivatives-d.ensures _ c.narrowed-c.ensures _ c.is_same_single.ensures
          c.if-is_same_single.false _ c.next_guess-next.ensures _ c.is_same_single-in-loop-round.ensures c.if-is_same_single-2.false,
    )

pub returns-then-round-eq-ROUNDS : goal.returns-then-round-eq-ROUNDS
returns-then-round-eq-ROUNDS c =
    let l = c.loop-round in ends_last _ _ _ _ l.round l.b l.invariant.1 c.if-round-eq-ROUNDS.true _ c.middle-found.ensures

pub returns-then-is_same_single : goal.returns-then-is_same_single
returns-then-is_same_single c =
    let l = c.loop-round in
    ends_met _ _ _ _ l.round l.b l.invariant.1 l.invariant.0 c.if-round-eq-ROUNDS.false _ c.derivatives-d.ensures _ c.narrowed-c.ensures _ c.is_same_single.ensures
    c.if-is_same_single.true _ c.middle-found-then-is_same_single.ensures

pub returns-then-is_same_single-2 : goal.returns-then-is_same_single-2
returns-then-is_same_single-2 c =
    let l = c.loop-round in
    ends_same _ _ _ _ l.round l.b l.invariant.1 l.invariant.0 c.if-round-eq-ROUNDS.false _ c.derivatives-d.ensures _ c.narrowed-c.ensures _ c.is_same_single.ensures
    c.if-is_same_single.false _ c.next_guess-next.ensures _ c.is_same_single-in-loop-round.ensures c.if-is_same_single-2.true
