-- A row's verdict by the three comparisons, and these of its fields. Assumes nothing.
use Rattle.std.proofs.Common.{Bool, cond, eqb}
use Rattle.model_v6.specs.declared.rows.Claimed.{Claimed}
use Rattle.model_v6.specs.declared.rows.Field.TheVariants.{Stability, Difficulty, Interval}
use Rattle.model_v6.specs.Rows.{RowCheck, Accepted, Wrong}

abbrev pub picked : (a b c : Bool) → RowCheck
picked a b c = cond a (cond b (cond c Accepted (Wrong Interval)) (Wrong Difficulty)) (Wrong Stability)

module _ (claimed ours : Claimed) where
  abbrev pub same_stability : Bool
  same_stability = eqb claimed.stability ours.stability

  abbrev pub same_difficulty : Bool
  same_difficulty = eqb claimed.difficulty ours.difficulty

  abbrev pub same_interval : Bool
  same_interval = eqb claimed.interval ours.interval
