-- The invariant of `past_nots`: the row reached has the source that the first row had. The measure is that row.
use Rattle.std.proofs.Common.{◌≡◌}
use Rattle.predicate.specs.Tree.{Sound}
use Rattle.cnf.specs.Source.{source_at}
use Rattle.cnf.proofs.past_nots.Given as goal

abbrev pub invariant-loop-x : goal.invariant-loop-x
invariant-loop-x l = Sound l.rows l.at.row × (source_at l.rows l.at ≡ source_at l.rows l.fn.start)

abbrev pub decreases-loop-x : goal.decreases-loop-x
decreases-loop-x l = l.at.row
