-- The invariant of `first_of`: row q can be followed down, and its tree begins where that of row r does. The measure is q.
use Rattle.std.proofs.Common.{◌≡◌}
use Rattle.predicate.specs.Tree.{first_at, Sound}
use Rattle.predicate.proofs.first_of.Given as goal

abbrev pub invariant-loop-x : goal.invariant-loop-x
invariant-loop-x l = Sound l.rows l.q × (first_at l.rows l.q ≡ first_at l.rows l.r)

abbrev pub decreases-loop-x : goal.decreases-loop-x
decreases-loop-x l = l.q
