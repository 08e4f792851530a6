-- The measure of `prepend_clauses` is the row, from call to call and from turn to turn. The invariant: what is left is to put the clauses of row `at` before
-- the heads that stand now.
use Rattle.listing.specs.Chain.{free_of}
use Rattle.listing.proofs.PrependLoop.{PrependsLeft}
use Rattle.listing.proofs.+prepend_clauses.Given as goal

abbrev pub decreases-prepend_clauses : goal.decreases-prepend_clauses
decreases-prepend_clauses l = l.root.row

abbrev pub invariant-loop-atom : goal.invariant-loop-atom
invariant-loop-atom l =
    PrependsLeft l.rows l.initial.cells l.cells l.initial.heads l.heads l.spare l.fn.start l.run (free_of l.initial.cells) (free_of l.cells) l.fn.root l.at

abbrev pub decreases-loop-atom : goal.decreases-loop-atom
decreases-loop-atom l = l.at.row
