-- The measures of the cycle: twice the row, and one more for `count_left_spine`, which calls `count_clauses` at the same row.
-- In the loop of `count_left_spine` the invariant is that the row reached joined with the list counted so far comes to what was asked for. The measure
-- is that row.
use Rattle.std.proofs.Common.{◌+◌, ◌*◌}
use Rattle.cnf.proofs.Counting.{LeftSpine}
use Rattle.cnf.proofs.+count_clauses_count_left_spine.Given as goal

abbrev pub invariant-count_left_spine-loop-left : goal.invariant-count_left_spine-loop-left
invariant-count_left_spine-loop-left l = LeftSpine l.rows l.fn.root l.crosswise l.initial.size l.at l.size

abbrev pub decreases-count_left_spine-loop-left : goal.decreases-count_left_spine-loop-left
decreases-count_left_spine-loop-left l = l.at.row

abbrev pub decreases-count_left_spine : goal.decreases-count_left_spine
decreases-count_left_spine l = 2 * l.root.row + 1

abbrev pub decreases-count_clauses : goal.decreases-count_clauses
decreases-count_clauses l = 2 * l.at.row
