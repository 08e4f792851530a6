-- The invariant of `counts::fill_clause_counts`: the table has the counts of the rows that were passed.
use Rattle.std.proofs.Common.{◌≡◌, length}
use Rattle.lookup.specs.ByNumber.{CountsBelow}
use Rattle.lookup.proofs.counts.fill_clause_counts.Given as goal

abbrev pub invariant-loop-row : goal.invariant-loop-row
invariant-loop-row l = CountsBelow l.rows l.table l.row × (length l.table ≡ length l.initial.table)
