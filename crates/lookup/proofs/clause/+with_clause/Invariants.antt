-- What falls from call to call of `clause::with_clause`: the row.
use Rattle.lookup.proofs.clause.+with_clause.Given as goal

abbrev pub decreases-with_clause : goal.decreases-with_clause
decreases-with_clause l = l.from.at.row
