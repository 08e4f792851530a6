-- `clause_lookup_within` meets its contract: the table has the counts of all rows, so the clause can be found.
use Rattle.std.proofs.Common.{rules}
use Rattle.lookup.proofs.AnswerOfClause.{can_find_first}
use Rattle.lookup.proofs.clause_lookup_within.Goals as goal

pub with_clause-requires : goal.with_clause-requires
with_clause-requires g c = can_find_first c.requires.0 (search rules) c.fill_clause_counts.ensures.0
