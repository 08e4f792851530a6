-- `parse_within` meets its contract: the rules that pass the table along are those of trees.
use Rattle.std.proofs.Common.{rules}
use Rattle.parser.proofs.PromiseKept.{accepted_as_promised, refused_as_promised}
use Rattle.parser.proofs.parse_within.Goals as goal

pub returns-in-Ok : goal.returns-in-Ok
returns-in-Ok c = accepted_as_promised _ _ _ _ c.in-Ok.is c.checked_expression.ensures

pub returns-in-Err : goal.returns-in-Err
returns-in-Err c = refused_as_promised _ _ _ _ c.in-Err.is c.checked_expression.ensures c.checked_expression.auto.rows (search rules)
