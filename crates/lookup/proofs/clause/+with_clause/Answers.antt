-- `clause::with_clause`, which calls itself, meets its contract: an atom's clause is its literal; of lists that are joined crosswise a clause is a left one
-- and a right one, and of lists that stand one after the other it is one of either.
use Rattle.std.proofs.Common.{◌∙◌, arith, rules}
use Rattle.lookup.proofs.ClauseOfJoined.{atom_can_add, atom_result, falls_left, falls_right, left_in_table, right_in_table, each_some}
use Rattle.lookup.proofs.ClauseOfJoined.{left_can_find, right_can_find, cross_result, found_in_two}
use Rattle.lookup.proofs.clause.+with_clause.Goals as goal

pub with_literal-requires : goal.with_literal-requires
with_literal-requires t c = atom_can_add c.requires c.past_nots.ensures c.in-Atom.is

pub nonzero_div-of_left : goal.nonzero_div-of_left
nonzero_div-of_left t c = each_some c.requires c.past_nots.ensures c.in-Joined.is c.if-crosswise.true c.when-each.ensures

pub nonzero_rem-of_right : goal.nonzero_rem-of_right
nonzero_rem-of_right t c = each_some c.requires c.past_nots.ensures c.in-Joined.is c.if-crosswise.true c.when-each.ensures

pub with_clause-requires : goal.with_clause-requires
with_clause-requires t c = (
  omega (arith, c.decreases, falls_left c.requires c.past_nots.ensures c.in-Joined.is),
  left_can_find c.requires c.past_nots.ensures c.in-Joined.is c.if-crosswise.true c.when-each.ensures,
)

pub with_clause-requires-then-crosswise : goal.with_clause-requires-then-crosswise
with_clause-requires-then-crosswise t c = (
  omega (arith, c.decreases, falls_right c.requires c.past_nots.ensures c.in-Joined.is),
  right_can_find c.requires c.past_nots.ensures c.in-Joined.is c.if-crosswise.true c.when-each.ensures c.with_clause.ensures,
)

pub with_clause-requires-else-crosswise : goal.with_clause-requires-else-crosswise
with_clause-requires-else-crosswise t c =
    let found = found_in_two c.requires c.past_nots.ensures c.in-Joined.is c.if-crosswise.false c.when-many.ensures c.clause_of_two-side.ensures in
    (omega (arith, c.decreases, found.falls), found.meets)

pub returns-in-Atom : goal.returns-in-Atom
returns-in-Atom t c = c.with_literal.ensures ∙ atom_result c.requires c.past_nots.ensures c.in-Atom.is

pub returns-then-crosswise : goal.returns-then-crosswise
returns-then-crosswise t c =
    c.with_clause-then-crosswise.ensures
    ∙ cross_result c.requires c.past_nots.ensures c.in-Joined.is c.if-crosswise.true c.when-each.ensures c.with_clause.ensures

pub returns-else-crosswise : goal.returns-else-crosswise
returns-else-crosswise t c =
    c.with_clause-else-crosswise.ensures
    ∙ (found_in_two c.requires c.past_nots.ensures c.in-Joined.is c.if-crosswise.false c.when-many.ensures c.clause_of_two-side.ensures).result

pub offset_bounds-table-right : goal.offset_bounds-table-right
offset_bounds-table-right t c = let lt = right_in_table c.requires c.past_nots.ensures c.in-Joined.is in search rules

pub bounds-table-right : goal.bounds-table-right
bounds-table-right t c = right_in_table c.requires c.past_nots.ensures c.in-Joined.is

pub offset_bounds-table-left : goal.offset_bounds-table-left
offset_bounds-table-left t c = let lt = left_in_table c.requires c.past_nots.ensures c.in-Joined.is in search rules

pub bounds-table-left : goal.bounds-table-left
bounds-table-left t c = left_in_table c.requires c.past_nots.ensures c.in-Joined.is
