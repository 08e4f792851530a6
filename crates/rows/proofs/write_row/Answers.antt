-- `rows::write_row` meets its contract: its stores are those of the row's numbers, in order.
use Rattle.std.proofs.Common.{arith}
use native.Mathlib.Numerals.{unary_clauses}
use lib.ListN.{length-set}
use Rattle.rows.proofs.write_row.Goals as goal

pub bounds-rows-at-2 : goal.bounds-rows-at-2
bounds-rows-at-2 c = simp length-set (omega arith)

pub bounds-rows-at-3 : goal.bounds-rows-at-3
bounds-rows-at-3 c = simp length-set (omega arith)

pub returns : goal.returns
returns c = simp unary_clauses
