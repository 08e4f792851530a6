-- `check_rows` meets its contract: each turn reads one row, and the last row is asked for what stands before it (`row_steps`); a bad row ends the reading.
use Rattle.std.proofs.Common.{Err, ap, ◌∙◌, arith, rules}
use Rattle.predicate.proofs.CheckLoop.{stops}
use Rattle.predicate.proofs.check_rows.Goals as goal

pub returns-then-not-good_at : goal.returns-then-not-good_at
returns-then-not-good_at c =
    let loop = c.loop-r in
    ap Err c.at.ensures ∙ stops loop.invariant.0 (omega (arith, c.loop-r-test.true, loop.invariant.1)) (search rules)
