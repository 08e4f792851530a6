-- `check` meets its contract: rows that pass the tests of the lengths are read in turn.
use Rattle.std.proofs.Common.{sym, ap, ◌∙◌, arith, rules}
use Rattle.predicate.specs.Read.{checked_of}
use Rattle.predicate.proofs.CheckLoop.{in_turn}
use Rattle.predicate.proofs.Accepted.{checks}
use Rattle.predicate.proofs.check.Goals as goal

pub returns : goal.returns
returns c =
    checks _ _
    (c.check_rows.ensures
    ∙ sym (ap checked_of (in_turn _ _ c.if-text-gt-TEXT_MAX.false (omega (arith, c.if-whole-gt-ROWS_MAX.false, c.count-whole.ensures)) (search rules))))
