-- The invariant of `check_rows`: the reading stands before row r.
use Rattle.std.proofs.Common.{◌≡◌}
use Rattle.rows.specs.Layout.{row_count}
use Rattle.predicate.proofs.CheckLoop.{Reads}
use Rattle.predicate.proofs.check_rows.Given as goal

abbrev pub invariant-loop-r : goal.invariant-loop-r
invariant-loop-r l = Reads l.text l.rows l.r × (l.whole ≡ row_count l.rows)
