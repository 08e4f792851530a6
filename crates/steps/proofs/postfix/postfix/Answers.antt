-- `postfix::postfix` meets its contract after IS NOT.
use Rattle.grammar.proofs.Reached.{came}
use Rattle.grammar.proofs.RowWritten.{null_writes}
use Rattle.steps.proofs.postfix.postfix.Goals as goal

pub push_over_last-requires-2 : goal.push_over_last-requires-2
push_over_last-requires-2 c = came c.in_ok-d.was (rw c.past-2.ensures at c.null_or_nan-2.ensures) (null_writes _ _ _ c.requires.1)
