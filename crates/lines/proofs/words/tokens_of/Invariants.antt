-- What is written lies in the table.
use Rattle.std.proofs.Common.{◌≤◌, length}
use Rattle.lines.proofs.words.tokens_of.Given as goal

abbrev pub invariant-loop-word : goal.invariant-loop-word
invariant-loop-word l = l.n ≤ length l.table
