-- What is written lies in the places.
use Rattle.std.proofs.Common.{◌≤◌, length}
use Rattle.lines.proofs.numbers.numbers_of.Given as goal

abbrev pub invariant-loop-word : goal.invariant-loop-word
invariant-loop-word g l = l.n ≤ length l.out
