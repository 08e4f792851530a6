-- The invariant of `numbers::digits`: what is past the digits of what is left is what is past those of all, and so is the value.
use Rattle.std.proofs.Common.{length}
use Rattle.std.specs.Prelude.{Some}
use Rattle.numbers.proofs.Spelling.{Running}
use Rattle.numbers.proofs.digits.Given as goal

abbrev pub invariant-loop-rest : goal.invariant-loop-rest
invariant-loop-rest l = Running l.s l.rest (Some l.value)

abbrev pub decreases-loop-rest : goal.decreases-loop-rest
decreases-loop-rest l = length l.rest
