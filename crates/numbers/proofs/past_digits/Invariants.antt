-- The invariant of `numbers::past_digits`: what is past the digits of what is left is what is past those of all.
use Rattle.std.proofs.Common.{◌≡◌, length}
use Rattle.numbers.specs.Number.{past_digits}
use Rattle.numbers.proofs.past_digits.Given as goal

abbrev pub invariant-loop-rest : goal.invariant-loop-rest
invariant-loop-rest l = past_digits l.rest ≡ past_digits l.s

abbrev pub decreases-loop-rest : goal.decreases-loop-rest
decreases-loop-rest l = length l.rest
