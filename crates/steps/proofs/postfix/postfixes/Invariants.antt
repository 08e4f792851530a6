-- The invariant of `postfix::postfixes`: what is to come from here is what was to come from the start, and a row is written. The measure is how many
-- tokens are left.
use Rattle.std.proofs.Common.{ℕ, ◌-◌, ◌<◌}
use Rattle.tokens.specs.Token.{token_count, kind_at}
use Rattle.operators.specs.Operator.{binds, postfix_of}
use Rattle.grammar.specs.Memory.{while, postfix, postfixes}
use Rattle.grammar.proofs.Loops.{Turning}
use Rattle.steps.proofs.postfix.postfixes.Given as goal

abbrev pub invariant-loop-rows : goal.invariant-loop-rows
invariant-loop-rows l =
    Turning (while (λ (at : ℕ). binds (postfix_of (kind_at l.tokens at)) l.min) (postfix l.tokens))
    (postfixes l.tokens l.min l.initial.c l.initial.rows) l.tokens l.initial.rows l.c l.rows
    × (0 < l.c.rows)

abbrev pub decreases-loop-rows : goal.decreases-loop-rows
decreases-loop-rows l = token_count l.tokens - l.c.at
