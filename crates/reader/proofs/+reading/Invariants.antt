-- The measures of the cycle: the levels left, and a rank of each member below its callers' at the same level.
use Rattle.std.proofs.Common.{◌+◌, ◌-◌, ◌*◌, ◌≤◌, ◌<◌, ℕ}
use Rattle.tokens.specs.Token.{token_count, kind_at}
use Rattle.operators.specs.Operator.{binds, infix_of}
use Rattle.grammar.specs.Memory as M
use Rattle.grammar.proofs.Loops.{Turning}
use Rattle.reader.proofs.+reading.Given as goal

abbrev pub decreases-argument : goal.decreases-argument
decreases-argument l = 8 * l.rest + 3

abbrev pub decreases-arguments : goal.decreases-arguments
decreases-arguments l = 8 * l.rest + 4

abbrev pub decreases-atom : goal.decreases-atom
decreases-atom l = 8 * l.rest + 6

abbrev pub decreases-expression : goal.decreases-expression
decreases-expression l = 8 * l.levels

abbrev pub decreases-group : goal.decreases-group
decreases-group l = 8 * l.rest + 5

abbrev pub decreases-infixed : goal.decreases-infixed
decreases-infixed l = 8 * l.rest + 6

abbrev pub decreases-infixes : goal.decreases-infixes
decreases-infixes l = 8 * l.rest + 7

abbrev pub decreases-named : goal.decreases-named
decreases-named l = 8 * l.rest + 5

abbrev pub decreases-operand : goal.decreases-operand
decreases-operand l = 8 * l.rest + 7

abbrev pub decreases-right_side : goal.decreases-right_side
decreases-right_side l = 8 * l.levels + 1

-- in the arguments: what is to come from here is what was to come from the start, and there are no more arguments than tokens
abbrev pub invariant-arguments-loop-rows : goal.invariant-arguments-loop-rows
invariant-arguments-loop-rows l =
    Turning (M.arguments l.text l.tokens (M.expression l.text l.tokens l.rest) l.name l.n)
    (M.arguments l.text l.tokens (M.expression l.text l.tokens l.rest) l.name 0 (M.fuel l.tokens) l.initial.c l.initial.rows) l.tokens l.initial.rows l.c l.rows
    × (l.n ≤ l.c.at)

-- the measure is how many tokens are left
abbrev pub decreases-arguments-loop-rows : goal.decreases-arguments-loop-rows
decreases-arguments-loop-rows l = token_count l.tokens - l.c.at

-- in the infix operators: what is to come from here is what was to come from the start, and a row is written
abbrev pub invariant-infixes-loop-rows : goal.invariant-infixes-loop-rows
invariant-infixes-loop-rows l =
    Turning
    (M.while (λ (at : ℕ). binds (infix_of (kind_at l.tokens at)).precedence l.min)
    (M.infixed l.text l.tokens (M.expression l.text l.tokens l.rest)))
    (M.infixes l.text l.tokens (M.expression l.text l.tokens l.rest) l.min l.initial.c l.initial.rows) l.tokens l.initial.rows l.c l.rows
    × (0 < l.c.rows)

-- the measure is how many tokens are left
abbrev pub decreases-infixes-loop-rows : goal.decreases-infixes-loop-rows
decreases-infixes-loop-rows l = token_count l.tokens - l.c.at
