-- `numbers::past_digits` meets its contract: each turn goes past one digit, and the loop ends at a byte that is none or with the spelling.
use Rattle.std.proofs.Common.{sym, ◌∙◌, arith}
use Rattle.numbers.proofs.Spelling.{past_on, past_off, past_out}
use Rattle.numbers.proofs.past_digits.Goals as goal

pub loop-rest-preserved : goal.loop-rest-preserved
loop-rest-preserved c = past_on _ c.in-len1-up.len_at_least (sym c.digit.ensures ∙ c.if-not-digit.false) ∙ c.loop-rest.invariant

pub returns-in_default : goal.returns-in_default
returns-in_default c = past_out _ (omega arith) ∙ c.loop-rest.invariant

pub returns-then-not-digit : goal.returns-then-not-digit
returns-then-not-digit c = past_off _ c.in-len1-up.len_at_least (sym c.digit.ensures ∙ c.if-not-digit.true) ∙ c.loop-rest.invariant
