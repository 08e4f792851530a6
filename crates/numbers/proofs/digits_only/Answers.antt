-- `numbers::digits_only` meets its contract: where nothing is left past the digits, their value is the Integer's.
use Rattle.std.proofs.Common.{sym, ◌∙◌}
use Rattle.numbers.proofs.Spelling.{all_digits_are, value_said}
use Rattle.numbers.proofs.digits_only.Goals as goal

pub returns-then-is_empty-2 : goal.returns-then-is_empty-2
returns-then-is_empty-2 c =
    let run = c.digits-run.ensures in
    value_said _ _
    (all_digits_are _ _ _ (sym c.is_empty.ensures ∙ c.if-is_empty.false) run.rest (sym c.is_empty-2.ensures ∙ c.if-is_empty-2.true) run.value)
