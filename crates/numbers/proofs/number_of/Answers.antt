-- `numbers::number_of` meets its contract: where nothing is left past the digits, they are an Integer, or past the largest no number.
use Rattle.std.proofs.Common.{sym, ap, ◌∙◌}
use Rattle.std.specs.Option.{option_map}
use Rattle.numbers.proofs.Spelling.{digits_are}
use Rattle.numbers.specs.declared.Number.TheVariants.{Integer}
use Rattle.numbers.proofs.number_of.Goals as goal

pub returns-in_err-run : goal.returns-in_err-run
returns-in_err-run c =
    let run = c.digits-run.ensures in
    c.from_residual.ensures
    ∙ ap (option_map Integer) (sym c.in_err-run.was)
    ∙ sym (digits_are _ _ _ (sym c.begins.ensures ∙ c.if-not-begins.false) run.rest (sym c.is_empty.ensures ∙ c.if-is_empty.true) run.value)

pub returns-then-is_empty : goal.returns-then-is_empty
returns-then-is_empty c =
    let run = c.digits-run.ensures in
    ap (option_map Integer) (sym c.in_ok-run.was)
    ∙ sym (digits_are _ _ _ (sym c.begins.ensures ∙ c.if-not-begins.false) run.rest (sym c.is_empty.ensures ∙ c.if-is_empty.true) run.value)
