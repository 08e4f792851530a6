-- `test::Condition::value` meets its contract: the pattern of a NaN is the NaN.
use Rattle.std.proofs.Common.{◌∙◌}
use borrow.Author.Tests.{ne_eqb}
use lib.Ieee.{of_bits}
use Rattle.columns.specs.Lookup.{looked_for}
use Rattle.columns.proofs.test.Condition.value.Goals as goal

pub returns-in-Is : goal.returns-in-Is
unfolding looked_for of_bits
returns-in-Is c =
    rw (c.in-Is.is, ne_eqb c.in-Is.field-0 0 (λ e. c.in-Is.field-0-test.1 (c.in-Is.field-0-is ∙ e)), looked_for)
