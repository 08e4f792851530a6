-- `test::test_at` meets its contract: the tree at a row is made by the row's shape, from the trees at its operands.
use Rattle.std.proofs.Common.{refl, sym, ap, ◌∙◌}
use Rattle.std.specs.Option.{option_map}
use Rattle.rows.specs.Label.{leaf_label}
use Rattle.columns.proofs.TestsByShape.{test_is, test_equal}
use Rattle.columns.proofs.test.test_at.Goals as goal

pub returns-in_err-leaf_at-in-One-eq13 : goal.returns-in_err-leaf_at-in-One-eq13
returns-in_err-leaf_at-in-One-eq13 c =
    c.from_residual.ensures
    ∙ test_is c.requires c.shape_at.ensures c.row_at-row.ensures c.in-One-eq13.is-0 c.in-One-eq13.is-1
    (ap (option_map leaf_label) (sym c.in_err-leaf_at-in-One-eq13.was) ∙ c.leaf_at.ensures)

pub returns-in_ok-leaf_at-in-One-eq13 : goal.returns-in_ok-leaf_at-in-One-eq13
returns-in_ok-leaf_at-in-One-eq13 c =
    c.is_test.ensures
    ∙ test_is c.requires c.shape_at.ensures c.row_at-row.ensures c.in-One-eq13.is-0 c.in-One-eq13.is-1
    (ap (option_map leaf_label) (sym c.in_ok-leaf_at-in-One-eq13.was) ∙ c.leaf_at.ensures)

pub returns-in_err-leaf_at-in-Two-eq10 : goal.returns-in_err-leaf_at-in-Two-eq10
returns-in_err-leaf_at-in-Two-eq10 c =
    c.from_residual-in_err-leaf_at-in-Two-eq10.ensures
    ∙ test_equal c.requires c.shape_at.ensures c.row_at-row.ensures c.in-Two-eq10.is-0 c.in-Two-eq10.is-1
    (ap (option_map leaf_label) (sym c.in_err-leaf_at-in-Two-eq10.was) ∙ c.leaf_at-in-Two-eq10.ensures) refl

pub returns-in_err-leaf_at-in-Two-eq10-2 : goal.returns-in_err-leaf_at-in-Two-eq10-2
returns-in_err-leaf_at-in-Two-eq10-2 c =
    c.from_residual-in_err-leaf_at-in-Two-eq10-2.ensures
    ∙ test_equal c.requires c.shape_at.ensures c.row_at-row.ensures c.in-Two-eq10.is-0 c.in-Two-eq10.is-1
    (ap (option_map leaf_label) (sym c.in_ok-leaf_at-in-Two-eq10.was) ∙ c.leaf_at-in-Two-eq10.ensures)
    (ap (option_map leaf_label) (sym c.in_err-leaf_at-in-Two-eq10-2.was) ∙ c.leaf_at-in-Two-eq10-2.ensures)

pub returns-in_ok-leaf_at-in-Two-eq10-2 : goal.returns-in_ok-leaf_at-in-Two-eq10-2
returns-in_ok-leaf_at-in-Two-eq10-2 c =
    c.equal_test.ensures
    ∙ test_equal c.requires c.shape_at.ensures c.row_at-row.ensures c.in-Two-eq10.is-0 c.in-Two-eq10.is-1
    (ap (option_map leaf_label) (sym c.in_ok-leaf_at-in-Two-eq10.was) ∙ c.leaf_at-in-Two-eq10.ensures)
    (ap (option_map leaf_label) (sym c.in_ok-leaf_at-in-Two-eq10-2.was) ∙ c.leaf_at-in-Two-eq10-2.ensures)
