-- Labels: what a row says of itself, its operands apart. Each node of a tree has one, in both families; with the rows of its operands it is the
-- node's row again.
use Rattle.std.specs.Prelude.{ℕ}
use Rattle.rows.specs.declared.Row.{Row}

-- a row's own numbers: x and y are 0 where the row names its operands, or counts them
pub record Label : Type 0 where
  pub kind : ℕ
  pub x : ℕ
  pub y : ℕ

abbrev pub label : ℕ → ℕ → ℕ → Label
label kind x y = record { kind = kind; x = x; y = y }

-- ---- the row of a node

-- with no operands: every number is its own
abbrev pub leaf_row : Label → Row
leaf_row l = record { kind = l.kind; x = l.x; y = l.y }

-- over one operand: x is the operand's row
abbrev pub row_over_one : Label → ℕ → Row
row_over_one l a = record { kind = l.kind; x = a; y = l.y }

-- over two: x is the left one's row, y the right one's
abbrev pub row_over_two : Label → ℕ → ℕ → Row
row_over_two l a b = record { kind = l.kind; x = a; y = b }

-- over any number of them: y says how many
abbrev pub row_over_many : Label → ℕ → Row
row_over_many l many = record { kind = l.kind; x = l.x; y = many }

-- ---- and the label of a row

abbrev pub leaf_label : Row → Label
leaf_label w = record { kind = w.kind; x = w.x; y = w.y }

abbrev pub label_over_one : Row → Label
label_over_one w = record { kind = w.kind; x = 0; y = w.y }

abbrev pub label_over_two : Row → Label
label_over_two w = record { kind = w.kind; x = 0; y = 0 }

abbrev pub label_over_many : Row → Label
label_over_many w = record { kind = w.kind; x = w.x; y = 0 }
