-- A predicate as a tree (FORMAT §6). Each node has its row's number, so that atoms can be told apart, and its row's label.
use Rattle.std.specs.Prelude.{ℕ, zero, suc, ◌<◌, ◌≤◌, List, ◌++◌, map, get_or}
use Rattle.rows.specs.Layout.{row_count, numbers, row_at}
use Rattle.rows.specs.Label.{Label, leaf_row, row_over_one, row_over_two, leaf_label, label_over_one, label_over_two}
use Rattle.rows.specs.declared.Row.{Row}
use Rattle.predicate.specs.Row.{shape_at, arity_of, operands_of}
use Rattle.predicate.specs.declared.Shape.{Shape}
use Rattle.predicate.specs.declared.Shape.TheVariants as shape
use Rattle.predicate.specs.declared.Arity.{Arity}
use Rattle.predicate.specs.declared.Arity.TheVariants as arity

-- AND (both), OR (either) and NOT (negation) over their operands; and what atoms are made of: a constant or a
-- column (leaf), an operator over one operand (unary), and one over two (binary). The number is the row's own
pub data Tree : Type 0 where
  leaf : ℕ → Label → Tree
  unary : ℕ → Label → Tree → Tree
  binary : ℕ → Label → Tree → Tree → Tree
  both : ℕ → Label → Tree → Tree → Tree
  either : ℕ → Label → Tree → Tree → Tree
  negation : ℕ → Label → Tree → Tree

-- the root's row
unfoldable pub root_of : Tree → ℕ
root_of (leaf r l) = r
root_of (unary r l a) = r
root_of (binary r l a b) = r
root_of (both r l a b) = r
root_of (either r l a b) = r
root_of (negation r l a) = r

-- the first row
unfoldable pub first_of : Tree → ℕ
first_of (leaf r l) = r
first_of (unary r l a) = first_of a
first_of (binary r l a b) = first_of a
first_of (both r l a b) = first_of a
first_of (either r l a b) = first_of a
first_of (negation r l a) = first_of a

-- the tree's rows in post-order
unfoldable pub rows_of : Tree → List ℕ
rows_of (leaf r l) = numbers (leaf_row l)
rows_of (unary r l a) = rows_of a ++ numbers (row_over_one l (root_of a))
rows_of (binary r l a b) = rows_of a ++ rows_of b ++ numbers (row_over_two l (root_of a) (root_of b))
rows_of (both r l a b) = rows_of a ++ rows_of b ++ numbers (row_over_two l (root_of a) (root_of b))
rows_of (either r l a b) = rows_of a ++ rows_of b ++ numbers (row_over_two l (root_of a) (root_of b))
rows_of (negation r l a) = rows_of a ++ numbers (row_over_one l (root_of a))

-- the tree of operand n of row r; a leaf where there is none, which no row that is read has
abbrev pub operand_in : List Tree → ℕ → ℕ → Row → Tree
operand_in ts n r w = get_or ts n (leaf r (leaf_label w))

-- what row r, of that shape and with those numbers, makes of its operands' trees
unfoldable pub node_of : Shape → ℕ → Row → List Tree → Tree
node_of shape.Leaf r w ts = leaf r (leaf_label w)
node_of (shape.One x) r w ts = unary r (label_over_one w) (operand_in ts 0 r w)
node_of (shape.Two x y) r w ts = binary r (label_over_two w) (operand_in ts 0 r w) (operand_in ts 1 r w)
node_of (shape.Both x y) r w ts = both r (label_over_two w) (operand_in ts 0 r w) (operand_in ts 1 r w)
node_of (shape.Either x y) r w ts = either r (label_over_two w) (operand_in ts 0 r w) (operand_in ts 1 r w)
node_of (shape.Not x) r w ts = negation r (label_over_one w) (operand_in ts 0 r w)

-- No entry's promise names what follows, the tree that a row's operands lead to: which rows are a predicate, Read says.

-- the tree at row r of a table, followed so deep
unfoldable pub tree_to : List ℕ → ℕ → ℕ → Tree
tree_to l zero r = leaf r (leaf_label (row_at l r))
tree_to l (suc deep) r = node_of (shape_at l r) r (row_at l r) (map (tree_to l deep) (operands_of (arity_of (shape_at l r))))

-- the tree at row r: where operands stand before their row it is at most r deep
unfoldable pub tree_at : List ℕ → ℕ → Tree
tree_at l r = tree_to l (suc r) r

-- its first row
unfoldable pub first_at : List ℕ → ℕ → ℕ
first_at l r = first_of (tree_at l r)

-- a row's operands stand before row r
abbrev pub Falls : Arity → ℕ → Type 0
Falls arity.Nil r = Unit {0}
Falls (arity.One x) r = x < r
Falls (arity.Two x y) r = (x < r) × (y < r)

-- rows 0 to r are there, and the operands of each stand before it
pub record Sound (l : List ℕ) (r : ℕ) : Type 0 where
  pub there : r < row_count l
  pub falls : (q : ℕ) → q ≤ r → Falls (arity_of (shape_at l q)) q
