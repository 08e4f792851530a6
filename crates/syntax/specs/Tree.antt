-- Syntax trees, and the rows that a tree is (FORMAT §5). Each node has a label: its row's own numbers, operands apart.
use Rattle.std.specs.Prelude.{ℕ, ◌+◌, ◌-◌, List, [], ◌++◌}
use Rattle.rows.specs.Label.{Label, leaf_row, row_over_one, row_over_two, row_over_many}
use Rattle.rows.specs.Layout.{numbers}

mutual
  pub data Tree : Type 0 where
    leaf : Label → Tree
    unary : Label → Tree → Tree
    binary : Label → Tree → Tree → Tree
    call : Label → Trees → Tree

  -- a function's arguments: none, or those so far and one more
  pub data Trees : Type 0 where
    none : Trees
    more : Trees → Tree → Trees

-- how many rows a tree has: one for each node
unfoldable mutual
  pub size : Tree → ℕ
  size (leaf l) = 1
  size (unary l a) = size a + 1
  size (binary l a b) = size a + size b + 1
  size (call l xs) = sizes xs + 1

  pub sizes : Trees → ℕ
  sizes none = 0
  sizes (more xs x) = sizes xs + size x

-- how many trees there are
unfoldable pub many : Trees → ℕ
many none = 0
many (more xs x) = many xs + 1

-- the root's row, where the tree's first row is n
abbrev pub root : ℕ → Tree → ℕ
root n a = n + size a - 1

-- a tree's rows in post-order, the first being row n: the operands in turn, then the node
unfoldable mutual
  pub rows_of : ℕ → Tree → List ℕ
  rows_of n (leaf l) = numbers (leaf_row l)
  rows_of n (unary l a) = rows_of n a ++ numbers (row_over_one l (root n a))
  rows_of n (binary l a b) = rows_of n a ++ rows_of (n + size a) b ++ numbers (row_over_two l (root n a) (root (n + size a) b))
  rows_of n (call l xs) = rows_all n xs ++ numbers (row_over_many l (many xs))

  pub rows_all : ℕ → Trees → List ℕ
  rows_all n none = []
  rows_all n (more xs x) = rows_all n xs ++ rows_of (n + sizes xs) x
