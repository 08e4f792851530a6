-- Syntax rows read back (FORMAT §5): which operands a row names, by its kind, and what tree it makes of theirs. Reading goes from row to
-- row and keeps a stack of the subtrees that are complete.
use Rattle.std.specs.Prelude.{◌≡◌, ℕ, zero, suc, ◌+◌, true, false, List, [], ◌∷◌, replicate, eqb, ltb, leb}
use Rattle.rows.specs.Label.{leaf_label, label_over_one, label_over_two, label_over_many}
use Rattle.rows.specs.Layout.{row_at}
use Rattle.rows.specs.PostOrder.{Subtree, Operand, at, any, directly_before, Next, bad, on, push}
use Rattle.rows.specs.declared.Row.{Row}
use Rattle.syntax.specs.Kind as row
use Rattle.syntax.specs.Tree.{Tree, leaf, unary, binary, call, Trees, none, more}

-- how many operands a kind has: a leaf none, a function as many as y says. Kinds are not judged here: 0 counts as a leaf, 32 and above as over two
pub data Arity : Type 0 where
  nullary one two counted : Arity

unfoldable pub arity_of : ℕ → Arity
arity_of k =
    elim (ltb k row.function) [
      | true ↦ nullary
      | false ↦ elim (eqb k row.function) [ true ↦ counted | false ↦ elim (leb k row.is) [ true ↦ one | false ↦ two ] ]
    ]

-- the operands that a row names
unfoldable pub operands_by : Arity → Row → List Operand
operands_by nullary r = []
operands_by one r = at r.x ∷ []
operands_by two r = at r.x ∷ at r.y ∷ []
operands_by counted r = replicate r.y any

-- arguments, after those so far
unfoldable pub gather : Trees → List Tree → Trees
gather xs [] = xs
gather xs (x ∷ l) = gather (more xs x) l

-- a row over its operands' trees: over too few, which no row gets, it is a leaf
unfoldable pub over_one : Row → List Tree → Tree
over_one r [] = leaf (leaf_label r)
over_one r (a ∷ l) = unary (label_over_one r) a

unfoldable pub over_two : Row → List Tree → Tree
over_two r [] = leaf (leaf_label r)
over_two r (a ∷ []) = leaf (leaf_label r)
over_two r (a ∷ b ∷ l) = binary (label_over_two r) a b

-- what a row makes of its operands' trees
unfoldable pub node_by : Arity → Row → List Tree → Tree
node_by nullary r l = leaf (leaf_label r)
node_by one r l = over_one r l
node_by two r l = over_two r l
node_by counted r l = call (label_over_many r) (gather none l)

-- row r is read: it stands on its operands
unfoldable pub step_at : List ℕ → ℕ → List (Subtree Tree) → Next Tree
step_at t r stack =
    let k = arity_of (row_at t r).kind in
    push (node_by k (row_at t r)) (directly_before (operands_by k (row_at t r)) r stack)

-- and then
unfoldable pub and_then : Next Tree → (List (Subtree Tree) → Next Tree) → Next Tree
and_then bad k = bad
and_then (on stack) k = k stack

-- rows from r on, so many of them
unfoldable pub read_from : List ℕ → ℕ → ℕ → List (Subtree Tree) → Next Tree
read_from t zero r stack = on stack
read_from t (suc left) r stack = and_then (step_at t r stack) (read_from t left (r + 1))

-- the first n rows of t are the whole tree x, and nothing else
pub record Whole (t : List ℕ) (n : ℕ) (x : Tree) : Type 0 where
  pub back : read_from t n 0 [] ≡ on (record { first = 0; tree = x } ∷ [])
