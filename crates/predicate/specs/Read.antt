-- Which rows are a predicate (FORMAT §6), and why others are refused (FORMAT §11).
use Rattle.std.specs.Prelude.{Result, Ok, Err, ℕ, zero, suc, ◌+◌, ◌-◌, ◌<◌, ◌≡◌, true, false, ◌||◌, List, [], ◌∷◌, map, length, ltb}
use Rattle.limits.specs.Limits.{text_max, rows_max}
use Rattle.refusals.specs.Refusal.{refused as refusal_at}
use Rattle.refusals.specs.declared.Refusal.{Refusal}
use Rattle.refusals.specs.declared.Refusal.TheVariants.{TooLong, BadTree}
use Rattle.refusals.specs.declared.Refused.{Refused}
use Rattle.rows.specs.Layout.{row_count, only_whole, row_at}
use Rattle.rows.specs.PostOrder.{Subtree, at, directly_before, Next, bad, on, push}
use Rattle.predicate.specs.Row.{class_of, allowed_of, shape_at, arity_of, operands_of}
use Rattle.predicate.specs.Tree.{Tree, root_of, node_of, tree_at, Sound}

-- what rows are: one tree, or a refusal and its place
pub data Reading : Type 0 where
  one : Tree → Reading
  refused : Refusal → ℕ → Reading

-- row r is read: its numbers are allowed, and it stands on its operands
unfoldable pub step_at : List ℕ → List ℕ → ℕ → List (Subtree Tree) → Next Tree
step_at text l r stack =
    elim (allowed_of text (class_of (row_at l r).kind) (row_at l r).x (row_at l r).y) [
      | true ↦ push (node_of (shape_at l r) r (row_at l r)) (directly_before (map at (operands_of (arity_of (shape_at l r)))) r stack)
      | false ↦ bad
    ]

-- after the last of r rows there is one whole tree; or there are no rows, or several roots
unfoldable pub ended : ℕ → List (Subtree Tree) → Reading
ended r [] = refused BadTree 0
ended r (w ∷ []) = one w.tree
ended r (w ∷ v ∷ stack) = refused BadTree (r - 1)

-- a row that is bad ends the reading
unfoldable pub and_then : ℕ → Next Tree → (List (Subtree Tree) → Reading) → Reading
and_then r bad rest = refused BadTree r
and_then r (on stack) rest = rest stack

-- rows from r on, with so many left
unfoldable pub read_from : List ℕ → List ℕ → ℕ → ℕ → List (Subtree Tree) → Reading
read_from text l zero r stack = ended r stack
read_from text l (suc left) r stack = and_then r (step_at text l r stack) (read_from text l left (r + 1))

-- a text or rows that are too long; then a length that is no multiple of a row's; then no rows (by `ended`), or each row in turn
unfoldable pub read_rows : List ℕ → List ℕ → Reading
read_rows text l =
    elim (ltb text_max (length text) || ltb rows_max (row_count l)) [
      | true ↦ refused TooLong 0
      | false ↦
          elim (only_whole l) [
            | true ↦ read_from text l (row_count l) 0 []
            | false ↦ refused BadTree (row_count l)
          ]
    ]

-- No entry's promise names what follows: what the check's own promise is made of.

-- what the check answers: the root's row, or the refusal
unfoldable pub checked_of : Reading → Result ℕ Refused
checked_of (one t) = Ok (root_of t)
checked_of (refused why place) = Err (refusal_at why place)

-- the rows are a predicate: the tree at row `root`, which is no later than rows may be, and where the operands of each row stand before it
pub record Rooted (text rows : List ℕ) (root : ℕ) : Type 0 where
  pub reads : read_rows text rows ≡ one (tree_at rows root)
  pub sound : Sound rows root
  pub low : root < rows_max

-- the check's promise: v is what the rows are read as; a root is the root of the tree that they are; a refusal is the reading's own
pub record Checks (text rows : List ℕ) (v : Result ℕ Refused) : Type 0 where
  pub answer : v ≡ checked_of (read_rows text rows)
  pub good : (root : ℕ) → v ≡ Ok root → Rooted text rows root
  pub bad : (why : Refusal) (place : ℕ) → v ≡ Err (refusal_at why place) → read_rows text rows ≡ refused why place
