-- Rows in post-order (FORMAT §5 and §6): the whole subtrees of a row's operands stand directly before it, in operand order.
-- Reading goes from row to row and keeps a stack of what is complete, the last subtree first: each ends directly before the next begins, the last
-- one directly before the row that is read. What a row makes of its operands, a tree of some type T, is each family's own.
use Rattle.std.specs.Prelude.{ℕ, ◌+◌, Bool, true, false, List, [], ◌∷◌, eqb}

-- a whole subtree: its first row, and its tree
pub record Subtree (T : Type 0) : Type 0 where
  pub first : ℕ
  pub tree : T

-- an operand, named by its root's row; or any, where a row says only how many operands it has
pub data Operand : Type 0 where
  at : ℕ → Operand
  any : Operand

-- operands that stand directly before some row: where they begin, their trees in order, and the subtrees left before them; or that they do not
pub data Operands (T : Type 0) : Type 0 where
  off : Operands T
  found : ℕ → List T → List (Subtree T) → Operands T

-- is the operand the one whose root stands directly before row `next`?
unfoldable pub stands_before : Operand → ℕ → Bool
stands_before (at r) next = eqb (r + 1) next
stands_before any next = true

-- one operand more, before those that are found
unfoldable pub before : {T : Type 0} → Operand → Operands T → Operands T
before o off = off
before o (found next trees []) = off
before o (found next trees (w ∷ left)) =
    elim (stands_before o next) [
      | true ↦ found w.first (w.tree ∷ trees) left
      | false ↦ off
    ]

-- the operands of row r, found on the stack of the subtrees before it
unfoldable pub directly_before : {T : Type 0} → List Operand → ℕ → List (Subtree T) → Operands T
directly_before [] r stack = found r [] stack
directly_before (o ∷ os) r stack = before o (directly_before os r stack)

-- what reading a row leaves: the stack with the row's own subtree on it; or that the row does not stand on its operands
pub data Next (T : Type 0) : Type 0 where
  bad : Next T
  on : List (Subtree T) → Next T

-- a row takes its operands from the stack and leaves what it makes of their trees
unfoldable pub push : {T : Type 0} → (List T → T) → Operands T → Next T
push make off = bad
push make (found first trees left) = on (record { first = first; tree = make trees } ∷ left)
