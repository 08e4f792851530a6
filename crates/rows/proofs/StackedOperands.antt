-- Operands on a stack of whole subtrees. The subtree that ends directly before `next` is taken for an operand that names its root (`took`), and for no other
-- (`missed`).
-- Assumes nothing.
use mathlib.Core.Path.{◌≡◌, ap}
use mathlib.Core.Bool.{Bool, true, false}
use mathlib.Core.List.{List, ◌∷◌}
use Prim.Native.Nat.{ℕ, ◌+◌}
use lib.Dec.{eqb}
use Rattle.rows.specs.PostOrder.{Subtree, at, off, found, stands_before, before}

module _ {T : Type 0} (x next : ℕ) (trees : List T) (w : Subtree T) (left : List (Subtree T)) where
  pub took : eqb (x + 1) next ≡ true → before (at x) (found next trees (w ∷ left)) ≡ found w.first (w.tree ∷ trees) left
  unfolding before stands_before
  took e = ap (λ (b : Bool). elim b [ true ↦ found w.first (w.tree ∷ trees) left | false ↦ off ]) e

  pub missed : eqb (x + 1) next ≡ false → before (at x) (found next trees (w ∷ left)) ≡ off
  unfolding before stands_before
  missed e = ap (λ (b : Bool). elim b [ true ↦ found w.first (w.tree ∷ trees) left | false ↦ off ]) e
