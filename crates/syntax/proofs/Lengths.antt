-- A tree's rows have `width` numbers each.
-- Assumes nothing.
use mathlib.Core.Path.{◌≡◌, refl, ap, ◌∙◌}
use mathlib.Core.List.{◌++◌}
use Prim.Native.Nat.{ℕ, ◌+◌, ◌*◌}
use native.Mathlib.Omega.{arith}
use lib.ListN.{length, length-append}
use Rattle.rows.specs.Layout.{width}
use Rattle.syntax.specs.Tree.{Tree, leaf, unary, binary, call, Trees, none, more, size, sizes, rows_of, rows_all}

mutual
  unfolding rows_of size

  pub length_rows : (n : ℕ) (x : Tree) → length (rows_of n x) ≡ size x * width
  length_rows n (leaf l) = refl
  length_rows n (unary l a) = length-append (rows_of n a) _ ∙ (let e = length_rows n a in omega arith)
  length_rows n (binary l a b) =
      length-append (rows_of n a ++ rows_of (n + size a) b) _
      ∙ ap (λ (k : ℕ). k + width) (length-append (rows_of n a) _)
      ∙ (let e = length_rows n a in let f = length_rows (n + size a) b in omega arith)
  length_rows n (call l xs) = length-append (rows_all n xs) _ ∙ (let e = length_all n xs in omega arith)

  pub length_all : (n : ℕ) (xs : Trees) → length (rows_all n xs) ≡ sizes xs * width
  length_all n none = refl
  length_all n (more xs x) =
      length-append (rows_all n xs) _ ∙ (let e = length_all n xs in let f = length_rows (n + sizes xs) x in omega arith)
