-- What the parts of the row check's code promise each other. No public promise names this file.
use Rattle.std.specs.Prelude.{ℕ, ◌+◌, ◌<◌, Bool, true, ◌&&◌, List, eqb}
use Rattle.rows.specs.Layout.{row_count, row_at}
use Rattle.predicate.specs.Row.{class_of, allowed_of, shape_at, arity_of}
use Rattle.predicate.specs.Tree.{first_at, Falls}
use Rattle.predicate.specs.declared.Arity.{Arity}
use Rattle.predicate.specs.declared.Arity.TheVariants as arity

-- row r is there, and the operands of each row before it stand before that row
pub record SoundBefore (l : List ℕ) (r : ℕ) : Type 0 where
  pub there : r < row_count l
  pub falls : (q : ℕ) → q < r → Falls (arity_of (shape_at l q)) q

-- the operands' whole subtrees stand directly before row r
unfoldable pub operands_precede : List ℕ → ℕ → Arity → Bool
operands_precede l r arity.Nil = true
operands_precede l r (arity.One x) = eqb (x + 1) r
operands_precede l r (arity.Two x y) = eqb (y + 1) r && eqb (x + 1) (first_at l y)

-- row r may stand after the rows before it
unfoldable pub good_at : List ℕ → List ℕ → ℕ → Bool
good_at text l r = allowed_of text (class_of (row_at l r).kind) (row_at l r).x (row_at l r).y && operands_precede l r (arity_of (shape_at l r))
