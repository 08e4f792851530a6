-- What a clause comes to where columns hold cells (FORMAT §10.4). Nothing here says what a lookup is: a literal's value is found from its tree alone.
use Rattle.std.specs.Prelude.{ℕ, Bool, true, false, ◌||◌, List, [], ◌∷◌, eqb}
use Rattle.predicate.specs.Kind as kind
use Rattle.predicate.specs.Tree.{Tree, leaf, unary, binary, both, either, negation}
use Rattle.cnf.specs.Kleene as kleene
use Rattle.cnf.specs.Clause.{Literal, literal}
use Rattle.values.specs.Value.{constant_of_label, value_of}
use Rattle.values.specs.declared.Value.{Value}
use Rattle.lookup.specs.Cell.{Cell, cell_of, equal, is, matches}

-- what a predicate is asked about: a cell for each column; and, by their rows, any cell for each operand that is computed and any value for each atom
-- that is neither Equal nor Is
pub record World : Type 0 where
  pub column : ℕ → Cell
  pub computed : ℕ → Cell
  pub other : ℕ → kleene.Value

-- what an operand holds: a column its cell, a constant its value
unfoldable pub cell_in : List ℕ → World → Tree → Cell
cell_in text world (leaf r l) = elim (eqb l.kind kind.column) [ true ↦ world.column l.x | false ↦ cell_of text (value_of (constant_of_label l)) ]
cell_in text world (unary r l a) = world.computed r
cell_in text world (binary r l a b) = world.computed r
cell_in text world (both r l a b) = world.computed r
cell_in text world (either r l a b) = world.computed r
cell_in text world (negation r l a) = world.computed r

-- a predicate's value: Equal and Is by the rules of cells, AND, OR and NOT by Kleene's
unfoldable pub predicate_value : List ℕ → World → Tree → kleene.Value
predicate_value text world (leaf r l) = world.other r
predicate_value text world (unary r l a) = elim (eqb l.kind kind.is) [ true ↦ is l.y (cell_in text world a) | false ↦ world.other r ]
predicate_value text world (binary r l a b) =
    elim (eqb l.kind kind.equal) [ true ↦ equal (cell_in text world a) (cell_in text world b) | false ↦ world.other r ]
predicate_value text world (both r l a b) = kleene.AND (predicate_value text world a) (predicate_value text world b)
predicate_value text world (either r l a b) = kleene.OR (predicate_value text world a) (predicate_value text world b)
predicate_value text world (negation r l a) = kleene.NOT (predicate_value text world a)

-- a literal's: its atom's, negated or not
unfoldable pub literal_value : List ℕ → World → Literal → kleene.Value
literal_value text world (literal g a) = kleene.negate_if g (predicate_value text world a)

-- a clause's: OR over its literals
unfoldable pub clause_value : List ℕ → World → List Literal → kleene.Value
clause_value text world [] = kleene.FALSE
clause_value text world (l ∷ ls) = kleene.OR (literal_value text world l) (clause_value text world ls)

-- the cell matches one of the values
unfoldable pub any_match : List ℕ → Cell → List Value → Bool
any_match text cell [] = false
any_match text cell (v ∷ vs) = matches cell (cell_of text v) || any_match text cell vs
