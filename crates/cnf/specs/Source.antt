-- Where the clauses of a row come from, as counting and listing have it: NOTs are followed to the first row that is none. No entry's promise
-- names this file.
use Rattle.std.specs.Prelude.{ℕ, zero, suc, Bool, not, List}
use Rattle.predicate.specs.Row.{shape_at}
use Rattle.predicate.specs.Tree.{tree_at}
use Rattle.predicate.specs.declared.Shape.{Shape}
use Rattle.predicate.specs.declared.Shape.TheVariants as shape
use Rattle.cnf.specs.Clause.{Literal, clauses}
use Rattle.cnf.specs.declared.SignedRow.{SignedRow}
use Rattle.cnf.specs.declared.Source.{Source}
use Rattle.cnf.specs.declared.Source.TheVariants.{Atom, Joined}

-- the clause list of a row, read as it says
abbrev pub clauses_at : List ℕ → SignedRow → List (List Literal)
clauses_at l r = clauses r.negated (tree_at l r.row)

-- row r, read plainly or negated
abbrev pub signed : Bool → ℕ → SignedRow
signed negated r = record { row = r; negated = negated }

-- the lists of rows x and y joined, both read alike
abbrev pub joined : Bool → ℕ → ℕ → Bool → Source
joined negated x y crosswise = Joined (signed negated x) (signed negated y) crosswise

-- where the clauses of row r, of that shape and read plainly or negated, come from, where `follow` says it of other rows
unfoldable pub source_of : Shape → SignedRow → (SignedRow → Source) → Source
source_of shape.Leaf r follow = Atom r
source_of (shape.One x) r follow = Atom r
source_of (shape.Two x y) r follow = Atom r
source_of (shape.Both x y) r follow = joined r.negated x y r.negated
source_of (shape.Either x y) r follow = joined r.negated x y (not r.negated)
source_of (shape.Not x) r follow = follow (signed (not r.negated) x)

-- so many rows deep
unfoldable pub source_to : List ℕ → ℕ → SignedRow → Source
source_to l zero r = Atom r
source_to l (suc deep) r = source_of (shape_at l r.row) r (source_to l deep)

-- where operands stand before their row, at most so many rows deep as its own
unfoldable pub source_at : List ℕ → SignedRow → Source
source_at l r = source_to l (suc r.row) r
