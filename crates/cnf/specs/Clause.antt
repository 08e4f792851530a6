-- The clause list of a predicate (FORMAT §8), and how it is written as numbers.
use Rattle.std.specs.Prelude.{ℕ, ◌+◌, ◌*◌, Bool, true, false, not, List, [], ◌∷◌, ◌++◌, map, length}
use Rattle.predicate.specs.Tree.{Tree, leaf, unary, binary, both, either, negation, root_of}

-- a literal: an atom, negated (true) or not
pub data Literal : Type 0 where
  literal : Bool → Tree → Literal

-- each clause of the first list joined with each of the second in turn: its literals, then the other's
abbrev pub cross : List (List Literal) → List (List Literal) → List (List Literal)
cross [] ys = []
cross (x ∷ xs) ys = map (λ (y : List Literal). x ++ y) ys ++ cross xs ys

-- the lists of two operands joined: one after the other (false), or crosswise, each clause with each (true)
abbrev pub join : Bool → List (List Literal) → List (List Literal) → List (List Literal)
join false xs ys = xs ++ ys
join true xs ys = cross xs ys

-- the clause list of a tree, read plainly (false) or negated (true): AND gives one list after the other, OR each with each, and a negated reading
-- the other of the two; NOT changes the reading; any other node is an atom
unfoldable pub clauses : Bool → Tree → List (List Literal)
clauses negated (leaf r l) = (literal negated (leaf r l) ∷ []) ∷ []
clauses negated (unary r l a) = (literal negated (unary r l a) ∷ []) ∷ []
clauses negated (binary r l a b) = (literal negated (binary r l a b) ∷ []) ∷ []
clauses negated (both r l a b) = join negated (clauses negated a) (clauses negated b)
clauses negated (either r l a b) = join (not negated) (clauses negated a) (clauses negated b)
clauses negated (negation r l a) = clauses (not negated) a

-- how many literals all clauses have
abbrev pub total : List (List Literal) → ℕ
total [] = 0
total (c ∷ cs) = length c + total cs

-- ---- as numbers

abbrev pub bit : Bool → ℕ
bit false = 0
bit true = 1

-- a literal's number: twice its atom's row, plus 1 if negated
unfoldable pub literal_number : Literal → ℕ
literal_number (literal negated a) = 2 * root_of a + bit negated

-- the numbers of the literals of all clauses in turn
abbrev pub literal_numbers : List (List Literal) → List ℕ
literal_numbers [] = []
literal_numbers (c ∷ cs) = map literal_number c ++ literal_numbers cs

-- the place where each clause's literals end, where the first clause begins at place `at`
abbrev pub ends_from : ℕ → List (List Literal) → List ℕ
ends_from at [] = []
ends_from at (c ∷ cs) = (at + length c) ∷ ends_from (at + length c) cs
