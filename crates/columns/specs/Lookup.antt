-- Which clauses are lookups on a column, and their values (FORMAT §9).
use Rattle.std.specs.Prelude.{Option, Some, None, ℕ, Bool, true, false, ◌&&◌, List, [], ◌∷◌, ◌++◌, map, leb, eqb}
use Rattle.std.specs.Option.{option_and_then}
use Rattle.std.specs.Float.{nan}
use Rattle.rows.specs.Label.{Label}
use Rattle.predicate.specs.Kind as kind
use Rattle.predicate.specs.Tree.{Tree, leaf, unary, binary, both, either, negation}
use Rattle.cnf.specs.Clause.{Literal, literal}
use Rattle.values.specs.Value.{constant_of_label, value_of, is_undefined}
use Rattle.values.specs.declared.Value.{Value}
use Rattle.values.specs.declared.Value.TheVariants.{Null, Float}
use Rattle.columns.specs.declared.test.Test.{Test}
use Rattle.columns.specs.declared.test.Condition.{Condition}
use Rattle.columns.specs.declared.test.Condition.TheVariants.{Equals, Is}

-- ---- what an atom tests

-- the label of a column or a constant; any other node has none
unfoldable pub leaf_of : Tree → Option Label
leaf_of (leaf r l) = Some l
leaf_of (unary r l a) = None
leaf_of (binary r l a b) = None
leaf_of (both r l a b) = None
leaf_of (either r l a b) = None
leaf_of (negation r l a) = None

unfoldable pub is_column : Label → Bool
is_column l = eqb l.kind kind.column

unfoldable pub is_constant : Label → Bool
is_constant l = leb kind.null l.kind && leb l.kind kind.string

-- a column is compared with a constant
unfoldable pub comparison : Label → Label → Test
comparison l m = record { column = l.x; condition = Equals (constant_of_label m) }

-- Equal of a column and a constant, either way round
unfoldable pub equal_test : Label → Label → Option Test
equal_test l m =
    elim (is_column l && is_constant m) [
      | true ↦ Some (comparison l m)
      | false ↦ elim (is_column m && is_constant l) [ true ↦ Some (comparison m l) | false ↦ None ]
    ]

-- Is of a column
unfoldable pub is_test : Label → ℕ → Option Test
is_test l y = elim (is_column l) [ true ↦ Some (record { column = l.x; condition = Is y }) | false ↦ None ]

unfoldable pub test_of : Tree → Option Test
test_of (leaf r l) = None
test_of (unary r l a) = elim (eqb l.kind kind.is) [ true ↦ option_and_then (λ m. is_test m l.y) (leaf_of a) | false ↦ None ]
test_of (binary r l a b) =
    elim (eqb l.kind kind.equal) [
      | true ↦ option_and_then (λ m. option_and_then (equal_test m) (leaf_of b)) (leaf_of a)
      | false ↦ None
    ]
test_of (both r l a b) = None
test_of (either r l a b) = None
test_of (negation r l a) = None

-- a literal tests a column only where it is not negated
unfoldable pub literal_test : Literal → Option Test
literal_test (literal false a) = test_of a
literal_test (literal true a) = None

-- ---- what a clause is

-- is it a test of column c?
unfoldable pub tests_column : ℕ → Option Test → Bool
tests_column c None = false
tests_column c (Some t) = eqb c t.column

unfoldable pub all_test_column : ℕ → List (Option Test) → Bool
all_test_column c [] = true
all_test_column c (t ∷ ts) = tests_column c t && all_test_column c ts

-- a value or none, as a list
abbrev pub value_list : Option Value → List Value
value_list None = []
value_list (Some v) = v ∷ []

-- the value, unless no cell equals it
unfoldable pub defined : Value → Option Value
defined v = elim (is_undefined v) [ true ↦ None | false ↦ Some v ]

-- the value that is looked for: the constant's; NULL (0) or NaN
unfoldable pub looked_for : Condition → Option Value
looked_for (Equals k) = defined (value_of k)
looked_for (Is y) = Some (elim (eqb y 0) [ true ↦ Null | false ↦ Float nan ])

-- the value that a test looks for, or none
unfoldable pub value_in : Option Test → List Value
value_in None = []
value_in (Some t) = value_list (looked_for t.condition)

-- in order
unfoldable pub values_in : List (Option Test) → List Value
values_in [] = []
values_in (t ∷ ts) = value_in t ++ values_in ts

-- a clause is a lookup on a column, with these values; or it is none
pub data ClauseLookup : Type 0 where
  on : ℕ → List Value → ClauseLookup
  none : ClauseLookup

-- every literal tests column c
unfoldable pub lookup_on : ℕ → List (Option Test) → ClauseLookup
lookup_on c ts = elim (all_test_column c ts) [ true ↦ on c (values_in ts) | false ↦ none ]

-- the first literal says which column it must be
unfoldable pub lookup_from : Option Test → List (Option Test) → ClauseLookup
lookup_from None ts = none
lookup_from (Some t) ts = lookup_on t.column ts

unfoldable pub lookup_in : List (Option Test) → ClauseLookup
lookup_in [] = none
lookup_in (t ∷ ts) = lookup_from t (t ∷ ts)

unfoldable pub clause_lookup : List Literal → ClauseLookup
clause_lookup clause = lookup_in (map literal_test clause)
