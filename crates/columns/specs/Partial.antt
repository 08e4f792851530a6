-- A lookup as the literals of a clause make it, one after the other: what the functions here promise. No entry's promise names this file.
use Rattle.std.specs.Prelude.{Option, Some, None, ℕ, ◌+◌, true, false, List, [], ◌∷◌, eqb}
use Rattle.values.specs.declared.Value.{Value}
use Rattle.columns.specs.Lookup.{looked_for}
use Rattle.columns.specs.declared.test.Test.{Test}
use Rattle.columns.specs.declared.partial.ColumnValue.{ColumnValue}
use Rattle.columns.specs.declared.partial.PartialLookup.{PartialLookup}
use Rattle.columns.specs.declared.partial.PartialLookup.TheVariants.{Empty, NotLookup, OnColumn}
use Rattle.columns.specs.declared.partial.Search.{Search}

-- a lookup on column c with so many values, and v, the wanted one if there are so many
abbrev pub column_value : ℕ → ℕ → Option Value → ColumnValue
column_value c many v = record { column = c; values = many; value = v }

-- with what the next literal looks for, which is value number n if there are n before it
unfoldable pub with_value : ℕ → ColumnValue → Option Value → ColumnValue
with_value n so_far None = so_far
with_value n so_far (Some v) = column_value so_far.column (so_far.values + 1) (elim (eqb so_far.values n) [ true ↦ Some v | false ↦ so_far.value ])

-- one literal more; the first says which column it must be
unfoldable pub with_test : ℕ → PartialLookup → Option Test → PartialLookup
with_test n p None = NotLookup
with_test n Empty (Some t) = OnColumn (with_value n (column_value t.column 0 None) (looked_for t.condition))
with_test n NotLookup (Some t) = NotLookup
with_test n (OnColumn so_far) (Some t) = elim (eqb so_far.column t.column) [ true ↦ OnColumn (with_value n so_far (looked_for t.condition)) | false ↦ NotLookup ]

unfoldable pub with_tests : ℕ → PartialLookup → List (Option Test) → PartialLookup
with_tests n p [] = p
with_tests n p (t ∷ ts) = with_tests n (with_test n p t) ts

-- a search for value number n, of which the literals so far make p
abbrev pub search_for : ℕ → PartialLookup → Search
search_for n p = record { wanted = n; partial = p }

-- a search with one literal more
abbrev pub search_one : Search → Option Test → Search
search_one s t = search_for s.wanted (with_test s.wanted s.partial t)

-- how many values it has
unfoldable pub value_count : PartialLookup → ℕ
value_count Empty = 0
value_count NotLookup = 0
value_count (OnColumn so_far) = so_far.values
