-- What the functions that answer a question promise each other: a clause is found by its number, from the counts of every row, and its literals make the
-- lookup. No entry's promise names this file.
use Rattle.std.specs.Prelude.{Option, Result, Ok, Err, ◌≡◌, ℕ, ◌+◌, ◌-◌, ◌*◌, ◌<◌, ◌≤◌, min, Bool, true, false, List, [], map, length, get_or, slice_get, ltb}
use Rattle.limits.specs.Limits.{rows_max, clauses_max, literals_max, clauses_held}
use Rattle.refusals.specs.Refusal.{refused}
use Rattle.refusals.specs.declared.Refusal.TheVariants as refusal
use Rattle.refusals.specs.declared.Refused.{Refused}
use Rattle.predicate.specs.Tree.{Sound}
use Rattle.cnf.specs.Clause.{total}
use Rattle.cnf.specs.Source.{clauses_at, signed}
use Rattle.cnf.specs.declared.SignedRow.{SignedRow}
use Rattle.columns.specs.Lookup.{literal_test}
use Rattle.columns.specs.Partial.{column_value, with_tests, value_count, search_for}
use Rattle.columns.specs.declared.test.Test.{Test}
use Rattle.columns.specs.declared.partial.ColumnValue.{ColumnValue}
use Rattle.columns.specs.declared.partial.PartialLookup.{PartialLookup}
use Rattle.columns.specs.declared.partial.Search.{Search}
use Rattle.columns.specs.declared.partial.PartialLookup.TheVariants.{Empty, NotLookup, OnColumn}
use Rattle.lookup.specs.Answer.{Lookup, on_column, refuse}
use Rattle.lookup.specs.declared.counts.ClauseCounts.{ClauseCounts}
use Rattle.lookup.specs.declared.clause.RowClause.{RowClause}

-- ---- counts

abbrev pub counts : ℕ → ℕ → ClauseCounts
counts p n = record { plain = p; negated = n }

-- how many clauses a row has in a reading, held
unfoldable pub held_count : List ℕ → SignedRow → ℕ
held_count l r = min (length (clauses_at l r)) clauses_held

-- in both readings
unfoldable pub clause_counts : List ℕ → ℕ → ClauseCounts
clause_counts l r = counts (held_count l (signed false r)) (held_count l (signed true r))

-- the count in a reading
unfoldable pub count_when : ClauseCounts → Bool → ℕ
count_when c false = c.plain
count_when c true = c.negated

-- those of AND, from those of its operands: one list after the other, and negated each clause with each
abbrev pub both_counts : ClauseCounts → ClauseCounts → ClauseCounts
both_counts a b = counts (min (a.plain + b.plain) clauses_held) (min (a.negated * b.negated) clauses_held)

-- those of NOT
abbrev pub not_counts : ClauseCounts → ClauseCounts
not_counts a = counts a.negated a.plain

-- the table has the counts of the rows below n
pub record CountsBelow (l : List ℕ) (t : List ClauseCounts) (n : ℕ) : Type 0 where
  pub each : (q : ℕ) → q < n → get_or t q (counts 0 0) ≡ clause_counts l q

-- ---- a clause

abbrev pub row_clause : SignedRow → ℕ → RowClause
row_clause r k = record { at = r; clause = k }

-- there is such a clause, and no more clauses or literals than there may be
pub record HasClause (l : List ℕ) (c : RowClause) : Type 0 where
  pub sound : Sound l c.at.row
  pub low : c.at.row < rows_max
  pub few : length (clauses_at l c.at) ≤ clauses_max
  pub small : total (clauses_at l c.at) ≤ literals_max
  pub inside : c.clause < length (clauses_at l c.at)

-- a row's clause can be found, and its literals can be added to a search
pub record CanFind (l : List ℕ) (t : List ClauseCounts) (c : RowClause) (s : Search) : Type 0 where
  pub sound : Sound l c.at.row
  pub room : c.at.row < length t
  pub counts : CountsBelow l t (c.at.row + 1)
  pub few : length (clauses_at l c.at) ≤ clauses_max
  pub inside : c.clause < length (clauses_at l c.at)
  pub small : value_count s.partial + total (clauses_at l c.at) ≤ literals_max

-- what the literals of a row's clause test
unfoldable pub tests_of : List ℕ → RowClause → List (Option Test)
tests_of l c = map literal_test (get_or (clauses_at l c.at) c.clause [])

-- a search with the literals of a row's clause added
abbrev pub with_clause : List ℕ → RowClause → Search → Search
with_clause l c s = search_for s.wanted (with_tests s.wanted s.partial (tests_of l c))

-- what a whole clause makes, in a search for value number n
abbrev pub clause_partial : List ℕ → RowClause → ℕ → PartialLookup
clause_partial l c n = with_tests n Empty (tests_of l c)

-- clause k of x's list and then y's, of which the first has so many
unfoldable pub clause_of_two : SignedRow → SignedRow → ℕ → ℕ → RowClause
clause_of_two x y many k = elim (ltb k many) [ true ↦ row_clause x k | false ↦ row_clause y (k - many) ]

-- ---- answers

-- a question's answer with value number n, if there are so many
unfoldable pub answer_of : ℕ → Lookup → Result ColumnValue Refused
answer_of n (on_column c vs) = Ok (column_value c (length vs) (slice_get vs n))
answer_of n (refuse why place) = Err (refused why place)

-- what the literals of a whole clause make, as that
unfoldable pub partial_answer : PartialLookup → Result ColumnValue Refused
partial_answer Empty = Err (refused refusal.NotLookup 0)
partial_answer NotLookup = Err (refused refusal.NotLookup 0)
partial_answer (OnColumn found) = Ok found
