-- The lookup that literals make one after the other: two parts of a clause, how many values there can be, and that what a whole clause makes says
-- whether it is a lookup, on which column, with how many values, and which one is number n (`partial_of_clause`).
-- Assumes nothing.
use mathlib.Core.Path.{◌≡◌, refl, sym, ap, ap₂, ◌∙◌}
use Prim.Native.Nat.{ℕ, zero, suc, ◌+◌, ◌≤◌}
use mathlib.Core.Bool.{Bool, true, false, ◌&&◌}
use mathlib.Core.List.{List, [], ◌∷◌, ◌++◌, append_assoc, append-nil}
use native.Mathlib.Omega.{arith}
use borrow.Author.Tests.{eq-eqb, ne_eqb}
use lib.Dec.{eqb, eqb-suc-suc}
use lib.ListN.{length, length-append}
use Rattle.std.specs.Prelude.{Option, Some, None, slice_get}
use Rattle.columns.specs.Lookup.{tests_column, all_test_column, looked_for, value_list, value_in, values_in}
use Rattle.columns.specs.Lookup.{ClauseLookup, on, none, lookup_on, lookup_from, lookup_in}
use Rattle.columns.specs.Partial.{column_value, with_value, with_test, with_tests, value_count}
use Rattle.columns.specs.declared.test.Test.{Test}
use Rattle.values.specs.declared.Value.{Value}
use Rattle.columns.specs.declared.partial.ColumnValue.{ColumnValue}
use Rattle.columns.specs.declared.partial.PartialLookup.{PartialLookup}
use Rattle.columns.specs.declared.partial.PartialLookup.TheVariants.{Empty, NotLookup, OnColumn}

-- ---- two parts of a clause

pub tests_append : (n : ℕ) (g : PartialLookup) (ts us : List (Option Test)) → with_tests n g (ts ++ us) ≡ with_tests n (with_tests n g ts) us
unfolding with_tests
tests_append n g [] us = refl
tests_append n g (t ∷ ts) us = tests_append n (with_test n g t) ts us

-- ---- how many values there can be

value_counts_one : (n : ℕ) (g : ColumnValue) (v : Option Value) → (with_value n g v).values ≤ g.values + 1
unfolding with_value
value_counts_one n g None = omega arith
value_counts_one n g (Some v) = omega arith

test_counts_one : (n : ℕ) (g : PartialLookup) (t : Option Test) → value_count (with_test n g t) ≤ value_count g + 1
unfolding with_test value_count
test_counts_one n g None = omega arith
test_counts_one n Empty (Some t) = value_counts_one n (column_value t.column 0 None) (looked_for t.condition)
test_counts_one n NotLookup (Some t) = omega arith
test_counts_one n (OnColumn g) (Some t) = by (eqb g.column t.column)
  where
    by : (b : Bool) → value_count (elim b [ true ↦ OnColumn (with_value n g (looked_for t.condition)) | false ↦ NotLookup ]) ≤ g.values + 1
    by true = value_counts_one n g (looked_for t.condition)
    by false = omega arith

pub tests_count : (n : ℕ) (g : PartialLookup) (ts : List (Option Test)) → value_count (with_tests n g ts) ≤ value_count g + length ts
unfolding with_tests
tests_count n g [] = omega arith
tests_count n g (t ∷ ts) = omega (arith, test_counts_one n g t, tests_count n (with_test n g t) ts)

-- ---- a whole clause

-- a lookup whose values so far are vs
abbrev so_far : ℕ → ℕ → List Value → ColumnValue
so_far n c vs = column_value c (length vs) (slice_get vs n)

-- value number n after one more
wanted_appended : (vs : List Value) (u : Value) (n : ℕ) →
    elim (eqb (length vs) n) as (λ x. Option Value) [ true ↦ Some u | false ↦ slice_get vs n ] ≡ slice_get (vs ++ (u ∷ [])) n
wanted_appended [] u zero = refl
wanted_appended [] u (suc n) = rw (ne_eqb 0 (suc n) (λ e. omega arith))
wanted_appended (v ∷ vs) u zero = rw (ne_eqb (suc (length vs)) 0 (λ e. omega arith))
wanted_appended (v ∷ vs) u (suc n) = rw (eqb-suc-suc (length vs) n) (wanted_appended vs u n)

value_appended : (n c : ℕ) (vs : List Value) (u : Option Value) → with_value n (so_far n c vs) u ≡ so_far n c (vs ++ value_list u)
unfolding with_value
value_appended n c vs None = ap (so_far n c) (sym (append-nil vs))
value_appended n c vs (Some u) = ap₂ (column_value c) (sym (length-append vs (u ∷ []))) (wanted_appended vs u n)

tests_after_none : (n : ℕ) (ts : List (Option Test)) → with_tests n NotLookup ts ≡ NotLookup
unfolding with_tests with_test
tests_after_none n [] = refl
tests_after_none n (None ∷ ts) = tests_after_none n ts
tests_after_none n (Some t ∷ ts) = tests_after_none n ts

-- and with more literals
abbrev goes_on : ℕ → ℕ → List Value → List (Option Test) → Bool → PartialLookup
goes_on n c vs ts true = OnColumn (so_far n c (vs ++ values_in ts))
goes_on n c vs ts false = NotLookup

tests_rest : (n c : ℕ) (vs : List Value) (ts : List (Option Test)) → with_tests n (OnColumn (so_far n c vs)) ts ≡ goes_on n c vs ts (all_test_column c ts)
unfolding with_tests with_test all_test_column tests_column value_in values_in
tests_rest n c vs [] = ap (λ (ws : List Value). OnColumn (so_far n c ws)) (sym (append-nil vs))
tests_rest n c vs (None ∷ ts) = tests_after_none n ts
tests_rest n c vs (Some t ∷ ts) = by (eqb c t.column) (tests_rest n c (vs ++ value_list (looked_for t.condition)) ts)
  where
    by : (b : Bool) → with_tests n (OnColumn (so_far n c (vs ++ value_list (looked_for t.condition)))) ts ≡ goes_on n c (vs ++ value_list (looked_for t.condition)) ts (all_test_column c ts) →
        with_tests n (elim b [ true ↦ OnColumn (with_value n (so_far n c vs) (looked_for t.condition)) | false ↦ NotLookup ]) ts
        ≡ goes_on n c vs (Some t ∷ ts) (b && all_test_column c ts)
    by true h = ap (λ (g : ColumnValue). with_tests n (OnColumn g) ts) (value_appended n c vs (looked_for t.condition)) ∙ h ∙ same (all_test_column c ts)
      where
        same : (b : Bool) → goes_on n c (vs ++ value_list (looked_for t.condition)) ts b ≡ goes_on n c vs (Some t ∷ ts) b
        same true = ap (λ (ws : List Value). OnColumn (so_far n c ws)) (append_assoc vs (value_list (looked_for t.condition)) (values_in ts))
        same false = refl
    by false h = tests_after_none n ts

-- the lookup that a clause makes
unfoldable pub partial_of : ℕ → ClauseLookup → PartialLookup
partial_of n (on c vs) = OnColumn (so_far n c vs)
partial_of n none = NotLookup

pub partial_of_clause : (n : ℕ) (t : Option Test) (ts : List (Option Test)) → with_tests n Empty (t ∷ ts) ≡ partial_of n (lookup_in (t ∷ ts))
unfolding with_tests with_test lookup_in lookup_from lookup_on all_test_column tests_column value_in values_in partial_of
partial_of_clause n None ts = tests_after_none n ts
partial_of_clause n (Some t) ts =
    ap (λ (g : ColumnValue). with_tests n (OnColumn g) ts) (value_appended n t.column [] (looked_for t.condition))
    ∙ tests_rest n t.column (value_list (looked_for t.condition)) ts
    ∙ by (all_test_column t.column ts) refl
  where
    by : (b : Bool) → all_test_column t.column ts ≡ b →
        goes_on n t.column (value_list (looked_for t.condition)) ts b
        ≡ partial_of n
        (elim (eqb t.column t.column && all_test_column t.column ts) [ true ↦ on t.column (value_list (looked_for t.condition) ++ values_in ts) | false ↦ none ])
    by true f = rw (eq-eqb t.column t.column refl, f)
    by false f = rw (eq-eqb t.column t.column refl, f)
