-- What `lookup` and `value_at` answer (FORMAT §9 and §11), the numbers that an answer is for a C caller, and what it means.
use Rattle.std.specs.Prelude.{Result, Ok, Err, ◌≡◌, ℕ, zero, suc, true, false, ◌||◌, List, [], ◌∷◌, ◌++◌, length, get_or, ltb}
use Rattle.limits.specs.Limits.{clauses_max, literals_max}
use Rattle.refusals.specs.Refusal.{refusal_number, refused as refusal_at}
use Rattle.refusals.specs.declared.Refusal.{Refusal}
use Rattle.refusals.specs.declared.Refusal.TheVariants.{TooMany, NotLookup, NoSuch}
use Rattle.refusals.specs.declared.Refused.{Refused}
use Rattle.predicate.specs.Tree.{Tree}
use Rattle.predicate.specs.Read.{Reading, one, refused, read_rows}
use Rattle.cnf.specs.Clause.{Literal, clauses, total}
use Rattle.values.specs.Value.{constant_of, constant_numbers}
use Rattle.values.specs.declared.Value.{Value}
use Rattle.values.specs.declared.Value.TheVariants.{Null}
use Rattle.columns.specs.Lookup.{ClauseLookup, on, none, clause_lookup}
use Rattle.lookup.specs.Cell.{is_true}
use Rattle.lookup.specs.Meaning.{World, clause_value, any_match}
use Rattle.lookup.specs.declared.ColumnLookup.{ColumnLookup}

-- ---- what a question comes to

-- of a clause: the column and the values of a lookup, or a refusal and its place
pub data Lookup : Type 0 where
  on_column : ℕ → List Value → Lookup
  refuse : Refusal → ℕ → Lookup

unfoldable pub lookup_or_refusal : ClauseLookup → Lookup
lookup_or_refusal (on c vs) = on_column c vs
lookup_or_refusal none = refuse NotLookup 0

-- of clause k of a list: too many clauses or literals; then no such clause; then no lookup
unfoldable pub lookup_among : List (List Literal) → ℕ → Lookup
lookup_among cs k =
    elim (ltb clauses_max (length cs) || ltb literals_max (total cs)) [
      | true ↦ refuse TooMany 0
      | false ↦ elim (ltb k (length cs)) [ true ↦ lookup_or_refusal (clause_lookup (get_or cs k [])) | false ↦ refuse NoSuch 0 ]
    ]

-- of clause k of rows that are read as a predicate, or refused
unfoldable pub lookup_of : Reading → ℕ → Lookup
lookup_of (refused why place) k = refuse why place
lookup_of (one t) k = lookup_among (clauses false t) k

-- ---- what is answered

-- a lookup on column c with n values
abbrev pub column_lookup : ℕ → ℕ → ColumnLookup
column_lookup c n = record { column = c; values = n }

-- the column, and how many values there are
unfoldable pub looked_up_of : Lookup → Result ColumnLookup Refused
looked_up_of (on_column c vs) = Ok (column_lookup c (length vs))
looked_up_of (refuse why place) = Err (refusal_at why place)

-- value n, if there are more than n
unfoldable pub found_of : Lookup → ℕ → Result Value Refused
found_of (on_column c vs) n = elim (ltb n (length vs)) [ true ↦ Ok (get_or vs n Null) | false ↦ Err (refusal_at NoSuch 0) ]
found_of (refuse why place) n = Err (refusal_at why place)

-- ---- the numbers that it is for a C caller (FORMAT §11.8): what is returned, and then what is handed out

-- of an answer: 0, the column and the count of values; or the refusal's number, its place and 0
unfoldable pub looked_up_numbers : Result ColumnLookup Refused → List ℕ
looked_up_numbers (Ok it) = 0 ∷ it.column ∷ it.values ∷ []
looked_up_numbers (Err e) = refusal_number e.why ∷ e.place ∷ 0 ∷ []

-- 0 and the value's constant; or the refusal's number, its place, and zeros
unfoldable pub found_numbers : Result Value Refused → List ℕ
found_numbers (Ok v) = 0 ∷ constant_numbers (constant_of v)
found_numbers (Err e) = refusal_number e.why ∷ e.place ∷ 0 ∷ 0 ∷ []

-- and of what a question comes to
unfoldable pub lookup_numbers : Lookup → List ℕ
lookup_numbers (on_column c vs) = 0 ∷ c ∷ length vs ∷ []
lookup_numbers (refuse why place) = refusal_number why ∷ place ∷ 0 ∷ []

unfoldable pub value_numbers : Lookup → ℕ → List ℕ
value_numbers (on_column c vs) n =
    elim (ltb n (length vs)) [
      | true ↦ 0 ∷ constant_numbers (constant_of (get_or vs n Null))
      | false ↦ refusal_number NoSuch ∷ 0 ∷ 0 ∷ 0 ∷ []
    ]
value_numbers (refuse why place) n = refusal_number why ∷ place ∷ 0 ∷ 0 ∷ []

-- ---- what it means

-- what `value_at` answers, as a list: the value, or nothing
unfoldable pub handed : Result Value Refused → List Value
handed (Ok v) = v ∷ []
handed (Err e) = []

-- the values that it hands out for the numbers below n, in order
unfoldable pub handed_out : Lookup → ℕ → List Value
handed_out a zero = []
handed_out a (suc n) = handed_out a n ++ handed (found_of a n)

-- ---- the promises

-- of `lookup`: its answer, and its numbers; and where that is a lookup on column c with n values, the clause is TRUE exactly if the cell in column c matches
-- one of the n values that are handed out, whatever else is the case
pub record LooksUp (text rows : List ℕ) (k : ℕ) (v : Result ColumnLookup Refused) : Type 0 where
  pub answer : v ≡ looked_up_of (lookup_of (read_rows text rows) k)
  pub numbers : looked_up_numbers v ≡ lookup_numbers (lookup_of (read_rows text rows) k)
  pub means : (t : Tree) (c n : ℕ) → read_rows text rows ≡ one t → v ≡ Ok (column_lookup c n) →
      (world : World) → is_true (clause_value text world (get_or (clauses false t) k []))
      ≡ any_match text (world.column c) (handed_out (lookup_of (read_rows text rows) k) n)

-- of `value_at`: its answer, and its numbers
pub record FindsValue (text rows : List ℕ) (k n : ℕ) (v : Result Value Refused) : Type 0 where
  pub answer : v ≡ found_of (lookup_of (read_rows text rows) k) n
  pub numbers : found_numbers v ≡ value_numbers (lookup_of (read_rows text rows) k) n
