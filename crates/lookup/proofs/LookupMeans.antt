-- What an answer means: the numbers that it is for a C caller, and that a lookup's clause is TRUE exactly for the cells that match its values (`looks_up`).
-- Assumes nothing.
use mathlib.Core.Path.{◌≡◌, refl, sym, ap, ◌∙◌}
use Prim.Native.Nat.{ℕ, zero, suc, ◌≤◌, ◌<◌}
use mathlib.Core.Bool.{Bool, true, false, ◌||◌}
use mathlib.Core.List.{List, [], ◌∷◌, ◌++◌}
use native.Mathlib.Omega.{arith}
use borrow.Author.Tests.{lt-ltb}
use lib.Dec.{ltb}
use lib.ListN.{length, get_or, take}
use lib.Seq.{take-suc, take-length}
use Rattle.limits.specs.Limits.{clauses_max, literals_max}
use Rattle.std.specs.Prelude.{Result, Ok, Err}
use Rattle.refusals.specs.Refusal.{refusal_number, refused as refusal_at}
use Rattle.refusals.specs.declared.Refused.{Refused}
use Rattle.refusals.specs.declared.Refusal.TheVariants as refusal
use Rattle.predicate.specs.Read.{Reading, read_rows}
use Rattle.cnf.specs.Clause.{Literal, clauses, total}
use Rattle.values.specs.Value.{constant_of, constant_numbers}
use Rattle.values.specs.declared.Value.{Value}
use Rattle.values.specs.declared.Value.TheVariants as value
use Rattle.columns.specs.Lookup.{ClauseLookup, on, none, clause_lookup}
use Rattle.lookup.specs.Cell.{is_true}
use Rattle.lookup.specs.Meaning.{World, clause_value, any_match}
use Rattle.lookup.specs.Answer.{Lookup, on_column, refuse, lookup_or_refusal, lookup_among, lookup_of}
use Rattle.lookup.specs.Answer.{column_lookup, looked_up_of, found_of, handed, handed_out}
use Rattle.lookup.specs.Answer.{looked_up_numbers, found_numbers, lookup_numbers, value_numbers, LooksUp, FindsValue}
use Rattle.lookup.specs.declared.ColumnLookup.{ColumnLookup}
use Rattle.lookup.proofs.LookupMatches.{lookup_matches}
use Rattle.lookup.proofs.AnswerOfClause.{looked_up_on, looked_up_refused, found_refused}

-- ---- the numbers of an answer

looked_up_numbers_lem : (x : Lookup) → looked_up_numbers (looked_up_of x) ≡ lookup_numbers x
unfolding looked_up_numbers looked_up_of lookup_numbers
looked_up_numbers_lem (on_column c vs) = refl
looked_up_numbers_lem (refuse why place) = refl

found_numbers_lem : (x : Lookup) (n : ℕ) → found_numbers (found_of x n) ≡ value_numbers x n
unfolding found_numbers found_of value_numbers
found_numbers_lem (on_column c vs) n = by (ltb n (length vs))
  where
    by : (b : Bool) → found_numbers (elim b [ true ↦ Ok (get_or vs n value.Null) | false ↦ Err (refusal_at refusal.NoSuch 0) ])
        ≡ elim b [ true ↦ 0 ∷ constant_numbers (constant_of (get_or vs n value.Null)) | false ↦ refusal_number refusal.NoSuch ∷ 0 ∷ 0 ∷ 0 ∷ [] ]
    by true = refl
    by false = refl
found_numbers_lem (refuse why place) n = refl

pub finds_value : (text rows : List ℕ) (k n : ℕ) {v : Result Value Refused} → v ≡ found_of (lookup_of (read_rows text rows) k) n → FindsValue text rows k n v
finds_value text rows k n e = record { answer = e; numbers = ap found_numbers e ∙ found_numbers_lem (lookup_of (read_rows text rows) k) n }

-- ---- what a lookup's answer means

-- the values that are handed out are all of them
handed_some : (c : ℕ) (vs : List Value) (n : ℕ) → n ≤ length vs → handed_out (on_column c vs) n ≡ take n vs
unfolding handed_out handed found_of
handed_some c vs zero le = refl
handed_some c vs (suc n) le =
    let lt : n < length vs = omega arith in
    rw (lt-ltb n (length vs) lt, found_of)
    (ap (λ (l : List Value). l ++ (get_or vs n value.Null ∷ [])) (handed_some c vs n (omega arith)) ∙ sym (take-suc vs n value.Null lt))

handed_all : (c : ℕ) (vs : List Value) → handed_out (on_column c vs) (length vs) ≡ vs
handed_all c vs = handed_some c vs (length vs) (omega arith) ∙ take-length vs

module _ (text : List ℕ) (world : World) where
  clause_lookup_means : (c n : ℕ) (ls : List Literal) (k : ClauseLookup) → clause_lookup ls ≡ k → looked_up_of (lookup_or_refusal k) ≡ Ok (column_lookup c n) →
      is_true (clause_value text world ls) ≡ any_match text (world.column c) (handed_out (lookup_or_refusal k) n)
  unfolding lookup_or_refusal looked_up_of
  clause_lookup_means c n ls (on d vs) e f =
      let same : column_lookup d (length vs) ≡ column_lookup c n = cc in
      let many : length vs ≡ n = ap (λ (it : ColumnLookup). it.values) same in
      let here : d ≡ c = ap (λ (it : ColumnLookup). it.column) same in
      lookup_matches text world c ls vs (e ∙ ap (λ (i : ℕ). on i vs) here)
      ∙ ap (any_match text (world.column c)) (sym (handed_all d vs) ∙ ap (handed_out (on_column d vs)) many)
  clause_lookup_means c n ls none e f = let z : ◌≡◌ {A = ℕ} 0 1 = cc in absurd (omega arith)

  clause_means : (c n : ℕ) (cs : List (List Literal)) (k : ℕ) → looked_up_of (lookup_among cs k) ≡ Ok (column_lookup c n) →
      is_true (clause_value text world (get_or cs k [])) ≡ any_match text (world.column c) (handed_out (lookup_among cs k) n)
  unfolding lookup_among looked_up_of
  clause_means c n cs k e = by (ltb clauses_max (length cs) || ltb literals_max (total cs)) (ltb k (length cs)) e
    where
      -- the answer by whether there are too many, and whether there is such a clause
      case : Bool → Bool → Lookup
      case p q =
          elim p [
            | true ↦ refuse refusal.TooMany 0
            | false ↦ elim q [ true ↦ lookup_or_refusal (clause_lookup (get_or cs k [])) | false ↦ refuse refusal.NoSuch 0 ]
          ]

      by : (p q : Bool) → looked_up_of (case p q) ≡ Ok (column_lookup c n) →
          is_true (clause_value text world (get_or cs k [])) ≡ any_match text (world.column c) (handed_out (case p q) n)
      by true q f = let z : ◌≡◌ {A = ℕ} 0 1 = cc in absurd (omega arith)
      by false true f = clause_lookup_means c n (get_or cs k []) (clause_lookup (get_or cs k [])) refl f
      by false false f = let z : ◌≡◌ {A = ℕ} 0 1 = cc in absurd (omega arith)

pub looks_up : (text rows : List ℕ) (k : ℕ) {v : Result ColumnLookup Refused} → v ≡ looked_up_of (lookup_of (read_rows text rows) k) → LooksUp text rows k v
unfolding lookup_of
looks_up text rows k {v} e =
    record {
      answer = e;
      numbers = ap looked_up_numbers e ∙ looked_up_numbers_lem (lookup_of (read_rows text rows) k);
      means = λ t c n is on world.
          let here : lookup_of (read_rows text rows) k ≡ lookup_among (clauses false t) k = ap (λ (r : Reading). lookup_of r k) is in
          clause_means text world c n (clauses false t) k (ap looked_up_of (sym here) ∙ sym e ∙ on)
          ∙ ap (λ (a : Lookup). any_match text (world.column c) (handed_out a n)) (sym here);
    }

-- ---- what the entries cite

pub ruleset looking_up = (looks_up, looked_up_on, looked_up_refused)

pub ruleset finding = (finds_value, found_refused)
