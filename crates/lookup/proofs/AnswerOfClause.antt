-- What is answered of a clause: from the lookup that its literals make, and from what the rows are read as; and the entries' answers from that.
-- Assumes nothing.
use mathlib.Core.Path.{◌≡◌, refl, sym, ap, ◌∙◌}
use Prim.Native.Nat.{ℕ, ◌+◌, ◌≤◌, ◌<◌}
use mathlib.Core.Bool.{Bool, true, false, ◌||◌}
use mathlib.Core.List.{List, [], ◌∷◌, map}
use native.Mathlib.Omega.{arith}
use borrow.Author.Tests.{lt-ltb, le-ltb, ltb-true, ltb-false}
use lib.Dec.{ltb}
use lib.ListN.{length, get_or}
use Rattle.std.specs.Prelude.{Option, Some, None, Ok, Err, slice_get, ok_or}
use Rattle.std.proofs.lemmas.Option.{slice_get-get_or, slice_get_past}
use Rattle.limits.specs.Limits.{rows_max, clauses_max, literals_max}
use Rattle.refusals.specs.Refusal.{refused as refusal_at}
use Rattle.refusals.specs.declared.Refusal.{Refusal}
use Rattle.refusals.specs.declared.Refusal.TheVariants as refusal
use Rattle.refusals.specs.declared.Refused.{Refused}
use Rattle.predicate.specs.Tree.{Tree, Sound}
use Rattle.predicate.specs.Read.{Reading, one, refused}
use Rattle.cnf.specs.Clause.{Literal, clauses, total}
use Rattle.cnf.specs.Source.{clauses_at}
use Rattle.cnf.specs.Size.{size_of}
use Rattle.cnf.specs.declared.Size.{Size}
use Rattle.cnf.proofs.Sizes.{size_is, size_many}
use Rattle.values.specs.declared.Value.TheVariants.{Null}
use Rattle.columns.specs.Lookup.{ClauseLookup, on, none, literal_test, lookup_in, clause_lookup}
use Rattle.columns.specs.Partial.{with_tests, value_count, search_for}
use Rattle.columns.specs.declared.test.Test.{Test}
use Rattle.columns.specs.declared.partial.ColumnValue.{ColumnValue}
use Rattle.columns.specs.declared.partial.PartialLookup.TheVariants as partial
use Rattle.columns.proofs.PartialLookups.{partial_of, partial_of_clause}
use Rattle.lookup.specs.Answer.{Lookup, on_column, refuse, lookup_or_refusal, lookup_among, lookup_of, column_lookup, looked_up_of, found_of}
use Rattle.lookup.specs.ByNumber.{CountsBelow, HasClause, CanFind, answer_of, partial_answer}
use Rattle.lookup.specs.declared.counts.ClauseCounts.{ClauseCounts}
use Rattle.lookup.specs.declared.clause.RowClause.{RowClause}

-- ---- from the clause to its answer

pub can_find_first : {l : List ℕ} {tab : List ClauseCounts} {c : RowClause} {n : ℕ} → HasClause l c → c.at.row < length tab → CountsBelow l tab (c.at.row + 1) →
    CanFind l tab c (search_for n partial.Empty)
unfolding value_count
can_find_first h room counts =
    record { sound = h.sound; room = room; counts = counts; few = h.few; inside = h.inside; small = omega (arith, h.small) }

answer_of_partial : (n : ℕ) (k : ClauseLookup) → partial_answer (partial_of n k) ≡ answer_of n (lookup_or_refusal k)
unfolding partial_answer partial_of answer_of lookup_or_refusal
answer_of_partial n (on c vs) = refl
answer_of_partial n none = refl

answer_of_tests : (n : ℕ) (ts : List (Option Test)) → partial_answer (with_tests n partial.Empty ts) ≡ answer_of n (lookup_or_refusal (lookup_in ts))
unfolding with_tests partial_answer answer_of lookup_or_refusal lookup_in
answer_of_tests n [] = refl
answer_of_tests n (t ∷ ts) = ap partial_answer (partial_of_clause n t ts) ∙ answer_of_partial n (lookup_in (t ∷ ts))

module _ (cs : List (List Literal)) (k n : ℕ) {s : Option Size} (is : s ≡ size_of cs) where
  pub lookup_too_many : s ≡ None → Err (refusal_at refusal.TooMany 0) ≡ answer_of n (lookup_among cs k)
  unfolding lookup_among answer_of
  lookup_too_many e = by (ltb clauses_max (length cs)) (ltb literals_max (total cs)) refl refl
    where
      by : (p q : Bool) → ltb clauses_max (length cs) ≡ p → ltb literals_max (total cs) ≡ q →
          Err (refusal_at refusal.TooMany 0) ≡ answer_of n (lookup_among cs k)
      by true q f g = rw (f, lookup_among)
      by false true f g = rw (f, g, lookup_among)
      by false false f g = absurd (size_many cs (sym is ∙ e) (ltb-false clauses_max (length cs) f) (ltb-false literals_max (total cs) g))

  module _ {z : Size} (e : s ≡ Some z) where
    count_facts : (z.clauses ≡ length cs) × (z.literals ≡ total cs) × (length cs ≤ clauses_max) × (total cs ≤ literals_max)
    count_facts = size_is cs (sym is ∙ e)

    in_bounds : (ltb clauses_max (length cs) || ltb literals_max (total cs)) ≡ false
    in_bounds = rw (le-ltb clauses_max (length cs) count_facts.2, le-ltb literals_max (total cs) count_facts.3)

    pub lookup_no_such : z.clauses ≤ k → Err (refusal_at refusal.NoSuch 0) ≡ answer_of n (lookup_among cs k)
    unfolding lookup_among answer_of
    lookup_no_such le = rw (in_bounds, le-ltb k (length cs) (omega (arith, count_facts.0)), lookup_among)

    pub lookup_clause : k < z.clauses → partial_answer (with_tests n partial.Empty (map literal_test (get_or cs k []))) ≡ answer_of n (lookup_among cs k)
    unfolding lookup_among clause_lookup
    lookup_clause lt =
        answer_of_tests n (map literal_test (get_or cs k []))
        ∙ sym (rw (in_bounds, lt-ltb k (length cs) (omega (arith, count_facts.0)), lookup_among))

    pub has_clause : {l : List ℕ} {c : RowClause} → Sound l c.at.row → c.at.row < rows_max → cs ≡ clauses_at l c.at → c.clause < z.clauses → HasClause l c
    has_clause sound low same lt =
        let long = ap length same in
        let all = ap total same in
        record {
          sound = sound;
          low = low;
          few = omega (arith, count_facts.2, long);
          small = omega (arith, count_facts.3, all);
          inside = omega (arith, count_facts.0, long);
        }

-- ---- from the rows to the clause

module _ {rows : Reading} (k : ℕ) where
  pub lookup_of_tree : {t : Tree} → rows ≡ one t → lookup_among (clauses false t) k ≡ lookup_of rows k
  unfolding lookup_of
  lookup_of_tree e = sym (ap (λ (r : Reading). lookup_of r k) e)

  pub lookup_of_refusal : {why : Refusal} {place : ℕ} → rows ≡ refused why place → refuse why place ≡ lookup_of rows k
  unfolding lookup_of
  lookup_of_refusal e = sym (ap (λ (r : Reading). lookup_of r k) e)

-- ---- the answers of the entries

module _ (n : ℕ) where
  pub looked_up_on : (x : Lookup) {v : ColumnValue} → answer_of n x ≡ Ok v → Ok (column_lookup v.column v.values) ≡ looked_up_of x
  unfolding answer_of looked_up_of
  looked_up_on (on_column c vs) e = cc
  looked_up_on (refuse why place) e = let z : ◌≡◌ {A = ℕ} 0 1 = cc in absurd (omega arith)

  pub looked_up_refused : (x : Lookup) {e : Refused} → answer_of n x ≡ Err e → Err e ≡ looked_up_of x
  unfolding answer_of looked_up_of
  looked_up_refused (on_column c vs) f = let z : ◌≡◌ {A = ℕ} 0 1 = cc in absurd (omega arith)
  looked_up_refused (refuse why place) f = cc

  pub found_on : (x : Lookup) {v : ColumnValue} → answer_of n x ≡ Ok v → ok_or v.value (refusal_at refusal.NoSuch 0) ≡ found_of x n
  unfolding answer_of found_of
  found_on (on_column c vs) {v} e =
      let it : record { column = c; values = length vs; value = slice_get vs n } ≡ v = cc in
      ap (λ (w : ColumnValue). ok_or w.value (refusal_at refusal.NoSuch 0)) (sym it) ∙ by (ltb n (length vs)) refl
    where
      by : (b : Bool) → ltb n (length vs) ≡ b → ok_or (slice_get vs n) (refusal_at refusal.NoSuch 0) ≡ found_of (on_column c vs) n
      by true f = rw (f, slice_get-get_or vs n Null (ltb-true n (length vs) f), found_of)
      by false f = rw (f, slice_get_past vs n (ltb-false n (length vs) f), found_of)
  found_on (refuse why place) e = let z : ◌≡◌ {A = ℕ} 0 1 = cc in absurd (omega arith)

  pub found_refused : (x : Lookup) {e : Refused} → answer_of n x ≡ Err e → Err e ≡ found_of x n
  unfolding answer_of found_of
  found_refused (on_column c vs) f = let z : ◌≡◌ {A = ℕ} 0 1 = cc in absurd (omega arith)
  found_refused (refuse why place) f = cc
