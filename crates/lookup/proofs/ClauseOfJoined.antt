-- One clause of a list that is two lists joined: which clause of each it is (`pick_left`, `pick_right`, `pick_cross`), and what that says of the rows
-- that `with_clause` goes down to.
-- Assumes nothing.
use mathlib.Core.Path.{◌≡◌, refl, sym, ap, subst, ◌∙◌}
use Prim.Native.Nat.{ℕ, zero, suc, ◌+◌, ◌-◌, ◌*◌, ◌/◌, ◌%◌, ◌≤◌, ◌<◌, min}
use mathlib.Core.Bool.{Bool, true, false}
use mathlib.Core.List.{List, [], ◌∷◌, ◌++◌, map, map-append}
use native.Mathlib.Nat.{mod-lt, div-lt_iff_lt-mul, div-add-mod', le-mul_of_pos_right}
use native.Mathlib.Omega.{arith}
use borrow.Author.Tests.{ltb-true, ltb-false}
use lib.Dec.{ltb}
use lib.ListN.{length, get_or, length-map, length-append, get_or-append}
use lib.Seq.{get_or-append-add}
use Rattle.limits.specs.Limits.{clauses_max, literals_max, clauses_held}
use Rattle.predicate.specs.Tree.{tree_at, Sound}
use Rattle.predicate.proofs.Trees.{sound_below}
use Rattle.cnf.specs.Clause.{Literal, literal, cross, total}
use Rattle.cnf.specs.Source.{clauses_at, signed, source_at}
use Rattle.cnf.specs.declared.SignedRow.{SignedRow}
use Rattle.cnf.specs.declared.Source.{Source}
use Rattle.cnf.specs.declared.Source.TheVariants.{Atom, Joined}
use Rattle.cnf.proofs.Crossing.{cross_at}
use Rattle.cnf.proofs.Sizes.{length_cross, total_append, total_cross, clauses_some}
use Rattle.cnf.proofs.Sources.{SourceIs, source_is}
use Rattle.columns.specs.Lookup.{literal_test}
use Rattle.columns.specs.Partial.{with_tests, value_count, search_for, search_one}
use Rattle.columns.specs.declared.partial.Search.{Search}
use Rattle.columns.proofs.PartialLookups.{tests_append, tests_count}
use Rattle.lookup.specs.ByNumber.{counts, held_count, clause_counts, count_when, row_clause, CanFind, tests_of, with_clause, clause_of_two}
use Rattle.lookup.specs.declared.clause.RowClause.{RowClause}
use Rattle.lookup.specs.declared.counts.ClauseCounts.{ClauseCounts}
use Rattle.lookup.proofs.HeldCounts.{counts_below_fewer}

-- ---- lists

pick_left : (xs ys : List (List Literal)) (k : ℕ) → k < length xs → get_or (xs ++ ys) k [] ≡ get_or xs k []
pick_left xs ys k lt = get_or-append xs ys [] k lt

pick_right : (xs ys : List (List Literal)) (k : ℕ) → length xs ≤ k → get_or (xs ++ ys) k [] ≡ get_or ys (k - length xs) []
pick_right xs ys k le =
    let split : k ≡ length xs + (k - length xs) = omega arith in
    ap (λ (i : ℕ). get_or (xs ++ ys) i []) split ∙ get_or-append-add xs ys (k - length xs) []

pick_cross : (xs ys : List (List Literal)) (k : ℕ) → 0 < length ys → k < length xs * length ys →
    get_or (cross xs ys) k [] ≡ get_or xs (k / length ys) [] ++ get_or ys (k % length ys) []
pick_cross xs ys k pos lt =
    ap (λ (i : ℕ). get_or (cross xs ys) i []) (sym (div-add-mod' k (length ys)))
    ∙ cross_at xs ys (k / length ys) (k % length ys) ((div-lt_iff_lt-mul pos).1 lt) (mod-lt k pos)

-- a clause has no more literals than all of them
clause_total : (cs : List (List Literal)) (k : ℕ) → length (get_or cs k []) ≤ total cs
clause_total [] k = omega arith
clause_total (c ∷ cs) zero = omega arith
clause_total (c ∷ cs) (suc k) = omega (arith, clause_total cs k)

-- ---- rows

count_when_is : (l : List ℕ) (r : ℕ) (g : Bool) → count_when (clause_counts l r) g ≡ held_count l (signed g r)
unfolding count_when clause_counts
count_when_is l r false = refl
count_when_is l r true = refl

same_clause : (l : List ℕ) (c d : RowClause) (s : Search) → get_or (clauses_at l c.at) c.clause [] ≡ get_or (clauses_at l d.at) d.clause [] →
    with_clause l c s ≡ with_clause l d s
unfolding tests_of
same_clause l c d s e = ap (λ (ls : List Literal). search_for s.wanted (with_tests s.wanted s.partial (map literal_test ls))) e

module _ {l : List ℕ} {tab : List ClauseCounts} {from : RowClause} {g : Search} (can : CanFind l tab from g) where
  -- the clauses of the row, and the number of the one that is wanted
  abbrev all_list : List (List Literal)
  all_list = clauses_at l from.at

  abbrev k : ℕ
  k = from.clause

  -- an operand's clause can be found too
  child : {q : SignedRow} {i : ℕ} {to : Search} → q.row < from.at.row → length (clauses_at l q) ≤ clauses_max → i < length (clauses_at l q) →
      value_count to.partial + total (clauses_at l q) ≤ literals_max → CanFind l tab (row_clause q i) to
  child {q} lt few inside small =
      record {
        sound = sound_below q.row can.sound (omega arith);
        room = omega (arith, can.room);
        counts = counts_below_fewer can.counts (omega arith);
        few = few;
        inside = inside;
        small = small;
      }

  module _ {v : Source} (s : v ≡ source_at l from.at) {q : SignedRow} (e : v ≡ Atom q) where
    only : SourceIs l from.at (Atom q)
    only = source_is from.at can.sound s e

    pub atom_can_add : Sound l q.row × (value_count g.partial ≤ literals_max)
    atom_can_add = (sound_below q.row can.sound only.0, omega (arith, can.small, ap total only.1))

    pub atom_result : search_one g (literal_test (literal q.negated (tree_at l q.row))) ≡ with_clause l from g
    unfolding tests_of with_tests
    atom_result =
        let zero-th : k ≡ 0 = omega (arith, can.inside, ap length only.1) in
        rw (only.1, zero-th)

  -- what the table says of an operand is exact
  exact : (q : SignedRow) {c : ℕ} → q.row < from.at.row → length (clauses_at l q) ≤ clauses_max →
      c ≡ count_when (get_or tab q.row (counts 0 0)) q.negated → c ≡ length (clauses_at l q)
  unfolding held_count
  exact q lt few f =
      let unheld : min (length (clauses_at l q)) clauses_held ≡ length (clauses_at l q) = omega arith in
      f ∙ ap (λ (m : ClauseCounts). count_when m q.negated) (can.counts.each q.row (omega arith)) ∙ count_when_is l q.row q.negated ∙ unheld

  module _ {v : Source} (s : v ≡ source_at l from.at) {x y : SignedRow} {o : Bool} (e : v ≡ Joined x y o) where
    joined : (b : Bool) → o ≡ b → SourceIs l from.at (Joined x y b)
    joined b f = source_is from.at can.sound s (e ∙ ap (Joined x y) f)

    pub falls_left : x.row < from.at.row
    falls_left = (joined o refl).0

    pub falls_right : y.row < from.at.row
    falls_right = (joined o refl).1

    pub left_in_table : x.row < length tab
    left_in_table = omega (arith, can.room, falls_left)

    pub right_in_table : y.row < length tab
    right_in_table = omega (arith, can.room, falls_right)

    -- each clause of the one with each of the other
    module _ (f : o ≡ true) where
      is : SourceIs l from.at (Joined x y true)
      is = joined true f

      many : length all_list ≡ length (clauses_at l x) * length (clauses_at l y)
      many = ap length is.2 ∙ length_cross (clauses_at l x) (clauses_at l y)

      all : total all_list ≡ total (clauses_at l x) * length (clauses_at l y) + total (clauses_at l y) * length (clauses_at l x)
      all = ap total is.2 ∙ total_cross (clauses_at l x) (clauses_at l y)

      some_x : 0 < length (clauses_at l x)
      some_x = clauses_some x.negated (tree_at l x.row)

      some_y : 0 < length (clauses_at l y)
      some_y = clauses_some y.negated (tree_at l y.row)

      few_x : length (clauses_at l x) ≤ clauses_max
      few_x = omega (arith, can.few, many, le-mul_of_pos_right (length (clauses_at l x)) some_y)

      few_y : length (clauses_at l y) ≤ clauses_max
      few_y = omega (arith, can.few, many, le-mul_of_pos_right (length (clauses_at l y)) some_x)

      totals : total (clauses_at l x) + total (clauses_at l y) ≤ total all_list
      totals =
          omega (
            arith,
            all,
            le-mul_of_pos_right (total (clauses_at l x)) some_y,
            le-mul_of_pos_right (total (clauses_at l y)) some_x,
          )

      module _ {c : ℕ} (m : c ≡ count_when (get_or tab y.row (counts 0 0)) y.negated) where
        each : c ≡ length (clauses_at l y)
        each = exact y is.1 few_y m

        pub each_some : 0 < c
        each_some = rw each some_y

        left_inside : k / length (clauses_at l y) < length (clauses_at l x)
        left_inside = (div-lt_iff_lt-mul some_y).1 (rw many at can.inside)

        pub left_can_find : CanFind l tab (row_clause x (k / c)) g
        left_can_find = child is.0 few_x (rw each left_inside) (omega (arith, can.small, totals))

        module _ {left : Search} (d : left ≡ with_clause l (row_clause x (k / c)) g) where
          gathered_small : value_count left.partial ≤ value_count g.partial + total (clauses_at l x)
          unfolding tests_of
          gathered_small =
              let got = get_or (clauses_at l x) (k / c) [] in
              rw d
              (omega (arith, tests_count g.wanted g.partial (map literal_test got), length-map got literal_test, clause_total (clauses_at l x) (k / c)))

          pub right_can_find : CanFind l tab (row_clause y (k % c)) left
          right_can_find = child is.1 few_y (rw each (mod-lt k some_y)) (omega (arith, can.small, totals, gathered_small))

          pub cross_result : with_clause l (row_clause y (k % c)) left ≡ with_clause l from g
          unfolding tests_of
          cross_result =
              ap (with_clause l (row_clause y (k % c))) d
              ∙ ap (search_for g.wanted)
              (sym (tests_append g.wanted g.partial (tests_of l (row_clause x (k / c))) (tests_of l (row_clause y (k % c))))
              ∙ ap (with_tests g.wanted g.partial)
              (sym (map-append literal_test (get_or (clauses_at l x) (k / c) []) (get_or (clauses_at l y) (k % c) [])) ∙ ap (map literal_test) picked))
            where
              picked : get_or (clauses_at l x) (k / c) [] ++ get_or (clauses_at l y) (k % c) [] ≡ get_or all_list k []
              picked =
                  ap (λ (i : ℕ). get_or (clauses_at l x) (k / i) [] ++ get_or (clauses_at l y) (k % i) []) each
                  ∙ sym (pick_cross (clauses_at l x) (clauses_at l y) k some_y (rw many at can.inside))
                  ∙ ap (λ (cs : List (List Literal)). get_or cs k []) (sym is.2)

    -- one list after the other
    module _ (f : o ≡ false) where
      so : SourceIs l from.at (Joined x y false)
      so = joined false f

      many_both : length all_list ≡ length (clauses_at l x) + length (clauses_at l y)
      many_both = ap length so.2 ∙ length-append (clauses_at l x) (clauses_at l y)

      all_both : total all_list ≡ total (clauses_at l x) + total (clauses_at l y)
      all_both = ap total so.2 ∙ total_append (clauses_at l x) (clauses_at l y)

      module _ {c : ℕ} (m : c ≡ count_when (get_or tab x.row (counts 0 0)) x.negated) where
        first_many : c ≡ length (clauses_at l x)
        first_many = exact x so.0 (omega (arith, can.few, many_both)) m

        -- what is to be said of where the clause is
        pub record FoundInTwo (t : RowClause) : Type 0 where
          pub falls : t.at.row < from.at.row
          pub meets : CanFind l tab t g
          pub result : with_clause l t g ≡ with_clause l from g

        pub found_in_two : {t : RowClause} → t ≡ clause_of_two x y c k → FoundInTwo t
        unfolding clause_of_two
        found_in_two d = subst FoundInTwo (sym d) (by (ltb k c) refl)
          where
            by : (b : Bool) → ltb k c ≡ b → FoundInTwo (elim b [ true ↦ row_clause x k | false ↦ row_clause y (k - c) ])
            by true z =
                let lt : k < c = ltb-true k c z in
                record {
                  falls = so.0;
                  meets = child so.0 (omega (arith, can.few, many_both)) (omega (arith, first_many)) (omega (arith, can.small, all_both));
                  result = same_clause l (row_clause x k) from g
                      (sym (pick_left (clauses_at l x) (clauses_at l y) k (omega (arith, first_many)))
                      ∙ ap (λ (cs : List (List Literal)). get_or cs k []) (sym so.2));
                }
            by false z =
                let le : c ≤ k = ltb-false k c z in
                record {
                  falls = so.1;
                  meets =
                      child so.1 (omega (arith, can.few, many_both)) (omega (arith, first_many, many_both, can.inside))
                      (omega (arith, can.small, all_both));
                  result = same_clause l (row_clause y (k - c)) from g
                      (ap (λ (i : ℕ). get_or (clauses_at l y) (k - i) []) first_many
                      ∙ sym (pick_right (clauses_at l x) (clauses_at l y) k (omega (arith, first_many)))
                      ∙ ap (λ (cs : List (List Literal)). get_or cs k []) (sym so.2));
                }
