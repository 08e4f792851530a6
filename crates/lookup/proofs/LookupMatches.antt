-- A lookup keeps exactly the right cells (`lookup_matches`): where a clause is a lookup on a column, it is TRUE exactly if the column's cell matches one of
-- its values. `literal_test_lem` says that the test which stands for a literal has the literal's value.
-- Assumes nothing.
use mathlib.Core.Path.{◌≡◌, refl, sym, ap, ap₂, ◌∙◌}
use Prim.Native.Nat.{ℕ}
use mathlib.Core.Bool.{Bool, true, false, ◌&&◌, ◌||◌, or-false, or_assoc, and-false, and-true}
use mathlib.Core.List.{List, [], ◌∷◌, ◌++◌, map}
use native.Mathlib.Omega.{arith}
use borrow.Author.Tests.{eqb-true}
use lib.Dec.{eqb, leb}
use lib.Ieee.{Float, nan, inf, fin, eq, is_nan as is_nan_float}
use Rattle.std.specs.Prelude.{Option, Some, None}
use Rattle.std.specs.Option.{option_and_then}
use Rattle.predicate.specs.Kind as kind
use Rattle.predicate.specs.Tree.{Tree, leaf, unary, binary, both, either, negation}
use Rattle.cnf.specs.Kleene as kleene
use Rattle.cnf.specs.Clause.{Literal, literal}
use Rattle.values.specs.Value.{constant_of_label, value_of, is_undefined}
use Rattle.lookup.specs.Cell.{Cell, null, boolean, integer, float, string, cell_of, is_null, is_nan, same, truth, is_true, equal, is, matches}
use Rattle.columns.specs.Lookup.{leaf_of, is_column, is_constant, defined, looked_for, comparison, equal_test, is_test, test_of, literal_test}
use Rattle.columns.specs.Lookup.{on, none, tests_column, all_test_column, value_list, value_in, values_in, lookup_on, lookup_from, lookup_in, clause_lookup}
use Rattle.lookup.proofs.EqualSymmetric.{equal_symmetric}
use Rattle.lookup.specs.Meaning.{World, cell_in, predicate_value, literal_value, clause_value, any_match}
use Rattle.rows.specs.Label.{Label}
use Rattle.columns.specs.declared.test.Test.{Test}
use Rattle.columns.specs.declared.test.Condition.{Condition}
use Rattle.columns.specs.declared.test.Condition.TheVariants.{Equals, Is}
use Rattle.values.proofs.ConstantsReadBack.{both_true}
use Rattle.values.specs.declared.Value.{Value}
use Rattle.values.specs.declared.Value.TheVariants as value

-- NaN equals no float
no_nan : (x y : Float) → is_nan_float y ≡ true → eq x y ≡ false
unfolding eq is_nan_float
no_nan nan y e = refl
no_nan (inf s) nan e = refl
no_nan (inf s) (inf t) e = let z : ◌≡◌ {A = ℕ} 0 1 = cc in absurd (omega arith)
no_nan (inf s) (fin t n d) e = let z : ◌≡◌ {A = ℕ} 0 1 = cc in absurd (omega arith)
no_nan (fin s m k) nan e = refl
no_nan (fin s m k) (inf t) e = let z : ◌≡◌ {A = ℕ} 0 1 = cc in absurd (omega arith)
no_nan (fin s m k) (fin t n d) e = let z : ◌≡◌ {A = ℕ} 0 1 = cc in absurd (omega arith)

-- no cell equals NULL, and none equals NaN
null_never : (cell : Cell) → is_true (equal cell null) ≡ false
unfolding equal is_null
null_never null = refl
null_never (boolean b) = refl
null_never (integer n) = refl
null_never (float x) = refl
null_never (string s) = refl

nan_never : (cell : Cell) (x : Float) → is_nan_float x ≡ true → is_true (equal cell (float x)) ≡ false
unfolding equal is_null same
nan_never null x e = refl
nan_never (boolean b) x e = refl
nan_never (integer n) x e = refl
nan_never (float y) x e = ap (λ (b : Bool). is_true (truth b)) (no_nan y x e)
nan_never (string s) x e = refl

truth_is : (b : Bool) → is_true (truth b) ≡ b
truth_is true = refl
truth_is false = refl

true_or : (v w : kleene.Value) → is_true (kleene.OR v w) ≡ (is_true v || is_true w)
true_or kleene.FALSE w = refl
true_or kleene.NULL kleene.FALSE = refl
true_or kleene.NULL kleene.NULL = refl
true_or kleene.NULL kleene.TRUE = refl
true_or kleene.TRUE w = refl

-- what is no test tests no column
false_true : {A : Type 0} → false ≡ true → A
false_true e = let z : ◌≡◌ {A = ℕ} 0 1 = cc in absurd (omega arith)

-- ---- values

module _ (text : List ℕ) (cell : Cell) where
  any_append : (vs ws : List Value) → any_match text cell (vs ++ ws) ≡ (any_match text cell vs || any_match text cell ws)
  unfolding any_match
  any_append [] ws = refl
  any_append (v ∷ vs) ws =
      ap (λ (b : Bool). matches cell (cell_of text v) || b) (any_append vs ws)
      ∙ sym (or_assoc (matches cell (cell_of text v)) (any_match text cell vs) (any_match text cell ws))

  -- a value that is defined is matched by what equals it
  defined_matches : (v : Value) → is_undefined v ≡ false → matches cell (cell_of text v) ≡ is_true (equal cell (cell_of text v))
  unfolding is_undefined matches cell_of is_null is_nan
  defined_matches value.Null e = let z : ◌≡◌ {A = ℕ} 0 1 = cc in absurd (omega arith)
  defined_matches (value.Boolean b) e = rw (and-false (is_null cell), and-false (is_nan cell))
  defined_matches (value.Integer n) e = rw (and-false (is_null cell), and-false (is_nan cell))
  defined_matches (value.Float x) e = rw (and-false (is_null cell), e, and-false (is_nan cell))
  defined_matches (value.String s l) e = rw (and-false (is_null cell), and-false (is_nan cell))

  -- and one that is not, by nothing that equals it
  never : (v : Value) → is_undefined v ≡ true → is_true (equal cell (cell_of text v)) ≡ false
  unfolding is_undefined cell_of
  never value.Null e = null_never cell
  never (value.Boolean b) e = let z : ◌≡◌ {A = ℕ} 0 1 = cc in absurd (omega arith)
  never (value.Integer n) e = let z : ◌≡◌ {A = ℕ} 0 1 = cc in absurd (omega arith)
  never (value.Float x) e = nan_never cell x e
  never (value.String s l) e = let z : ◌≡◌ {A = ℕ} 0 1 = cc in absurd (omega arith)

  -- what equals a value is what its comparison looks for
  comparison_matches : (v : Value) → is_true (equal cell (cell_of text v)) ≡ any_match text cell (value_list (defined v))
  unfolding defined any_match
  comparison_matches v = by (is_undefined v) refl
    where
      by : (b : Bool) → is_undefined v ≡ b → is_true (equal cell (cell_of text v)) ≡ any_match text cell (value_list (elim b [ true ↦ None | false ↦ Some v ]))
      by true e = never v e
      by false e = sym (defined_matches v e) ∙ sym (or-false (matches cell (cell_of text v)))

  null_matches : (matches cell (cell_of text value.Null) || false) ≡ is_null cell
  unfolding matches cell_of is_null is_nan
  null_matches = rw (and-true (is_null cell), and-false (is_nan cell), null_never cell, or-false (is_null cell), or-false (is_null cell))

  nan_matches : (matches cell (cell_of text (value.Float nan)) || false) ≡ is_nan cell
  unfolding matches cell_of is_null is_nan is_nan_float
  nan_matches = rw (and-false (is_null cell), and-true (is_nan cell), nan_never cell nan refl, or-false (is_nan cell), or-false (is_nan cell))

  is_matches : (y : ℕ) → is_true (is y cell) ≡ any_match text cell (elim (eqb y 0) [ true ↦ value.Null | false ↦ value.Float nan ] ∷ [])
  unfolding is any_match
  is_matches y = by (eqb y 0)
    where
      by : (b : Bool) → is_true (truth (elim b [ true ↦ is_null cell | false ↦ is_nan cell ]))
          ≡ (matches cell (cell_of text (elim b [ true ↦ value.Null | false ↦ value.Float nan ])) || false)
      by true = truth_is (is_null cell) ∙ sym null_matches
      by false = truth_is (is_nan cell) ∙ sym nan_matches

-- ---- tests

-- a condition's value, where the column holds a cell
unfoldable condition_value : List ℕ → Cell → Condition → kleene.Value
condition_value text cell (Equals k) = equal cell (cell_of text (value_of k))
condition_value text cell (Is y) = is y cell

-- and a test's
unfoldable test_value : List ℕ → Cell → Option Test → kleene.Value
test_value text cell None = kleene.NULL
test_value text cell (Some t) = condition_value text cell t.condition

module _ (text : List ℕ) (cell : Cell) where
  is_test_lem : (c y : ℕ) → is_true (test_value text cell (Some (record { column = c; condition = Is y })))
      ≡ any_match text cell (value_in (Some (record { column = c; condition = Is y })))
  unfolding test_value condition_value value_in looked_for
  is_test_lem c y = is_matches text cell y

  -- what a test looks for is matched where the test is TRUE
  test_matches : (t : Option Test) → is_true (test_value text cell t) ≡ any_match text cell (value_in t)
  unfolding test_value condition_value value_in looked_for any_match
  test_matches None = refl
  test_matches (Some t) = by t.condition
    where
      by : (k : Condition) → is_true (condition_value text cell k) ≡ any_match text cell (value_list (looked_for k))
      by (Equals k) = comparison_matches text cell (value_of k)
      by (Is y) = is_matches text cell y

-- a constant is no column
constant_only : (w : Label) → is_constant w ≡ true → is_column w ≡ false
unfolding is_column is_constant
constant_only w e = by (eqb w.kind kind.column) refl
  where
    by : (b : Bool) → eqb w.kind kind.column ≡ b → b ≡ false
    by true f = sym e ∙ ap (λ (k : ℕ). leb kind.null k && leb k kind.string) (eqb-true w.kind kind.column f)
    by false f = refl

module _ (text : List ℕ) (world : World) where
  column_cell : (r : ℕ) (l : Label) → is_column l ≡ true → cell_in text world (leaf r l) ≡ world.column l.x
  unfolding cell_in is_column
  column_cell r l e = rw (e, cell_in)

  constant_cell : (r : ℕ) (l : Label) → is_constant l ≡ true → cell_in text world (leaf r l) ≡ cell_of text (value_of (constant_of_label l))
  unfolding cell_in is_column
  constant_cell r l e = rw (constant_only l e, cell_in)

  module _ (c : ℕ) where
    -- where this test is of column c, this is its value
    abbrev Worth : kleene.Value → Option Test → Type 0
    Worth v t = tests_column c t ≡ true → v ≡ test_value text (world.column c) t

    no_test : (v : kleene.Value) → Worth v None
    unfolding tests_column
    no_test v e = false_true e

    -- one way round
    column_first : (r q : ℕ) (l m : Label) → (is_column l && is_constant m) ≡ true →
        Worth (equal (cell_in text world (leaf r l)) (cell_in text world (leaf q m))) (Some (comparison l m))
    unfolding tests_column comparison test_value condition_value
    column_first r q l m e f =
        let parts = both_true (is_column l) (is_constant m) e in
        ap₂ equal (column_cell r l parts.0 ∙ ap world.column (sym (eqb-true c l.x f))) (constant_cell q m parts.1)

    equal_leaves : (r q : ℕ) (l m : Label) → Worth (equal (cell_in text world (leaf r l)) (cell_in text world (leaf q m))) (equal_test l m)
    unfolding equal_test
    equal_leaves r q l m = by (is_column l && is_constant m) (is_column m && is_constant l) refl refl
      where
        both_cells : kleene.Value
        both_cells = equal (cell_in text world (leaf r l)) (cell_in text world (leaf q m))

        by : (p s : Bool) → (is_column l && is_constant m) ≡ p → (is_column m && is_constant l) ≡ s →
            Worth both_cells (elim p [ true ↦ Some (comparison l m) | false ↦ elim s [ true ↦ Some (comparison m l) | false ↦ None ] ])
        by true s f g = column_first r q l m f
        by false true f g = λ e. equal_symmetric (cell_in text world (leaf r l)) (cell_in text world (leaf q m)) ∙ column_first q r m l g e
        by false false f g = no_test both_cells

    equal_value : (a b : Tree) → Worth (equal (cell_in text world a) (cell_in text world b))
        (option_and_then (λ m. option_and_then (equal_test m) (leaf_of b)) (leaf_of a))
    unfolding leaf_of
    equal_value (leaf r l) (leaf q m) = equal_leaves r q l m
    equal_value (leaf r l) (unary q m a) = no_test _
    equal_value (leaf r l) (binary q m a b) = no_test _
    equal_value (leaf r l) (both q m a b) = no_test _
    equal_value (leaf r l) (either q m a b) = no_test _
    equal_value (leaf r l) (negation q m a) = no_test _
    equal_value (unary r l a) b = no_test _
    equal_value (binary r l a d) b = no_test _
    equal_value (both r l a d) b = no_test _
    equal_value (either r l a d) b = no_test _
    equal_value (negation r l a) b = no_test _

    is_of_leaf : (r : ℕ) (l : Label) (y : ℕ) → Worth (is y (cell_in text world (leaf r l))) (is_test l y)
    unfolding is_test tests_column test_value condition_value
    is_of_leaf r l y = by (is_column l) refl
      where
        by : (p : Bool) → is_column l ≡ p → Worth (is y (cell_in text world (leaf r l)))
            (elim p [ true ↦ Some (record { column = l.x; condition = Is y }) | false ↦ None ])
        by true f e = ap (is y) (column_cell r l f ∙ ap world.column (sym (eqb-true c l.x e)))
        by false f e = false_true e

    is_value : (a : Tree) (y : ℕ) → Worth (is y (cell_in text world a)) (option_and_then (λ m. is_test m y) (leaf_of a))
    unfolding leaf_of
    is_value (leaf r l) y = is_of_leaf r l y
    is_value (unary r l a) y = no_test _
    is_value (binary r l a b) y = no_test _
    is_value (both r l a b) y = no_test _
    is_value (either r l a b) y = no_test _
    is_value (negation r l a) y = no_test _

    atom_test : (t : Tree) → Worth (predicate_value text world t) (test_of t)
    unfolding test_of predicate_value
    atom_test (leaf r l) = no_test _
    atom_test (unary r l a) = by (eqb l.kind kind.is)
      where
        by : (p : Bool) → Worth (elim p [ true ↦ is l.y (cell_in text world a) | false ↦ world.other r ])
            (elim p [ true ↦ option_and_then (λ m. is_test m l.y) (leaf_of a) | false ↦ None ])
        by true = is_value a l.y
        by false = no_test _
    atom_test (binary r l a b) = by (eqb l.kind kind.equal)
      where
        by : (p : Bool) → Worth (elim p [ true ↦ equal (cell_in text world a) (cell_in text world b) | false ↦ world.other r ])
            (elim p [ true ↦ option_and_then (λ m. option_and_then (equal_test m) (leaf_of b)) (leaf_of a) | false ↦ None ])
        by true = equal_value a b
        by false = no_test _
    atom_test (both r l a b) = no_test _
    atom_test (either r l a b) = no_test _
    atom_test (negation r l a) = no_test _

    literal_test_lem : (l : Literal) → Worth (literal_value text world l) (literal_test l)
    unfolding literal_test literal_value
    literal_test_lem (literal false a) = atom_test a
    literal_test_lem (literal true a) = no_test _

-- ---- clauses

module _ (text : List ℕ) (world : World) where
  -- every literal tests column c
  all_match : (c : ℕ) (ls : List Literal) → all_test_column c (map literal_test ls) ≡ true →
      is_true (clause_value text world ls) ≡ any_match text (world.column c) (values_in (map literal_test ls))
  unfolding all_test_column clause_value values_in any_match
  all_match c [] e = refl
  all_match c (l ∷ ls) e =
      let this = (both_true (tests_column c (literal_test l)) (all_test_column c (map literal_test ls)) e).0 in
      true_or (literal_value text world l) (clause_value text world ls)
      ∙ ap₂ ◌||◌
      (ap is_true (literal_test_lem text world c l this) ∙ test_matches text (world.column c) (literal_test l))
      (all_match c ls (both_true (tests_column c (literal_test l)) (all_test_column c (map literal_test ls)) e).1)
      ∙ sym (any_append text (world.column c) (value_in (literal_test l)) (values_in (map literal_test ls)))

  lookup_on_matches : (c d : ℕ) (ls : List Literal) (vs : List Value) → lookup_on d (map literal_test ls) ≡ on c vs →
      is_true (clause_value text world ls) ≡ any_match text (world.column c) vs
  unfolding lookup_on
  lookup_on_matches c d ls vs e = by (all_test_column d (map literal_test ls)) refl e
    where
      by : (b : Bool) → all_test_column d (map literal_test ls) ≡ b → elim b [ true ↦ on d (values_in (map literal_test ls)) | false ↦ none ] ≡ on c vs →
          is_true (clause_value text world ls) ≡ any_match text (world.column c) vs
      by true f g =
          let same : values_in (map literal_test ls) ≡ vs = cc in
          let here : d ≡ c = cc in
          all_match d ls f ∙ ap₂ (λ (i : ℕ) (ws : List Value). any_match text (world.column i) ws) here same
      by false f g = let z : ◌≡◌ {A = ℕ} 0 1 = cc in absurd (omega arith)

  lookup_from_matches : (c : ℕ) (t : Option Test) (ls : List Literal) (vs : List Value) → lookup_from t (map literal_test ls) ≡ on c vs →
      is_true (clause_value text world ls) ≡ any_match text (world.column c) vs
  unfolding lookup_from
  lookup_from_matches c None ls vs e = let z : ◌≡◌ {A = ℕ} 0 1 = cc in absurd (omega arith)
  lookup_from_matches c (Some t) ls vs e = lookup_on_matches c t.column ls vs e

  -- the theorem
  pub lookup_matches : (c : ℕ) (ls : List Literal) (vs : List Value) → clause_lookup ls ≡ on c vs →
      is_true (clause_value text world ls) ≡ any_match text (world.column c) vs
  unfolding clause_lookup lookup_in
  lookup_matches c [] vs e = let z : ◌≡◌ {A = ℕ} 0 1 = cc in absurd (omega arith)
  lookup_matches c (l ∷ ls) vs e = lookup_from_matches c (literal_test l) (l ∷ ls) vs e
