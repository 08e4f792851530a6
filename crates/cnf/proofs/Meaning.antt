-- The clause list means the predicate. Its clauses, as numbers, have the tree's value in every choice of values (`split_value`), and every literal is one of
-- the tree's atoms or one negated (`split_atoms`); and what a caller reads back from the lists is these clauses (`read_back_lem`).
-- Assumes nothing.
use Prim.Native.Nat.{ℕ, ◌+◌, ◌*◌, ◌-◌, ◌%◌}
use mathlib.Core.Path.{◌≡◌, refl, sym, ap, ap₂, ◌∙◌, subst}
use mathlib.Core.Bool.{Bool, true, false, not}
use mathlib.Core.Logic.{inl, inr}
use mathlib.Core.List.{List, [], ◌∷◌, ◌++◌, map, append_assoc}
use native.Mathlib.Omega.{arith}
use lib.ListN.{length, take, drop, length-append, length-map}
use lib.Dec.{eqb}
use lib.Seq.{take_at, drop_at}
use Rattle.predicate.specs.Tree.{Tree, leaf, unary, binary, both, either, negation, root_of}
use Rattle.cnf.specs.Clause.{Literal, literal, cross, join, clauses, literal_number, literal_numbers, ends_from}
use Rattle.cnf.specs.Kleene.{Value, FALSE, NULL, TRUE, AND, OR, NOT, negate_if, value, AtomOf, read_back, literal_row, is_negated, any_of, all_of}
use Rattle.cnf.specs.Kleene.{EachIn, Each, Means}
use Rattle.cnf.proofs.Crossing.{before}

-- ---- Kleene's values

AND_assoc : (u v w : Value) → AND (AND u v) w ≡ AND u (AND v w)
AND_assoc FALSE v w = refl
AND_assoc NULL FALSE w = refl
AND_assoc NULL NULL FALSE = refl
AND_assoc NULL NULL NULL = refl
AND_assoc NULL NULL TRUE = refl
AND_assoc NULL TRUE w = refl
AND_assoc TRUE v w = refl

pub OR_assoc : (u v w : Value) → OR (OR u v) w ≡ OR u (OR v w)
OR_assoc FALSE v w = refl
OR_assoc NULL FALSE w = refl
OR_assoc NULL NULL FALSE = refl
OR_assoc NULL NULL NULL = refl
OR_assoc NULL NULL TRUE = refl
OR_assoc NULL TRUE w = refl
OR_assoc TRUE v w = refl

OR-TRUE : (u : Value) → OR u TRUE ≡ TRUE
OR-TRUE FALSE = refl
OR-TRUE NULL = refl
OR-TRUE TRUE = refl

pub OR-FALSE : (u : Value) → OR u FALSE ≡ u
OR-FALSE FALSE = refl
OR-FALSE NULL = refl
OR-FALSE TRUE = refl

AND-TRUE : (u : Value) → AND u TRUE ≡ u
AND-TRUE FALSE = refl
AND-TRUE NULL = refl
AND-TRUE TRUE = refl

OR-AND : (u v w : Value) → OR u (AND v w) ≡ AND (OR u v) (OR u w)
OR-AND FALSE v w = refl
OR-AND NULL FALSE FALSE = refl
OR-AND NULL FALSE NULL = refl
OR-AND NULL FALSE TRUE = refl
OR-AND NULL NULL FALSE = refl
OR-AND NULL NULL NULL = refl
OR-AND NULL NULL TRUE = refl
OR-AND NULL TRUE FALSE = refl
OR-AND NULL TRUE NULL = refl
OR-AND NULL TRUE TRUE = refl
OR-AND TRUE v w = refl

OR_comm : (u v : Value) → OR u v ≡ OR v u
OR_comm FALSE v = sym (OR-FALSE v)
OR_comm NULL FALSE = refl
OR_comm NULL NULL = refl
OR_comm NULL TRUE = refl
OR_comm TRUE v = sym (OR-TRUE v)

AND-OR : (u v w : Value) → AND (OR u w) (OR v w) ≡ OR (AND u v) w
AND-OR u v w = ap₂ AND (OR_comm u w) (OR_comm v w) ∙ sym (OR-AND w u v) ∙ OR_comm w (AND u v)

NOT-AND : (u v : Value) → NOT (AND u v) ≡ OR (NOT u) (NOT v)
NOT-AND FALSE v = refl
NOT-AND NULL FALSE = refl
NOT-AND NULL NULL = refl
NOT-AND NULL TRUE = refl
NOT-AND TRUE v = refl

NOT-OR : (u v : Value) → NOT (OR u v) ≡ AND (NOT u) (NOT v)
NOT-OR FALSE v = refl
NOT-OR NULL FALSE = refl
NOT-OR NULL NULL = refl
NOT-OR NULL TRUE = refl
NOT-OR TRUE v = refl

NOT-NOT : (u : Value) → NOT (NOT u) ≡ u
NOT-NOT FALSE = refl
NOT-NOT NULL = refl
NOT-NOT TRUE = refl

-- ---- a literal's number

pub row_of_number : (g : Bool) (a : Tree) → literal_row (literal_number (literal g a)) ≡ root_of a
unfolding literal_row literal_number
row_of_number false a = omega arith
row_of_number true a = omega arith

pub negated_of_number : (g : Bool) (a : Tree) → is_negated (literal_number (literal g a)) ≡ g
unfolding is_negated literal_number
negated_of_number false a = let z : (2 * root_of a + 0) % 2 ≡ 0 = omega arith in ap (λ (n : ℕ). eqb n 1) z
negated_of_number true a = let z : (2 * root_of a + 1) % 2 ≡ 1 = omega arith in ap (λ (n : ℕ). eqb n 1) z

-- clauses as numbers
abbrev pub numbered : List (List Literal) → List (List ℕ)
numbered cs = map (map literal_number) cs

-- ---- the value

module _ (ρ : ℕ → Value) where
  pub any_append : (a b : List Literal) → any_of ρ (map literal_number (a ++ b)) ≡ OR (any_of ρ (map literal_number a)) (any_of ρ (map literal_number b))
  unfolding any_of
  any_append [] b = refl
  any_append (x ∷ a) b =
      ap (OR (negate_if (is_negated (literal_number x)) (ρ (literal_row (literal_number x))))) (any_append a b)
      ∙ sym
      (OR_assoc (negate_if (is_negated (literal_number x)) (ρ (literal_row (literal_number x)))) (any_of ρ (map literal_number a))
      (any_of ρ (map literal_number b)))

  all_append : (xs ys : List (List Literal)) → all_of ρ (numbered (xs ++ ys)) ≡ AND (all_of ρ (numbered xs)) (all_of ρ (numbered ys))
  unfolding all_of
  all_append [] ys = refl
  all_append (x ∷ xs) ys =
      ap (AND (any_of ρ (map literal_number x))) (all_append xs ys)
      ∙ sym (AND_assoc (any_of ρ (map literal_number x)) (all_of ρ (numbered xs)) (all_of ρ (numbered ys)))

  all_before : (a : List Literal) (ys : List (List Literal)) → all_of ρ (numbered (before a ys)) ≡ OR (any_of ρ (map literal_number a)) (all_of ρ (numbered ys))
  unfolding all_of
  all_before a [] = sym (OR-TRUE (any_of ρ (map literal_number a)))
  all_before a (y ∷ ys) =
      ap₂ AND (any_append a y) (all_before a ys) ∙ sym (OR-AND (any_of ρ (map literal_number a)) (any_of ρ (map literal_number y)) (all_of ρ (numbered ys)))

  all_cross : (xs ys : List (List Literal)) → all_of ρ (numbered (cross xs ys)) ≡ OR (all_of ρ (numbered xs)) (all_of ρ (numbered ys))
  unfolding all_of
  all_cross [] ys = refl
  all_cross (x ∷ xs) ys =
      all_append (before x ys) (cross xs ys)
      ∙ ap₂ AND (all_before x ys) (all_cross xs ys)
      ∙ AND-OR (any_of ρ (map literal_number x)) (all_of ρ (numbered xs)) (all_of ρ (numbered ys))

  -- one literal, alone
  all_one : (g : Bool) (a : Tree) → all_of ρ (numbered ((literal g a ∷ []) ∷ [])) ≡ negate_if g (ρ (root_of a))
  unfolding all_of any_of
  all_one g a =
      AND-TRUE (OR (negate_if (is_negated (literal_number (literal g a))) (ρ (literal_row (literal_number (literal g a))))) FALSE)
      ∙ OR-FALSE (negate_if (is_negated (literal_number (literal g a))) (ρ (literal_row (literal_number (literal g a)))))
      ∙ ap₂ (λ (h : Bool) (r : ℕ). negate_if h (ρ r)) (negated_of_number g a) (row_of_number g a)

  pub split_value : (g : Bool) (t : Tree) → all_of ρ (numbered (clauses g t)) ≡ negate_if g (value ρ t)
  unfolding clauses value root_of
  split_value g (leaf r l) = all_one g (leaf r l)
  split_value g (unary r l a) = all_one g (unary r l a)
  split_value g (binary r l a b) = all_one g (binary r l a b)
  split_value false (both r l a b) = all_append (clauses false a) (clauses false b) ∙ ap₂ AND (split_value false a) (split_value false b)
  split_value true (both r l a b) =
      all_cross (clauses true a) (clauses true b) ∙ ap₂ OR (split_value true a) (split_value true b) ∙ sym (NOT-AND (value ρ a) (value ρ b))
  split_value false (either r l a b) = all_cross (clauses false a) (clauses false b) ∙ ap₂ OR (split_value false a) (split_value false b)
  split_value true (either r l a b) =
      all_append (clauses true a) (clauses true b) ∙ ap₂ AND (split_value true a) (split_value true b) ∙ sym (NOT-OR (value ρ a) (value ρ b))
  split_value false (negation r l a) = split_value true a
  split_value true (negation r l a) = split_value false a ∙ sym (NOT-NOT (value ρ a))

-- ---- the literals

module _ (P : ℕ → Type 0) where
  in_append : (a b : List Literal) → EachIn P (map literal_number a) → EachIn P (map literal_number b) → EachIn P (map literal_number (a ++ b))
  unfolding EachIn
  in_append [] b p q = q
  in_append (x ∷ a) b p q = (p.0, in_append a b p.1 q)

  each_append : (xs ys : List (List Literal)) → Each P (numbered xs) → Each P (numbered ys) → Each P (numbered (xs ++ ys))
  unfolding Each
  each_append [] ys p q = q
  each_append (x ∷ xs) ys p q = (p.0, each_append xs ys p.1 q)

  each_before : (a : List Literal) (ys : List (List Literal)) → EachIn P (map literal_number a) → Each P (numbered ys) → Each P (numbered (before a ys))
  unfolding Each
  each_before a [] p q = tt
  each_before a (y ∷ ys) p q = (in_append a y p q.0, each_before a ys p q.1)

  each_cross : (xs ys : List (List Literal)) → Each P (numbered xs) → Each P (numbered ys) → Each P (numbered (cross xs ys))
  unfolding Each
  each_cross [] ys p q = tt
  each_cross (x ∷ xs) ys p q = each_append (before x ys) (cross xs ys) (each_before x ys p.0 q) (each_cross xs ys p.1 q)

  each_join : (o : Bool) (xs ys : List (List Literal)) → Each P (numbered xs) → Each P (numbered ys) → Each P (numbered (join o xs ys))
  each_join false xs ys p q = each_append xs ys p q
  each_join true xs ys p q = each_cross xs ys p q

  each_one : (g : Bool) (a : Tree) → P (root_of a) → Each P (numbered ((literal g a ∷ []) ∷ []))
  unfolding Each EachIn
  each_one g a p = ((subst P (sym (row_of_number g a)) p, tt), tt)

  each_atom : (g : Bool) (t : Tree) → ((q : ℕ) → AtomOf q t → P q) → Each P (numbered (clauses g t))
  unfolding clauses AtomOf root_of
  each_atom g (leaf r l) h = each_one g (leaf r l) (h r refl)
  each_atom g (unary r l a) h = each_one g (unary r l a) (h r refl)
  each_atom g (binary r l a b) h = each_one g (binary r l a b) (h r refl)
  each_atom g (both r l a b) h = each_join g (clauses g a) (clauses g b) (each_atom g a (λ q i. h q (inl i))) (each_atom g b (λ q i. h q (inr i)))
  each_atom g (either r l a b) h = each_join (not g) (clauses g a) (clauses g b) (each_atom g a (λ q i. h q (inl i))) (each_atom g b (λ q i. h q (inr i)))
  each_atom g (negation r l a) h = each_atom (not g) a h

pub split_atoms : (g : Bool) (t : Tree) → Each (λ q. AtomOf q t) (numbered (clauses g t))
split_atoms g t = each_atom (λ q. AtomOf q t) g t (λ q i. i)

-- ---- what is read back

read_on : (front rest : List ℕ) (cs : List (List Literal))
    → read_back (front ++ (literal_numbers cs ++ rest)) (length front) (ends_from (length front) cs) ≡ numbered cs
unfolding read_back
read_on front rest [] = refl
read_on front rest (c ∷ cs) =
    ap₂ ◌∷◌ here (ap₂ (λ (l : List ℕ) (i : ℕ). read_back l i (ends_from i cs)) all (sym long) ∙ read_on (front ++ map literal_number c) rest cs)
  where
    all : front ++ ((map literal_number c ++ literal_numbers cs) ++ rest) ≡ (front ++ map literal_number c) ++ (literal_numbers cs ++ rest)
    all =
        ap (λ (l : List ℕ). front ++ l) (append_assoc (map literal_number c) (literal_numbers cs) rest)
        ∙ sym (append_assoc front (map literal_number c) (literal_numbers cs ++ rest))

    long : length (front ++ map literal_number c) ≡ length front + length c
    long = length-append front (map literal_number c) ∙ ap (λ (n : ℕ). length front + n) (length-map c literal_number)

    here : take (length front + length c - length front) (drop (length front) (front ++ ((map literal_number c ++ literal_numbers cs) ++ rest)))
        ≡ map literal_number c
    here =
        let n : length front + length c - length front ≡ length (map literal_number c) = omega (arith, length-map c literal_number) in
        ap₂ take n
        (drop_at front ((map literal_number c ++ literal_numbers cs) ++ rest) (length front) refl
        ∙ append_assoc (map literal_number c) (literal_numbers cs) rest)
        ∙ take_at (map literal_number c) (literal_numbers cs ++ rest) (length (map literal_number c)) refl

pub read_back_lem : (rest : List ℕ) (cs : List (List Literal)) → read_back (literal_numbers cs ++ rest) 0 (ends_from 0 cs) ≡ numbered cs
read_back_lem rest cs = read_on [] rest cs

-- ---- together

pub clauses_mean : (t : Tree) {read : List (List ℕ)} → read ≡ numbered (clauses false t) → Means t read
clauses_mean t e = subst (Means t) (sym e) (record { equal = λ ρ. split_value ρ false t; atoms = split_atoms false t })
