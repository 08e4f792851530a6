-- Both theorems speak of the same values. What `split`'s promise says of every choice of values holds of the choice that cells make: with it, the tree's
-- value is what the cells make of the tree (`choice_value`), and the value of each clause that is written is what they make of that clause
-- (`choice_clause`), of which `LooksUp` speaks.
-- Assumes nothing.
use Prim.Native.Nat.{ℕ, zero, suc, ◌<◌}
use mathlib.Core.Path.{◌≡◌, refl, sym, ap, ap₂, ◌∙◌, subst}
use mathlib.Core.Bool.{Bool, true, false, not}
use mathlib.Core.List.{List, [], ◌∷◌, ◌++◌, map}
use native.Mathlib.Omega.{arith}
use lib.ListN.{get_or}
use Rattle.rows.specs.Layout.{row_at}
use Rattle.rows.specs.declared.Row.{Row}
use Rattle.predicate.specs.Row.{shape_at, arity_of, operands_of}
use Rattle.predicate.specs.Tree.{Tree, leaf, unary, binary, both, either, negation, root_of, node_of, tree_at, Falls, Sound}
use Rattle.predicate.specs.declared.Shape.{Shape}
use Rattle.predicate.specs.declared.Shape.TheVariants as shape
use Rattle.predicate.specs.Read.{one, read_rows}
use Rattle.predicate.proofs.Trees.{sound_below, tree_step}
use Rattle.predicate.proofs.Accepted.{accepted}
use Rattle.cnf.specs.Kleene as kleene
use Rattle.cnf.specs.Clause.{Literal, literal, cross, join, clauses, literal_number}
use Rattle.cnf.proofs.Crossing.{before}
use Rattle.cnf.proofs.Meaning.{OR_assoc, any_append, row_of_number, negated_of_number}
use Rattle.lookup.specs.Meaning.{World, predicate_value, literal_value, clause_value}

module _ (text : List ℕ) (world : World) (ρ : ℕ → kleene.Value) where
  -- the choice has for each atom of the tree what the cells make of it
  unfoldable pub Agrees : Tree → Type 0
  Agrees (leaf r l) = ρ r ≡ predicate_value text world (leaf r l)
  Agrees (unary r l a) = ρ r ≡ predicate_value text world (unary r l a)
  Agrees (binary r l a b) = ρ r ≡ predicate_value text world (binary r l a b)
  Agrees (both r l a b) = Agrees a × Agrees b
  Agrees (either r l a b) = Agrees a × Agrees b
  Agrees (negation r l a) = Agrees a

  agrees_value : (t : Tree) → Agrees t → kleene.value ρ t ≡ predicate_value text world t
  unfolding Agrees kleene.value predicate_value
  agrees_value (leaf r l) h = h
  agrees_value (unary r l a) h = h
  agrees_value (binary r l a b) h = h
  agrees_value (both r l a b) h = ap₂ kleene.AND (agrees_value a h.0) (agrees_value b h.1)
  agrees_value (either r l a b) h = ap₂ kleene.OR (agrees_value a h.0) (agrees_value b h.1)
  agrees_value (negation r l a) h = ap kleene.NOT (agrees_value a h)

  -- a clause has the same value either way
  abbrev Same : List (List Literal) → Type 0
  Same [] = Unit {0}
  Same (c ∷ cs) = (kleene.any_of ρ (map literal_number c) ≡ clause_value text world c) × Same cs

  clause_append : (a b : List Literal) → clause_value text world (a ++ b) ≡ kleene.OR (clause_value text world a) (clause_value text world b)
  unfolding clause_value
  clause_append [] b = refl
  clause_append (x ∷ a) b =
      ap (kleene.OR (literal_value text world x)) (clause_append a b)
      ∙ sym (OR_assoc (literal_value text world x) (clause_value text world a) (clause_value text world b))

  same_append : (xs ys : List (List Literal)) → Same xs → Same ys → Same (xs ++ ys)
  same_append [] ys p q = q
  same_append (x ∷ xs) ys p q = (p.0, same_append xs ys p.1 q)

  same_before : (a : List Literal) (ys : List (List Literal)) → kleene.any_of ρ (map literal_number a) ≡ clause_value text world a → Same ys →
      Same (before a ys)
  same_before a [] p q = tt
  same_before a (y ∷ ys) p q = (any_append ρ a y ∙ ap₂ kleene.OR p q.0 ∙ sym (clause_append a y), same_before a ys p q.1)

  same_cross : (xs ys : List (List Literal)) → Same xs → Same ys → Same (cross xs ys)
  same_cross [] ys p q = tt
  same_cross (x ∷ xs) ys p q = same_append (before x ys) (cross xs ys) (same_before x ys p.0 q) (same_cross xs ys p.1 q)

  same_join : (o : Bool) (xs ys : List (List Literal)) → Same xs → Same ys → Same (join o xs ys)
  same_join false xs ys p q = same_append xs ys p q
  same_join true xs ys p q = same_cross xs ys p q

  same_one : (g : Bool) (a : Tree) → ρ (root_of a) ≡ predicate_value text world a → Same ((literal g a ∷ []) ∷ [])
  unfolding kleene.any_of clause_value literal_value
  same_one g a e = (
    ap (λ (v : kleene.Value). kleene.OR v kleene.FALSE)
        (ap₂ (λ (h : Bool) (r : ℕ). kleene.negate_if h (ρ r)) (negated_of_number g a) (row_of_number g a) ∙ ap (kleene.negate_if g) e),
    tt,
  )

  same_clauses : (g : Bool) (t : Tree) → Agrees t → Same (clauses g t)
  unfolding Agrees clauses root_of
  same_clauses g (leaf r l) h = same_one g (leaf r l) h
  same_clauses g (unary r l a) h = same_one g (unary r l a) h
  same_clauses g (binary r l a b) h = same_one g (binary r l a b) h
  same_clauses g (both r l a b) h = same_join g (clauses g a) (clauses g b) (same_clauses g a h.0) (same_clauses g b h.1)
  same_clauses g (either r l a b) h = same_join (not g) (clauses g a) (clauses g b) (same_clauses g a h.0) (same_clauses g b h.1)
  same_clauses g (negation r l a) h = same_clauses (not g) a h

  same_at : (cs : List (List Literal)) (k : ℕ) → Same cs → kleene.any_of ρ (map literal_number (get_or cs k [])) ≡ clause_value text world (get_or cs k [])
  unfolding kleene.any_of clause_value
  same_at [] k h = refl
  same_at (c ∷ cs) zero h = h.0
  same_at (c ∷ cs) (suc k) h = same_at cs k h.1

-- ---- the choice that cells make

module _ (text rows : List ℕ) (world : World) where
  unfoldable pub choice : ℕ → kleene.Value
  choice r = predicate_value text world (tree_at rows r)

  node_agrees : (s : Shape) (r : ℕ) (w : Row) → tree_at rows r ≡ node_of s r w (map (tree_at rows) (operands_of (arity_of s))) → Falls (arity_of s) r →
      ((q : ℕ) → q < r → Agrees text world choice (tree_at rows q)) → Agrees text world choice (node_of s r w (map (tree_at rows) (operands_of (arity_of s))))
  unfolding Agrees choice node_of arity_of operands_of
  node_agrees shape.Leaf r w e f h = ap (predicate_value text world) e
  node_agrees (shape.One x) r w e f h = ap (predicate_value text world) e
  node_agrees (shape.Two x y) r w e f h = ap (predicate_value text world) e
  node_agrees (shape.Both x y) r w e f h = (h x f.0, h y f.1)
  node_agrees (shape.Either x y) r w e f h = (h x f.0, h y f.1)
  node_agrees (shape.Not x) r w e f h = h x f

  agrees_to : (n r : ℕ) → r < n → Sound rows r → Agrees text world choice (tree_at rows r)
  agrees_to zero r b s = absurd (omega arith)
  agrees_to (suc n) r b s =
      subst (Agrees text world choice) (sym (tree_step s))
      (node_agrees (shape_at rows r) r (row_at rows r) (tree_step s) (s.falls r (omega arith))
      (λ q h. agrees_to n q (omega arith) (sound_below q s (omega arith))))

  agrees : {r : ℕ} → Sound rows r → Agrees text world choice (tree_at rows r)
  agrees {r} s = agrees_to (suc r) r (omega arith) s

  module _ (t : Tree) (is : read_rows text rows ≡ one t) where
    root_agrees : Agrees text world choice t
    root_agrees = let y = accepted text rows t is in subst (Agrees text world choice) (sym y.tree) (agrees y.sound)

    pub choice_value : kleene.value choice t ≡ predicate_value text world t
    choice_value = agrees_value text world choice t root_agrees

    pub choice_clause : (k : ℕ) →
        kleene.any_of choice (map literal_number (get_or (clauses false t) k [])) ≡ clause_value text world (get_or (clauses false t) k [])
    choice_clause k = same_at text world choice (clauses false t) k (same_clauses text world choice false t root_agrees)
