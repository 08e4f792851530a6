-- Where the clauses of a row come from: an atom's one literal, or two rows' lists joined (`source_is`). The loop of `past_nots` goes by `source_step`.
-- Assumes nothing.
use Prim.Native.Nat.{ℕ, zero, suc, ◌+◌, ◌*◌, ◌<◌, ◌≤◌}
use mathlib.Core.Path.{◌≡◌, refl, sym, ap, ◌∙◌, subst}
use mathlib.Core.Bool.{Bool, not}
use mathlib.Core.List.{List, [], ◌∷◌, map}
use native.Mathlib.Omega.{arith}
use Rattle.rows.specs.Layout.{row_at}
use Rattle.rows.specs.declared.Row.{Row}
use Rattle.predicate.specs.Row.{shape_at, arity_of, operands_of}
use Rattle.predicate.specs.Tree.{Tree, node_of, tree_at, Falls, Sound}
use Rattle.predicate.specs.declared.Shape.{Shape}
use Rattle.predicate.specs.declared.Shape.TheVariants as shape
use Rattle.predicate.proofs.Trees.{sound_below, tree_step, root_at}
use Rattle.cnf.specs.Clause.{literal, join, clauses, bit, literal_number}
use Rattle.cnf.specs.Source.{clauses_at, signed, source_of, source_to, source_at}
use Rattle.cnf.specs.declared.SignedRow.{SignedRow}
use Rattle.cnf.specs.declared.Source.{Source}
use Rattle.cnf.specs.declared.Source.TheVariants.{Atom, Joined}

-- ---- how deep NOTs are followed does not matter

same_source : (l : List ℕ) (f k : ℕ) (r : SignedRow) (s : Shape) → Falls (arity_of s) r.row
    → ((q : SignedRow) → q.row < r.row → source_to l f q ≡ source_to l k q) → source_of s r (source_to l f) ≡ source_of s r (source_to l k)
unfolding source_of arity_of
same_source l f k r shape.Leaf h e = refl
same_source l f k r (shape.One x) h e = refl
same_source l f k r (shape.Two x y) h e = refl
same_source l f k r (shape.Both x y) h e = refl
same_source l f k r (shape.Either x y) h e = refl
same_source l f k r (shape.Not x) h e = e (signed (not r.negated) x) h

same_deep : (l : List ℕ) (f k : ℕ) (r : SignedRow) → Sound l r.row → r.row < f → r.row < k → source_to l f r ≡ source_to l k r
unfolding source_to
same_deep l zero k r s hf hk = absurd (omega arith)
same_deep l (suc f) zero r s hf hk = absurd (omega arith)
same_deep l (suc f) (suc k) r s hf hk =
    same_source l f k r (shape_at l r.row) (s.falls r.row (omega arith))
    (λ q b. same_deep l f k q (sound_below q.row s (omega arith)) (omega arith) (omega arith))

pub source_step : (l : List ℕ) (r : SignedRow) → Sound l r.row → source_at l r ≡ source_of (shape_at l r.row) r (source_at l)
unfolding source_at source_to source_of arity_of
source_step l r s = go (shape_at l r.row) (s.falls r.row (omega arith))
  where
    go : (k : Shape) → Falls (arity_of k) r.row → source_of k r (source_to l r.row) ≡ source_of k r (λ q. source_to l (suc q.row) q)
    go shape.Leaf h = refl
    go (shape.One x) h = refl
    go (shape.Two x y) h = refl
    go (shape.Both x y) h = refl
    go (shape.Either x y) h = refl
    go (shape.Not x) h = same_deep l r.row (suc x) (signed (not r.negated) x) (sound_below x s (omega arith)) h (omega arith)

-- ---- what a source says

-- an atom's one literal, or the lists of two rows joined, both read alike
abbrev pub SourceIs : List ℕ → SignedRow → Source → Type 0
SourceIs l r (Atom q) = (q.row ≤ r.row) × (clauses_at l r ≡ (literal q.negated (tree_at l q.row) ∷ []) ∷ [])
SourceIs l r (Joined x y o) = (x.row < r.row) × (y.row < r.row) × (clauses_at l r ≡ join o (clauses_at l x) (clauses_at l y)) × (x.negated ≡ y.negated)

-- a row has the clauses of row x before it
lift : (l : List ℕ) (r x : SignedRow) (v : Source) → x.row < r.row → clauses_at l r ≡ clauses_at l x → SourceIs l x v → SourceIs l r v
lift l r x (Atom q) b e p = (omega (arith, p.0), e ∙ p.1)
lift l r x (Joined a c o) b e p = (omega (arith, p.0), omega (arith, p.1), e ∙ p.2, p.3)

-- an atom's one literal
atom_clauses : (l : List ℕ) (r : SignedRow) (t : Tree) → tree_at l r.row ≡ t → clauses r.negated t ≡ (literal r.negated t ∷ []) ∷ []
    → clauses_at l r ≡ (literal r.negated (tree_at l r.row) ∷ []) ∷ []
atom_clauses l r t e is = ap (clauses r.negated) e ∙ is ∙ ap (λ (a : Tree). (literal r.negated a ∷ []) ∷ []) (sym e)

shape_is : (l : List ℕ) (r : SignedRow) (s : Shape) (w : Row) → Falls (arity_of s) r.row
    → tree_at l r.row ≡ node_of s r.row w (map (tree_at l) (operands_of (arity_of s)))
    → (follow : SignedRow → Source) → ((x : SignedRow) → x.row < r.row → SourceIs l x (follow x)) → SourceIs l r (source_of s r follow)
unfolding source_of clauses node_of arity_of operands_of
shape_is l r shape.Leaf w b t follow i = (omega arith, atom_clauses l r _ t refl)
shape_is l r (shape.One x) w b t follow i = (omega arith, atom_clauses l r _ t refl)
shape_is l r (shape.Two x y) w b t follow i = (omega arith, atom_clauses l r _ t refl)
shape_is l r (shape.Both x y) w b t follow i = (b.0, b.1, ap (clauses r.negated) t, refl)
shape_is l r (shape.Either x y) w b t follow i = (b.0, b.1, ap (clauses r.negated) t, refl)
shape_is l r (shape.Not x) w b t follow i =
    let q = signed (not r.negated) x in
    lift l r q (follow q) b (ap (clauses r.negated) t) (i q b)

source_to_lem : (l : List ℕ) (f : ℕ) (r : SignedRow) → Sound l r.row → r.row < f → SourceIs l r (source_to l f r)
unfolding source_to
source_to_lem l zero r h p = absurd (omega arith)
source_to_lem l (suc f) r h p =
    shape_is l r (shape_at l r.row) (row_at l r.row) (h.falls r.row (omega arith)) (tree_step h) (source_to l f)
    (λ x b. source_to_lem l f x (sound_below x.row h (omega arith)) (omega arith))

pub source_is : {l : List ℕ} (r : SignedRow) {v w : Source} → Sound l r.row → v ≡ source_at l r → v ≡ w → SourceIs l r w
unfolding source_at
source_is {l} r h e f = subst (SourceIs l r) (sym e ∙ f) (source_to_lem l (suc r.row) r h (omega arith))

module _ {l : List ℕ} (r : SignedRow) {v : Source} (h : Sound l r.row) (e : v ≡ source_at l r) {x y : SignedRow} {o : Bool} (f : v ≡ Joined x y o) where
  pub left_falls : x.row < r.row
  left_falls = (source_is r h e f).0

  pub right_falls : y.row < r.row
  right_falls = (source_is r h e f).1

-- the number of the literal of the atom at row q
pub literal_number_at : (l : List ℕ) (q : ℕ) (h : Bool) → literal_number (literal h (tree_at l q)) ≡ 2 * q + bit h
unfolding literal_number
literal_number_at l q h = ap (λ (r : ℕ). 2 * r + bit h) (root_at l q)
