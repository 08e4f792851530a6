-- The tree at a row. It is made of the trees at the row's operands (`tree_step`), has the row for its root (`root_at`), and begins where its first
-- operand's tree does (`first_at_lem`), at or before its row (`first_le`).
-- Assumes nothing.
use Prim.Native.Nat.{ℕ, zero, suc, ◌<◌, ◌≤◌}
use mathlib.Core.Path.{◌≡◌, refl, sym, ap, ap₂, ◌∙◌, subst}
use mathlib.Core.List.{List, [], ◌∷◌, map}
use mathlib.Core.Logic.{◌⊎◌, inl, inr}
use native.Mathlib.Omega.{arith}
use Rattle.rows.specs.Layout.{row_at}
use Rattle.rows.specs.declared.Row.{Row}
use Rattle.predicate.specs.Row.{shape_at, arity_of, operands_of}
use Rattle.predicate.specs.Tree.{Tree, root_of, first_of, node_of, tree_to, tree_at, first_at, Falls, Sound}
use Rattle.predicate.specs.declared.Shape.{Shape}
use Rattle.predicate.specs.declared.Shape.TheVariants as shape
use Rattle.predicate.specs.declared.Arity.{Arity}
use Rattle.predicate.specs.declared.Arity.TheVariants as arity

pub sound_below : {l : List ℕ} {r : ℕ} (q : ℕ) → Sound l r → q ≤ r → Sound l q
sound_below q s le = record { there = let t = s.there in omega arith; falls = λ p h. s.falls p (omega arith) }

-- ---- how deep the tree is followed does not matter

same_trees : (a : Arity) (r : ℕ) {F G : ℕ → Tree} → Falls a r → ((q : ℕ) → q < r → F q ≡ G q) → map F (operands_of a) ≡ map G (operands_of a)
unfolding operands_of
same_trees arity.Nil r h e = refl
same_trees (arity.One x) r h e = ap (λ (t : Tree). t ∷ []) (e x h)
same_trees (arity.Two x y) r h e = ap₂ (λ (t : Tree) (u : Tree). t ∷ u ∷ []) (e x h.0) (e y h.1)

same_deep : (l : List ℕ) (f g r : ℕ) → ((q : ℕ) → q ≤ r → Falls (arity_of (shape_at l q)) q) → r < f → r < g → tree_to l f r ≡ tree_to l g r
unfolding tree_to
same_deep l zero g r s hf hg = absurd (omega arith)
same_deep l (suc f) zero r s hf hg = absurd (omega arith)
same_deep l (suc f) (suc g) r s hf hg =
    ap (node_of (shape_at l r) r (row_at l r))
    (same_trees (arity_of (shape_at l r)) r (s r (omega arith)) (λ q h. same_deep l f g q (λ p k. s p (omega arith)) (omega arith) (omega arith)))

pub tree_step : {l : List ℕ} {r : ℕ} → Sound l r
    → tree_at l r ≡ node_of (shape_at l r) r (row_at l r) (map (tree_at l) (operands_of (arity_of (shape_at l r))))
unfolding tree_at tree_to
tree_step {l} {r} s =
    ap (node_of (shape_at l r) r (row_at l r))
    (same_trees (arity_of (shape_at l r)) r (s.falls r (omega arith)) (λ q h. same_deep l r (suc q) q (λ p k. s.falls p (omega arith)) h (omega arith)))

-- ---- roots

root_node : (s : Shape) (r : ℕ) (w : Row) (ts : List Tree) → root_of (node_of s r w ts) ≡ r
unfolding root_of node_of
root_node shape.Leaf r w ts = refl
root_node (shape.One x) r w ts = refl
root_node (shape.Two x y) r w ts = refl
root_node (shape.Both x y) r w ts = refl
root_node (shape.Either x y) r w ts = refl
root_node (shape.Not x) r w ts = refl

pub root_at : (l : List ℕ) (r : ℕ) → root_of (tree_at l r) ≡ r
unfolding tree_at tree_to
root_at l r = root_node (shape_at l r) r (row_at l r) (map (tree_to l r) (operands_of (arity_of (shape_at l r))))

-- ---- first rows

-- where the tree of a row with these operands begins
abbrev pub first_by : List ℕ → ℕ → Arity → ℕ
first_by l r arity.Nil = r
first_by l r (arity.One x) = first_at l x
first_by l r (arity.Two x y) = first_at l x

first_node : (l : List ℕ) (s : Shape) (r : ℕ) (w : Row) → first_of (node_of s r w (map (tree_at l) (operands_of (arity_of s)))) ≡ first_by l r (arity_of s)
unfolding first_of node_of arity_of operands_of first_at
first_node l shape.Leaf r w = refl
first_node l (shape.One x) r w = refl
first_node l (shape.Two x y) r w = refl
first_node l (shape.Both x y) r w = refl
first_node l (shape.Either x y) r w = refl
first_node l (shape.Not x) r w = refl

pub first_at_lem : {l : List ℕ} {r : ℕ} {a : Arity} → Sound l r → a ≡ arity_of (shape_at l r) → first_at l r ≡ first_by l r a
unfolding first_at
first_at_lem {l} {r} s e = ap first_of (tree_step s) ∙ first_node l (shape_at l r) r (row_at l r) ∙ ap (first_by l r) (sym e)

first_up : (l : List ℕ) (r : ℕ) (a : Arity) → Falls a r → ((q : ℕ) → q < r → first_at l q ≤ q) → first_by l r a ≤ r
first_up l r arity.Nil h ih = omega arith
first_up l r (arity.One x) h ih = omega (arith, ih x h)
first_up l r (arity.Two x y) h ih = omega (arith, ih x h.0)

first_under : (l : List ℕ) (n r : ℕ) → r < n → Sound l r → first_at l r ≤ r
first_under l zero r h s = absurd (omega arith)
first_under l (suc n) r h s =
    subst (λ (k : ℕ). k ≤ r) (sym (first_at_lem s refl))
    (first_up l r (arity_of (shape_at l r)) (s.falls r (omega arith)) (λ q b. first_under l n q (omega arith) (sound_below q s (omega arith))))

pub first_le : {l : List ℕ} {r : ℕ} → Sound l r → first_at l r ≤ r
first_le {l} {r} s = first_under l (suc r) r (omega arith) s

-- ---- the loop of `first_of`: the operands that a row was found to have

module _ {l : List ℕ} {q : ℕ} {s : Shape} {a : Arity} (h : Sound l q) (p : s ≡ shape_at l q) (o : a ≡ arity_of s) where
  pub first_named : {b : Arity} → a ≡ b → first_at l q ≡ first_by l q b
  first_named t = first_at_lem h (sym t ∙ o ∙ ap arity_of p)

  falls_named : {b : Arity} → a ≡ b → Falls b q
  falls_named t = subst (λ (i : Arity). Falls i q) (sym (ap arity_of p) ∙ sym o ∙ t) (h.falls q (omega arith))

  -- its first operand's tree begins where its own does
  pub first_turn : {x : ℕ} (r : ℕ) → (a ≡ arity.One x) ⊎ ((y : ℕ) × (a ≡ arity.Two x y)) → first_at l q ≡ first_at l r
      → Sound l x × (first_at l x ≡ first_at l r)
  first_turn {x} r (inl t) e = let lt = falls_named t in (sound_below x h (omega (arith, lt)), sym (first_named t) ∙ e)
  first_turn {x} r (inr t) e = let lt = falls_named t.1 in (sound_below x h (omega (arith, lt.0)), sym (first_named t.1) ∙ e)
