-- Rows read in order. The stack of the subtrees before row r holds the trees at their roots, each directly before the next (`Tiles`); and a row
-- is read, and the stack has its tree, exactly if the check's own test takes it (`step_is`).
-- Assumes nothing.
use Prim.Native.Nat.{ℕ, ◌+◌, ◌<◌, ◌≤◌}
use mathlib.Core.Path.{◌≡◌, refl, sym, ap, ap₂, ◌∙◌, subst}
use mathlib.Core.Bool.{Bool, true, false, ◌&&◌}
use mathlib.Core.List.{List, [], ◌∷◌, map}
use native.Mathlib.Decide.{ℕ_discrete}
use native.Mathlib.Omega.{arith}
use lib.Dec.{eqb}
use borrow.Author.Tests.{eqb-true}
use Rattle.rows.specs.Layout.{row_at}
use Rattle.rows.proofs.StackedOperands.{took, missed}
use Rattle.rows.specs.PostOrder.{Subtree, at, off, found, before, directly_before, bad, on, push}
use Rattle.predicate.specs.Row.{class_of, allowed_of, shape_at, arity_of, operands_of}
use Rattle.predicate.specs.Tree.{Tree, node_of, tree_at, first_at, Falls, Sound}
use Rattle.predicate.specs.Read.{step_at}
use Rattle.predicate.specs.Check.{SoundBefore, operands_precede, good_at}
use Rattle.predicate.specs.declared.Arity.{Arity}
use Rattle.predicate.specs.declared.Arity.TheVariants as arity
use Rattle.predicate.proofs.Trees.{tree_step, first_by, first_at_lem, first_le}

-- the stack before row `next`: each subtree is the one at its root, and the roots stand directly before the next subtree or row
abbrev pub Tiles : List ℕ → ℕ → List (Subtree Tree) → Type 0
Tiles l next [] = next ≡ 0
Tiles l next (w ∷ left) = (q : ℕ) × (q + 1 ≡ next) × (w.tree ≡ tree_at l q) × (w.first ≡ first_at l q) × Tiles l w.first left

-- a row before row r
pub sound_of : {l : List ℕ} {r q : ℕ} → SoundBefore l r → q < r → Sound l q
sound_of s h = record { there = let t = s.there in omega arith; falls = λ p k. s.falls p (omega arith) }

-- what the operands a of row r are, where they stand (true), or not (false)
abbrev Stood : List ℕ → ℕ → Arity → List (Subtree Tree) → Bool → Type 0
Stood l r a stack true =
    (left : List (Subtree Tree))
    × (directly_before (map at (operands_of a)) r stack ≡ found (first_by l r a) (map (tree_at l) (operands_of a)) left)
    × Falls a r
    × Tiles l (first_by l r a) left
Stood l r a stack false = directly_before (map at (operands_of a)) r stack ≡ off

one_precedes : (l : List ℕ) (r x : ℕ) (stack : List (Subtree Tree)) (b : Bool) → eqb (x + 1) r ≡ b → Tiles l r stack → Stood l r (arity.One x) stack b
unfolding directly_before operands_of before
one_precedes l r x [] true e t = absurd (omega (arith, eqb-true (x + 1) r e))
one_precedes l r x [] false e t = refl
one_precedes l r x (w ∷ left) true e t =
    let n : x + 1 ≡ r = eqb-true (x + 1) r e in
    let q : t.0 ≡ x = omega (arith, t.1) in (
      left,
      took x r [] w left e ∙ ap₂ (λ (f : ℕ) (u : Tree). found f (u ∷ []) left) (t.3 ∙ ap (first_at l) q) (t.2 ∙ ap (tree_at l) q),
      omega arith,
      subst (λ (f : ℕ). Tiles l f left) (t.3 ∙ ap (first_at l) q) t.4,
    )
one_precedes l r x (w ∷ left) false e t = missed x r [] w left e

two_precede : (l : List ℕ) (r x y : ℕ) (stack : List (Subtree Tree)) (b c : Bool) → eqb (y + 1) r ≡ b → eqb (x + 1) (first_at l y) ≡ c
    → SoundBefore l r → Tiles l r stack
    → Stood l r (arity.Two x y) stack (b && c)
unfolding directly_before operands_of before
two_precede l r x y [] true true e d s t = absurd (omega (arith, eqb-true (y + 1) r e))
two_precede l r x y [] true false e d s t = refl
two_precede l r x y [] false c e d s t = refl
two_precede l r x y (w ∷ []) true true e d s t =
    let q : t.0 ≡ y = omega (arith, t.1, eqb-true (y + 1) r e) in
    let z : first_at l y ≡ 0 = sym (t.3 ∙ ap (first_at l) q) ∙ t.4 in
    absurd (omega (arith, eqb-true (x + 1) (first_at l y) d))
two_precede l r x y (w ∷ []) true false e d s t = ap (before (at x)) (took y r [] w [] e)
two_precede l r x y (w ∷ []) false c e d s t = ap (before (at x)) (missed y r [] w [] e)
two_precede l r x y (w ∷ v ∷ left) true true e d s t =
    let n : y + 1 ≡ r = eqb-true (y + 1) r e in
    let q : t.0 ≡ y = omega (arith, t.1) in
    let f : w.first ≡ first_at l y = t.3 ∙ ap (first_at l) q in
    let m : x + 1 ≡ first_at l y = eqb-true (x + 1) (first_at l y) d in
    let p : t.4.0 ≡ x = omega (arith, t.4.1) in
    let g : eqb (x + 1) w.first ≡ true = ap (eqb (x + 1)) f ∙ d in
    let le : first_at l y ≤ y = first_le (sound_of s (omega arith)) in (
      left,
      ap (before (at x)) (took y r [] w (v ∷ left) e)
          ∙ took x w.first (w.tree ∷ []) v left g
          ∙ ap₂ (λ (i : ℕ) (ts : List Tree). found i ts left) (t.4.3 ∙ ap (first_at l) p)
          (ap₂ (λ (a : Tree) (b : Tree). a ∷ b ∷ []) (t.4.2 ∙ ap (tree_at l) p) (t.2 ∙ ap (tree_at l) q)),
      (omega arith, omega arith),
      subst (λ (i : ℕ). Tiles l i left) (t.4.3 ∙ ap (first_at l) p) t.4.4,
    )
two_precede l r x y (w ∷ v ∷ left) true false e d s t =
    let q : t.0 ≡ y = omega (arith, t.1, eqb-true (y + 1) r e) in
    let f : w.first ≡ first_at l y = t.3 ∙ ap (first_at l) q in
    ap (before (at x)) (took y r [] w (v ∷ left) e) ∙ missed x w.first (w.tree ∷ []) v left (ap (eqb (x + 1)) f ∙ d)
two_precede l r x y (w ∷ v ∷ left) false c e d s t = ap (before (at x)) (missed y r [] w (v ∷ left) e)

stand : (l : List ℕ) (r : ℕ) (a : Arity) (stack : List (Subtree Tree)) → SoundBefore l r → Tiles l r stack → Stood l r a stack (operands_precede l r a)
unfolding operands_precede directly_before operands_of
stand l r arity.Nil stack s t = (stack, refl, tt, t)
stand l r (arity.One x) stack s t = one_precedes l r x stack (eqb (x + 1) r) refl t
stand l r (arity.Two x y) stack s t = two_precede l r x y stack (eqb (y + 1) r) (eqb (x + 1) (first_at l y)) refl refl s t

-- ---- a row's step

-- the stack after row r, where the row is good (true), or that the row is bad (false)
abbrev Stepped : List ℕ → List ℕ → ℕ → List (Subtree Tree) → Bool → Type 0
Stepped text l r stack true = (next : List (Subtree Tree)) × (step_at text l r stack ≡ on next) × Sound l r × Tiles l (r + 1) next
Stepped text l r stack false = step_at text l r stack ≡ bad

module _ (text l : List ℕ) (r : ℕ) (stack : List (Subtree Tree)) (s : SoundBefore l r) where
  -- the node that row r makes
  make : List Tree → Tree
  make = node_of (shape_at l r) r (row_at l r)

  below_sound : Falls (arity_of (shape_at l r)) r → Sound l r
  below_sound f = record { there = s.there; falls = λ q h. go q h (ℕ_discrete q r) }
    where
      go : (q : ℕ) → q ≤ r → Dec (q ≡ r) → Falls (arity_of (shape_at l q)) q
      go q h (yes e) = subst (λ (i : ℕ). Falls (arity_of (shape_at l i)) i) (sym e) f
      go q h (no n) = s.falls q (omega arith)

  stepped : (b c : Bool) → allowed_of text (class_of (row_at l r).kind) (row_at l r).x (row_at l r).y ≡ b → operands_precede l r (arity_of (shape_at l r)) ≡ c
      → Tiles l r stack → Stepped text l r stack (b && c)
  unfolding step_at push make
  stepped b c e d t = go b c e (subst (Stood l r (arity_of (shape_at l r)) stack) d (stand l r (arity_of (shape_at l r)) stack s t))
    where
      tested : (q : Bool) → allowed_of text (class_of (row_at l r).kind) (row_at l r).x (row_at l r).y ≡ q
          → step_at text l r stack ≡ elim q [ true ↦ push make (directly_before (map at (operands_of (arity_of (shape_at l r)))) r stack) | false ↦ bad ]
      tested q f = ap (λ (p : Bool). elim p [ true ↦ push make (directly_before (map at (operands_of (arity_of (shape_at l r)))) r stack) | false ↦ bad ]) f

      go : (p q : Bool) → allowed_of text (class_of (row_at l r).kind) (row_at l r).x (row_at l r).y ≡ p → Stood l r (arity_of (shape_at l r)) stack q
          → Stepped text l r stack (p && q)
      go true true f w =
          let h = below_sound w.2 in (
            record { first = first_by l r (arity_of (shape_at l r)); tree = make (map (tree_at l) (operands_of (arity_of (shape_at l r)))) } ∷ w.0,
            tested true f ∙ ap (push make) w.1,
            h,
            (r, refl, sym (tree_step h), sym (first_at_lem h refl), w.3),
          )
      go true false f w = tested true f ∙ ap (push make) w
      go false q f w = tested false f

  pub step_is : {b : Bool} → good_at text l r ≡ b → Tiles l r stack → Stepped text l r stack b
  unfolding good_at
  step_is e t =
      subst (Stepped text l r stack) e
      (stepped (allowed_of text (class_of (row_at l r).kind) (row_at l r).x (row_at l r).y) (operands_precede l r (arity_of (shape_at l r))) refl refl t)
