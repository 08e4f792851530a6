-- What a row tests, by its shape and kind: `test_of` and `leaf_of` of the tree at a row.
-- Assumes nothing.
use mathlib.Core.Path.{◌≡◌, refl, sym, ap, subst, ◌∙◌}
use Prim.Native.Nat.{ℕ}
use mathlib.Core.List.{List, map}
use borrow.Author.Tests.{eq-eqb, ne_eqb}
use Rattle.std.specs.Prelude.{Option, Some, None}
use Rattle.std.specs.Option.{option_and_then}
use Rattle.rows.specs.Layout.{row_at}
use Rattle.rows.specs.Label.{Label, leaf_label}
use Rattle.rows.specs.declared.Row.{Row}
use Rattle.predicate.specs.Kind as kind
use Rattle.predicate.specs.Row.{shape_at, arity_of, operands_of}
use Rattle.predicate.specs.Tree.{node_of, tree_at, Sound}
use Rattle.predicate.specs.declared.Shape.{Shape}
use Rattle.predicate.specs.declared.Shape.TheVariants as shape
use Rattle.predicate.proofs.Shapes.{node_at, sound_operand, sound_left, sound_right}
use Rattle.columns.specs.Lookup.{leaf_of, equal_test, is_test, test_of}
use Rattle.columns.specs.declared.test.Test.{Test}

module _ {l : List ℕ} {r : ℕ} (h : Sound l r) {s : Shape} (e : s ≡ shape_at l r) where
  pub leaf_on : {w : Row} → s ≡ shape.Leaf → w ≡ row_at l r → Some (leaf_label w) ≡ leaf_of (tree_at l r)
  unfolding leaf_of node_of
  leaf_on f g = ap (λ (v : Row). Some (leaf_label v)) g ∙ sym (ap leaf_of (node_at h e f))

  pub leaf_off : (s ≡ shape.Leaf → ⊥) → None ≡ leaf_of (tree_at l r)
  unfolding leaf_of node_of
  leaf_off other = sym (ap leaf_of (node_at h e refl) ∙ by s other)
    where
      by : (k : Shape) → (k ≡ shape.Leaf → ⊥) → leaf_of (node_of k r (row_at l r) (map (tree_at l) (operands_of (arity_of k)))) ≡ None
      by shape.Leaf f = absurd (f refl)
      by (shape.One x) f = refl
      by (shape.Two x y) f = refl
      by (shape.Both x y) f = refl
      by (shape.Either x y) f = refl
      by (shape.Not x) f = refl

  -- a row tests what its node tests
  pub test_node : {k : Shape} {t : Option Test} → s ≡ k → test_of (node_of k r (row_at l r) (map (tree_at l) (operands_of (arity_of k)))) ≡ t →
      t ≡ test_of (tree_at l r)
  test_node f g = sym (ap test_of (node_at h e f) ∙ g)

  module _ {w : Row} (g : w ≡ row_at l r) where
    module _ {x : ℕ} (f : s ≡ shape.One x) where
      pub test_is : {m : Option Label} → w.kind ≡ kind.is → m ≡ leaf_of (tree_at l x) → option_and_then (λ u. is_test u w.y) m ≡ test_of (tree_at l r)
      unfolding test_of node_of arity_of operands_of
      test_is {m} i j =
          subst (λ (v : Row). v.kind ≡ kind.is → option_and_then (λ u. is_test u v.y) m ≡ test_of (tree_at l r)) (sym g)
          (λ k. rw j (test_node f (rw (eq-eqb (row_at l r).kind kind.is k, test_of)))) i

      pub test_unary : (w.kind ≡ kind.is → ⊥) → None ≡ test_of (tree_at l r)
      unfolding test_of node_of arity_of operands_of
      test_unary i = test_node f (rw (ne_eqb (row_at l r).kind kind.is (rw g at i), test_of))

    module _ {x y : ℕ} (f : s ≡ shape.Two x y) where
      pub test_equal : {m k : Option Label} → w.kind ≡ kind.equal → m ≡ leaf_of (tree_at l x) → k ≡ leaf_of (tree_at l y) →
          option_and_then (λ u. option_and_then (equal_test u) k) m ≡ test_of (tree_at l r)
      unfolding test_of node_of arity_of operands_of
      test_equal i j k = rw (j, k) (test_node f (rw (eq-eqb (row_at l r).kind kind.equal (rw g at i), test_of)))

      pub test_binary : (w.kind ≡ kind.equal → ⊥) → None ≡ test_of (tree_at l r)
      unfolding test_of node_of arity_of operands_of
      test_binary i = test_node f (rw (ne_eqb (row_at l r).kind kind.equal (rw g at i), test_of))

  pub test_other : ((x : ℕ) → s ≡ shape.One x → ⊥) → ((x y : ℕ) → s ≡ shape.Two x y → ⊥) → None ≡ test_of (tree_at l r)
  unfolding test_of node_of
  test_other one two = test_node refl (by s one two)
    where
      by : (k : Shape) → ((x : ℕ) → k ≡ shape.One x → ⊥) → ((x y : ℕ) → k ≡ shape.Two x y → ⊥) →
          test_of (node_of k r (row_at l r) (map (tree_at l) (operands_of (arity_of k)))) ≡ None
      by shape.Leaf f g = refl
      by (shape.One x) f g = absurd (f x refl)
      by (shape.Two x y) f g = absurd (g x y refl)
      by (shape.Both x y) f g = refl
      by (shape.Either x y) f g = refl
      by (shape.Not x) f g = refl

pub ruleset leaves = (leaf_on, leaf_off)

pub ruleset by_shape = (test_unary, test_binary, test_other, sound_operand, sound_left, sound_right)
