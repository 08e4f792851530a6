-- A row whose shape was found: its tree is the node of that shape (`node_at`), its operands stand before it (`falls_at`, and by shape `falls_both`,
-- `falls_either` and `falls_not`), and where it is an atom, their trees are sound as well (`sound_operand`, `sound_left`, `sound_right`).
-- Assumes nothing.
use mathlib.Core.Path.{◌≡◌, sym, ap, subst, ◌∙◌}
use Prim.Native.Nat.{ℕ, ◌<◌}
use mathlib.Core.List.{List, map}
use native.Mathlib.Omega.{arith}
use Rattle.rows.specs.Layout.{row_at}
use Rattle.predicate.specs.Row.{shape_at, arity_of, operands_of}
use Rattle.predicate.specs.Tree.{node_of, tree_at, Falls, Sound}
use Rattle.predicate.specs.declared.Shape.{Shape}
use Rattle.predicate.specs.declared.Shape.TheVariants as shape
use Rattle.predicate.proofs.Trees.{sound_below, tree_step}

module _ {l : List ℕ} {r : ℕ} (h : Sound l r) {s k : Shape} (e : s ≡ shape_at l r) (f : s ≡ k) where
  pub node_at : tree_at l r ≡ node_of k r (row_at l r) (map (tree_at l) (operands_of (arity_of k)))
  node_at = tree_step h ∙ ap (λ (q : Shape). node_of q r (row_at l r) (map (tree_at l) (operands_of (arity_of q)))) (sym e ∙ f)

  pub falls_at : Falls (arity_of k) r
  falls_at = subst (λ (q : Shape). Falls (arity_of q) r) (sym e ∙ f) (h.falls r (omega arith))

module _ {l : List ℕ} {r : ℕ} (h : Sound l r) {s : Shape} (e : s ≡ shape_at l r) where
  pub falls_both : {x y : ℕ} → s ≡ shape.Both x y → (x < r) × (y < r)
  unfolding arity_of
  falls_both f = falls_at h e f

  pub falls_either : {x y : ℕ} → s ≡ shape.Either x y → (x < r) × (y < r)
  unfolding arity_of
  falls_either f = falls_at h e f

  pub falls_not : {x : ℕ} → s ≡ shape.Not x → x < r
  unfolding arity_of
  falls_not f = falls_at h e f

  pub sound_operand : {x : ℕ} → s ≡ shape.One x → Sound l x
  unfolding arity_of
  sound_operand {x} f = let lt = falls_at h e f in sound_below x h (omega arith)

  pub sound_left : {x y : ℕ} → s ≡ shape.Two x y → Sound l x
  unfolding arity_of
  sound_left {x} f = let lt = falls_at h e f in sound_below x h (omega (arith, lt.0))

  pub sound_right : {x y : ℕ} → s ≡ shape.Two x y → Sound l y
  unfolding arity_of
  sound_right {x} {y} f = let lt = falls_at h e f in sound_below y h (omega (arith, lt.1))
