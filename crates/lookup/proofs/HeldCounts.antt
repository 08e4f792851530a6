-- Held counts: their sums and products, the counts of a row from those of its operands, and the table of them as it is filled.
-- Assumes nothing.
use mathlib.Core.Path.{◌≡◌, refl, sym, ap, ap₂, subst, ◌∙◌}
use Prim.Native.Nat.{ℕ, ◌+◌, ◌*◌, ◌≤◌, ◌<◌, min}
use mathlib.Core.Bool.{Bool, true, false}
use mathlib.Core.List.{List, map}
use mathlib.Core.Logic.{◌⊎◌, inl, inr}
use native.Mathlib.Nat.{le-mul_of_pos_right, add-zero}
use native.Mathlib.Omega.{arith}
use borrow.Author.Tests.{leb-true, leb-false}
use lib.Dec.{leb}
use lib.ListN.{length, get_or, set}
use lib.Seq.{get_or-set_same, get_or-set_other}
use Rattle.limits.specs.Limits.{clauses_held}
use Rattle.rows.specs.Layout.{row_at}
use Rattle.predicate.specs.Row.{shape_at, arity_of, operands_of}
use Rattle.predicate.specs.Tree.{Tree, node_of, tree_at, Sound}
use Rattle.predicate.specs.declared.Shape.{Shape}
use Rattle.predicate.specs.declared.Shape.TheVariants as shape
use Rattle.predicate.proofs.Trees.{sound_below}
use Rattle.predicate.proofs.Shapes.{node_at, falls_both, falls_either, falls_not}
use Rattle.cnf.specs.Clause.{clauses, bit}
use Rattle.cnf.specs.Source.{signed}
use Rattle.cnf.proofs.Sizes.{length_join, clauses_some}
use Rattle.lookup.specs.ByNumber.{counts, held_count, count_when, clause_counts, both_counts, not_counts, CountsBelow}
use Rattle.lookup.specs.declared.counts.ClauseCounts.{ClauseCounts}

-- ---- held sums and products

held_sum : (a b : ℕ) → min (min a clauses_held + min b clauses_held) clauses_held ≡ min (a + b) clauses_held
held_sum a b = omega arith

held_product : (a b : ℕ) → 0 < a → 0 < b → min (min a clauses_held * min b clauses_held) clauses_held ≡ min (a * b) clauses_held
held_product a b ha hb = by (leb a clauses_held) (leb b clauses_held) refl refl
  where
    by : (p q : Bool) → leb a clauses_held ≡ p → leb b clauses_held ≡ q → min (min a clauses_held * min b clauses_held) clauses_held ≡ min (a * b) clauses_held
    by true true e f =
        let x : min a clauses_held ≡ a = omega (arith, leb-true a clauses_held e) in
        let y : min b clauses_held ≡ b = omega (arith, leb-true b clauses_held f) in
        rw (x, y)
    by false q e f =
        let x : min a clauses_held ≡ clauses_held = omega (arith, leb-false a clauses_held e) in
        let y : 0 < min b clauses_held = omega arith in
        rw x (omega (arith, leb-false a clauses_held e, le-mul_of_pos_right a hb, le-mul_of_pos_right clauses_held y))
    by true false e f =
        let y : min b clauses_held ≡ clauses_held = omega (arith, leb-false b clauses_held f) in
        let x : 0 < min a clauses_held = omega arith in
        rw y (omega (arith, leb-false b clauses_held f, le-mul_of_pos_right b ha, le-mul_of_pos_right clauses_held x))

-- ---- a table as plain numbers

-- of a table that has two places for each row, first the plain count and then the negated one: a row's count in a reading stands at the number of that literal
pub entries : (t : List ℕ) (r : ℕ) (g : Bool) →
    count_when (record { plain = get_or t (2 * r) 0; negated = get_or t (2 * r + 1) 0 }) g ≡ get_or t (2 * r + bit g) 0
unfolding count_when
entries t r false = ap (λ (i : ℕ). get_or t i 0) (sym (add-zero (2 * r)))
entries t r true = refl

-- ---- the counts of a row from those of its operands

module _ {l : List ℕ} {t : List ClauseCounts} {r : ℕ} (h : Sound l r) (done : CountsBelow l t r) {s : Shape} (e : s ≡ shape_at l r) where
  -- a row whose node has so many clauses in each reading has those counts
  count_node : (k : Shape) → s ≡ k → (g : Bool) (n : ℕ) →
      length (clauses g (node_of k r (row_at l r) (map (tree_at l) (operands_of (arity_of k))))) ≡ n → min n clauses_held ≡ held_count l (signed g r)
  unfolding held_count
  count_node k f g n m =
      sym (ap (λ (t : Tree). min (length (clauses g t)) clauses_held) (node_at h e f) ∙ ap (λ (i : ℕ). min i clauses_held) m)

  atom_counts : (k : Shape) → s ≡ k → ((g : Bool) → length (clauses g (node_of k r (row_at l r) (map (tree_at l) (operands_of (arity_of k))))) ≡ 1)
      → counts 1 1 ≡ clause_counts l r
  unfolding clause_counts
  atom_counts k f one = ap₂ counts (count_node k f false 1 (one false)) (count_node k f true 1 (one true))

  pub counts_of_atom : (s ≡ shape.Leaf) ⊎ (((x : ℕ) × (s ≡ shape.One x)) ⊎ ((x : ℕ) × (y : ℕ) × (s ≡ shape.Two x y))) → counts 1 1 ≡ clause_counts l r
  unfolding clauses node_of
  counts_of_atom (inl f) = atom_counts shape.Leaf f (λ g. refl)
  counts_of_atom (inr (inl (x, f))) = atom_counts (shape.One x) f (λ g. refl)
  counts_of_atom (inr (inr (x, y, f))) = atom_counts (shape.Two x y) f (λ g. refl)

  pub counts_of_not : {x : ℕ} → s ≡ shape.Not x → not_counts (get_or t x (counts 0 0)) ≡ clause_counts l r
  unfolding clauses node_of arity_of operands_of held_count clause_counts
  counts_of_not {x} f =
      ap not_counts (done.each x (falls_not h e f))
      ∙ ap₂ counts (count_node (shape.Not x) f false _ refl) (count_node (shape.Not x) f true _ refl)

  module _ (x y : ℕ) where
    -- two operands' lists, one after the other or each clause with each
    append_count : (g : Bool) → min (held_count l (signed g x) + held_count l (signed g y)) clauses_held
        ≡ min (length (clauses g (tree_at l x)) + length (clauses g (tree_at l y))) clauses_held
    unfolding held_count
    append_count g = held_sum (length (clauses g (tree_at l x))) (length (clauses g (tree_at l y)))

    cross_count : (g : Bool) → min (held_count l (signed g x) * held_count l (signed g y)) clauses_held
        ≡ min (length (clauses g (tree_at l x)) * length (clauses g (tree_at l y))) clauses_held
    unfolding held_count
    cross_count g =
        held_product (length (clauses g (tree_at l x))) (length (clauses g (tree_at l y))) (clauses_some g (tree_at l x)) (clauses_some g (tree_at l y))

  module _ {x y : ℕ} where
    pub counts_of_both : s ≡ shape.Both x y → both_counts (get_or t x (counts 0 0)) (get_or t y (counts 0 0)) ≡ clause_counts l r
    unfolding clauses node_of arity_of operands_of clause_counts
    counts_of_both f =
        let below = falls_both h e f in
        let count = count_node (shape.Both x y) f in
        ap₂ both_counts (done.each x below.0) (done.each y below.1)
        ∙ ap₂ counts
        (append_count x y false ∙ count false _ (length_join false (clauses false (tree_at l x)) (clauses false (tree_at l y))))
        (cross_count x y true ∙ count true _ (length_join true (clauses true (tree_at l x)) (clauses true (tree_at l y))))

    pub counts_of_either : s ≡ shape.Either x y
        → not_counts (both_counts (not_counts (get_or t x (counts 0 0))) (not_counts (get_or t y (counts 0 0)))) ≡ clause_counts l r
    unfolding clauses node_of arity_of operands_of clause_counts
    counts_of_either f =
        let below = falls_either h e f in
        let count = count_node (shape.Either x y) f in
        ap₂ (λ (a : ClauseCounts) (b : ClauseCounts). not_counts (both_counts (not_counts a) (not_counts b))) (done.each x below.0) (done.each y below.1)
        ∙ ap₂ counts
        (cross_count x y false ∙ count false _ (length_join true (clauses false (tree_at l x)) (clauses false (tree_at l y))))
        (append_count x y true ∙ count true _ (length_join false (clauses true (tree_at l x)) (clauses true (tree_at l y))))

pub ruleset by_shape = (falls_both, falls_either, falls_not, counts_of_atom, counts_of_both, counts_of_either, counts_of_not)

-- ---- the table as it is filled

pub counts_below_none : (l : List ℕ) (t : List ClauseCounts) → CountsBelow l t 0
counts_below_none l t = record { each = λ q lt. absurd (omega arith) }

pub counts_below_fewer : {l : List ℕ} {t : List ClauseCounts} {r n : ℕ} → CountsBelow l t r → n ≤ r → CountsBelow l t n
counts_below_fewer done le = record { each = λ q lt. done.each q (omega arith) }

pub counts_below_more : {l : List ℕ} {t : List ClauseCounts} {r : ℕ} {c : ClauseCounts} → CountsBelow l t r → r < length t → c ≡ clause_counts l r →
    CountsBelow l (set t r c) (r + 1)
counts_below_more {l} {t} {r} {c} done room e = record { each = λ q lt. by q (leb (q + 1) r) refl lt }
  where
    by : (q : ℕ) (b : Bool) → leb (q + 1) r ≡ b → q < r + 1 → get_or (set t r c) q (counts 0 0) ≡ clause_counts l q
    by q true k lt =
        let below : q < r = omega (arith, leb-true (q + 1) r k) in
        get_or-set_other t r q c (counts 0 0) (λ i. omega arith) ∙ done.each q below
    by q false k lt =
        let same : r ≡ q = omega (arith, leb-false (q + 1) r k) in
        subst (λ (i : ℕ). get_or (set t r c) i (counts 0 0) ≡ clause_counts l i) same (get_or-set_same t r c (counts 0 0) room ∙ e)

pub ruleset filling = (counts_below_none, counts_below_more, sound_below)
