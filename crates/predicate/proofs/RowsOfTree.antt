-- Accepted rows are their tree's rows in post-order (`rows_of_tree`), so two trees never share rows (`same_rows`). The tree at a good row spells the part
-- of the table from its first row to that row (`spelled_under`), since each node spells what its row says (`node_rows`). The labels of AND, OR and NOT in
-- that tree have the kinds of AND, OR and NOT, and NOT's y is 0 (`connective_labels`).
-- Assumes nothing.
use Prim.Native.Nat.{ℕ, zero, suc, ◌+◌, ◌-◌, ◌<◌, ◌≤◌}
use mathlib.Core.Path.{◌≡◌, refl, sym, ap, ap₂, subst, ◌∙◌}
use mathlib.Core.Bool.{Bool, true, false}
use mathlib.Core.List.{List, [], ◌∷◌, ◌++◌, map}
use native.Mathlib.Omega.{arith}
use lib.Dec.{eqb}
use borrow.Author.Tests.{eqb-true}
use Rattle.std.proofs.Math.Bool.{or-false}
use Rattle.std.proofs.lemmas.Bool.{and_parts}
use Rattle.rows.specs.Layout.{row_count, numbers, row_at}
use Rattle.rows.specs.Label.{row_over_one, row_over_two, label_over_one, label_over_two}
use Rattle.rows.specs.declared.Row.{Row}
use Rattle.rows.proofs.Parts.{part_of, parts_join, part_none, row_part, part_all}
use Rattle.predicate.specs.Kind as kind
use Rattle.predicate.specs.Row.{is_one_of, classes, class_in, class_of, allowed_of, shape_of, shape_at, arity_of, operands_of}
use Rattle.predicate.specs.Tree.{Tree, leaf, unary, binary, both, either, negation, root_of, rows_of, node_of, tree_at, first_at, Falls, Sound}
use Rattle.predicate.specs.Read.{one, read_rows}
use Rattle.predicate.specs.Check.{operands_precede, good_at}
use Rattle.predicate.specs.declared.Class.{Class}
use Rattle.predicate.specs.declared.Class.TheVariants as class
use Rattle.predicate.specs.declared.Arity.{Arity}
use Rattle.predicate.specs.declared.Arity.TheVariants as arity
use Rattle.predicate.proofs.Trees.{sound_below, tree_step, root_at, first_by, first_at_lem, first_le}
use Rattle.predicate.proofs.Accepted.{Accepted, accepted}

-- ---- what a node spells

-- the operands' rows
abbrev tables_of : List ℕ → Arity → List ℕ
tables_of l arity.Nil = []
tables_of l (arity.One x) = rows_of (tree_at l x)
tables_of l (arity.Two x y) = rows_of (tree_at l x) ++ rows_of (tree_at l y)

module _ (l : List ℕ) (r : ℕ) (w : Row) where
  -- the row of a node over the trees at w's operands is w
  over_one_lem : numbers (row_over_one (label_over_one w) (root_of (tree_at l w.x))) ≡ numbers w
  over_one_lem = ap (λ (a : ℕ). numbers (row_over_one (label_over_one w) a)) (root_at l w.x)

  over_two_lem : numbers (row_over_two (label_over_two w) (root_of (tree_at l w.x)) (root_of (tree_at l w.y))) ≡ numbers w
  over_two_lem = ap₂ (λ (a : ℕ) (b : ℕ). numbers (row_over_two (label_over_two w) a b)) (root_at l w.x) (root_at l w.y)

  node_rows : (c : Class)
      → rows_of (node_of (shape_of c w) r w (map (tree_at l) (operands_of (arity_of (shape_of c w))))) ≡ tables_of l (arity_of (shape_of c w)) ++ numbers w
  unfolding rows_of node_of shape_of arity_of operands_of
  node_rows class.Unknown = refl
  node_rows class.Null = refl
  node_rows class.Boolean = refl
  node_rows class.Number = refl
  node_rows class.Text = refl
  node_rows class.Column = refl
  node_rows class.And = ap (λ (row : List ℕ). (rows_of (tree_at l w.x) ++ rows_of (tree_at l w.y)) ++ row) over_two_lem
  node_rows class.Or = ap (λ (row : List ℕ). (rows_of (tree_at l w.x) ++ rows_of (tree_at l w.y)) ++ row) over_two_lem
  node_rows class.Not = ap (λ (row : List ℕ). rows_of (tree_at l w.x) ++ row) over_one_lem
  node_rows class.Is = ap (λ (row : List ℕ). rows_of (tree_at l w.x) ++ row) over_one_lem
  node_rows class.Unary = ap (λ (row : List ℕ). rows_of (tree_at l w.x) ++ row) over_one_lem
  node_rows class.Binary = ap (λ (row : List ℕ). (rows_of (tree_at l w.x) ++ rows_of (tree_at l w.y)) ++ row) over_two_lem

-- ---- the part of the table that a tree spells

module _ (text l : List ℕ) where
  -- the rows up to r are good
  abbrev Goods : ℕ → Type 0
  Goods r = (q : ℕ) → q ≤ r → good_at text l q ≡ true

  operands_part : (r : ℕ) (a : Arity) → Sound l r → Falls a r → operands_precede l r a ≡ true
      → ((q : ℕ) → q < r → rows_of (tree_at l q) ≡ part_of l (first_at l q) (q + 1))
      → tables_of l a ≡ part_of l (first_by l r a) r
  unfolding operands_precede
  operands_part r arity.Nil s f e ih = sym (part_none l r)
  operands_part r (arity.One x) s f e ih = ih x f ∙ ap (part_of l (first_at l x)) (eqb-true (x + 1) r e)
  operands_part r (arity.Two x y) s f e ih =
      let z = and_parts (eqb (y + 1) r) (eqb (x + 1) (first_at l y)) e in
      let h : y + 1 ≡ r = eqb-true (y + 1) r z.0 in
      let g : x + 1 ≡ first_at l y = eqb-true (x + 1) (first_at l y) z.1 in
      let a : first_at l x ≤ x = first_le (sound_below x s (omega arith)) in
      let b : first_at l y ≤ y = first_le (sound_below y s (omega arith)) in
      ap₂ ◌++◌ (ih x f.0) (ih y f.1 ∙ ap₂ (part_of l) (sym g) h)
      ∙ parts_join l {f = first_at l x} {m = x + 1} {t = r} (omega arith) (omega arith) (omega (arith, s.there))

  spelled_under : (n r : ℕ) → r < n → Sound l r → Goods r → rows_of (tree_at l r) ≡ part_of l (first_at l r) (r + 1)
  unfolding good_at shape_at
  spelled_under zero r h s g = absurd (omega arith)
  spelled_under (suc n) r h s g =
      ap rows_of (tree_step s)
      ∙ node
      (and_parts (allowed_of text (class_of (row_at l r).kind) (row_at l r).x (row_at l r).y) (operands_precede l r (arity_of (shape_at l r)))
      (g r (omega arith)))
      (λ q k. spelled_under n q (omega arith) (sound_below q s (omega arith)) (λ p i. g p (omega arith)))
    where
      node : (allowed_of text (class_of (row_at l r).kind) (row_at l r).x (row_at l r).y ≡ true) × (operands_precede l r (arity_of (shape_at l r)) ≡ true)
          → ((q : ℕ) → q < r → rows_of (tree_at l q) ≡ part_of l (first_at l q) (q + 1))
          → rows_of (node_of (shape_at l r) r (row_at l r) (map (tree_at l) (operands_of (arity_of (shape_at l r))))) ≡ part_of l (first_at l r) (r + 1)
      node e ih =
          node_rows l r (row_at l r) (class_of (row_at l r).kind)
          ∙ ap₂ ◌++◌
          (operands_part r (arity_of (shape_at l r)) s (s.falls r (omega arith)) e.1 ih ∙ ap (λ (i : ℕ). part_of l i r) (sym (first_at_lem s refl)))
          (row_part l r s.there)
          ∙ parts_join l {f = first_at l r} {m = r} {t = r + 1} (first_le s) (omega arith) (omega (arith, s.there))

pub rows_of_tree : (text l : List ℕ) (t : Tree) → read_rows text l ≡ one t → rows_of t ≡ l
rows_of_tree text l t e =
    let a : Accepted text l t = accepted text l t e in
    let n : row_count l - 1 + 1 ≡ row_count l = omega (arith, a.some) in
    ap rows_of a.tree
    ∙ spelled_under text l (row_count l) (row_count l - 1) (omega (arith, a.some)) a.sound (λ q h. a.good q (omega (arith, a.some)))
    ∙ ap₂ (part_of l) a.first n
    ∙ part_all l a.even

-- rows that are the same are of one tree, whatever the texts
pub same_rows : (text text' l l' : List ℕ) (t t' : Tree) → read_rows text l ≡ one t → read_rows text' l' ≡ one t' → rows_of t ≡ rows_of t' → t ≡ t'
same_rows text text' l l' t t' e e' d =
    let same : l ≡ l' = sym (rows_of_tree text l t e) ∙ d ∙ rows_of_tree text' l' t' e' in
    (accepted text l t e).tree ∙ ap (λ (i : List ℕ). tree_at i (row_count i - 1)) same ∙ sym (accepted text' l' t' e').tree

-- ---- the labels of AND, OR and NOT

-- each AND, OR and NOT of the tree has its own kind, and the y of each NOT is 0
unfoldable pub Connectives : Tree → Type 0
Connectives (leaf r l) = Unit {0}
Connectives (unary r l a) = Connectives a
Connectives (binary r l a b) = Connectives a × Connectives b
Connectives (both r l a b) = (l.kind ≡ kind.AND) × Connectives a × Connectives b
Connectives (either r l a b) = (l.kind ≡ kind.OR) × Connectives a × Connectives b
Connectives (negation r l a) = (l.kind ≡ kind.NOT) × (l.y ≡ 0) × Connectives a

-- k is the kind of AND, OR or NOT where the class is And, Or or Not
abbrev ConnectiveKind : ℕ → Class → Type 0
ConnectiveKind k class.Unknown = Unit {0}
ConnectiveKind k class.Null = Unit {0}
ConnectiveKind k class.Boolean = Unit {0}
ConnectiveKind k class.Number = Unit {0}
ConnectiveKind k class.Text = Unit {0}
ConnectiveKind k class.Column = Unit {0}
ConnectiveKind k class.And = k ≡ kind.AND
ConnectiveKind k class.Or = k ≡ kind.OR
ConnectiveKind k class.Not = k ≡ kind.NOT
ConnectiveKind k class.Is = Unit {0}
ConnectiveKind k class.Unary = Unit {0}
ConnectiveKind k class.Binary = Unit {0}

-- and so it is for each class that has k
abbrev ConnectiveKinds : ℕ → List (List ℕ × Class) → Type 0
ConnectiveKinds k [] = Unit {0}
ConnectiveKinds k (c ∷ cs) = (is_one_of k c.0 ≡ true → ConnectiveKind k c.1) × ConnectiveKinds k cs

kind_in : (k : ℕ) (cs : List (List ℕ × Class)) → ConnectiveKinds k cs → ConnectiveKind k (class_in k cs)
unfolding class_in
kind_in k [] h = tt
kind_in k (c ∷ cs) h = go (is_one_of k c.0) refl (kind_in k cs h.1)
  where
    go : (b : Bool) → is_one_of k c.0 ≡ b → ConnectiveKind k (class_in k cs) → ConnectiveKind k (elim b [ true ↦ c.1 | false ↦ class_in k cs ])
    go true e ih = h.0 e
    go false e ih = ih

kind_of : (k : ℕ) → ConnectiveKind k (class_of k)
unfolding class_of classes is_one_of
kind_of k =
    kind_in k classes
    (λ e. tt, (λ e. tt, (λ e. tt, (λ e. tt, (λ e. tt, (only kind.AND, (only kind.OR, (only kind.NOT, (λ e. tt, (λ e. tt, (λ e. tt, tt)))))))))))
  where
    only : (j : ℕ) → is_one_of k (j ∷ []) ≡ true → k ≡ j
    only j e = eqb-true k j (sym (or-false (eqb k j)) ∙ e)

module _ (text l : List ℕ) where
  -- the connectives of the operands' trees
  abbrev OperandConnectives : Arity → Type 0
  OperandConnectives arity.Nil = Unit {0}
  OperandConnectives (arity.One x) = Connectives (tree_at l x)
  OperandConnectives (arity.Two x y) = Connectives (tree_at l x) × Connectives (tree_at l y)

  operand_connectives : (r : ℕ) (a : Arity) → Falls a r → ((q : ℕ) → q < r → Connectives (tree_at l q)) → OperandConnectives a
  operand_connectives r arity.Nil f ih = tt
  operand_connectives r (arity.One x) f ih = ih x f
  operand_connectives r (arity.Two x y) f ih = (ih x f.0, ih y f.1)

  node_connectives : (r : ℕ) (w : Row) (c : Class) → ConnectiveKind w.kind c → allowed_of text c w.x w.y ≡ true
      → OperandConnectives (arity_of (shape_of c w)) → Connectives (node_of (shape_of c w) r w (map (tree_at l) (operands_of (arity_of (shape_of c w)))))
  unfolding Connectives node_of shape_of arity_of operands_of allowed_of
  node_connectives r w class.Unknown k e h = tt
  node_connectives r w class.Null k e h = tt
  node_connectives r w class.Boolean k e h = tt
  node_connectives r w class.Number k e h = tt
  node_connectives r w class.Text k e h = tt
  node_connectives r w class.Column k e h = tt
  node_connectives r w class.And k e h = (k, h.0, h.1)
  node_connectives r w class.Or k e h = (k, h.0, h.1)
  node_connectives r w class.Not k e h = (k, eqb-true w.y 0 e, h)
  node_connectives r w class.Is k e h = h
  node_connectives r w class.Unary k e h = h
  node_connectives r w class.Binary k e h = h

  connectives_under : (n r : ℕ) → r < n → Sound l r → Goods text l r → Connectives (tree_at l r)
  unfolding good_at shape_at
  connectives_under zero r h s g = absurd (omega arith)
  connectives_under (suc n) r h s g =
      let w = row_at l r in
      let a = arity_of (shape_at l r) in
      let good = and_parts (allowed_of text (class_of w.kind) w.x w.y) (operands_precede l r a) (g r (omega arith)) in
      subst Connectives (sym (tree_step s))
      (node_connectives r w (class_of w.kind) (kind_of w.kind) good.0
      (operand_connectives r a (s.falls r (omega arith))
      (λ q k. connectives_under n q (omega arith) (sound_below q s (omega arith)) (λ p i. g p (omega arith)))))

pub connective_labels : (text l : List ℕ) (t : Tree) → read_rows text l ≡ one t → Connectives t
connective_labels text l t e =
    let a : Accepted text l t = accepted text l t e in
    subst Connectives (sym a.tree)
    (connectives_under text l (row_count l) (row_count l - 1) (omega (arith, a.some)) a.sound (λ q h. a.good q (omega (arith, a.some))))
