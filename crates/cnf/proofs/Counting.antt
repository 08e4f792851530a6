-- Counting. An atom's list has one clause of one literal (`size_of_atom`), and two rows' lists joined have the size that is counted
-- (`size_of_joined`). Along left sides that are joined the same way a list of counted size grows from turn to turn (`spine_begins`,
-- `spine_turns`, `spine_done`).
-- Assumes nothing.
use Prim.Native.Nat.{ℕ, ◌≤◌}
use mathlib.Core.Path.{◌≡◌, refl, sym, ap, ap₂, ◌∙◌, subst}
use mathlib.Core.Bool.{Bool}
use mathlib.Core.List.{List}
use native.Mathlib.Omega.{arith}
use Rattle.std.specs.Prelude.{Option, Some}
use Rattle.predicate.specs.Tree.{tree_at, Sound}
use Rattle.predicate.proofs.Trees.{sound_below}
use Rattle.cnf.specs.Clause.{Literal, join}
use Rattle.cnf.specs.Size.{sized, within_limits, size_of, join_sizes, Limited, SizeOfSome}
use Rattle.cnf.specs.Source.{clauses_at, source_at}
use Rattle.cnf.specs.declared.Size.{Size}
use Rattle.cnf.specs.declared.SignedRow.{SignedRow}
use Rattle.cnf.specs.declared.Source.{Source}
use Rattle.cnf.specs.declared.Source.TheVariants.{Atom, Joined}
use Rattle.cnf.proofs.Sizes.{clauses_some, size_join, join_some, join_join, limited_joined, limited_size}
use Rattle.cnf.proofs.Sources.{source_is, left_falls, right_falls}

module _ {l : List ℕ} (r : SignedRow) {v : Source} (h : Sound l r.row) (e : v ≡ source_at l r) where
  pub size_of_atom : {q : SignedRow} → v ≡ Atom q → Some (sized 1 1) ≡ size_of (clauses_at l r)
  unfolding size_of within_limits
  size_of_atom f = let z = source_is r h e f in sym (ap size_of z.1)

  pub size_of_joined : {x y : SignedRow} {o : Bool} {s : Option Size} → v ≡ Joined x y o → s ≡ size_of (join o (clauses_at l x) (clauses_at l y))
      → s ≡ size_of (clauses_at l r)
  size_of_joined f t = let z = source_is r h e f in t ∙ sym (ap size_of z.2)

-- a row's list is of its size, and not empty
pub sized_row : (l : List ℕ) (r : SignedRow) {s : Option Size} → s ≡ size_of (clauses_at l r) → SizeOfSome s (clauses_at l r)
sized_row l r e = record { size = e; some = clauses_some r.negated (tree_at l r.row) }

sized_join : (o : Bool) {a b s : Option Size} {xs ys : List (List Literal)} → SizeOfSome a xs → SizeOfSome b ys → s ≡ join_sizes o a b
    → SizeOfSome s (join o xs ys)
sized_join o {xs = xs} {ys = ys} p q e =
    record {
      size = e ∙ ap₂ (join_sizes o) p.size q.size ∙ size_join o xs ys p.some q.some;
      some = join_some o xs ys p.some q.some;
    }

-- a list of size `size` that row r joined with comes to what row `root` joined with cs comes to
pub record RestOfList (l : List ℕ) (root : SignedRow) (o : Bool) (r : SignedRow) (size : Option Size) (cs : List (List Literal)) : Type 0 where
  pub list : List (List Literal)
  pub counts : SizeOfSome size list
  pub same : join o (clauses_at l r) list ≡ join o (clauses_at l root) cs

-- counting along left sides has come from row `root`, with a list of size `last` after it, to row r, with one of size `size`
pub record LeftSpine (l : List ℕ) (root : SignedRow) (o : Bool) (last : Option Size) (r : SignedRow) (size : Option Size) : Type 0 where
  pub sound : Sound l r.row
  pub below : r.row ≤ root.row
  pub limited : Limited size
  pub rest : (cs : List (List Literal)) → SizeOfSome last cs → RestOfList l root o r size cs

pub spine_begins : {l : List ℕ} (root : SignedRow) (o : Bool) {last : Option Size} → Sound l root.row → Limited last → LeftSpine l root o last root last
spine_begins root o h k = record { sound = h; below = omega arith; limited = k; rest = λ cs c. record { list = cs; counts = c; same = refl } }

module _ {l : List ℕ} {root r : SignedRow} {o : Bool} {last size : Option Size} (i : LeftSpine l root o last r size) where
  -- row r is counted: what is asked for is there
  pub spine_done : {a s : Option Size} → a ≡ size_of (clauses_at l r) → s ≡ join_sizes o a size →
      (cs : List (List Literal)) → SizeOfSome last cs → s ≡ size_of (join o (clauses_at l root) cs)
  spine_done e f cs c =
      let rest = i.rest cs c in
      (sized_join o (sized_row l r e) rest.counts f).size ∙ ap size_of rest.same

  -- row r is joined the same way: its right side is counted, and its left side is next
  pub spine_turns : {x y : SignedRow} {p : Bool} {v : Source} {b s : Option Size} → v ≡ source_at l r → v ≡ Joined x y p → p ≡ o
      → b ≡ size_of (clauses_at l y) → s ≡ join_sizes o b size → LeftSpine l root o last x s
  spine_turns {x} {y} {p} {v} {b} {s} e f same count is =
      let z = source_is r i.sound e f in
      let left : List (List Literal) = clauses_at l x in
      let right : List (List Literal) = clauses_at l y in
      let joint : clauses_at l r ≡ join o left right = z.2 ∙ ap (λ (q : Bool). join q left right) same in
      record {
        sound = sound_below x.row i.sound (omega (arith, z.0));
        below = omega (arith, z.0, i.below);
        limited = subst Limited (sym is) (limited_joined o b size);
        rest = λ cs c.
            let rest = i.rest cs c in
            record {
              list = join o right rest.list;
              counts = sized_join o (sized_row l y count) rest.counts is;
              same =
                  sym (join_join o left right rest.list)
                  ∙ ap (λ (xs : List (List Literal)). join o xs rest.list) (sym joint)
                  ∙ rest.same;
            };
      }

-- the laws by which the check finds what counting requires of rows and sizes
pub ruleset count_steps = (left_falls, right_falls, sound_below, limited_size, spine_begins)
