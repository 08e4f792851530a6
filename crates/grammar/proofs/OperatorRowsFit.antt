-- The rows of operators and atoms fit their nodes: an infix operator's row has two operands (`infix_row_over_two`), a prefix operator's one
-- (`prefix_row_over_one`), and an atom of one token is a leaf (`plain_atom_is_leaf`).
-- Assumes nothing.
use mathlib.Core.Path.{◌≡◌, refl, sym, ap, ◌∙◌}
use mathlib.Core.Bool.{Bool, true, false}
use Prim.Native.Nat.{ℕ, zero, suc}
use native.Mathlib.Omega.{arith}
use borrow.Author.Tests.{eqb-true}
use lib.Dec.{eqb, leb, ltb}
use Rattle.syntax.specs.Read.{Arity, nullary, one, two, counted, arity_of}
use Rattle.operators.specs.Operator.{Operator, no, infix_table, infix_of, prefix_table, prefix_of, binds}
use Rattle.grammar.specs.Atom.{start_table, start_of}
use Rattle.grammar.specs.declared.Start.{Start}
use Rattle.grammar.specs.declared.Start.TheVariants as start
use Rattle.operators.proofs.Among.{both, every, among_every}

-- the test whether two arities are one
abbrev arity_number : Arity → ℕ
arity_number nullary = 0
arity_number one = 1
arity_number two = 2
arity_number counted = 3

abbrev arity_by : ℕ → Arity
arity_by zero = nullary
arity_by (suc zero) = one
arity_by (suc (suc zero)) = two
arity_by (suc (suc (suc n))) = counted

by_number : (a : Arity) → arity_by (arity_number a) ≡ a
by_number nullary = refl
by_number one = refl
by_number two = refl
by_number counted = refl

abbrev pub is? : Arity → Arity → Bool
is? a b = eqb (arity_number a) (arity_number b)

pub same_arity : (a b : Arity) → is? a b ≡ true → b ≡ a
same_arity a b e = sym (by_number b) ∙ ap arity_by (sym (eqb-true (arity_number a) (arity_number b) e)) ∙ by_number a

-- an operator that there is has a row of the arity a
abbrev row? : Arity → Operator → Bool
row? a o = elim (ltb 0 o.precedence) [ true ↦ is? a (arity_of o.row) | false ↦ true ]

has_row : (a : Arity) (o : Operator) (m : ℕ) → row? a o ≡ true → binds o.precedence m ≡ true → arity_of o.row ≡ a
unfolding binds
has_row a o m e b = same_arity a (arity_of o.row) (by (ltb 0 o.precedence) (both _ (leb m o.precedence) b).0 e)
  where
    by : (p : Bool) → p ≡ true → elim p [ true ↦ is? a (arity_of o.row) | false ↦ true ] ≡ true → is? a (arity_of o.row) ≡ true
    by true t e = e
    by false t e = let z : ◌≡◌ {A = ℕ} 0 1 = cc in absurd (omega arith)

pub infix_row_over_two : (k m : ℕ) → binds (infix_of k).precedence m ≡ true → arity_of (infix_of k).row ≡ two
unfolding infix_of arity_of every
infix_row_over_two k m = has_row two (infix_of k) m (among_every (row? two) k no infix_table refl refl)

pub prefix_row_over_one : (k m : ℕ) → binds (prefix_of k).precedence m ≡ true → arity_of (prefix_of k).row ≡ one
unfolding prefix_of arity_of every
prefix_row_over_one k m = has_row one (prefix_of k) m (among_every (row? one) k no prefix_table refl refl)

-- an atom that is one token of its own kind is a leaf
abbrev pub leaf? : Start → Bool
leaf? start.Nothing = true
leaf? start.Number = true
leaf? start.Text = true
leaf? start.Name = true
leaf? start.Paren = true
leaf? (start.Plain kind x) = is? nullary (arity_of kind)
leaf? start.Other = true

pub plain_atom_is_leaf : (k : ℕ) → leaf? (start_of k) ≡ true
unfolding start_of arity_of every
plain_atom_is_leaf k = among_every leaf? k start.Other start_table refl refl
