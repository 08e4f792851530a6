-- What a table gives for a kind that it does not have (`not_among`), a bound of what it gives (`among_most`), and a test that all it gives
-- passes (`among_every`).
-- Assumes nothing.
use mathlib.Core.Path.{◌≡◌, refl}
use mathlib.Core.Bool.{Bool, true, false, ◌&&◌}
use mathlib.Core.List.{List, [], ◌∷◌}
use Prim.Native.Nat.{ℕ, ◌≤◌}
use native.Mathlib.Omega.{arith}
use borrow.Author.Tests.{ne_eqb, leb-true}
use lib.Dec.{eqb, leb}
use Rattle.operators.specs.Operator.{among, Operator, no, infix_table, infix_of}

-- k is none of the kinds of a list of pairs, as a `match` says it: one kind after the other, after what is known before
abbrev pub Off : {A : Type 0} → ℕ → Type 0 → List (ℕ × A) → Type 0
Off k before [] = before
Off k before (p ∷ ps) = Off k (before × (k ≡ p.0 → ⊥)) ps

passed : {A : Type 0} (before : Type 0) (k : ℕ) (d : A) (l : List (ℕ × A)) → Off k before l → before × (among k d l ≡ d)
unfolding among
passed before k d [] off = (off, refl)
passed before k d (p ∷ ps) off =
    let rest = passed (before × (k ≡ p.0 → ⊥)) k d ps off in
    (rest.0.0, rw (ne_eqb k p.0 rest.0.1, among) rest.1)

pub not_among : {A : Type 0} (k : ℕ) (d : A) (l : List (ℕ × A)) → Off k (Unit {0}) l → among k d l ≡ d
not_among k d l off = (passed (Unit {0}) k d l off).1

pub both : (a b : Bool) → (a && b) ≡ true → (a ≡ true) × (b ≡ true)
both true b e = (refl, e)
both false b e = absurd (let z : ◌≡◌ {A = ℕ} 0 1 = cc in omega arith)

-- every value of a list of pairs is at most m, by f
unfoldable pub most : {A : Type 0} → (A → ℕ) → ℕ → List (ℕ × A) → Bool
most f m [] = true
most f m (p ∷ ps) = leb (f p.1) m && most f m ps

pub among_most : {A : Type 0} (f : A → ℕ) (m : ℕ) (k : ℕ) (d : A) (l : List (ℕ × A)) → f d ≤ m → most f m l ≡ true → f (among k d l) ≤ m
unfolding among most
among_most f m k d [] none all = none
among_most {A} f m k d (p ∷ ps) none all = by (eqb k p.0) (among_most f m k d ps none (both (leb (f p.1) m) (most f m ps) all).1)
  where
    by : (b : Bool) → f (among k d ps) ≤ m → f (elim b [ true ↦ p.1 | false ↦ among k d ps ]) ≤ m
    by true rest = leb-true (f p.1) m (both (leb (f p.1) m) (most f m ps) all).0
    by false rest = rest

-- a test that every value passes
unfoldable pub every : {A : Type 0} → (A → Bool) → List (ℕ × A) → Bool
every q [] = true
every q (p ∷ ps) = q p.1 && every q ps

pub among_every : {A : Type 0} (q : A → Bool) (k : ℕ) (d : A) (l : List (ℕ × A)) → q d ≡ true → every q l ≡ true → q (among k d l) ≡ true
unfolding among every
among_every q k d [] none all = none
among_every {A} q k d (p ∷ ps) none all = by (eqb k p.0) (among_every q k d ps none (both (q p.1) (every q ps) all).1)
  where
    by : (b : Bool) → q (among k d ps) ≡ true → q (elim b [ true ↦ p.1 | false ↦ among k d ps ]) ≡ true
    by true rest = (both (q p.1) (every q ps) all).0
    by false rest = rest

-- the precedence of an infix operator is at most 8
pub infix_precedence_at_most_8 : (k : ℕ) → (infix_of k).precedence ≤ 8
unfolding infix_of most
infix_precedence_at_most_8 k = among_most (λ (o : Operator). o.precedence) 8 k no infix_table (omega arith) refl
