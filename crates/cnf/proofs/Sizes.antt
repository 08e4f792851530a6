-- The sizes of clause lists. Two lists joined have the size that their sizes give (`size_join`), since neither is empty (`clauses_some`); a size that is
-- none too many is the list's own (`size_is`).
-- Assumes nothing.
use Prim.Native.Nat.{ℕ, ◌+◌, ◌*◌, ◌<◌, ◌≤◌}
use mathlib.Core.Path.{◌≡◌, refl, sym, ap₂, ◌∙◌, subst}
use mathlib.Core.Bool.{Bool, true, false, not, ◌&&◌}
use mathlib.Core.List.{List, [], ◌∷◌, ◌++◌, append_assoc}
use native.Mathlib.Omega.{arith}
use native.Mathlib.Nat.{le-mul_of_pos_right, le_trans}
use lib.ListN.{length, length-append, length-map}
use lib.Dec.{leb}
use borrow.Author.Tests.{leb-true, leb-false}
use Rattle.std.specs.Prelude.{Option, Some, None}
use Rattle.limits.specs.Limits.{clauses_max, literals_max}
use Rattle.predicate.specs.Tree.{Tree, leaf, unary, binary, both, either, negation}
use Rattle.cnf.specs.Clause.{Literal, cross, join, clauses, total}
use Rattle.cnf.specs.Size.{sized, within_limits, size_of, join_sizes, Limited}
use Rattle.cnf.specs.declared.Size.{Size}
use Rattle.cnf.proofs.Crossing.{before, cross_cross}

-- ---- limits

-- what a size says of so many clauses and literals: they are within the limits, or not
abbrev LimitsSay : ℕ → ℕ → Option Size → Type 0
LimitsSay c l None = c ≤ clauses_max → l ≤ literals_max → ⊥
LimitsSay c l (Some s) = (s.clauses ≡ c) × (s.literals ≡ l) × (c ≤ clauses_max) × (l ≤ literals_max)

limits_say : (c l : ℕ) → LimitsSay c l (within_limits c l)
unfolding within_limits
limits_say c l = go (leb c clauses_max) (leb l literals_max) refl refl
  where
    go : (p q : Bool) → leb c clauses_max ≡ p → leb l literals_max ≡ q → LimitsSay c l (elim (p && q) [ true ↦ Some (sized c l) | false ↦ None ])
    go true true e f = (refl, refl, leb-true c clauses_max e, leb-true l literals_max f)
    go true false e f = λ h k. omega (arith, leb-false l literals_max f)
    go false q e f = λ h k. omega (arith, leb-false c clauses_max e)

pub size_is : (cs : List (List Literal)) {s : Size} → size_of cs ≡ Some s
    → (s.clauses ≡ length cs) × (s.literals ≡ total cs) × (length cs ≤ clauses_max) × (total cs ≤ literals_max)
unfolding size_of
size_is cs e = subst (LimitsSay (length cs) (total cs)) e (limits_say (length cs) (total cs))

pub size_many : (cs : List (List Literal)) → size_of cs ≡ None → length cs ≤ clauses_max → total cs ≤ literals_max → ⊥
unfolding size_of
size_many cs e = subst (LimitsSay (length cs) (total cs)) e (limits_say (length cs) (total cs))

too_many : (c l : ℕ) → (c ≤ clauses_max → l ≤ literals_max → ⊥) → within_limits c l ≡ None
too_many c l n = go (within_limits c l) (limits_say c l)
  where
    go : (s : Option Size) → LimitsSay c l s → s ≡ None
    go None p = refl
    go (Some s) p = absurd (n p.2 p.3)

limited_within : (c l : ℕ) → Limited (within_limits c l)
limited_within c l = go (within_limits c l) (limits_say c l)
  where
    go : (s : Option Size) → LimitsSay c l s → Limited s
    go None p = tt
    go (Some s) p = (omega (arith, p.0, p.2), omega (arith, p.1, p.3))

pub limited_size : (cs : List (List Literal)) {s : Option Size} → s ≡ size_of cs → Limited s
unfolding size_of
limited_size cs e = subst Limited (sym e) (limited_within (length cs) (total cs))

pub limited_joined : (o : Bool) (a b : Option Size) → Limited (join_sizes o a b)
unfolding join_sizes
limited_joined o None b = tt
limited_joined o (Some s) None = tt
limited_joined false (Some s) (Some t) = limited_within (s.clauses + t.clauses) (s.literals + t.literals)
limited_joined true (Some s) (Some t) = limited_within (s.clauses * t.clauses) (s.literals * t.clauses + t.literals * s.clauses)

pub limited_is : {s : Option Size} {z : Size} → s ≡ Some z → Limited s → (z.clauses ≤ clauses_max) × (z.literals ≤ literals_max)
limited_is e h = subst Limited e h

-- ---- two sizes together

abbrev clauses_of : Bool → ℕ → ℕ → ℕ
clauses_of false c d = c + d
clauses_of true c d = c * d

abbrev literals_of : Bool → ℕ → ℕ → ℕ → ℕ → ℕ
literals_of false c l d m = l + m
literals_of true c l d m = l * d + m * c

module _ (c l d m : ℕ) (hc : 0 < c) (hd : 0 < d) where
  -- neither list is larger than both together
  left_clauses : (o : Bool) → c ≤ clauses_of o c d
  left_clauses false = omega arith
  left_clauses true = le-mul_of_pos_right c hd

  right_clauses : (o : Bool) → d ≤ clauses_of o c d
  right_clauses false = omega arith
  right_clauses true = omega (arith, le-mul_of_pos_right d hc)

  left_literals : (o : Bool) → l ≤ literals_of o c l d m
  left_literals false = omega arith
  left_literals true = omega (arith, le-mul_of_pos_right l hd)

  right_literals : (o : Bool) → m ≤ literals_of o c l d m
  right_literals false = omega arith
  right_literals true = omega (arith, le-mul_of_pos_right m hc)

  join_within_limits : (o : Bool) → join_sizes o (within_limits c l) (within_limits d m) ≡ within_limits (clauses_of o c d) (literals_of o c l d m)
  unfolding join_sizes
  join_within_limits o = go (within_limits c l) (limits_say c l) (within_limits d m) (limits_say d m)
    where
      both : (s t : Size) → LimitsSay c l (Some s) → LimitsSay d m (Some t) → (q : Bool)
          → join_sizes q (Some s) (Some t) ≡ within_limits (clauses_of q c d) (literals_of q c l d m)
      both s t p q false = ap₂ within_limits (ap₂ ◌+◌ p.0 q.0) (ap₂ ◌+◌ p.1 q.1)
      both s t p q true = ap₂ within_limits (ap₂ ◌*◌ p.0 q.0) (ap₂ ◌+◌ (ap₂ ◌*◌ p.1 q.0) (ap₂ ◌*◌ q.1 p.0))

      go : (s : Option Size) → LimitsSay c l s → (t : Option Size) → LimitsSay d m t
          → join_sizes o s t ≡ within_limits (clauses_of o c d) (literals_of o c l d m)
      go None p t q =
          sym (too_many (clauses_of o c d) (literals_of o c l d m)
          (λ h k. p (le_trans (left_clauses o) h) (le_trans (left_literals o) k)))
      go (Some s) p None q =
          sym (too_many (clauses_of o c d) (literals_of o c l d m)
          (λ h k. q (le_trans (right_clauses o) h) (le_trans (right_literals o) k)))
      go (Some s) p (Some t) q = both s t p q o

-- ---- two lists together

pub length_cross : (xs ys : List (List Literal)) → length (cross xs ys) ≡ length xs * length ys
length_cross [] ys = omega arith
length_cross (x ∷ xs) ys =
    length-append (before x ys) (cross xs ys) ∙ ap₂ ◌+◌ (length-map ys (λ (y : List Literal). x ++ y)) (length_cross xs ys) ∙ omega arith

pub total_append : (xs ys : List (List Literal)) → total (xs ++ ys) ≡ total xs + total ys
total_append [] ys = omega arith
total_append (x ∷ xs) ys = omega (arith, total_append xs ys)

total_before : (x : List Literal) (ys : List (List Literal)) → total (before x ys) ≡ length x * length ys + total ys
total_before x [] = omega arith
total_before x (y ∷ ys) = omega (arith, length-append x y, total_before x ys)

pub total_cross : (xs ys : List (List Literal)) → total (cross xs ys) ≡ total xs * length ys + total ys * length xs
total_cross [] ys = omega arith
total_cross (x ∷ xs) ys = omega (arith, total_append (before x ys) (cross xs ys), total_before x ys, total_cross xs ys)

pub length_join : (o : Bool) (xs ys : List (List Literal)) → length (join o xs ys) ≡ clauses_of o (length xs) (length ys)
length_join false xs ys = length-append xs ys
length_join true xs ys = length_cross xs ys

pub total_join : (o : Bool) (xs ys : List (List Literal)) → total (join o xs ys) ≡ literals_of o (length xs) (total xs) (length ys) (total ys)
total_join false xs ys = total_append xs ys
total_join true xs ys = total_cross xs ys

pub join_some : (o : Bool) (xs ys : List (List Literal)) → 0 < length xs → 0 < length ys → 0 < length (join o xs ys)
join_some o xs ys h k = subst (λ (n : ℕ). 0 < n) (sym (length_join o xs ys)) (le_trans h (left_clauses (length xs) 0 (length ys) 0 h k o))

-- how lists are bracketed does not matter
pub join_join : (o : Bool) (xs ys zs : List (List Literal)) → join o (join o xs ys) zs ≡ join o xs (join o ys zs)
join_join false xs ys zs = append_assoc xs ys zs
join_join true xs ys zs = cross_cross xs ys zs

-- no tree's list is empty
pub clauses_some : (g : Bool) (t : Tree) → 0 < length (clauses g t)
unfolding clauses
clauses_some g (leaf r l) = omega arith
clauses_some g (unary r l a) = omega arith
clauses_some g (binary r l a b) = omega arith
clauses_some g (both r l a b) = join_some g (clauses g a) (clauses g b) (clauses_some g a) (clauses_some g b)
clauses_some g (either r l a b) = join_some (not g) (clauses g a) (clauses g b) (clauses_some g a) (clauses_some g b)
clauses_some g (negation r l a) = clauses_some (not g) a

pub size_join : (o : Bool) (xs ys : List (List Literal)) → 0 < length xs → 0 < length ys → join_sizes o (size_of xs) (size_of ys) ≡ size_of (join o xs ys)
unfolding size_of
size_join o xs ys h k =
    join_within_limits (length xs) (total xs) (length ys) (total ys) h k o ∙ ap₂ within_limits (sym (length_join o xs ys)) (sym (total_join o xs ys))
