-- Kinds and classes. A kind that is none of those in a table of classes is unknown there (`unknown`).
-- Assumes nothing.
use mathlib.Core.Path.{◌≡◌, refl, ap, ap₂, ◌∙◌}
use mathlib.Core.Bool.{Bool, true, false, ◌||◌}
use mathlib.Core.List.{List, [], ◌∷◌}
use Prim.Native.Nat.{ℕ}
use borrow.Author.Tests.{ne_eqb}
use Rattle.predicate.specs.Row.{is_one_of, class_in}
use Rattle.predicate.specs.declared.Class.{Class}
use Rattle.predicate.specs.declared.Class.TheVariants.{Unknown}

-- k is none of ks
abbrev pub Differs : ℕ → List ℕ → Type 0
Differs k [] = Unit {0}
Differs k (j ∷ ks) = (k ≡ j → ⊥) × Differs k ks

-- k is in no class
abbrev pub Apart : ℕ → List (List ℕ × Class) → Type 0
Apart k [] = Unit {0}
Apart k (c ∷ cs) = Differs k c.0 × Apart k cs

not_among : (k : ℕ) (ks : List ℕ) → Differs k ks → is_one_of k ks ≡ false
unfolding is_one_of
not_among k [] d = refl
not_among k (j ∷ ks) d = ap₂ ◌||◌ (ne_eqb k j d.0) (not_among k ks d.1)

pub unknown : (k : ℕ) (cs : List (List ℕ × Class)) → Apart k cs → class_in k cs ≡ Unknown
unfolding class_in
unknown k [] a = refl
unknown k (c ∷ cs) a = ap (λ (b : Bool). elim b [ true ↦ c.1 | false ↦ class_in k cs ]) (not_among k c.0 a.0) ∙ unknown k cs a.1
