-- Facts about readings: what holds of the tree that a reading comes to, or else of its refusal (`Holds`), and how that goes from the parts of a rule to
-- the rule: through a branch (`either`), through what follows (`after`), and through a token that is needed (`need_holds`).
-- Assumes nothing.
use mathlib.Core.Path.{◌≡◌, refl}
use mathlib.Core.Bool.{Bool, true, false}
use mathlib.Core.List.{List}
use Prim.Native.Nat.{ℕ, ◌+◌}
use borrow.Author.Tests.{eqb-true}
use lib.Dec.{eqb}
use Rattle.tokens.specs.Kind as kind
use Rattle.tokens.specs.Token.{kind_at}
use Rattle.refusals.specs.declared.Refusal.{Refusal}
use Rattle.refusals.specs.declared.Refusal.TheVariants.{End}
use Rattle.syntax.specs.Tree.{Tree}
use Rattle.grammar.specs.Rules.{Reading, done, refuse, ◌>>=◌, missing, need}

pub by_cases : {P : Type 0} (b : Bool) → (b ≡ true → P) → (b ≡ false → P) → P
by_cases true f g = f refl
by_cases false f g = g refl

-- P holds of what r comes to; or R of the refusal and its place
abbrev pub Told : (ℕ → ℕ → Tree → Type 0) → (Refusal → ℕ → Type 0) → Reading → Type 0
Told P R (done at used x) = P at used x
Told P R (refuse why p) = R why p

pub record Holds (P : ℕ → ℕ → Tree → Type 0) (R : Refusal → ℕ → Type 0) (r : Reading) : Type 0 where
  pub told : Told P R r

-- any refusal
abbrev pub Any : Refusal → ℕ → Type 0
Any why p = Unit {0}

-- what it says of the reading that r is known to be
pub told_of : {P : ℕ → ℕ → Tree → Type 0} {R : Refusal → ℕ → Type 0} {r s : Reading} → r ≡ s → Holds P R r → Told P R s
told_of {P} {R} {r} {s} e h = let there : Holds P R s = rw e at h in there.told

pub weaken : {P Q : ℕ → ℕ → Tree → Type 0} {R S : Refusal → ℕ → Type 0} {r : Reading} → Holds Q S r → ((why : Refusal) (p : ℕ) → S why p → R why p) →
    ((at used : ℕ) (x : Tree) → Q at used x → P at used x) → Holds P R r
weaken {P} {Q} {R} {S} {r} h g f = by r h
  where
    by : (r : Reading) → Holds Q S r → Holds P R r
    by (done at used x) h = record { told = f at used x h.told }
    by (refuse why p) h = record { told = g why p h.told }

pub after : {P Q : ℕ → ℕ → Tree → Type 0} {R S : Refusal → ℕ → Type 0} {r : Reading} (k : ℕ × ℕ × Tree → Reading) → Holds Q S r →
    ((why : Refusal) (p : ℕ) → S why p → R why p) → ((at used : ℕ) (x : Tree) → Q at used x → Holds P R (k (at, used, x))) → Holds P R (r >>= k)
unfolding ◌>>=◌
after {P} {Q} {R} {S} {r} k h g f = by r h
  where
    by : (r : Reading) → Holds Q S r → Holds P R (r >>= k)
    by (done at used x) h = f at used x h.told
    by (refuse why p) h = record { told = g why p h.told }

pub either : {P : ℕ → ℕ → Tree → Type 0} {R : Refusal → ℕ → Type 0} {x y : Reading} (b : Bool) → (b ≡ true → Holds P R x) → (b ≡ false → Holds P R y) →
    Holds P R (elim b [ true ↦ x | false ↦ y ])
either true f g = f refl
either false f g = g refl

module _ (text ts : List ℕ) (cap : ℕ) {P : ℕ → ℕ → Tree → Type 0} {R : Refusal → ℕ → Type 0} (why : Refusal) (at : ℕ) (end : R End at) (other : R why at) where
  missing_holds : Holds P R (missing text ts cap why at)
  unfolding missing
  missing_holds = either (eqb (kind_at ts at) kind.none) (λ e. record { told = end }) (λ e. record { told = other })

  pub need_holds : (k : ℕ) (on : ℕ → Reading) → (kind_at ts at ≡ k → Holds P R (on (at + 1))) → Holds P R (need text ts cap k why at on)
  unfolding need
  need_holds k on h = either (eqb (kind_at ts at) k) (λ e. h (eqb-true _ k e)) (λ e. missing_holds)
