-- `Holds P o`: P holds of where the reading o comes to, if it is no refusal. How that goes on from step to step, and that it holds of where a
-- function came to (`came`).
-- Assumes nothing.
use mathlib.Core.Path.{◌≡◌, refl}
use mathlib.Core.Bool.{Bool, true, false}
use mathlib.Core.List.{List}
use Prim.Native.Nat.{ℕ}
use lib.Dec.{eqb}
use Rattle.tokens.specs.Kind as kind
use Rattle.tokens.specs.Token.{kind_at}
use Rattle.std.specs.Prelude.{Result, Ok}
use Rattle.refusals.specs.declared.Refused.{Refused}
use Rattle.refusals.specs.declared.Refusal.{Refusal}
use Rattle.grammar.specs.Memory.{Out, done, refuse, Gives, then, missing}
use Rattle.grammar.specs.declared.Cursor.{Cursor}

-- P holds of where o comes to, if it is no refusal
abbrev Told : (Cursor → Type 0) → Out → Type 0
Told P (done d u) = P d
Told P (refuse why at) = Unit {0}

pub record Holds (P : Cursor → Type 0) (o : Out) : Type 0 where
  pub told : Told P o

pub gone : {P : Cursor → Type 0} {why : Refusal} {p : ℕ} → Holds P (refuse why p)
gone = record { told = tt }

pub weaker : {P Q : Cursor → Type 0} {o : Out} → ((d : Cursor) → Q d → P d) → Holds Q o → Holds P o
weaker {P} {Q} {o} f h = by o h
  where
    by : (o : Out) → Holds Q o → Holds P o
    by (done d u) h = record { told = f d h.told }
    by (refuse why p) h = gone

pub after : {P Q : Cursor → Type 0} {o : Out} {k : Cursor → List ℕ → Out} → Holds Q o → ((d : Cursor) (u : List ℕ) → Q d → Holds P (k d u)) → Holds P (then o k)
unfolding then
after {P} {Q} {o} {k} h f = by o h
  where
    by : (o : Out) → Holds Q o → Holds P (then o k)
    by (done d u) h = f d u h.told
    by (refuse why p) h = gone

pub either : {P : Cursor → Type 0} {x y : Out} (b : Bool) → (b ≡ true → Holds P x) → (b ≡ false → Holds P y) → Holds P (elim b [ true ↦ x | false ↦ y ])
either true f g = f refl
either false f g = g refl

-- of anything nothing is said
pub anything : (o : Out) → Holds (λ d. Unit {0}) o
anything (done d u) = record { told = tt }
anything (refuse why p) = gone

-- so it holds of where a step came to
pub came : {P : Cursor → Type 0} {o : Out} {r : Result Cursor Refused} {t : List ℕ} {d : Cursor} → r ≡ Ok d → Gives o r t → Holds P o → P d
came {P} {o} {r} {t} {d} e a h =
    let is : done d t ≡ o = rw e at a.answer in
    let there : Holds P (done d t) = rw is h in
    there.told

-- a missing token is a refusal
pub missing_holds : (ts : List ℕ) (P : Cursor → Type 0) (why : Refusal) (at : ℕ) → Holds P (missing ts why at)
unfolding missing
missing_holds ts P why at = either (eqb (kind_at ts at) kind.none) (λ e. gone) (λ e. gone)
