-- How a step's answer goes on: what follows a step that read (`after_read`) or refused (`after_err`), and what is given by a step.
-- Assumes nothing.
use mathlib.Core.Path.{◌≡◌, ◌∙◌}
use mathlib.Core.List.{List}
use Prim.Native.Nat.{ℕ}
use Rattle.std.specs.Prelude.{Result, Ok, Err}
use Rattle.refusals.specs.Refusal.{refused}
use Rattle.refusals.specs.declared.Refused.{Refused}
use Rattle.grammar.specs.Memory.{Out, refuse, Gives, then}
use Rattle.grammar.specs.declared.Cursor.{Cursor}

-- what follows a step that read
pub after_read : {r : Result Cursor Refused} {d : Cursor} {t : List ℕ} {o : Out} (k : Cursor → List ℕ → Out) → r ≡ Ok d → Gives o r t → then o k ≡ k d t
unfolding then
after_read {r} {d} {t} {o} k e a = rw (← a.answer, e)

-- what follows a step that refused
pub after_err : {r : Result Cursor Refused} {e : Refused} {t : List ℕ} {o : Out} (k : Cursor → List ℕ → Out) → r ≡ Err e → Gives o r t →
    then o k ≡ refuse e.why e.place
unfolding then
after_err {r} {e} {t} {o} k is a = rw (← a.answer, is)

-- a step that gives what is equal
pub gives_same : {r : Result Cursor Refused} {t : List ℕ} {o u : Out} → o ≡ u → Gives o r t → Gives u r t
gives_same e a = record { answer = a.answer ∙ e }

-- the three by one name, for the functions' `using`
pub ruleset goes_on = (after_read, after_err, gives_same)
