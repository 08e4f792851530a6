-- The loops of a reading: `Turning`, the invariant of each (what is to come from here is what was to come from the start), that it begins and
-- turns; and the cases of `while`.
-- Assumes nothing.
use mathlib.Core.Path.{◌≡◌, refl, sym, ◌∙◌}
use mathlib.Core.Bool.{Bool, true, false}
use mathlib.Core.List.{List}
use Prim.Native.Nat.{ℕ, suc, ◌+◌, ◌-◌, ◌≤◌, ◌<◌}
use native.Mathlib.Omega.{arith}
use lib.ListN.{length}
use Rattle.tokens.specs.Token.{token_count}
use Rattle.grammar.specs.Memory.{Out, done, then, while, fuel}
use Rattle.grammar.specs.declared.Cursor.{Cursor}

-- c stands at token lo or past it, and within the tokens
pub record Moves (ts : List ℕ) (lo : ℕ) (c : Cursor) : Type 0 where
  pub least : lo ≤ c.at
  pub within : c.at ≤ token_count ts

-- a loop that began over the row table t₀ and has come to c and t: turns are left for every token, and what is to come from here, F, is o,
-- what was to come from the start
pub record Turning (F : ℕ → Cursor → List ℕ → Out) (o : Out) (ts t₀ : List ℕ) (c : Cursor) (t : List ℕ) : Type 0 where
  pub size : length t ≡ length t₀
  pub within : c.at ≤ token_count ts
  pub left : ℕ
  pub enough : token_count ts ≤ left + c.at
  pub same : F (suc left) c t ≡ o

-- it begins
pub begins : (F : ℕ → Cursor → List ℕ → Out) (ts : List ℕ) (c : Cursor) (t : List ℕ) → c.at ≤ token_count ts → Turning F (F (fuel ts) c t) ts t c t
begins F ts c t inside = record { size = refl; within = inside; left = token_count ts; enough = omega arith; same = refl }

pub one_less : (n : ℕ) → 0 < n → suc (n - 1) ≡ n
one_less n pos = omega arith

-- it turns: a step that stands past c, and from which what is to come is what was to come from c
pub turns : {F G : ℕ → Cursor → List ℕ → Out} {o : Out} {ts t₀ : List ℕ} {c d : Cursor} {t u : List ℕ} (i : Turning F o ts t₀ c t) →
    length u ≡ length t → Moves ts (c.at + 1) d → F (suc i.left) c t ≡ G i.left d u → Turning G o ts t₀ d u
turns {F} {G} {o} {ts} {t₀} {c} {d} {t} {u} i size m same =
    record {
      size = size ∙ i.size;
      within = m.within;
      left = i.left - 1;
      enough = omega arith;
      same = rw (one_less i.left (omega arith)) (sym same ∙ i.same);
    }

-- the cases of a loop
module _ (more? : ℕ → Bool) (step : Cursor → List ℕ → Out) (f : ℕ) (c : Cursor) (t : List ℕ) where
  pub while_on : more? c.at ≡ true → while more? step (suc f) c t ≡ then (step c t) (while more? step f)
  unfolding while
  while_on e = rw (e, while)

  pub while_off : more? c.at ≡ false → while more? step (suc f) c t ≡ done c t
  unfolding while
  while_off e = rw (e, while)
