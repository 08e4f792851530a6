-- A reading that passes the row table along is a tree's reading, laid out in the table: the relation `Laid`, and how it goes from the parts of a rule to
-- the rule. `row_laid`, a row written where a tree's row is due, is the only law here that looks at a row.
-- Assumes nothing.
use mathlib.Core.Path.{◌≡◌, refl, ap, ◌∙◌}
use mathlib.Core.Bool.{Bool, true, false}
use mathlib.Core.List.{List, ◌++◌}
use Prim.Native.Nat.{ℕ, ◌+◌, ◌*◌, ◌≤◌}
use native.Mathlib.Omega.{arith}
use borrow.Author.Tests.{leb-false}
use lib.Dec.{leb}
use lib.ListN.{length}
use lib.Seq.{sets}
use Rattle.refusals.specs.declared.Refusal.{Refusal}
use Rattle.refusals.specs.declared.Refusal.TheVariants.{NoRoom}
use Rattle.rows.specs.Layout.{width, numbers, capacity}
use Rattle.rows.specs.declared.Row.{Row}
use Rattle.rows.proofs.Laws.{capacity_sets, follows}
use Rattle.syntax.specs.Tree.{Tree, size, rows_of}
use Rattle.grammar.specs.Rules.{Reading, ◌>>=◌, due}
use Rattle.grammar.specs.Rules as T
use Rattle.grammar.specs.Memory.{Out, done, refuse, then, push_row}
use Rattle.grammar.specs.declared.Cursor.{Cursor}

-- a reading that stands at a token, with so many rows written
abbrev pub cursor : ℕ → ℕ → Cursor
cursor at used = record { at = at; rows = used }

-- a tree's reading, laid out in the table t from row n on
abbrev pub lay : List ℕ → ℕ → Reading → Out
lay t n (T.done at used x) = done (cursor at used) (sets t (n * width) (rows_of n x))
lay t n (T.refuse why at) = refuse why at

-- in a table of cap rows
module _ (cap : ℕ) where
  abbrev pub Room : List ℕ → Type 0
  Room t = capacity t ≡ cap

  -- what is stored leaves the room as it was
  pub room_stays : (t : List ℕ) (i : ℕ) (vs : List ℕ) → Room t → Room (sets t i vs)
  room_stays t i vs room = capacity_sets t i vs ∙ room

  -- the rows due after row n are the tree's, and there is room for them
  abbrev pub Fits : ℕ → Reading → Type 0
  Fits n (T.done at used x) = (used ≡ n + size x) × (used ≤ cap)
  Fits n (T.refuse why at) = Unit {0}

  pub record Laid (t : List ℕ) (n : ℕ) (o : Out) (r : Reading) : Type 0 where
    pub is : o ≡ lay t n r
    pub fits : Fits n r

  -- after a tree x that lies at row b of u, k is what h is, laid out at row n of t
  abbrev pub LaidAfter : List ℕ → ℕ → List ℕ → ℕ → (Cursor → List ℕ → Out) → (ℕ × ℕ × Tree → Reading) → Type 0
  LaidAfter u b t n k h = (at : ℕ) (x : Tree) → b + size x ≤ cap →
      Laid t n (k (cursor at (b + size x)) (sets u (b * width) (rows_of b x))) (h (at, b + size x, x))

  pub refusal_laid : {t : List ℕ} {n p : ℕ} {why : Refusal} → Laid t n (refuse why p) (T.refuse why p)
  refusal_laid = record { is = refl; fits = tt }

  pub tree_laid : (t : List ℕ) (n : ℕ) → LaidAfter t n t n done (λ (at, used, x). T.done at used x)
  tree_laid t n at x le = record { is = refl; fits = (refl, le) }

  pub either : {t : List ℕ} {n : ℕ} {x y : Out} {p q : Reading} (b : Bool) → Laid t n x p → Laid t n y q →
      Laid t n (elim b [ true ↦ x | false ↦ y ]) (elim b [ true ↦ p | false ↦ q ])
  either true a b = a
  either false a b = b

  -- and then: the first part may lie at another row than the whole
  pub after : {t u : List ℕ} {n b : ℕ} {o : Out} {r : Reading} (k : Cursor → List ℕ → Out) (h : ℕ × ℕ × Tree → Reading) →
      Laid u b o r → LaidAfter u b t n k h → Laid t n (then o k) (r >>= h)
  unfolding then ◌>>=◌
  after {t} {u} {n} {b} {o} {r} k h a f = by r a
    where
      by : (r : Reading) → Laid u b o r → Laid t n (then o k) (r >>= h)
      by (T.done at used x) a = rw (a.is, a.fits.0) (f at x (rw a.fits.0 at a.fits.1))
      by (T.refuse why p) a = rw a.is refusal_laid

  -- a row is written after the rows `front`, and the tree x is complete
  pub row_laid : (text ts t v front : List ℕ) (n : ℕ) (r : Row) (c : Cursor) (x : Tree) → Room t →
      v ≡ sets t (n * width) front → c.rows * width ≡ n * width + length front → c.rows + 1 ≡ n + size x →
      front ++ numbers r ≡ rows_of n x → Laid t n (push_row r c v) (due text ts cap c.at c.rows x)
  unfolding push_row due
  row_laid text ts t v front n r c x room is at_end complete rows = rw (same, push_row) (picks (leb cap c.rows) refl)
    where
      same : leb (capacity v) c.rows ≡ leb cap c.rows
      same =
          ap (λ (w : List ℕ). leb (capacity w) c.rows) is
          ∙ ap (λ (k : ℕ). leb k c.rows) (room_stays t (n * width) front room)

      written : sets v (c.rows * width) (numbers r) ≡ sets t (n * width) (rows_of n x)
      written =
          ap (λ (w : List ℕ). sets w (c.rows * width) (numbers r)) is
          ∙ follows t n c.rows front (numbers r) at_end
          ∙ ap (sets t (n * width)) rows

      picks : (q : Bool) → leb cap c.rows ≡ q →
          Laid t n (elim q [ true ↦ refuse NoRoom c.at | false ↦ done (record { at = c.at; rows = c.rows + 1 }) (sets v (c.rows * width) (numbers r)) ])
          (elim q [ true ↦ T.refuse NoRoom c.at | false ↦ T.done c.at (c.rows + 1) x ])
      picks true e = refusal_laid
      picks false e = record { is = ap (done (cursor c.at (c.rows + 1))) written; fits = (complete, omega (arith, leb-false cap c.rows e)) }
