-- What the size of the row table changes. Of two readings of the same tokens, the one with the smaller table is the other, or it refuses NO_ROOM
-- (`same_or_no_room`). So a token list that is accepted as a tree is accepted with exactly the tables that have at least the tree's rows, and is refused
-- NO_ROOM with every smaller one:
--   accepted_fits: what is accepted fits the table;
--   accepted_larger: with any table of at least the tree's rows the answer is the same;
--   accepted_smaller: with any smaller table it is NO_ROOM;
--   refused_larger: what another refusal ends is refused with a larger table too, by the same refusal at the same place.
-- Assumes nothing.
use mathlib.Core.Path.{◌≡◌, refl}
use mathlib.Core.Bool.{Bool, true, false}
use mathlib.Core.List.{List}
use Prim.Native.Nat.{ℕ, zero, suc, ◌+◌, ◌≤◌, ◌<◌}
use native.Mathlib.Omega.{arith}
use native.Mathlib.Nat.{le_refl}
use borrow.Author.Tests.{leb-true, leb-false}
use lib.Dec.{eqb, leb, ltb}
use Rattle.std.specs.Prelude.{Option, Some, None}
use Rattle.tokens.specs.Kind as kind
use Rattle.tokens.specs.Token.{token_count, kind_at, spelled}
use Rattle.numbers.specs.Number.{number_of}
use Rattle.numbers.specs.declared.Number.{Number}
use Rattle.numbers.specs.declared.Number.TheVariants.{Integer, Float}
use Rattle.refusals.specs.declared.Refusal.{Refusal}
use Rattle.refusals.specs.declared.Refusal.TheVariants.{NoRoom, NeedClose, NeedComma, NeedName, NeedNullOrNan}
use Rattle.operators.specs.Operator.{binds, right_minimum, prefix_of}
use Rattle.grammar.specs.Atom.{start_of}
use Rattle.grammar.specs.declared.Start.{Start}
use Rattle.grammar.specs.declared.Start.TheVariants as start
use Rattle.syntax.specs.Tree.{Tree, Trees, none, more, size}
use Rattle.grammar.specs.Rules.{Reading, done, refuse, ◌>>=◌, Reader}
use Rattle.grammar.specs.Rules as T
use Rattle.grammar.proofs.InTokens.{postfix_in}
use Rattle.grammar.proofs.Readings.{by_cases, Holds, Any, told_of, weaken, need_holds}
use Rattle.grammar.proofs.Readings as R
use Rattle.grammar.proofs.ReadingAdvances.{State, before, having, Goes, keeps, goes_on, expression_goes, whole_expression_goes}
use Rattle.grammar.proofs.ReadingAdvances.{while_goes, postfix_goes, postfixes_goes, arguments_goes, infixed_goes, infixes_goes}

-- no more than cap rows are due, or more than cap are; a refusal is either
abbrev pub Within : ℕ → Reading → Type 0
Within cap (done at used x) = used ≤ cap
Within cap (refuse why p) = Unit {0}

abbrev pub Beyond : ℕ → Reading → Type 0
Beyond cap (done at used x) = cap < used
Beyond cap (refuse why p) = Unit {0}

-- r, read with a table of cap rows, against s, read with a larger one
pub data Limited (cap : ℕ) : Reading → Reading → Type 0 where
  same : {r : Reading} → Within cap r → Limited cap r r
  short : {s : Reading} (p : ℕ) → Beyond cap s → Limited cap (refuse NoRoom p) s

-- rows that were due stay due
abbrev Kept : ℕ → Reading → Type 0
Kept used s = Holds (λ at' used' x'. used ≤ used') Any s

kept : {ts : List ℕ} {cap g : ℕ} {s : State} {r : Reading} → Goes ts cap g s r → Kept s.due r
kept {ts} {cap} h = weaken h (λ why p f. tt) (λ at used x o. keeps ts cap o)

module _ (cap : ℕ) where
  beyond : {used : ℕ} (s : Reading) → cap < used → Kept used s → Beyond cap s
  beyond (done at used' x) lt h = omega (arith, h.told)
  beyond (refuse why p) lt h = tt

  stopped : {why : Refusal} {p : ℕ} → Limited cap (refuse why p) (refuse why p)
  stopped = same tt

  either : {x y p q : Reading} (b : Bool) → Limited cap x p → Limited cap y q → Limited cap (elim b [ true ↦ x | false ↦ y ]) (elim b [ true ↦ p | false ↦ q ])
  either true a b = a
  either false a b = b

  -- and then
  after : {r s : Reading} (k l : ℕ × ℕ × Tree → Reading) → Limited cap r s →
      ((at used : ℕ) (x : Tree) → used ≤ cap → Limited cap (k (at, used, x)) (l (at, used, x))) →
      ((at used : ℕ) (x : Tree) → Kept used (l (at, used, x))) → Limited cap (r >>= k) (s >>= l)
  unfolding ◌>>=◌
  after k l (same {r} w) f g = by r w
    where
      by : (r : Reading) → Within cap r → Limited cap (r >>= k) (r >>= l)
      by (done at used x) w = f at used x w
      by (refuse why p) w = stopped
  after k l (short {s} p b) f g = by s b
    where
      by : (s : Reading) → Beyond cap s → Limited cap (refuse NoRoom p) (s >>= l)
      by (done at used x) b = short p (beyond (l (at, used, x)) b (g at used x))
      by (refuse why q) b = short p tt

-- tables of cap rows and of at least as many
module _ (text ts : List ℕ) (cap big : ℕ) (larger : cap ≤ big) where
  due_limited : (at used : ℕ) (x : Tree) → used ≤ cap → Limited cap (T.due text ts cap at used x) (T.due text ts big at used x)
  unfolding T.due
  due_limited at used x le = by (leb cap used) (leb big used) refl refl
    where
      by : (p q : Bool) → leb cap used ≡ p → leb big used ≡ q →
          Limited cap (elim p [ true ↦ refuse NoRoom at | false ↦ done at (used + 1) x ]) (elim q [ true ↦ refuse NoRoom at | false ↦ done at (used + 1) x ])
      by true true e f = stopped cap
      by true false e f = short {s = done at (used + 1) x} at (omega (arith, leb-true cap used e))
      by false true e f = absurd (omega (arith, leb-false cap used e, leb-true big used f))
      by false false e f = same {r = done at (used + 1) x} (omega (arith, leb-false cap used e))

  due_kept : (at used : ℕ) (x : Tree) → Kept used (T.due text ts big at used x)
  unfolding T.due
  due_kept at used x = by (leb big used)
    where
      by : (q : Bool) → Kept used (elim q [ true ↦ refuse NoRoom at | false ↦ done at (used + 1) x ])
      by true = record { told = tt }
      by false = record { told = omega arith }

  closed_kept : (at used : ℕ) (x : Tree) → Kept used (T.need text ts big kind.close_paren NeedClose at λ at. done at used x)
  closed_kept at used x = need_holds text ts big NeedClose at tt tt kind.close_paren _ (λ e. record { told = le_refl used })

  -- a row is due after a step
  due_after : {r s : Reading} (f : Tree → Tree) → Limited cap r s →
      Limited cap (r >>= λ (at, used, x). T.due text ts cap at used (f x)) (s >>= λ (at, used, x). T.due text ts big at used (f x))
  due_after f l = after cap _ _ l (λ at used x le. due_limited at used (f x) le) (λ at used x. due_kept at used (f x))

  need_limited : (k : ℕ) (why : Refusal) (at : ℕ) (on other : ℕ → Reading) → Limited cap (on (at + 1)) (other (at + 1)) →
      Limited cap (T.need text ts cap k why at on) (T.need text ts big k why at other)
  unfolding T.need T.missing
  need_limited k why at on other l = either cap (eqb (kind_at ts at) k) l (either cap (eqb (kind_at ts at) kind.none) (stopped cap) (stopped cap))

  null_limited : (at used : ℕ) (x : Tree) → used ≤ cap → Limited cap (T.null_or_nan text ts cap at used x) (T.null_or_nan text ts big at used x)
  unfolding T.null_or_nan
  null_limited at used x le =
      either cap (eqb (kind_at ts at) kind.NULL) (due_limited (at + 1) used _ le)
      (need_limited kind.NAN NeedNullOrNan at _ _ (due_limited (at + 1) used _ le))

  postfix_limited : (at used : ℕ) (x : Tree) → used ≤ cap → Limited cap (T.postfix text ts cap at used x) (T.postfix text ts big at used x)
  unfolding T.postfix
  postfix_limited at used x le =
      either cap (eqb (kind_at ts at) kind.exclamation) (due_limited (at + 1) used _ le)
      (either cap (eqb (kind_at ts (at + 1)) kind.NOT) (due_after _ (null_limited (at + 2) used x le))
      (null_limited (at + 1) used x le))

  while_limited : (more? : ℕ → Bool) (step other : ℕ → ℕ → Tree → Reading) →
      ((at used : ℕ) (x : Tree) → used ≤ cap → Limited cap (step at used x) (other at used x)) →
      ((at used : ℕ) (x : Tree) → more? at ≡ true → Goes ts big 1 (having at used x) (other at used x)) →
      (turns at used : ℕ) (x : Tree) → used ≤ cap → Limited cap (T.while more? step turns at used x) (T.while more? other turns at used x)
  unfolding T.while
  while_limited more? step other limited goes zero at used x le = same le
  while_limited more? step other limited goes (suc turns) at used x le =
      either cap (more? at)
      (after cap _ _ (limited at used x le) (λ at₁ used₁ x₁ le₁. while_limited more? step other limited goes turns at₁ used₁ x₁ le₁)
      (λ at₁ used₁ x₁. kept (while_goes ts big more? other goes turns at₁ used₁ x₁)))
      (same le)

  postfixes_limited : (m at used : ℕ) (x : Tree) → used ≤ cap → Limited cap (T.postfixes text ts cap m at used x) (T.postfixes text ts big m at used x)
  unfolding T.postfixes
  postfixes_limited m = while_limited _ _ _ postfix_limited
      (λ at used x e. postfix_goes text ts big at used x (postfix_in ts at m e)) (suc (token_count ts))

  numeral_limited : (x : Option Number) (at used : ℕ) → used ≤ cap → Limited cap (T.numeral text ts cap x at used) (T.numeral text ts big x at used)
  unfolding T.numeral
  numeral_limited (Some (Integer n)) at used le = due_limited (at + 1) used _ le
  numeral_limited (Some Float) at used le = due_limited (at + 1) used _ le
  numeral_limited None at used le = stopped cap

  column_limited : (at used : ℕ) → used ≤ cap → Limited cap (T.column text ts cap at used) (T.column text ts big at used)
  unfolding T.column
  column_limited at used le =
      either cap (eqb (kind_at ts (at + 1)) kind.period) (need_limited kind.ident NeedName (at + 2) _ _ (due_limited (at + 2 + 1) used _ le))
      (due_limited (at + 1) used _ le)

  module _ (rec read : Reader) (limited : (m at used : ℕ) → used ≤ cap → Limited cap (rec m at used) (read m at used))
      (goes : (m at used : ℕ) → Goes ts big 1 (before at used) (read m at used)) where
    argument_limited : (xs : Trees) (at used : ℕ) → used ≤ cap → Limited cap (T.argument text ts cap rec xs at used) (T.argument text ts big read xs at used)
    unfolding T.argument
    argument_limited none at used le = limited 0 at used le
    argument_limited (more xs x) at used le = need_limited kind.comma NeedComma at _ _ (limited 0 (at + 1) used le)

    arguments_limited : (f turns at used : ℕ) (xs : Trees) → used ≤ cap →
        Limited cap (T.arguments text ts cap rec f turns at used xs) (T.arguments text ts big read f turns at used xs)
    unfolding T.arguments
    arguments_limited f zero at used xs le = stopped cap
    arguments_limited f (suc turns) at used xs le =
        either cap (eqb (kind_at ts at) kind.close_paren) (due_limited (at + 1) used _ le)
        (after cap _ _ (argument_limited xs at used le) (λ at₁ used₁ x le₁. arguments_limited f turns at₁ used₁ (more xs x) le₁)
        (λ at₁ used₁ x. kept (arguments_goes text ts big read goes f turns at₁ used₁ (more xs x))))

    atom_limited : (s : Start) (at used : ℕ) → used ≤ cap → Limited cap (T.atom text ts cap rec s at used) (T.atom text ts big read s at used)
    unfolding T.atom T.named T.group
    atom_limited start.Nothing at used le = stopped cap
    atom_limited start.Number at used le = numeral_limited (number_of (spelled text ts at)) at used le
    atom_limited start.Text at used le = due_limited (at + 1) used _ le
    atom_limited start.Name at used le =
        either cap (eqb (kind_at ts (at + 1)) kind.open_paren) (arguments_limited at (suc (token_count ts)) (at + 2) used none le) (column_limited at used le)
    atom_limited start.Paren at used le =
        after cap _ _ (limited 0 (at + 1) used le) (λ at₁ used₁ x le₁. need_limited kind.close_paren NeedClose at₁ _ _ (same le₁)) closed_kept
    atom_limited (start.Plain kind x) at used le = due_limited (at + 1) used _ le
    atom_limited start.Other at used le = stopped cap

    operand_limited : (m at used : ℕ) → used ≤ cap → Limited cap (T.operand text ts cap rec m at used) (T.operand text ts big read m at used)
    unfolding T.operand
    operand_limited m at used le =
        let op = prefix_of (kind_at ts at) in
        either cap (binds op.precedence m) (due_after _ (limited op.precedence (at + 1) used le))
        (atom_limited (start_of (kind_at ts at)) at used le)

    infixed_limited : (at used : ℕ) (x : Tree) → used ≤ cap → Limited cap (T.infixed text ts cap rec at used x) (T.infixed text ts big read at used x)
    unfolding T.infixed
    infixed_limited at used x le = due_after _ (limited (right_minimum (kind_at ts at)) (at + 1) used le)

    infixes_limited : (m at used : ℕ) (x : Tree) → used ≤ cap → Limited cap (T.infixes text ts cap rec m at used x) (T.infixes text ts big read m at used x)
    unfolding T.infixes
    infixes_limited m = while_limited _ _ _ infixed_limited (infixed_goes text ts big read goes m) (suc (token_count ts))

    level_limited : (m at used : ℕ) → used ≤ cap → Limited cap (T.level text ts cap rec m at used) (T.level text ts big read m at used)
    unfolding T.level
    level_limited m at used le =
        after cap _ _ (operand_limited m at used le)
        (λ at₁ used₁ x₁ le₁. after cap _ _ (postfixes_limited m at₁ used₁ x₁ le₁)
        (λ at₂ used₂ x₂ le₂. after cap _ _ (infixes_limited m at₂ used₂ x₂ le₂) (postfixes_limited m)
        (λ at₃ used₃ x₃. kept (postfixes_goes text ts big m at₃ used₃ x₃)))
        (λ at₂ used₂ x₂. kept (chained m at₂ used₂ x₂)))
        (λ at₁ used₁ x₁. kept (rounds m at₁ used₁ x₁))
      where
        -- (c) and (d)
        chained : (m at used : ℕ) (x : Tree) →
            Goes ts big 0 (having at used x) (T.infixes text ts big read m at used x >>= λ (at, used, x). T.postfixes text ts big m at used x)
        chained m at used x =
            R.after _ (infixes_goes text ts big read goes m at used x) (λ why p h. h)
            λ at₁ used₁ x₁ o. goes_on ts big o (postfixes_goes text ts big m at₁ used₁ x₁)

        -- (b), (c) and (d)
        rounds : (m at used : ℕ) (x : Tree) →
            Goes ts big 0 (having at used x)
            (T.postfixes text ts big m at used x >>= λ (at, used, x).
            T.infixes text ts big read m at used x >>= λ (at, used, x). T.postfixes text ts big m at used x)
        rounds m at used x =
            R.after _ (postfixes_goes text ts big m at used x) (λ why p h. h) λ at₁ used₁ x₁ o. goes_on ts big o (chained m at₁ used₁ x₁)

  expression_limited : (levels m at used : ℕ) → used ≤ cap → Limited cap (T.expression text ts cap levels m at used) (T.expression text ts big levels m at used)
  unfolding T.expression
  expression_limited zero m at used le = stopped cap
  expression_limited (suc levels) m at used le =
      level_limited (T.expression text ts cap levels) (T.expression text ts big levels) (expression_limited levels)
      (expression_goes text ts big levels) m at used le

  finish_limited : (at used : ℕ) (x : Tree) → used ≤ cap → Limited cap (T.finish text ts cap at used x) (T.finish text ts big at used x)
  unfolding T.finish
  finish_limited at used x le = either cap (ltb at (token_count ts)) (stopped cap) (same le)

  finish_kept : (at used : ℕ) (x : Tree) → Kept used (T.finish text ts big at used x)
  unfolding T.finish
  finish_kept at used x = R.either (ltb at (token_count ts)) (λ e. record { told = tt }) (λ e. record { told = le_refl used })

  -- a smaller table gives the same answer, or NO_ROOM
  pub same_or_no_room : (levels : ℕ) → Limited cap (T.whole_expression text ts cap levels) (T.whole_expression text ts big levels)
  unfolding T.whole_expression
  same_or_no_room levels = after cap _ _ (expression_limited levels 0 0 0 (omega arith)) finish_limited finish_kept

-- NO_ROOM, wherever
pub record NoRoomAt (r : Reading) : Type 0 where
  pub place : ℕ
  pub is : r ≡ refuse NoRoom place

impossible : {A : Type 0} {at used p : ℕ} {x : Tree} {why : Refusal} → refuse why p ≡ done at used x → A
impossible e = let z : ◌≡◌ {A = ℕ} 0 1 = cc in absurd (omega arith)

pub same_done : {cap : ℕ} {r s : Reading} {at used : ℕ} {x : Tree} → Limited cap r s → r ≡ done at used x → (s ≡ done at used x) × (used ≤ cap)
same_done (same w) e = (e, rw e at w)
same_done (short p b) e = impossible e

same_enough : {cap : ℕ} {r s : Reading} {at used : ℕ} {x : Tree} → Limited cap r s → s ≡ done at used x → used ≤ cap → r ≡ done at used x
same_enough (same w) e le = e
same_enough {cap} {r} {s} {at} {used} {x} (short p b) e le = let lt : Beyond cap (done at used x) = rw e at b in absurd (omega arith)

short_of : {cap : ℕ} {r s : Reading} {at used : ℕ} {x : Tree} → Limited cap r s → s ≡ done at used x → cap < used → NoRoomAt r
short_of {cap} {r} {s} {at} {used} {x} (same w) e lt = let le : Within cap (done at used x) = rw e at w in absurd (omega arith)
short_of (short p b) e lt = record { place = p; is = refl }

same_refused : {cap : ℕ} {r s : Reading} {why : Refusal} {p : ℕ} → Limited cap r s → r ≡ refuse why p → (why ≡ NoRoom → ⊥) → s ≡ refuse why p
same_refused (same w) e other = e
same_refused {cap} {r} {s} {why} (short q b) e other = absurd (other (let z : why ≡ NoRoom = cc in z))

module _ (text ts : List ℕ) (levels cap : ℕ) where
  module _ {at used : ℕ} {x : Tree} (e : T.whole_expression text ts cap levels ≡ done at used x) where
    -- the rows due at the end are the tree's
    rows_of : used ≡ size x
    rows_of =
        let due : used + 0 ≡ 0 + size x = (told_of e (whole_expression_goes text ts cap levels)).rows in
        omega arith

    pub accepted_fits : size x ≤ cap
    accepted_fits = let le = (same_done (same_or_no_room text ts cap cap (le_refl cap) levels) e).1 in omega (arith, rows_of)

    pub accepted_larger : (other : ℕ) → size x ≤ other → T.whole_expression text ts other levels ≡ done at used x
    accepted_larger other le =
        by_cases (leb cap other) (λ l. (same_done (same_or_no_room text ts cap other (leb-true cap other l) levels) e).0)
        (λ l. same_enough (same_or_no_room text ts other cap (omega (arith, leb-false cap other l)) levels) e (omega (arith, rows_of)))

    pub accepted_smaller : (other : ℕ) → other < size x → NoRoomAt (T.whole_expression text ts other levels)
    accepted_smaller other lt = short_of (same_or_no_room text ts other cap (omega (arith, accepted_fits)) levels) e (omega (arith, rows_of))

  pub refused_larger : {why : Refusal} {p : ℕ} → T.whole_expression text ts cap levels ≡ refuse why p → (why ≡ NoRoom → ⊥) → (other : ℕ) → cap ≤ other →
      T.whole_expression text ts other levels ≡ refuse why p
  refused_larger e not-room other le = same_refused (same_or_no_room text ts cap other le levels) e not-room
