-- What a reading comes to (`Onward`), by one induction over the rules, whose end are `expression_goes` and `whole_expression_goes`:
--   it stands past the token where it began (`advances`), and within the tokens;
--   the rows due are those that were due before and the tree's own, so none that was due is lost (`keeps`);
--   each row of the tree has a token of its own among those read;
--   the tree is well formed: its rows are read back as that tree;
--   it refuses NO_ROOM only where it has read more tokens than the table has rows.
-- Assumes nothing.
use mathlib.Core.Path.{◌≡◌, refl}
use mathlib.Core.Bool.{Bool, true, false}
use mathlib.Core.List.{List}
use Prim.Native.Nat.{ℕ, zero, suc, ◌+◌, ◌≤◌, ◌<◌, max}
use native.Mathlib.Omega.{arith}
use borrow.Author.Tests.{eqb-true, eqb-false, leb-true}
use lib.Dec.{eqb, leb, ltb}
use Rattle.std.specs.Prelude.{Option, Some, None}
use Rattle.tokens.specs.Kind as kind
use Rattle.tokens.specs.Token.{token_count, kind_at, spelled}
use Rattle.tokens.proofs.TokenTable.{kind_in}
use Rattle.numbers.specs.Number.{number_of}
use Rattle.numbers.specs.declared.Number.{Number}
use Rattle.numbers.specs.declared.Number.TheVariants.{Integer, Float}
use Rattle.refusals.specs.Refusal.{refusal_number}
use Rattle.refusals.specs.declared.Refusal.{Refusal}
use Rattle.refusals.specs.declared.Refusal.TheVariants.{NoRoom, NeedClose, NeedComma, NeedName, NeedNullOrNan}
use Rattle.rows.specs.Label.{Label}
use Rattle.syntax.specs.Tree.{Tree, leaf, unary, Trees, none, more, size, sizes}
use Rattle.syntax.specs.Read.{nullary, arity_of}
use Rattle.syntax.proofs.RowsReadBack.{FitsLeaf, FitsOverOne, WellFormed, AllWellFormed}
use Rattle.operators.specs.Operator.{among, binds, infix_of, right_minimum, prefix_of}
use Rattle.grammar.specs.Atom.{start_of}
use Rattle.grammar.specs.declared.Start.{Start}
use Rattle.grammar.specs.declared.Start.TheVariants as start
use Rattle.grammar.specs.Rules.{Reading, done, ◌>>=◌, Reader, while, due, need, expression, finish, whole_expression}
use Rattle.grammar.specs.Rules.{null_or_nan, postfix, postfixes, numeral, column, group, argument, arguments, named, atom, operand, infixed, infixes, level}
use Rattle.grammar.proofs.InTokens.{kind_is, prefix_in, infix_in, postfix_in}
use Rattle.grammar.proofs.Readings.{Holds, weaken, after, either}
use Rattle.grammar.proofs.Readings as readings
use Rattle.grammar.proofs.OperatorRowsFit.{same_arity, infix_row_over_two, prefix_row_over_one, leaf?, plain_atom_is_leaf}

-- how far a reading has come: the next token, the rows due, how many of them are its trees' own, and that these trees are well formed
pub record State : Type 1 where
  pub at : ℕ
  pub due : ℕ
  pub own : ℕ
  pub formed : Type 0

-- with no tree yet, with a tree, and with arguments
abbrev pub before : ℕ → ℕ → State
before at used = record { at = at; due = used; own = 0; formed = Unit {0} }

abbrev pub having : ℕ → ℕ → Tree → State
having at used x = record { at = at; due = used; own = size x; formed = WellFormed x }

abbrev pub having_all : ℕ → ℕ → Trees → State
having_all at used xs = record { at = at; due = used; own = sizes xs; formed = AllWellFormed xs }

-- k tokens further
abbrev pub past : ℕ → State → State
past k s = record { at = s.at + k; due = s.due; own = s.own; formed = s.formed }

-- over the tokens ts and into a table of cap rows
module _ (ts : List ℕ) (cap : ℕ) where
  -- from s to e, with at least g rows more
  pub record Onward (g : ℕ) (s e : State) : Type 0 where
    pub rows : e.due + s.own ≡ s.due + e.own  -- the rows that came to be due are the trees' own
    pub grown : s.own + g ≤ e.own
    pub tokens : e.own + s.at ≤ e.at + s.own  -- each of them has a token of its own
    pub inside : e.at ≤ max s.at (token_count ts)
    pub formed : s.formed → e.formed

  -- a refusal at token p, after token lo and b rows due: NO_ROOM only where more tokens were read than there are rows
  pub record RefusedFrom (lo b : ℕ) (why : Refusal) (p : ℕ) : Type 0 where
    pub full : eqb (refusal_number why) (refusal_number NoRoom) ≡ true → (cap + lo < b + p) × (p ≤ max lo (token_count ts))

  -- the reading r goes on from s
  abbrev pub Goes : ℕ → State → Reading → Type 0
  Goes g s r = Holds (λ at used x. Onward g s (having at used x)) (RefusedFrom s.at s.due) r

  pub advances : {g : ℕ} {s e : State} → Onward g s e → s.at + g ≤ e.at
  advances o = omega (arith, o.grown, o.tokens)

  pub keeps : {g : ℕ} {s e : State} → Onward g s e → s.due ≤ e.due
  keeps o = omega (arith, o.grown, o.rows)

  -- another refusal than NO_ROOM
  other : {lo b : ℕ} {why : Refusal} {p : ℕ} → eqb (refusal_number why) (refusal_number NoRoom) ≡ false → RefusedFrom lo b why p
  other {lo} {b} {why} {p} e = record { full = λ t. let z : ◌≡◌ {A = ℕ} 0 1 = cc in absurd (omega arith) }

  -- what goes on from where a reading has come goes on from where it began
  refused_on : {g : ℕ} {s e : State} → Onward g s e → (why : Refusal) (p : ℕ) → RefusedFrom e.at e.due why p → RefusedFrom s.at s.due why p
  refused_on o why p h =
      record { full = λ t. let f = h.full t in (omega (arith, o.rows, o.tokens, f.0), omega (arith, o.inside, f.1)) }

  on : {g h : ℕ} {s e f : State} → Onward g s e → Onward h e f → Onward g s f
  on o p =
      record {
        rows = omega (arith, o.rows, p.rows);
        grown = omega (arith, o.grown, p.grown);
        tokens = omega (arith, o.tokens, p.tokens);
        inside = omega (arith, o.inside, p.inside);
        formed = λ w. p.formed (o.formed w);
      }

  pub goes_on : {g h : ℕ} {s e : State} {r : Reading} → Onward g s e → Goes h e r → Goes g s r
  goes_on o h = weaken h (refused_on o) (λ at used x p. on o p)

  -- what goes on from a later token goes on from an earlier one
  refused_earlier : {lo b : ℕ} (k : ℕ) → lo + k ≤ token_count ts → (why : Refusal) (p : ℕ) → RefusedFrom (lo + k) b why p → RefusedFrom lo b why p
  refused_earlier k le why p f = record { full = λ t. (omega (arith, (f.full t).0), omega (arith, (f.full t).1)) }

  goes_earlier : {g : ℕ} (k : ℕ) (s : State) {r : Reading} → s.at + k ≤ token_count ts → Goes g (past k s) r → Goes g s r
  goes_earlier k s le h =
      weaken h (refused_earlier k le)
      (λ at used x o. record { rows = o.rows; grown = o.grown; tokens = omega (arith, o.tokens); inside = omega (arith, o.inside); formed = o.formed })

  stop : (at used : ℕ) (x : Tree) → Goes 0 (having at used x) (done at used x)
  stop at used x = record { told = record { rows = refl; grown = omega arith; tokens = omega arith; inside = omega arith; formed = λ w. w } }

  -- a loop whose steps go on
  pub while_goes : (more? : ℕ → Bool) (step : ℕ → ℕ → Tree → Reading) →
      ((at used : ℕ) (x : Tree) → more? at ≡ true → Goes 1 (having at used x) (step at used x)) →
      (turns at used : ℕ) (x : Tree) → Goes 0 (having at used x) (while more? step turns at used x)
  unfolding while
  while_goes more? step goes zero at used x = stop at used x
  while_goes more? step goes (suc turns) at used x =
      either (more? at)
      (λ e. after _ (goes at used x e) (λ why p h. h) (λ at₁ used₁ x₁ o. goes_on (weaker o) (while_goes more? step goes turns at₁ used₁ x₁)))
      (λ e. stop at used x)
    where
      weaker : {s e : State} → Onward 1 s e → Onward 0 s e
      weaker o = record { rows = o.rows; grown = omega (arith, o.grown); tokens = o.tokens; inside = o.inside; formed = o.formed }

-- the rules
module _ (text ts : List ℕ) (cap : ℕ) where
  -- a row is due, over what was read from s on
  due_goes : (s : State) (at used : ℕ) (x : Tree) → used + 1 + s.own ≡ s.due + size x → s.own + 1 ≤ size x → size x + s.at ≤ at + s.own →
      at ≤ max s.at (token_count ts) → (s.formed → WellFormed x) → Goes ts cap 1 s (due text ts cap at used x)
  unfolding due
  due_goes s at used x rows grown tokens inside formed =
      either (leb cap used)
      (λ e. record { told = record { full = λ t. (omega (arith, leb-true cap used e), inside) } })
      (λ e. record { told = record { rows = rows; grown = grown; tokens = tokens; inside = inside; formed = formed } })

  -- the leaf of token `at`
  leaf_goes : (l : Label) (at used : ℕ) → FitsLeaf l → at < token_count ts → Goes ts cap 1 (before at used) (due text ts cap (at + 1) used (leaf l))
  unfolding size
  leaf_goes l at used fits inside =
      due_goes (before at used) (at + 1) used (leaf l) (omega arith) (omega arith) (omega arith) (omega arith) (λ w. fits)

  -- a row over the tree that a reading comes to, from a token past s on
  over_goes : {g : ℕ} (k : ℕ) (s : State) {r : Reading} (l : Label) → FitsOverOne l → s.at + suc k ≤ token_count ts → Goes ts cap g (past (suc k) s) r →
      Goes ts cap 1 s (r >>= λ (at, used, x). due text ts cap at used (unary l x))
  unfolding size
  over_goes k s l fits le h =
      after _ h (refused_earlier ts cap (suc k) le)
      (λ at used x o. due_goes s at used (unary l x) (omega (arith, o.rows)) (omega (arith, o.grown)) (omega (arith, o.tokens)) (omega (arith, o.inside))
      (λ w. (fits, o.formed w)))

  -- and over x, with token `at` as its operator
  unary_goes : (l : Label) (at used : ℕ) (x : Tree) → FitsOverOne l → at < token_count ts →
      Goes ts cap 1 (having at used x) (due text ts cap (at + 1) used (unary l x))
  unfolding ◌>>=◌
  unary_goes l at used x fits inside = over_goes 0 (having at used x) l fits (omega arith) (stop ts cap (at + 1) used x)

  need_goes : {g : ℕ} (s : State) (k : ℕ) (why : Refusal) → eqb (refusal_number why) (refusal_number NoRoom) ≡ false → (at : ℕ) (on : ℕ → Reading) →
      (kind_at ts at ≡ k → Goes ts cap g s (on (at + 1))) → Goes ts cap g s (need text ts cap k why at on)
  need_goes s k why is at on h = readings.need_holds text ts cap why at (other ts cap refl) (other ts cap is) k on h

  null_goes : (at used : ℕ) (x : Tree) → Goes ts cap 1 (having at used x) (null_or_nan text ts cap at used x)
  unfolding null_or_nan arity_of
  null_goes at used x =
      either (eqb (kind_at ts at) kind.NULL) (λ e. unary_goes _ at used x (refl, refl) (kind_is ts at kind.NULL (omega arith) (eqb-true _ _ e)))
      (λ e. need_goes (having at used x) kind.NAN NeedNullOrNan refl at _
      (λ f. unary_goes _ at used x (refl, refl) (kind_is ts at kind.NAN (omega arith) f)))

  pub postfix_goes : (at used : ℕ) (x : Tree) → at < token_count ts → Goes ts cap 1 (having at used x) (postfix text ts cap at used x)
  unfolding postfix arity_of
  postfix_goes at used x inside =
      either (eqb (kind_at ts at) kind.exclamation) (λ e. unary_goes _ at used x (refl, refl) inside)
      (λ e. either (eqb (kind_at ts (at + 1)) kind.NOT)
      (λ f. over_goes 1 (having at used x) _ (refl, refl) (omega (arith, kind_is ts (at + 1) kind.NOT (omega arith) (eqb-true _ _ f)))
      (null_goes (at + 2) used x))
      (λ f. goes_earlier ts cap 1 (having at used x) (omega arith) (null_goes (at + 1) used x)))

  pub postfixes_goes : (m at used : ℕ) (x : Tree) → Goes ts cap 0 (having at used x) (postfixes text ts cap m at used x)
  unfolding postfixes
  postfixes_goes m = while_goes ts cap _ _ (λ at used x e. postfix_goes at used x (postfix_in ts at m e)) (suc (token_count ts))

  numeral_goes : (n : Option Number) (at used : ℕ) → at < token_count ts → Goes ts cap 1 (before at used) (numeral text ts cap n at used)
  unfolding numeral arity_of
  numeral_goes (Some (Integer n)) at used inside = leaf_goes _ at used refl inside
  numeral_goes (Some Float) at used inside = leaf_goes _ at used refl inside
  numeral_goes None at used inside = record { told = other ts cap refl }

  column_goes : (at used : ℕ) → at < token_count ts → Goes ts cap 1 (before at used) (column text ts cap at used)
  unfolding column arity_of
  column_goes at used inside =
      either (eqb (kind_at ts (at + 1)) kind.period)
      (λ e. need_goes (before at used) kind.ident NeedName refl (at + 2) _
      (λ f. let there = kind_is ts (at + 2) kind.ident (omega arith) f in
      goes_earlier ts cap 2 (before at used) (omega arith) (leaf_goes _ (at + 2) used refl there)))
      (λ e. leaf_goes _ at used refl inside)

  module _ (rec : Reader) (goes : (m at used : ℕ) → Goes ts cap 1 (before at used) (rec m at used)) where
    pub argument_goes : (xs : Trees) (at used : ℕ) → Goes ts cap 1 (before at used) (argument text ts cap rec xs at used)
    unfolding argument
    argument_goes none at used = goes 0 at used
    argument_goes (more xs x) at used =
        need_goes (before at used) kind.comma NeedComma refl at _
        (λ f. goes_earlier ts cap 1 (before at used) (omega (arith, kind_is ts at kind.comma (omega arith) f)) (goes 0 (at + 1) used))

    pub arguments_goes : (f turns at used : ℕ) (xs : Trees) → Goes ts cap 1 (having_all at used xs) (arguments text ts cap rec f turns at used xs)
    unfolding arguments size arity_of
    arguments_goes f zero at used xs = record { told = other ts cap refl }
    arguments_goes f (suc turns) at used xs =
        either (eqb (kind_at ts at) kind.close_paren)
        (λ e. let there = kind_is ts at kind.close_paren (omega arith) (eqb-true _ _ e) in
        due_goes (having_all at used xs) (at + 1) used _ (omega arith) (omega arith) (omega arith) (omega arith)
        (λ w. ((refl, refl), w)))
        (λ e. after _ (argument_goes xs at used) (λ why p h. h)
        (λ at₁ used₁ x o. goes_on ts cap (one_more at used xs at₁ used₁ x o) (arguments_goes f turns at₁ used₁ (more xs x))))
      where
        -- the arguments so far, and one more
        one_more : (at used : ℕ) (xs : Trees) (at₁ used₁ : ℕ) (x : Tree) → Onward ts cap 1 (before at used) (having at₁ used₁ x) →
            Onward ts cap 1 (having_all at used xs) (having_all at₁ used₁ (more xs x))
        one_more at used xs at₁ used₁ x o =
            record {
              rows = omega (arith, o.rows);
              grown = omega (arith, o.grown);
              tokens = omega (arith, o.tokens);
              inside = o.inside;
              formed = λ w. (w, o.formed tt);
            }

    atom_goes : (s : Start) (at used : ℕ) → leaf? s ≡ true → at < token_count ts → Goes ts cap 1 (before at used) (atom text ts cap rec s at used)
    unfolding atom named group arity_of size
    atom_goes start.Nothing at used e inside = record { told = other ts cap refl }
    atom_goes start.Number at used e inside = numeral_goes (number_of (spelled text ts at)) at used inside
    atom_goes start.Text at used e inside = leaf_goes _ at used refl inside
    atom_goes start.Name at used e inside =
        either (eqb (kind_at ts (at + 1)) kind.open_paren)
        (λ f. let there = kind_is ts (at + 1) kind.open_paren (omega arith) (eqb-true _ _ f) in
        goes_earlier ts cap 2 (before at used) (omega arith) (arguments_goes at (suc (token_count ts)) (at + 2) used none))
        (λ f. column_goes at used inside)
    atom_goes start.Paren at used e inside =
        goes_earlier ts cap 1 (before at used) (omega arith)
        (after _ (goes 0 (at + 1) used) (λ why p h. h)
        (λ at₁ used₁ x o. need_goes (before (at + 1) used) kind.close_paren NeedClose refl at₁ _
        (λ f. let there = kind_is ts at₁ kind.close_paren (omega arith) f in
        record { told = record { rows = o.rows; grown = o.grown; tokens = omega (arith, o.tokens); inside = omega arith; formed = o.formed } })))
    atom_goes (start.Plain kind x) at used e inside = leaf_goes _ at used (same_arity nullary (arity_of kind) e) inside
    atom_goes start.Other at used e inside = record { told = other ts cap refl }

    -- at the end of the tokens an atom is refused
    atom_ends : (at used : ℕ) → Goes ts cap 1 (before at used) (atom text ts cap rec (start_of (kind_at ts at)) at used)
    unfolding start_of among atom
    atom_ends at used = by (eqb (kind_at ts at) 0) refl
      where
        by : (b : Bool) → eqb (kind_at ts at) 0 ≡ b → Goes ts cap 1 (before at used) (atom text ts cap rec (start_of (kind_at ts at)) at used)
        by true e = rw (eqb-true (kind_at ts at) 0 e) (record { told = other ts cap refl })
        by false e = atom_goes (start_of (kind_at ts at)) at used (plain_atom_is_leaf (kind_at ts at)) (kind_in ts at (eqb-false _ 0 e))

    operand_goes : (m at used : ℕ) → Goes ts cap 1 (before at used) (operand text ts cap rec m at used)
    unfolding operand
    operand_goes m at used =
        let op = prefix_of (kind_at ts at) in
        either (binds op.precedence m)
        (λ e. over_goes 0 (before at used) _ (prefix_row_over_one (kind_at ts at) m e, refl) (omega (arith, prefix_in ts at m e))
        (goes op.precedence (at + 1) used))
        (λ e. atom_ends at used)

    pub infixed_goes : (m at used : ℕ) (x : Tree) → binds (infix_of (kind_at ts at)).precedence m ≡ true →
        Goes ts cap 1 (having at used x) (infixed text ts cap rec at used x)
    unfolding infixed size
    infixed_goes m at used x e =
        let k = kind_at ts at in
        let inside : at + 1 ≤ token_count ts = omega (arith, infix_in ts at m e) in
        after _ (goes (right_minimum k) (at + 1) used) (refused_earlier ts cap 1 inside)
        (λ at₁ used₁ y o. due_goes (having at used x) at₁ used₁ _ (omega (arith, o.rows)) (omega arith)
        (omega (arith, o.tokens)) (omega (arith, o.inside)) (λ w. ((infix_row_over_two k m e, refl), (w, o.formed tt))))

    pub infixes_goes : (m at used : ℕ) (x : Tree) → Goes ts cap 0 (having at used x) (infixes text ts cap rec m at used x)
    unfolding infixes
    infixes_goes m = while_goes ts cap _ _ (infixed_goes m) (suc (token_count ts))

    level_goes : (m at used : ℕ) → Goes ts cap 1 (before at used) (level text ts cap rec m at used)
    unfolding level
    level_goes m at used =
        after _ (operand_goes m at used) (λ why p h. h) λ at₁ used₁ x₁ o₁.
        goes_on ts cap o₁
        (after _ (postfixes_goes m at₁ used₁ x₁) (λ why p h. h) λ at₂ used₂ x₂ o₂.
        goes_on ts cap o₂
        (after _ (infixes_goes m at₂ used₂ x₂) (λ why p h. h) λ at₃ used₃ x₃ o₃.
        goes_on ts cap o₃ (postfixes_goes m at₃ used₃ x₃)))

  pub expression_goes : (levels m at used : ℕ) → Goes ts cap 1 (before at used) (expression text ts cap levels m at used)
  unfolding expression
  expression_goes zero m at used = record { told = other ts cap refl }
  expression_goes (suc levels) m at used = level_goes (expression text ts cap levels) (expression_goes levels) m at used

  pub whole_expression_goes : (levels : ℕ) → Goes ts cap 1 (before 0 0) (whole_expression text ts cap levels)
  unfolding whole_expression finish
  whole_expression_goes levels =
      after _ (expression_goes levels 0 0 0) (λ why p h. h)
      (λ at used x o. either (ltb at (token_count ts)) (λ e. record { told = other ts cap refl }) (λ e. record { told = o }))
