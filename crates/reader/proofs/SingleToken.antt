-- The shortcut says what the general way says: where an operand is one token alone, the expression there is what that token is read as
-- (`single_token_expression`). Before it what each kind of token is read as.
-- Assumes nothing.
use mathlib.Core.Path.{◌≡◌, refl, sym, ap, ◌∙◌}
use mathlib.Core.Bool.{Bool, true, false, not, ◌&&◌, ◌||◌}
use mathlib.Core.List.{List}
use Prim.Native.Nat.{ℕ, suc, ◌+◌, ◌-◌, ◌<◌}
use native.Mathlib.Omega.{arith}
use borrow.Author.Tests.{eq-eqb, ne_eqb, eqb-true, eqb-false, ltb-true, leb-true, leb-false, not-true}
use lib.Dec.{eqb, ltb, leb}
use Rattle.std.specs.Prelude.{Option, Some, None}
use Rattle.tokens.specs.Kind as kind
use Rattle.tokens.specs.Token.{token_count, kind_at, spelled}
use Rattle.tokens.proofs.TokenTable.{kind_in}
use Rattle.numbers.specs.Number.{number_of}
use Rattle.numbers.specs.declared.Number.{Number}
use Rattle.numbers.specs.declared.Number.TheVariants.{Integer, Float}
use Rattle.rows.specs.Layout.{capacity}
use Rattle.rows.specs.Label.{Label, label, leaf_row}
use Rattle.syntax.specs.Kind as row
use Rattle.operators.specs.Operator.{among, infix_of, prefix_of, postfix_of, binds}
use Rattle.operators.proofs.Among.{both}
use Rattle.grammar.specs.Atom.{start_of}
use Rattle.grammar.specs.declared.Start.TheVariants as start
use Rattle.grammar.specs.declared.Cursor.{Cursor}
use Rattle.grammar.specs.Memory.{Out, done, then, past, push_leaf, numeral, postfix, postfixes, infixed, infixes, atom, level, expression}
use Rattle.grammar.proofs.Loops.{while_off, one_less}
use Rattle.grammar.proofs.RuleCases.{push_full, push_room, named_column, column_plain, prefix_off, atom_by}
use Rattle.reader.specs.Shortcut.{may_follow_operand, starts_leaf, single_token_operand, single_token}

-- ---- the cases of the token's kind

module _ (ts text : List ℕ) (c : Cursor) (t : List ℕ) where
  pub single_number : kind_at ts c.at ≡ kind.number → single_token ts text c t ≡ numeral (number_of (spelled text ts c.at)) c t
  unfolding single_token
  single_number is = rw (eq-eqb _ kind.number is, single_token)

  pub single_string : kind_at ts c.at ≡ kind.string → single_token ts text c t ≡ push_leaf (label row.string c.at 0) c t
  unfolding single_token
  single_string is = rw (ne_eqb (kind_at ts c.at) kind.number (λ e. omega (arith, is, e)), single_token, eq-eqb _ kind.string is)

  pub single_name : (kind_at ts c.at ≡ kind.number → ⊥) → (kind_at ts c.at ≡ kind.string → ⊥) →
      single_token ts text c t ≡ push_leaf (label row.column c.at 0) c t
  unfolding single_token
  single_name number string = rw (ne_eqb _ kind.number number, single_token, ne_eqb _ kind.string string)

-- ---- the law

neither : (a b : Bool) → (a || b) ≡ false → (a ≡ false) × (b ≡ false)
neither true b e = absurd (let z : ◌≡◌ {A = ℕ} 0 1 = cc in omega arith)
neither false b e = (refl, e)

-- at token c .at + 1 nothing goes on
module _ (text ts : List ℕ) (levels m : ℕ) (c : Cursor) (t : List ℕ) (alone : may_follow_operand (kind_at ts (c.at + 1)) m ≡ false) where
  abbrev next : ℕ
  next = kind_at ts (c.at + 1)

  none :
      ((eqb next kind.open_paren ≡ false) × (eqb next kind.period ≡ false))
      × ((binds (infix_of next).precedence m ≡ false) × (binds (postfix_of next) m ≡ false))
  unfolding may_follow_operand
  none =
      let parts = neither (eqb next kind.open_paren || eqb next kind.period) (binds (infix_of next).precedence m || binds (postfix_of next) m) alone in
      (neither (eqb next kind.open_paren) (eqb next kind.period) parts.0, neither (binds (infix_of next).precedence m) (binds (postfix_of next) m) parts.1)

  -- what follows the operand: (b), (c) and (d)
  abbrev rest : Cursor → List ℕ → Out
  rest d u = then (postfixes ts m d u) λ e v. then (infixes text ts (expression text ts levels) m e v) (postfixes ts m)

  nothing_follows : (d : Cursor) (u : List ℕ) → d.at ≡ c.at + 1 → rest d u ≡ done d u
  unfolding postfixes infixes then
  nothing_follows d u at =
      let no-postfix = while_off (λ at. binds (postfix_of (kind_at ts at)) m) (postfix ts) (token_count ts) d u (rw at none.1.1) in
      let is-infix : ℕ → Bool = λ at. binds (infix_of (kind_at ts at)).precedence m in
      let no-infix = while_off is-infix (infixed text ts (expression text ts levels)) (token_count ts) d u (rw at none.1.0) in
      rw (no-postfix, no-infix) no-postfix

  leaf_alone : (l : Label) → then (push_leaf l c t) rest ≡ push_leaf l c t
  unfolding then
  leaf_alone l = by (leb (capacity t) c.rows) refl
    where
      by : (b : Bool) → leb (capacity t) c.rows ≡ b → then (push_leaf l c t) rest ≡ push_leaf l c t
      by true full = rw (push_full (leaf_row l) (past 1 c) t (leb-true _ _ full)) refl
      by false room = rw (push_room (leaf_row l) (past 1 c) t (leb-false _ _ room)) (nothing_follows _ _ refl)

  number_alone : (x : Option Number) → then (numeral x c t) rest ≡ numeral x c t
  unfolding numeral then
  number_alone (Some (Integer n)) = leaf_alone (label row.integer n 0)
  number_alone (Some Float) = leaf_alone (label row.float c.at 0)
  number_alone None = refl

  by_atom : (o : Out) → binds (prefix_of (kind_at ts c.at)).precedence m ≡ false →
      atom text ts (expression text ts levels) (start_of (kind_at ts c.at)) c t ≡ o → then o rest ≡ o → expression text ts (suc levels) m c t ≡ o
  unfolding expression level
  by_atom o no-prefix is stays = ap (λ (p : Out). then p rest) (prefix_off text ts (expression text ts levels) c t m no-prefix ∙ is) ∙ stays

  by_number : kind_at ts c.at ≡ kind.number → expression text ts (suc levels) m c t ≡ single_token ts text c t
  unfolding prefix_of among binds start_of atom
  by_number is =
      by_atom (numeral (number_of (spelled text ts c.at)) c t) (rw is refl) (atom_by text ts _ c t {b = start.Number} (ap start_of is)) (number_alone _)
      ∙ sym (single_number ts text c t is)

  by_string : kind_at ts c.at ≡ kind.string → expression text ts (suc levels) m c t ≡ single_token ts text c t
  unfolding prefix_of among binds start_of atom
  by_string is =
      by_atom (push_leaf (label row.string c.at 0) c t) (rw is refl) (atom_by text ts _ c t {b = start.Text} (ap start_of is)) (leaf_alone _)
      ∙ sym (single_string ts text c t is)

  by_name : kind_at ts c.at ≡ kind.ident → expression text ts (suc levels) m c t ≡ single_token ts text c t
  unfolding prefix_of among binds start_of atom
  by_name is =
      by_atom (push_leaf (label row.column c.at 0) c t) (rw is refl)
      (atom_by text ts _ c t {b = start.Name} (ap start_of is)
      ∙ named_column text ts _ c t (eqb-false _ _ none.0.0)
      ∙ column_plain ts c t (eqb-false _ _ none.0.1))
      (leaf_alone _)
      ∙ sym (single_name ts text c t (λ e. omega (arith, is, e)) (λ e. omega (arith, is, e)))

  by_kind : starts_leaf (kind_at ts c.at) ≡ true → expression text ts (suc levels) m c t ≡ single_token ts text c t
  unfolding starts_leaf
  by_kind starts = by (eqb (kind_at ts c.at) kind.number) (eqb (kind_at ts c.at) kind.string) refl refl starts
    where
      by : (p q : Bool) → eqb (kind_at ts c.at) kind.number ≡ p → eqb (kind_at ts c.at) kind.string ≡ q →
          (p || (q || eqb (kind_at ts c.at) kind.ident)) ≡ true → expression text ts (suc levels) m c t ≡ single_token ts text c t
      by true q is e f = by_number (eqb-true _ _ is)
      by false true e is f = by_string (eqb-true _ _ is)
      by false false e d f = by_name (eqb-true _ _ f)

-- where the operand is one token alone, the expression is what that token is read as
pub single_token_expression : (text ts : List ℕ) (levels m : ℕ) (c : Cursor) (t : List ℕ) → single_token_operand ts levels m c.at ≡ true →
    expression text ts levels m c t ≡ single_token ts text c t
unfolding single_token_operand
single_token_expression text ts levels m c t single =
    let level = both (ltb 0 levels) (starts_leaf (kind_at ts c.at) && not (may_follow_operand (kind_at ts (c.at + 1)) m)) single in
    let token = both (starts_leaf (kind_at ts c.at)) (not (may_follow_operand (kind_at ts (c.at + 1)) m)) level.1 in
    ap (λ (n : ℕ). expression text ts n m c t) (sym (one_less levels (ltb-true 0 levels level.0)))
    ∙ by_kind text ts (levels - 1) m c t (not-true (may_follow_operand (kind_at ts (c.at + 1)) m) token.1) token.0

-- and such an operand stands within the tokens
pub single_in_tokens : (ts : List ℕ) (levels m at : ℕ) → single_token_operand ts levels m at ≡ true → at < token_count ts
unfolding single_token_operand starts_leaf
single_in_tokens ts levels m at single =
    let level = both (ltb 0 levels) (starts_leaf (kind_at ts at) && not (may_follow_operand (kind_at ts (at + 1)) m)) single in
    let token = both (starts_leaf (kind_at ts at)) (not (may_follow_operand (kind_at ts (at + 1)) m)) level.1 in
    kind_in ts at λ z. let bad : starts_leaf 0 ≡ true = rw z at token.0 in
    let no_way : ◌≡◌ {A = ℕ} 0 1 = cc in
    omega arith
