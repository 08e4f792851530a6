-- The ten readers that call each other meet their contracts, where the check does not find it alone: each by its tests and by what it calls.
use Rattle.std.proofs.Common.{ℕ, ◌≡◌, ◌+◌, ◌≤◌, ◌<◌, List, refl, sym, ap, ◌∙◌, arith}
use Rattle.std.specs.Prelude.{Result, Ok}
use Rattle.tokens.specs.Kind as kind
use Rattle.tokens.specs.Token.{token_count}
use Rattle.refusals.specs.declared.Refused.{Refused}
use Rattle.grammar.specs.Atom.{start_of}
use Rattle.grammar.specs.Memory as M
use Rattle.grammar.specs.Memory.{Gives}
use Rattle.grammar.specs.declared.Cursor.{Cursor}
use Rattle.grammar.proofs.Answers.{after_read, gives_same}
use Rattle.grammar.proofs.Loops.{Moves, begins, turns, while_on}
use Rattle.grammar.proofs.RuleCases.{arguments_on}
use Rattle.grammar.proofs.InTokens.{kind_is, start_in, infix_in, prefix_in}
use Rattle.grammar.proofs.Reached.{came}
use Rattle.grammar.proofs.CursorAdvances.{need_advances, argument_advances, expression_advances}
use Rattle.grammar.proofs.CursorAdvances.{operand_advances, postfixes_advances, infixes_advances, infixed_advances}
use Rattle.grammar.proofs.RowWritten.{operand_writes, postfixes_writes, infixes_writes, infixed_writes, expression_writes}
use Rattle.reader.proofs.SingleToken.{single_token_expression, single_in_tokens}
use Rattle.reader.proofs.+reading.Goals as goal

-- ---- an argument

pub argument-expression-requires-2 : goal.argument-expression-requires-2
argument-expression-requires-2 t c =
    (omega arith, (came c.in_ok-d.was (c.need.ensures c.args.rows.now) (need_advances _ _ (omega arith) _ _ _)).within)

-- ---- the arguments of a function

pub arguments-loop-rows-smaller : goal.arguments-loop-rows-smaller
arguments-loop-rows-smaller t c =
    let m : Moves c.args.tokens.now (c.loop-rows.c.at + 1) c.in_ok-c.c =
    came c.in_ok-c.was c.argument.ensures (argument_advances _ _ _ (expression_advances _ _ _) _ _ _ c.loop-rows.invariant.0.within) in
    omega (arith, m.least, m.within)

pub arguments-loop-rows-preserved : goal.arguments-loop-rows-preserved
arguments-loop-rows-preserved t c =
    let m : Moves c.args.tokens.now (c.loop-rows.c.at + 1) c.in_ok-c.c =
    came c.in_ok-c.was c.argument.ensures (argument_advances _ _ _ (expression_advances _ _ _) _ _ _ c.loop-rows.invariant.0.within) in (
      turns c.loop-rows.invariant.0 c.argument.auto.rows m
          (arguments_on _ _ _ _ _ _ _ _ (λ e. c.loop-rows-test.true (c.kind_at.ensures ∙ e))
          ∙ after_read _ c.in_ok-c.was c.argument.ensures),
      omega (arith, m.least, c.loop-rows.invariant.1),
    )

-- ---- an atom: what starts one is a token

pub atom-numeral-requires : goal.atom-numeral-requires
atom-numeral-requires t c = start_in _ _ _ (sym (c.start_of.ensures ∙ ap start_of c.kind_at.ensures) ∙ c.in-Number.is) refl

pub atom-named-requires : goal.atom-named-requires
atom-named-requires t c =
    (omega arith, start_in _ _ _ (sym (c.start_of.ensures ∙ ap start_of c.kind_at.ensures) ∙ c.in-Name.is) refl)

pub atom-group-requires : goal.atom-group-requires
atom-group-requires t c =
    (omega arith, start_in _ _ _ (sym (c.start_of.ensures ∙ ap start_of c.kind_at.ensures) ∙ c.in-Paren.is) refl)

-- ---- an expression: each step goes on from where the one before came to, within the tokens and with a row written

-- a cursor within the tokens, with a row written
abbrev Stands : List ℕ → Cursor → Type 0
Stands ts c = (c.at ≤ token_count ts) × (0 < c.rows)

-- after each of its steps the cursor stands so
module _ (ts t : List ℕ) (m : ℕ) (c : Cursor) {u : List ℕ} {d : Cursor} {r : Result Cursor Refused} where
  after-operand : (text : List ℕ) (rest : ℕ) → r ≡ Ok d → Gives (M.operand text ts (M.expression text ts rest) m c t) r u → c.at ≤ token_count ts →
      Stands ts d
  after-operand text rest read gives inside = (
    (came read gives (operand_advances _ _ _ (expression_advances _ _ _) _ _ _ inside)).within,
    came read gives (operand_writes _ _ _ (expression_writes _ _ _) _ _ _),
  )

  after-postfixes : r ≡ Ok d → Gives (M.postfixes ts m c t) r u → Stands ts c → Stands ts d
  after-postfixes read gives stands =
      ((came read gives (postfixes_advances _ _ _ _ stands.0)).within, came read gives (postfixes_writes _ _ _ _ stands.1))

  after-infixes : (text : List ℕ) (rest : ℕ) → r ≡ Ok d → Gives (M.infixes text ts (M.expression text ts rest) m c t) r u → Stands ts c → Stands ts d
  after-infixes text rest read gives stands = (
    (came read gives (infixes_advances _ _ _ (expression_advances _ _ _) _ _ _ stands.0)).within,
    came read gives (infixes_writes _ _ _ (expression_writes _ _ _) _ _ _ stands.1),
  )

pub expression-any_postfixes-requires : goal.expression-any_postfixes-requires
expression-any_postfixes-requires t c = after-operand _ _ _ _ _ _ c.in_ok-after_operand.was c.operand.ensures c.requires

pub expression-infixes-requires : goal.expression-infixes-requires
expression-infixes-requires t c = (
  omega arith,
  after-postfixes _ _ _ _ c.in_ok-after_postfixes.was c.any_postfixes.ensures
      (after-operand _ _ _ _ _ _ c.in_ok-after_operand.was c.operand.ensures c.requires),
)

pub expression-postfixes-requires : goal.expression-postfixes-requires
expression-postfixes-requires t c =
    after-infixes _ _ _ _ _ _ c.in_ok-after_infixes.was c.infixes.ensures
    (after-postfixes _ _ _ _ c.in_ok-after_postfixes.was c.any_postfixes.ensures
    (after-operand _ _ _ _ _ _ c.in_ok-after_operand.was c.operand.ensures c.requires))

-- ---- an infix operator with its right side

pub infixed-overflow_sub-right : goal.infixed-overflow_sub-right
infixed-overflow_sub-right t c = omega (arith, came c.in_ok-end.was c.right_side.ensures (expression_writes _ _ _ _ _ _))

-- ---- infix operators with their right sides

pub infixes-loop-rows-init : goal.infixes-loop-rows-init
unfolding M.infixes
infixes-loop-rows-init t c = (begins _ _ _ _ c.requires.0, c.requires.1)

pub infixes-infixed-requires : goal.infixes-infixed-requires
infixes-infixed-requires t c = (omega arith, (infix_in _ _ _ (sym c.infix_at.ensures ∙ c.loop-rows-test.true), c.loop-rows.invariant.1))

pub infixes-loop-rows-smaller : goal.infixes-loop-rows-smaller
infixes-loop-rows-smaller t c =
    let m : Moves c.args.tokens.now (c.loop-rows.c.at + 1) c.in_ok-c.c =
    came c.in_ok-c.was c.infixed.ensures
    (infixed_advances _ _ _ (expression_advances _ _ _) _ _ (infix_in _ _ _ (sym c.infix_at.ensures ∙ c.loop-rows-test.true))) in
    omega (arith, m.least, m.within)

pub infixes-loop-rows-preserved : goal.infixes-loop-rows-preserved
infixes-loop-rows-preserved t c =
    let is = sym c.infix_at.ensures ∙ c.loop-rows-test.true in (
      turns c.loop-rows.invariant.0 c.infixed.auto.rows
          (came c.in_ok-c.was c.infixed.ensures (infixed_advances _ _ _ (expression_advances _ _ _) _ _ (infix_in _ _ _ is)))
          (while_on _ _ _ _ _ is ∙ after_read _ c.in_ok-c.was c.infixed.ensures),
      came c.in_ok-c.was c.infixed.ensures (infixed_writes _ _ _ (expression_writes _ _ _) _ _),
    )

-- ---- a name

pub named-arguments-requires : goal.named-arguments-requires
named-arguments-requires t c = (
  omega arith,
  rw c.past.ensures (omega (arith, kind_is _ _ kind.open_paren (omega arith) (sym c.kind_at.ensures ∙ c.if-kind_at-ne-OPEN_PAREN.false))),
)

-- ---- an operand

pub operand-expression-requires : goal.operand-expression-requires
operand-expression-requires t c = (
  omega arith,
  rw c.past.ensures
      (omega (arith, prefix_in _ _ _ (rw (c.prefix_precedence-precedence.ensures, c.kind_at-k.ensures) at (sym c.binds.ensures ∙ c.if-not-binds.false)))),
)

pub operand-push_over_last-requires : goal.operand-push_over_last-requires
operand-push_over_last-requires t c = came c.in_ok-d.was c.expression.ensures (expression_writes _ _ _ _ _ _)

-- ---- a right side: an operand of one token by the shortcut's law

pub right_side-single_token-requires : goal.right_side-single_token-requires
right_side-single_token-requires t c = single_in_tokens _ _ _ _ (sym c.single_token_operand.ensures ∙ c.if-single_token_operand.true)

pub right_side-returns-then-single_token_operand : goal.right_side-returns-then-single_token_operand
right_side-returns-then-single_token_operand t c =
    gives_same
    (sym (single_token_expression _ _ _ _ _ _ (sym c.single_token_operand.ensures ∙ c.if-single_token_operand.true))) c.single_token.ensures
