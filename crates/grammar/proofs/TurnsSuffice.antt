-- The turns that each loop of the rules is given are always enough, so that each may be read with no count of turns:
--   postfixes_loop, infixes_loop, arguments_loop: a turn of the loop, and then the same loop again;
--   postfixes_end, infixes_end: it ends only where there is no operator left to take.
-- Assumes nothing.
use mathlib.Core.Path.{◌≡◌, refl, sym, ◌∙◌}
use mathlib.Core.Bool.{Bool, true, false}
use mathlib.Core.List.{List}
use Prim.Native.Nat.{ℕ, zero, suc, ◌+◌, ◌≤◌, ◌<◌}
use native.Mathlib.Omega.{arith}
use lib.Dec.{eqb}
use Rattle.tokens.specs.Kind as kind
use Rattle.tokens.specs.Token.{token_count, kind_at}
use Rattle.operators.specs.Operator.{binds, infix_of, postfix_of}
use Rattle.rows.specs.Label.{label}
use Rattle.syntax.specs.Kind as row
use Rattle.syntax.specs.Tree.{Tree, call, Trees, more}
use Rattle.grammar.specs.Rules.{Reading, done, refuse, ◌>>=◌, Reader, while, due}
use Rattle.grammar.specs.Rules.{postfix, postfixes, argument, arguments, infixed, infixes, expression}
use Rattle.grammar.proofs.InTokens.{infix_in, postfix_in}
use Rattle.grammar.proofs.Readings.{by_cases, Holds, Any, told_of, after, either}
use Rattle.grammar.proofs.ReadingAdvances.{State, having, Goes, advances, postfix_goes, argument_goes, infixed_goes, expression_goes}

-- what follows a reading that advances may be taken with other turns
bind_same : {ts : List ℕ} {cap g : ℕ} {s : State} (k l : ℕ × ℕ × Tree → Reading) (r : Reading) → Goes ts cap g s r →
    ((at used : ℕ) (x : Tree) → s.at + g ≤ at → k (at, used, x) ≡ l (at, used, x)) → r >>= k ≡ r >>= l
unfolding ◌>>=◌
bind_same {ts} {cap} k l (done at used x) h e = e at used x (advances ts cap h.told)
bind_same k l (refuse why p) h e = refl

-- at the end of the tokens a reading that reads a token is refused: what follows does not matter
bind_ended : {ts : List ℕ} {cap : ℕ} {s : State} (k l : ℕ × ℕ × Tree → Reading) (r : Reading) → Goes ts cap 1 s r → token_count ts ≤ s.at → r >>= k ≡ r >>= l
unfolding ◌>>=◌
bind_ended {ts} {cap} k l (done at used x) h le = absurd (omega (arith, advances ts cap h.told, h.told.inside))
bind_ended k l (refuse why p) h le = refl

-- loops over ts, of steps that advance, that turn only where there is a token
module _ (ts : List ℕ) (cap : ℕ) (more? : ℕ → Bool) (step : ℕ → ℕ → Tree → Reading)
    (goes : (at used : ℕ) (x : Tree) → more? at ≡ true → Goes ts cap 1 (having at used x) (step at used x))
    (inside : (at : ℕ) → more? at ≡ true → at < token_count ts) where
  turn : (f at used : ℕ) (x : Tree) → more? at ≡ true →
      while more? step (suc f) at used x ≡ (step at used x >>= λ (at, used, x). while more? step f at used x)
  unfolding while
  turn f at used x e = rw (e, while)

  end : (f at used : ℕ) (x : Tree) → more? at ≡ false → while more? step (suc f) at used x ≡ done at used x
  unfolding while
  end f at used x e = rw (e, while)

  enough : (f g at used : ℕ) (x : Tree) → token_count ts ≤ f + at → token_count ts ≤ g + at →
      while more? step (suc f) at used x ≡ while more? step (suc g) at used x
  enough zero g at used x ef eg =
      by_cases (more? at) (λ e. absurd (omega (arith, inside at e))) (λ e. end zero at used x e ∙ sym (end g at used x e))
  enough (suc f) zero at used x ef eg =
      by_cases (more? at) (λ e. absurd (omega (arith, inside at e))) (λ e. end (suc f) at used x e ∙ sym (end zero at used x e))
  enough (suc f) (suc g) at used x ef eg =
      by_cases (more? at)
      (λ e. turn (suc f) at used x e
      ∙ bind_same _ _ (step at used x) (goes at used x e) (λ at₁ used₁ x₁ le. enough f g at₁ used₁ x₁ (omega arith) (omega arith))
      ∙ sym (turn (suc g) at used x e))
      (λ e. end (suc f) at used x e ∙ sym (end (suc g) at used x e))

  -- a turn, and then the same loop again
  loop : (at used : ℕ) (x : Tree) →
      while more? step (suc (token_count ts)) at used x ≡
      elim (more? at) [ false ↦ done at used x | true ↦ (step at used x >>= λ (at, used, x). while more? step (suc (token_count ts)) at used x) ]
  unfolding while
  loop at used x = enough (token_count ts) (suc (token_count ts)) at used x (omega arith) (omega arith)

  -- it ends only where there is no more to do
  ended : (f at used : ℕ) (x : Tree) → token_count ts ≤ f + at → Holds (λ at used x. more? at ≡ false) Any (while more? step (suc f) at used x)
  unfolding while
  ended zero at used x ef = either (more? at) (λ e. absurd (omega (arith, inside at e))) (λ e. record { told = e })
  ended (suc f) at used x ef =
      either (more? at)
      (λ e. after _ (goes at used x e) (λ why p h. tt) (λ at₁ used₁ x₁ o. ended f at₁ used₁ x₁ (omega (arith, advances ts cap o))))
      (λ e. record { told = e })

module _ (text ts : List ℕ) (cap : ℕ) where
  pub postfixes_loop : (m at used : ℕ) (x : Tree) →
      postfixes text ts cap m at used x ≡
      elim (binds (postfix_of (kind_at ts at)) m) [
        | false ↦ done at used x
        | true ↦ (postfix text ts cap at used x >>= λ (at, used, x). postfixes text ts cap m at used x)
      ]
  unfolding postfixes
  postfixes_loop m = loop ts cap _ _ (λ at used x e. postfix_goes text ts cap at used x (postfix_in ts at m e)) (λ at e. postfix_in ts at m e)

  pub postfixes_end : (m at used : ℕ) (x : Tree) {at' used' : ℕ} {x' : Tree} →
      postfixes text ts cap m at used x ≡ done at' used' x' → binds (postfix_of (kind_at ts at')) m ≡ false
  unfolding postfixes
  postfixes_end m at used x e =
      told_of e
      (ended ts cap _ _ (λ at used x e. postfix_goes text ts cap at used x (postfix_in ts at m e)) (λ at e. postfix_in ts at m e) (token_count ts) at used x
      (omega arith))

  -- an expression with so many levels left, whose rules these are
  module _ (levels : ℕ) where
    abbrev rec : Reader
    rec = expression text ts cap levels

    pub infixes_loop : (m at used : ℕ) (x : Tree) →
        infixes text ts cap rec m at used x ≡
        elim (binds (infix_of (kind_at ts at)).precedence m) [
          | false ↦ done at used x
          | true ↦ (infixed text ts cap rec at used x >>= λ (at, used, x). infixes text ts cap rec m at used x)
        ]
    unfolding infixes
    infixes_loop m = loop ts cap _ _ (infixed_goes text ts cap rec (expression_goes text ts cap levels) m) (λ at e. infix_in ts at m e)

    pub infixes_end : (m at used : ℕ) (x : Tree) {at' used' : ℕ} {x' : Tree} →
        infixes text ts cap rec m at used x ≡ done at' used' x' → binds (infix_of (kind_at ts at')).precedence m ≡ false
    unfolding infixes
    infixes_end m at used x e =
        told_of e
        (ended ts cap _ _ (infixed_goes text ts cap rec (expression_goes text ts cap levels) m) (λ at e. infix_in ts at m e) (token_count ts) at used x
        (omega arith))

    abbrev Arguments : ℕ → ℕ → ℕ → ℕ → Trees → Reading
    Arguments = arguments text ts cap rec

    module _ (f at used : ℕ) (xs : Trees) where
      arguments_end : (turns : ℕ) → eqb (kind_at ts at) kind.close_paren ≡ true →
          Arguments f (suc turns) at used xs ≡ due text ts cap (at + 1) used (call (label row.function f 0) xs)
      unfolding arguments
      arguments_end turns e = rw (e, arguments)

      arguments_turn : (turns : ℕ) → eqb (kind_at ts at) kind.close_paren ≡ false →
          Arguments f (suc turns) at used xs ≡ (argument text ts cap rec xs at used >>= λ (at, used, x). Arguments f turns at used (more xs x))
      unfolding arguments
      arguments_turn turns e = rw (e, arguments)

      -- where no token is left, turns do not matter
      arguments_ended : (turns others : ℕ) → token_count ts ≤ at → Arguments f (suc turns) at used xs ≡ Arguments f (suc others) at used xs
      arguments_ended turns others le =
          by_cases (eqb (kind_at ts at) kind.close_paren) (λ e. arguments_end turns e ∙ sym (arguments_end others e))
          (λ e. arguments_turn turns e
          ∙ bind_ended _ _ _ (argument_goes text ts cap rec (expression_goes text ts cap levels) xs at used) le
          ∙ sym (arguments_turn others e))

    arguments_enough : (f turns others at used : ℕ) (xs : Trees) → token_count ts ≤ turns + at → token_count ts ≤ others + at →
        Arguments f (suc turns) at used xs ≡ Arguments f (suc others) at used xs
    arguments_enough f zero others at used xs ef eg = arguments_ended f at used xs zero others (omega arith)
    arguments_enough f (suc turns) zero at used xs ef eg = arguments_ended f at used xs (suc turns) zero (omega arith)
    arguments_enough f (suc turns) (suc others) at used xs ef eg =
        by_cases (eqb (kind_at ts at) kind.close_paren) (λ e. arguments_end f at used xs (suc turns) e ∙ sym (arguments_end f at used xs (suc others) e))
        (λ e. arguments_turn f at used xs (suc turns) e
        ∙ bind_same _ _ _ (argument_goes text ts cap rec (expression_goes text ts cap levels) xs at used)
        (λ at₁ used₁ x le. arguments_enough f turns others at₁ used₁ (more xs x) (omega arith) (omega arith))
        ∙ sym (arguments_turn f at used xs (suc others) e))

    pub arguments_loop : (f at used : ℕ) (xs : Trees) →
        arguments text ts cap rec f (suc (token_count ts)) at used xs ≡
        elim (eqb (kind_at ts at) kind.close_paren) [
          | true ↦ due text ts cap (at + 1) used (call (label row.function f 0) xs)
          | false ↦ (argument text ts cap rec xs at used >>= λ (at, used, x). arguments text ts cap rec f (suc (token_count ts)) at used (more xs x))
        ]
    unfolding arguments
    arguments_loop f at used xs = arguments_enough f (token_count ts) (suc (token_count ts)) at used xs (omega arith) (omega arith)
