-- `numbers::digits` meets its contract: each turn passes one digit, and the run ends at a byte that is none, past the largest Integer, or with the spelling.
use Rattle.std.proofs.Common.{sym, subst, ◌∙◌, arith}
use Rattle.numbers.proofs.Spelling.{Running, digit_in, run_begins, turn_on, turn_off, run_out, run_past}
use Rattle.numbers.proofs.digits.Goals as goal
use Rattle.numbers.proofs.digits.Goals.{in_default, in-len1-up+then-not-digit}

pub loop-rest-init : goal.loop-rest-init
loop-rest-init c = run_begins _

pub grown-requires : goal.grown-requires
grown-requires c = digit_in _ (sym c.digit.ensures ∙ c.if-not-digit.false)

pub returns-in_default-grown-clause-value : goal.returns-in_default-grown-clause-value
returns-in_default-grown-clause-value c =
    let on = turn_on _ _ _ c.in-len1-up.len_at_least (sym c.digit.ensures ∙ c.if-not-digit.false) c.loop-rest.invariant in
    (run_past (sym c.grown.ensures ∙ c.in_default-grown.is) on).0

pub returns-in_default-grown-clause-rest : goal.returns-in_default-grown-clause-rest
returns-in_default-grown-clause-rest c =
    let on = turn_on _ _ _ c.in-len1-up.len_at_least (sym c.digit.ensures ∙ c.if-not-digit.false) c.loop-rest.invariant in
    c.past_digits.ensures ∙ (run_past (sym c.grown.ensures ∙ c.in_default-grown.is) on).1

pub loop-rest-preserved : goal.loop-rest-preserved
loop-rest-preserved c =
    subst (Running _ _) (sym c.grown.ensures ∙ c.in-Some.is)
    (turn_on _ _ _ c.in-len1-up.len_at_least (sym c.digit.ensures ∙ c.if-not-digit.false) c.loop-rest.invariant)

pub returns-clause-value : goal.returns-clause-value
returns-clause-value c =
    elim c.if-rest-lt1.branch [
      | in_default w ↦ (run_out _ _ _ (omega arith) c.loop-rest.invariant).0
      | in-len1-up+then-not-digit w ↦
          (turn_off _ _ _ w.in-len1-up.len_at_least (sym w.digit.ensures ∙ w.if-not-digit.true) c.loop-rest.invariant).0
    ]

pub returns-clause-rest : goal.returns-clause-rest
returns-clause-rest c =
    elim c.if-rest-lt1.branch [
      | in_default w ↦ (run_out _ _ _ (omega arith) c.loop-rest.invariant).1
      | in-len1-up+then-not-digit w ↦
          (turn_off _ _ _ w.in-len1-up.len_at_least (sym w.digit.ensures ∙ w.if-not-digit.true) c.loop-rest.invariant).1
    ]
