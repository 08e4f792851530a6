-- The words that `nth` passed over leave the line as it is, and the last call says what stands before the next.
use Rattle.std.proofs.Common.{length, ◌∙◌, ap, arith, length-append}
use Rattle.std.proofs.lemmas.List.{length-take-le}
use Rattle.lines.proofs.Places.{line_stays}
use Rattle.lines.proofs.scan.Words.before.Goals as goal

pub returns-in-Some : goal.returns-in-Some
returns-in-Some c =
    let ran = c.in-Some.ensures.ran in
    let step = ran.1.2 in
    let word = c.in-Some.word in
    let within = c.nth.new.self.within in
    let both = ap length step.1.1 ∙ length-take-le _ _ (omega (arith, within, ap length step.0)) in
    omega (arith, within, length-append word.before.now word.bytes.now, both, ap length (step.0 ∙ line_stays _ _ _ ran.1.1))

pub returns-in-None : goal.returns-in-None
returns-in-None c =
    let ran = c.in-None.ensures.ran in
    let within = c.nth.new.self.within in
    omega (arith, within, length-take-le _ _ within, ap length (ran.1.2.0 ∙ line_stays _ _ _ ran.1.1))
