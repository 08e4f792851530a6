-- `fontrisc_value` meets its contract: it hands out the answer of `value_at`, a value as a constant.
-- Assumes nothing.
use Rattle.std.proofs.Common.{sym, ap, ◌∙◌, ◌∷◌}
use Rattle.values.specs.Value.{constant_numbers}
use Rattle.values.specs.declared.Constant.{Constant}
use Rattle.lookup.specs.Answer.{found_numbers}
use Rattle.fontrisc.proofs.fontrisc_value.Goals as goal

pub returns-in-Ok : goal.returns-in-Ok
unfolding found_numbers
returns-in-Ok c =
    let constant = ap (λ (k : Constant). 0 ∷ constant_numbers k) c.from-constant.ensures in
    record { answer = c.value_at.result; finds = c.value_at.ensures; numbers = constant ∙ sym (ap found_numbers c.in-Ok.is) }

pub returns-in-Err : goal.returns-in-Err
unfolding found_numbers
returns-in-Err c =
    let of-refused = sym (ap found_numbers c.in-Err.is) in
    record { answer = c.value_at.result; finds = c.value_at.ensures; numbers = rw c.hand_out.ensures.0 (rw c.hand_out.ensures.1 of-refused) }
