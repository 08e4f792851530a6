-- `fontrisc_lookup` meets its contract: it hands out the answer of `lookup`.
-- Assumes nothing.
use Rattle.std.proofs.Common.{sym, ap}
use Rattle.lookup.specs.Answer.{looked_up_numbers}
use Rattle.fontrisc.proofs.fontrisc_lookup.Goals as goal

pub returns-in-Ok : goal.returns-in-Ok
unfolding looked_up_numbers
returns-in-Ok c = record { answer = c.lookup.result; looks = c.lookup.ensures; numbers = sym (ap looked_up_numbers c.in-Ok.is) }

pub returns-in-Err : goal.returns-in-Err
unfolding looked_up_numbers
returns-in-Err c =
    let of-refused = sym (ap looked_up_numbers c.in-Err.is) in
    record { answer = c.lookup.result; looks = c.lookup.ensures; numbers = rw c.hand_out.ensures.0 (rw c.hand_out.ensures.1 of-refused) }
