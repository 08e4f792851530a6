-- `fontrisc_split` meets its contract: it hands out the answer of `split`.
-- Assumes nothing.
use Rattle.std.proofs.Common.{sym, ap}
use Rattle.splitter.specs.Split.{split_numbers}
use Rattle.fontrisc.proofs.fontrisc_split.Goals as goal

pub returns-in-Ok : goal.returns-in-Ok
unfolding split_numbers
returns-in-Ok c = record { answer = c.split.result; splits = c.split.ensures; numbers = sym (ap split_numbers c.in-Ok.is) }

pub returns-in-Err : goal.returns-in-Err
unfolding split_numbers
returns-in-Err c =
    let of-refused = sym (ap split_numbers c.in-Err.is) in
    record { answer = c.split.result; splits = c.split.ensures; numbers = rw c.hand_out.ensures.0 (rw c.hand_out.ensures.1 of-refused) }
