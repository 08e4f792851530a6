-- `fontrisc_parse` meets its contract: it hands out the answer of `parse`.
-- Assumes nothing.
use Rattle.std.proofs.Common.{sym, ap}
use Rattle.parser.specs.Promise.{parse_numbers}
use Rattle.fontrisc.proofs.fontrisc_parse.Goals as goal

pub returns-in-Ok : goal.returns-in-Ok
unfolding parse_numbers
returns-in-Ok c = record { answer = c.parse.result; parses = c.parse.ensures; numbers = sym (ap parse_numbers c.in-Ok.is) }

pub returns-in-Err : goal.returns-in-Err
unfolding parse_numbers
returns-in-Err c =
    let of-refused = sym (ap parse_numbers c.in-Err.is) in
    record { answer = c.parse.result; parses = c.parse.ensures; numbers = rw c.hand_out.ensures.0 (rw c.hand_out.ensures.1 of-refused) }
