-- `count_clauses` meets its contract: an atom's list has one clause of one literal, and of two rows' lists the right one is counted first, and then
-- the left one's spine. `count_left_spine` meets its own by its invariant. What the check finds by `count_steps` is not written out.
use Rattle.std.proofs.Common.{rules}
use Rattle.cnf.proofs.Sources.{left_falls}
use Rattle.cnf.proofs.Counting.{size_of_atom, size_of_joined, sized_row, spine_done, spine_turns}
use Rattle.cnf.proofs.+count_clauses_count_left_spine.Goals as goal

pub count_clauses-returns-in-Atom : goal.count_clauses-returns-in-Atom
count_clauses-returns-in-Atom t c = size_of_atom c.args.at c.requires c.past_nots.ensures c.in-Atom.is

pub count_clauses-returns-in-Joined : goal.count_clauses-returns-in-Joined
count_clauses-returns-in-Joined t c =
    size_of_joined c.args.at c.requires c.past_nots.ensures c.in-Joined.is
    (c.count_left_spine.ensures _ (sized_row _ _ c.count_clauses-last.ensures))

pub count_left_spine-loop-left-smaller : goal.count_left_spine-loop-left-smaller
count_left_spine-loop-left-smaller t c =
    let loop = c.loop-left in
    left_falls loop.at loop.invariant.sound c.past_nots.ensures c.in-Joined.is

pub count_left_spine-loop-left-preserved : goal.count_left_spine-loop-left-preserved
count_left_spine-loop-left-preserved t c =
    spine_turns c.loop-left.invariant c.past_nots.ensures c.in-Joined.is (search rules) c.count_clauses-same.ensures c.join_sizes-size.ensures

pub count_left_spine-returns-in-Atom : goal.count_left_spine-returns-in-Atom
count_left_spine-returns-in-Atom t c =
    let loop = c.loop-left in
    spine_done loop.invariant (size_of_atom loop.at loop.invariant.sound c.past_nots.ensures c.in-Atom.is) c.join_sizes.ensures

pub count_left_spine-returns-in-Joined-2 : goal.count_left_spine-returns-in-Joined-2
count_left_spine-returns-in-Joined-2 t c = spine_done c.loop-left.invariant c.count_clauses-other.ensures c.join_sizes-in-Joined-2.ensures
