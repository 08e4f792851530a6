-- `prepend_clauses` meets its contract: an atom is put before all chains, and of two rows the right one's clauses by a call, the left one's in the next turn.
use Rattle.std.proofs.Common.{ℕ, arith}
use Rattle.listing.proofs.PrependLoop.{KeptFor, kept_none, kept_all, left_crosswise, left_kept, atom_low, atom_asks, atom_done}
use Rattle.listing.proofs.PrependLoop.{left_falls, keep_asks, right_asks, restore_asks, goes_left}
use Rattle.listing.proofs.+prepend_clauses.Goals.{Joined-crosswise, then-crosswise, else-crosswise}
use Rattle.listing.proofs.+prepend_clauses.Goals as goal

pub literal_number-requires : goal.literal_number-requires
literal_number-requires t c = atom_low c.requires.1 c.loop-atom.invariant c.past_nots.ensures c.in-Atom.is

pub prepend-requires : goal.prepend-requires
prepend-requires t c = atom_asks c.requires.1 c.loop-atom.invariant c.past_nots.ensures c.in-Atom.is

pub returns-in-Atom : goal.returns-in-Atom
returns-in-Atom t c =
    atom_done c.requires.1 c.loop-atom.invariant c.past_nots.ensures c.in-Atom.is c.literal_number.ensures c.prepend.ensures

-- how many heads are kept
kept_at : {t : ℕ} (c : Joined-crosswise t) → KeptFor c.in-Joined.crosswise c.loop-atom.run.each c.if-crosswise.kept
kept_at c = elim c.if-crosswise.branch [
  | then-crosswise w ↦ kept_none c.loop-atom.run.each w.if-crosswise.true w.kept-is
  | else-crosswise w ↦ kept_all c.loop-atom.run.each w.if-crosswise.false w.kept-is
]

pub copy_heads-requires : goal.copy_heads-requires
copy_heads-requires t c =
    let w = kept_at (goal.at.copy_heads-requires t c).Joined-crosswise in
    keep_asks c.requires.1 c.loop-atom.invariant c.past_nots.ensures c.in-Joined.is _ w

pub prepend_clauses-right_first-requires : goal.prepend_clauses-right_first-requires
prepend_clauses-right_first-requires t c =
    let w = kept_at (goal.at.prepend_clauses-right_first-requires t c).Joined-crosswise in
    let z = right_asks c.requires.1 c.loop-atom.invariant c.past_nots.ensures c.in-Joined.is _ w c.copy_heads.ensures in
    (omega (arith, c.decreases, z.0), z.1)

pub overflow_sub-first : goal.overflow_sub-first
overflow_sub-first t c =
    let w = kept_at (goal.at.overflow_sub-first t c).Joined-crosswise in
    (restore_asks c.requires.1 c.loop-atom.invariant c.past_nots.ensures c.in-Joined.is _ w c.copy_heads.ensures
    c.prepend_clauses-right_first.ensures).0

pub copy_heads-requires-in-Joined : goal.copy_heads-requires-in-Joined
copy_heads-requires-in-Joined t c =
    let w = kept_at (goal.at.copy_heads-requires-in-Joined t c).Joined-crosswise in
    let z = restore_asks c.requires.1 c.loop-atom.invariant c.past_nots.ensures c.in-Joined.is _ w c.copy_heads.ensures
    c.prepend_clauses-right_first.ensures in
    (z.1, z.2)

pub loop-atom-smaller-then-crosswise-2 : goal.loop-atom-smaller-then-crosswise-2
loop-atom-smaller-then-crosswise-2 t c = left_falls c.requires.1 c.loop-atom.invariant c.past_nots.ensures c.in-Joined.is

pub loop-atom-preserved-then-crosswise-2 : goal.loop-atom-preserved-then-crosswise-2
loop-atom-preserved-then-crosswise-2 t c =
    let w = kept_at (goal.at.loop-atom-preserved-then-crosswise-2 t c).Joined-crosswise in
    goes_left c.requires.1 c.loop-atom.invariant c.past_nots.ensures c.in-Joined.is _ w c.copy_heads.ensures
    c.prepend_clauses-right_first.ensures c.copy_heads-in-Joined.ensures (left_crosswise _ _ _ c.if-crosswise-2.true)

pub loop-atom-smaller : goal.loop-atom-smaller
loop-atom-smaller t c = left_falls c.requires.1 c.loop-atom.invariant c.past_nots.ensures c.in-Joined.is

pub loop-atom-preserved : goal.loop-atom-preserved
loop-atom-preserved t c =
    let w = kept_at (goal.at.loop-atom-preserved t c).Joined-crosswise in
    goes_left c.requires.1 c.loop-atom.invariant c.past_nots.ensures c.in-Joined.is _ w c.copy_heads.ensures
    c.prepend_clauses-right_first.ensures c.copy_heads-in-Joined.ensures (left_kept _ _ _ c.if-crosswise-2.false)
