-- Clauses put before chains, and written out: the room that it takes, and what is done. No entry's promise names this file.
use Rattle.std.specs.Prelude.{ℕ, ◌+◌, ◌*◌, ◌≤◌, ◌≡◌, List, ◌++◌, length, drop}
use Rattle.cnf.specs.Clause.{Literal, cross, total, literal_numbers, ends_from}
use Rattle.listing.specs.Chain.{cells_max, CellsMade, HeadsAt, ChainsSpell}
use Rattle.listing.specs.Heads.{UnchangedElsewhere}
use Rattle.listing.specs.declared.Cell.{Cell}

-- there is room to put the clauses cs before the chains whose heads stand from place `first` on
pub record RoomToPrepend (u : List Cell) (d : List ℕ) (spare first each n : ℕ) (cs : List (List Literal)) : Type 0 where
  pub cells : CellsMade u n
  pub heads : HeadsAt d n first each
  pub room : n + total cs * each ≤ length u
  pub space : spare + length cs * each ≤ first + each

-- what is left then: the next free cell, and the place of the first head
pub record Frontier : Type 0 where
  pub free : ℕ
  pub first : ℕ

abbrev pub frontier : ℕ → ℕ → Frontier
frontier free first = record { free = free; first = first }

-- each of the clauses cs was put before each of those chains; their heads end where those of the chains ended
pub record ClausesPrepended (cs : List (List Literal)) (u v : List Cell) (d e : List ℕ) (spare first each n : ℕ) (p : Frontier) : Type 0 where
  pub end : p.first + length cs * each ≡ first + each
  pub cells : CellsMade v p.free
  pub heads : HeadsAt e p.free p.first (length cs * each)
  pub used : p.free ≤ n + total cs * each
  pub elsewhere : UnchangedElsewhere u v d e spare (first + each) n p.free
  pub spells : (ps : List (List Literal)) → length ps ≡ each → ChainsSpell u d first ps → ChainsSpell v e p.first (cross cs ps)

-- there is room for the clauses in cells and in the lent lists
pub record RoomToWrite (u : List Cell) (a d : List ℕ) (cs : List (List Literal)) : Type 0 where
  pub cells : 1 + total cs ≤ length u
  pub long : length u ≤ cells_max
  pub literals : total cs ≤ length a
  pub ends : length cs ≤ length d

-- the clauses were written
pub record Written (cs : List (List Literal)) (a b d e : List ℕ) : Type 0 where
  pub literals : b ≡ literal_numbers cs ++ drop (total cs) a
  pub ends : e ≡ ends_from 0 cs ++ drop (length cs) d
