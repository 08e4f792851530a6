-- Heads of chains, as listing moves them about: a cell is put before each chain, and heads are copied. No entry's promise names this file.
use Rattle.std.specs.Prelude.{ℕ, ◌+◌, ◌<◌, ◌≤◌, ◌≡◌, List, length, get_or}
use Rattle.listing.specs.Chain.{cell, cell_at}
use Rattle.listing.specs.declared.Cell.{Cell}

-- from u to v the cells n up to m are new, and of cell 0 only `next` may have changed; from d to e only places from `spare` up to `end` have
pub record UnchangedElsewhere (u v : List Cell) (d e : List ℕ) (spare end n m : ℕ) : Type 0 where
  pub more : n ≤ m
  pub cells : length v ≡ length u
  pub heads : length e ≡ length d
  pub old : (i : ℕ) → 0 < i → i < n → cell_at v i ≡ cell_at u i
  pub unused : 0 < n → (cell_at v 0).literal ≡ (cell_at u 0).literal
  pub before : (i : ℕ) → i < spare → get_or e i 0 ≡ get_or d i 0
  pub after : (i : ℕ) → end ≤ i → get_or e i 0 ≡ get_or d i 0

-- a cell with the literal x was put before each chain
pub record Prepended (x : ℕ) (u v : List Cell) (d e : List ℕ) (first each n m : ℕ) : Type 0 where
  pub used : m ≡ n + each
  pub elsewhere : UnchangedElsewhere u v d e first (first + each) n m
  pub heads : (i : ℕ) → i < each → get_or e (first + i) 0 ≡ n + i
  pub here : (i : ℕ) → i < each → cell_at v (n + i) ≡ cell x (get_or d (first + i) 0)

-- so many heads were copied from place `from` on to place `to` on
pub record Copied (d e : List ℕ) (from to each : ℕ) : Type 0 where
  pub long : length e ≡ length d
  pub copy : (i : ℕ) → i < each → get_or e (to + i) 0 ≡ get_or d (from + i) 0
  pub before : (i : ℕ) → i < to → get_or e i 0 ≡ get_or d i 0
  pub after : (i : ℕ) → to + each ≤ i → get_or e i 0 ≡ get_or d i 0
