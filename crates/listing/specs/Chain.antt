-- Clauses as chains of cells, as listing makes them. A cell has a literal and the number of the cell after it; cell 0 is none, and the number in it is that
-- of the next free cell. No entry's promise names this file.
use Rattle.std.specs.Prelude.{ℕ, zero, suc, ◌+◌, ◌<◌, ◌≤◌, ◌≡◌, List, [], ◌∷◌, map, length, get_or}
use Rattle.std.proofs.lemmas.List.Edits.{sets}
use Rattle.limits.specs.Limits.{literals_max}
use Rattle.cnf.specs.Clause.{Literal, literal_number}
use Rattle.listing.specs.declared.Cell.{Cell}

-- the most cells of a table: one for each literal, and cell 0
abbrev pub cells_max : ℕ
cells_max = literals_max + 1

-- a cell with the literal x, before cell `next`
abbrev pub cell : ℕ → ℕ → Cell
cell x next = record { literal = x; next = next }

-- cell h
abbrev pub cell_at : List Cell → ℕ → Cell
cell_at u h = get_or u h (cell 0 0)

-- the chain from cell h on, at most so long
unfoldable pub chain_to : List Cell → ℕ → ℕ → List ℕ
chain_to u zero h = []
chain_to u (suc long) zero = []
chain_to u (suc long) (suc h) = (cell_at u (suc h)).literal ∷ chain_to u long (cell_at u (suc h)).next

-- the chain from cell h on: where each cell comes after its next one, it is at most h long
unfoldable pub chain_of : List Cell → ℕ → List ℕ
chain_of u h = chain_to u h h

-- the next free cell
abbrev pub free_of : List Cell → ℕ
free_of u = (cell_at u 0).next

-- the cells below n are made
pub record CellsMade (u : List Cell) (n : ℕ) : Type 0 where
  pub some : 0 < n
  pub long : length u ≤ cells_max
  pub falls : (h : ℕ) → 0 < h → h < n → (cell_at u h).next < h

-- the heads of so many chains stand from place `first` on
pub record HeadsAt (d : List ℕ) (n first each : ℕ) : Type 0 where
  pub within : first + each ≤ length d
  pub below : (i : ℕ) → i < each → get_or d (first + i) 0 < n

-- and they are those of the clauses ps
pub record ChainsSpell (u : List Cell) (d : List ℕ) (first : ℕ) (ps : List (List Literal)) : Type 0 where
  pub chain : (i : ℕ) → i < length ps → chain_of u (get_or d (first + i) 0) ≡ map literal_number (get_or ps i [])

-- the chain from cell h on can be followed
pub record Followable (u : List Cell) (h : ℕ) : Type 0 where
  pub there : h < length u
  pub falls : (k : ℕ) → 0 < k → k ≤ h → (cell_at u k).next < k

-- numbers were written from place `at` up to place e
pub record Wrote (a b : List ℕ) (at e : ℕ) (c : List ℕ) : Type 0 where
  pub wrote : b ≡ sets a at c
  pub next : e ≡ at + length c
