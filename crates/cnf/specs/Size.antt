-- The size of a clause list, as counting has it: so many clauses and literals, or too many of either. No entry's promise names this file.
use Rattle.std.specs.Prelude.{Option, Some, None, ℕ, ◌+◌, ◌*◌, ◌≤◌, ◌<◌, ◌≡◌, Bool, true, false, ◌&&◌, List, length, leb}
use Rattle.limits.specs.Limits.{clauses_max, literals_max}
use Rattle.cnf.specs.Clause.{Literal, total}
use Rattle.cnf.specs.declared.Size.{Size}

-- c clauses with l literals in all
abbrev pub sized : ℕ → ℕ → Size
sized c l = record { clauses = c; literals = l }

-- the same, or too many
unfoldable pub within_limits : ℕ → ℕ → Option Size
within_limits c l = elim (leb c clauses_max && leb l literals_max) [ true ↦ Some (sized c l) | false ↦ None ]

unfoldable pub size_of : List (List Literal) → Option Size
size_of cs = within_limits (length cs) (total cs)

-- the size of two lists joined, from their sizes
unfoldable pub join_sizes : Bool → Option Size → Option Size → Option Size
join_sizes crosswise None b = None
join_sizes crosswise (Some s) None = None
join_sizes false (Some s) (Some t) = within_limits (s.clauses + t.clauses) (s.literals + t.literals)
join_sizes true (Some s) (Some t) = within_limits (s.clauses * t.clauses) (s.literals * t.clauses + t.literals * s.clauses)

-- a size is too many, or within the limits
abbrev pub Limited : Option Size → Type 0
Limited None = Unit {0}
Limited (Some s) = (s.clauses ≤ clauses_max) × (s.literals ≤ literals_max)

-- s is the size of a list that is not empty
pub record SizeOfSome (s : Option Size) (cs : List (List Literal)) : Type 0 where
  pub size : s ≡ size_of cs
  pub some : 0 < length cs
