-- Kleene's three values (FORMAT §7): what a predicate means, and what the numbers that a caller gets mean.
use Rattle.std.specs.Prelude.{ℕ, ◌-◌, ◌/◌, ◌%◌, ◌≡◌, Bool, true, false, ◌⊎◌, List, [], ◌∷◌, take, drop, eqb}
use Rattle.predicate.specs.Tree.{Tree, leaf, unary, binary, both, either, negation}

pub data Value : Type 0 where
  FALSE NULL TRUE : Value

-- the lower of two, in the order FALSE, NULL, TRUE
abbrev pub AND : Value → Value → Value
AND FALSE w = FALSE
AND NULL FALSE = FALSE
AND NULL NULL = NULL
AND NULL TRUE = NULL
AND TRUE w = w

-- the higher of two
abbrev pub OR : Value → Value → Value
OR FALSE w = w
OR NULL FALSE = NULL
OR NULL NULL = NULL
OR NULL TRUE = TRUE
OR TRUE w = TRUE

abbrev pub NOT : Value → Value
NOT FALSE = TRUE
NOT NULL = NULL
NOT TRUE = FALSE

-- a value, negated or not
abbrev pub negate_if : Bool → Value → Value
negate_if false v = v
negate_if true v = NOT v

-- ---- a predicate

-- its value, where each atom's row has a value of its own
unfoldable pub value : (ℕ → Value) → Tree → Value
value ρ (leaf r l) = ρ r
value ρ (unary r l a) = ρ r
value ρ (binary r l a b) = ρ r
value ρ (both r l a b) = AND (value ρ a) (value ρ b)
value ρ (either r l a b) = OR (value ρ a) (value ρ b)
value ρ (negation r l a) = NOT (value ρ a)

-- row q is one of its atoms: no AND, OR or NOT, and not inside another atom
unfoldable pub AtomOf : ℕ → Tree → Type 0
AtomOf q (leaf r l) = q ≡ r
AtomOf q (unary r l a) = q ≡ r
AtomOf q (binary r l a b) = q ≡ r
AtomOf q (both r l a b) = AtomOf q a ⊎ AtomOf q b
AtomOf q (either r l a b) = AtomOf q a ⊎ AtomOf q b
AtomOf q (negation r l a) = AtomOf q a

-- ---- clauses, as a caller reads them

-- the clauses that literals and ends spell, from place `at` on
unfoldable pub read_back : List ℕ → ℕ → List ℕ → List (List ℕ)
read_back literals at [] = []
read_back literals at (e ∷ ends) = take (e - at) (drop at literals) ∷ read_back literals e ends

-- the row of a literal's number, and whether it is negated
unfoldable pub literal_row : ℕ → ℕ
literal_row n = n / 2

unfoldable pub is_negated : ℕ → Bool
is_negated n = eqb (n % 2) 1

-- OR over a clause's literals
unfoldable pub any_of : (ℕ → Value) → List ℕ → Value
any_of ρ [] = FALSE
any_of ρ (n ∷ c) = OR (negate_if (is_negated n) (ρ (literal_row n))) (any_of ρ c)

-- AND over the clauses
unfoldable pub all_of : (ℕ → Value) → List (List ℕ) → Value
all_of ρ [] = TRUE
all_of ρ (c ∷ cs) = AND (any_of ρ c) (all_of ρ cs)

-- P holds of every literal's row
unfoldable pub EachIn : (ℕ → Type 0) → List ℕ → Type 0
EachIn P [] = Unit {0}
EachIn P (n ∷ c) = P (literal_row n) × EachIn P c

unfoldable pub Each : (ℕ → Type 0) → List (List ℕ) → Type 0
Each P [] = Unit {0}
Each P (c ∷ cs) = EachIn P c × Each P cs

-- the clauses mean the predicate: they have its value, whatever its atoms have, and their literals are its atoms
pub record Means (t : Tree) (cs : List (List ℕ)) : Type 0 where
  pub equal : (ρ : ℕ → Value) → all_of ρ cs ≡ value ρ t
  pub atoms : Each (λ q. AtomOf q t) cs
