-- Clause lists joined each with each. Joining goes through lists that follow each other (`cross_append`) and lists joined before (`cross_cross`); a
-- single literal is put before each clause (`cross_one`), nothing is added before the empty clause alone (`cross_end`), and clause j of the second list
-- joined to clause i of the first stands where it should (`cross_at`).
-- Assumes nothing.
use mathlib.Core.Path.{◌≡◌, refl, sym, ap, ap₂, ◌∙◌}
use Prim.Native.Nat.{ℕ, zero, suc, ◌+◌, ◌*◌, ◌<◌}
use native.Mathlib.Omega.{arith}
use lib.ListN.{length, get_or, length-map, get_or-append}
use lib.Seq.{get_or-append-add}
use mathlib.Core.List.{List, [], ◌∷◌, ◌++◌, map, append_assoc, append-nil}
use Rattle.cnf.specs.Clause.{Literal, cross}

-- a, put before each clause
abbrev pub before : List Literal → List (List Literal) → List (List Literal)
before a ys = map (λ (y : List Literal). a ++ y) ys

before_append : (a : List Literal) (xs ys : List (List Literal)) → before a (xs ++ ys) ≡ before a xs ++ before a ys
before_append a [] ys = refl
before_append a (x ∷ xs) ys = ap (λ (z : List (List Literal)). (a ++ x) ∷ z) (before_append a xs ys)

before_before : (a b : List Literal) (ys : List (List Literal)) → before a (before b ys) ≡ before (a ++ b) ys
before_before a b [] = refl
before_before a b (y ∷ ys) = ap₂ ◌∷◌ (sym (append_assoc a b y)) (before_before a b ys)

before_cross : (a : List Literal) (xs ys : List (List Literal)) → before a (cross xs ys) ≡ cross (before a xs) ys
before_cross a [] ys = refl
before_cross a (x ∷ xs) ys = before_append a (before x ys) (cross xs ys) ∙ ap₂ ◌++◌ (before_before a x ys) (before_cross a xs ys)

pub cross_append : (xs ys ps : List (List Literal)) → cross (xs ++ ys) ps ≡ cross xs ps ++ cross ys ps
cross_append [] ys ps = refl
cross_append (x ∷ xs) ys ps =
    ap (λ (z : List (List Literal)). before x ps ++ z) (cross_append xs ys ps) ∙ sym (append_assoc (before x ps) (cross xs ps) (cross ys ps))

pub cross_cross : (xs ys ps : List (List Literal)) → cross (cross xs ys) ps ≡ cross xs (cross ys ps)
cross_cross [] ys ps = refl
cross_cross (x ∷ xs) ys ps = cross_append (before x ys) (cross xs ys) ps ∙ ap₂ ◌++◌ (sym (before_cross x ys ps)) (cross_cross xs ys ps)

pub cross_one : (x : Literal) (ps : List (List Literal)) → cross ((x ∷ []) ∷ []) ps ≡ before (x ∷ []) ps
cross_one x ps = append-nil (before (x ∷ []) ps)

pub cross_end : (xs : List (List Literal)) → cross xs ([] ∷ []) ≡ xs
cross_end [] = refl
cross_end (x ∷ xs) = ap₂ ◌∷◌ (append-nil x) (cross_end xs)

pub get_before : (a : List Literal) (ys : List (List Literal)) (k : ℕ) → k < length ys → get_or (before a ys) k [] ≡ a ++ get_or ys k []
get_before a [] k h = absurd (omega arith)
get_before a (y ∷ ys) zero h = refl
get_before a (y ∷ ys) (suc k) h = get_before a ys k (omega arith)

pub cross_at : (xs ys : List (List Literal)) (i j : ℕ) → i < length xs → j < length ys
    → get_or (cross xs ys) (i * length ys + j) [] ≡ get_or xs i [] ++ get_or ys j []
cross_at [] ys i j hi hj = absurd (omega arith)
cross_at (x ∷ xs) ys zero j hi hj =
    let z : 0 * length ys + j ≡ j = omega arith in
    let long : length (before x ys) ≡ length ys = length-map ys (λ (y : List Literal). x ++ y) in
    ap (λ (k : ℕ). get_or (before x ys ++ cross xs ys) k []) z
    ∙ get_or-append (before x ys) (cross xs ys) [] j (omega arith)
    ∙ get_before x ys j hj
cross_at (x ∷ xs) ys (suc i) j hi hj =
    let long : length (before x ys) ≡ length ys = length-map ys (λ (y : List Literal). x ++ y) in
    let z : suc i * length ys + j ≡ length (before x ys) + (i * length ys + j) = omega arith in
    ap (λ (k : ℕ). get_or (before x ys ++ cross xs ys) k []) z
    ∙ get_or-append-add (before x ys) (cross xs ys) (i * length ys + j) []
    ∙ cross_at xs ys i j (omega arith) hj
