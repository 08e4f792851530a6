-- A line is cut at its spaces, one field after another. Assumes nothing.
use Rattle.std.proofs.Common.{◌≡◌, ℕ, ◌<◌, Bool, true, false, cond, List, [], ◌∷◌, ◌++◌, Option, None, Some, MatchOption, length, get_or, Bor}
use Rattle.std.proofs.Common.{ap, sym, ◌∙◌, subst, arith, ⊎_elim, ◌⊎◌}
use Rattle.std.proofs.lemmas.Grind.{common_steps}
use Rattle.std.proofs.lemmas.List.Splits.{slice_split_none, slice_split_at}
use Rattle.std.specs.Bool.{MatchBool}
use Rattle.std.specs.List.{All, slice_split, IsFirstMatchOrLen}
use Rattle.std.specs.Option.{option_map_or}

-- the first part, which ends where the next one begins or with the list
pub slice_split_part : (p : ℕ → Bool) (xs x rest : List ℕ) (done : Bool) → MatchBool done (xs ≡ x) ((y : ℕ) × (xs ≡ x ++ (y ∷ rest)))
    → IsFirstMatchOrLen p xs (length x) → slice_split p xs ≡ x ∷ cond done [] (slice_split p rest)
slice_split_part p xs x rest true e h =
    ap (slice_split p) e ∙ slice_split_none p x (λ k d l. subst (λ ys. p (get_or ys k d) ≡ false) e (h.0 k d (omega arith) l))
slice_split_part p xs x rest false e h =
    let front : All (λ z. p z ≡ false) x = λ k d l. let a = h.0 k d (omega arith) l in let b = e.1 in grind (arith, common_steps) in
    let hit : p e.0 ≡ true = let b = e.1 in let a = h.1 (grind (arith, common_steps)) e.0 in grind (arith, common_steps) in
    ap (slice_split p) e.1 ∙ slice_split_at p x e.0 rest front hit

-- what `splitn` gives last: all that is left, if there was a cut
pub slice_split_last : (p : ℕ → Bool) (r : Option (Bor (List ℕ))) (done whole : Bool) (rest : List ℕ) (count : ℕ) (P Q : Bor (List ℕ) → Type 0)
    → MatchOption r ((count ≡ 0) ⊎ (done ≡ true)) (λ x. (0 < count) × (count ≡ 1 → whole ≡ true) × MatchBool whole (rest ≡ x.now) (P x) × (done ≡ false) × Q x)
    → count ≡ 1 → option_map_or (λ x. slice_split p x.now) r [] ≡ cond done [] (slice_split p rest)
slice_split_last p None done whole rest count P Q h one =
    ⊎_elim (λ none. absurd (omega (arith, none, one))) (λ cut. sym (ap (λ b. cond b [] (slice_split p rest)) cut)) h
slice_split_last p (Some x) done whole rest count P Q h one =
    let all : rest ≡ x.now = subst (λ b. MatchBool b (rest ≡ x.now) (P x)) (h.1 one) h.2 in
    ap (slice_split p) (sym all) ∙ sym (ap (λ b. cond b [] (slice_split p rest)) h.3)
