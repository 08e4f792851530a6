-- The first part of the line is a field, and what comes after the cut is left; where there is no cut, nothing is.
use Rattle.std.proofs.Common.{rules, tests, ◌==◌, ◌∙◌, ℕ, Bool, [], ap, arith, drop, sym}
use Rattle.std.proofs.lemmas.Fn.{always_returns_same}
use Rattle.std.specs.Option.{option_map_or}
use Rattle.std.specs.List.{slice_split}
use Rattle.replay.proofs.Cuts.{slice_split_part, slice_split_last}
use Rattle.replay.proofs.fields.Fields.next.Goals as goal

pub returns : goal.returns
returns c =
    let space : ℕ → Bool = λ b. b == 32 in
    let first = c.in_ok-field.ensures.steps in
    let second = c.next-self.ensures.steps in
    let two = c.splitn-parts.ensures.count in
    let tested = first.1.4 (omega (arith, two)) space (always_returns_same _ _ _ (λ b r f k. search (rules, tests))) in
    let part = slice_split_part space _ _ _ _ first.1.2 tested.1 in
    let last = slice_split_last space _ _ _ _ _ _ _ second.1 (omega (arith, two, first.0)) in
    let whole = ap (λ o. option_map_or (λ rest. slice_split space rest.now) o []) c.in_ok-rest.was in
    last ∙ sym (ap (drop 1) (whole ∙ ap (slice_split space) (sym c.splitn-parts.ensures.rest) ∙ part))
