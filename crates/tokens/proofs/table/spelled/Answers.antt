-- `table::spelled` meets its contract: the span lies in the text, so the part does, and starts where the span does.
use Rattle.std.proofs.Common.{◌+◌, refl, ap, arith}
use Rattle.tokens.specs.declared.table.Span.{Span}
use Rattle.tokens.proofs.TokenTable.{part_there, part_in}
use Rattle.tokens.proofs.table.spelled.Goals as goal

pub overflow_add-end : goal.overflow_add-end
overflow_add-end c =
    let span-at = c.span_at-span in
    omega (arith, part_in _ _ _ span-at.result span-at.ensures)

pub slice_bounds-result-end : goal.slice_bounds-result-end
slice_bounds-result-end c =
    let span-at = c.span_at-span in
    omega (arith, part_in _ _ _ span-at.result span-at.ensures)

pub returns : goal.returns
returns c =
    let args = c.args in
    let span-at = c.span_at-span in
    record { bytes = part_there _ _ _ span-at.result span-at.ensures; place = (refl, ap (λ (s : Span). s.start + args.text.ref_ptr.1) span-at.ensures) }
