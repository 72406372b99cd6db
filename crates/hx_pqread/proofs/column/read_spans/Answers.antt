use Rattle.std.proofs.Common.{◌+◌, ◌++◌, ◌∙◌, sym, drop, get_or, arith}
use Rattle.std.proofs.lemmas.List.{at_drop_more}
use Rattle.hx_pqread.specs.declared.chunk.Span.{Span}
use Rattle.hx_pqread.specs.Columns.{spans_at, values_of}
use Rattle.hx_pqread.proofs.Joins.{with_values, next_span}
use Rattle.hx_pqread.proofs.Gathering.{keeps_more}
use Rattle.hx_pqread.proofs.Lengths.{pages_length}
use Rattle.hx_pqread.proofs.column.read_spans.Goals as goal

pub loop-span-preserved : goal.loop-span-preserved
loop-span-preserved c =
    let asked = c.args.asked in
    let file = c.args.file.now in
    let i = c.loop-span.span-index in
    let nowhere : Span = record { place = 0; count = 0 } in
    let span = get_or c.args.spans.now i nowhere in
    let spans = drop (i + 1) c.args.spans.now in
    let so_far = c.loop-span.invariant.so_far in
    let pages = c.in_ok-read_pages.ensures in
    let left = at_drop_more values_of c.args.spans.now i nowhere (omega arith) in
    let first = at_drop_more (λ spans. with_values so_far.0 (spans_at asked spans file)) c.args.spans.now i nowhere (omega arith) in
    let count = pages_length asked asked.end span.count span.place file pages.0 pages.1 in
    record {
      few = omega (arith, left, count, pages.2.count, c.loop-span.invariant.few);
      so_far = (
        so_far.0 ++ pages.0,
        keeps_more so_far.0 pages.0 c.loop-span.kept c.read_pages.new.kept so_far.1 pages.2,
        sym (next_span asked span spans file so_far.0 pages.0 pages.1) ∙ (sym first ∙ so_far.2),
      );
    }
