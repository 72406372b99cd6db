use Rattle.std.proofs.Common.{◌≡◌, ◌+◌, ◌-◌, ◌++◌, ℕ, length, inr, sym, ap, ◌∙◌, arith}
use Rattle.std.proofs.lemmas.Result.{err_from_is_err_and}
use Rattle.hx_pqread.specs.Pages.{page_at, pages_at}
use Rattle.hx_pqread.proofs.Joins.{with_values, next_page, no_page, all_pages, too_few_pages, refused}
use Rattle.hx_pqread.proofs.Gathering.{kept_more}
use Rattle.hx_pqread.proofs.Lengths.{page_few}
use Rattle.hx_pqread.proofs.page.read_pages.Goals as goal

pub returns-then-kept-total : goal.returns-then-kept-total
returns-then-kept-total c =
    let total = c.args.kept.now.count + c.args.count in
    let so_far = c.loop.invariant.so_far in
    (so_far.0, sym so_far.2 ∙ all_pages c.args.asked (c.args.asked.end - c.loop.counter) (total - c.loop.kept.count) c.loop.next c.args.file.now so_far.0 (omega arith), so_far.1)

pub returns-then-kept-total-2 : goal.returns-then-kept-total-2
returns-then-kept-total-2 c =
    let total = c.args.kept.now.count + c.args.count in
    let so_far = c.loop.invariant.so_far in
    (so_far.0, sym so_far.2 ∙ all_pages c.args.asked (c.args.asked.end - c.loop.counter) (total - c.loop.kept.count) c.loop.next c.args.file.now so_far.0 (omega arith), so_far.1)

pub returns-else-kept-total-2 : goal.returns-else-kept-total-2
returns-else-kept-total-2 c =
    let total = c.args.kept.now.count + c.args.count in
    let so_far = c.loop.invariant.so_far in
    inr (sym so_far.2 ∙ too_few_pages c.args.asked (c.args.asked.end - c.loop.counter) (total - c.loop.kept.count) c.loop.next c.args.file.now so_far.0 (omega arith) (omega arith))

pub returns-in_err-next : goal.returns-in_err-next
returns-in_err-next c =
    let left = c.args.kept.now.count + c.args.count - c.loop.kept.count in
    let so_far = c.loop.invariant.so_far in
    let p = err_from_is_err_and c.from_residual.result c.from_residual.ensures.1 in
    let whole = pages_at c.args.asked c.args.asked.end c.args.count c.args.place c.args.file.now in
    rw (p.1, p.2) (refused c.in_err-next.field-0.0 (page_at c.args.asked left c.loop.next c.args.file.now) whole c.in_err-next.ensures
    (λ is. sym so_far.2 ∙ no_page c.args.asked (c.args.asked.end - c.loop.counter) left c.loop.next c.args.file.now so_far.0 c.in_err-next.field-0.0 is (omega arith) (omega arith)))

pub loop-preserved : goal.loop-preserved
loop-preserved c =
    let total = c.args.kept.now.count + c.args.count in
    let left = total - c.loop.kept.count in
    let so_far = c.loop.invariant.so_far in
    let page = c.in_ok-next.ensures in
    let few = page_few c.args.asked left c.loop.next c.args.file.now page.0 c.in_ok-next.next page.1 in
    let count = page.2.count in
    let less : left - length page.0 ≡ total - c.page_at.new.kept.count = omega arith in
    let one = next_page c.args.asked (c.args.asked.end - c.loop.counter) (c.args.asked.end - (c.loop.counter + 1)) left c.loop.next c.in_ok-next.next c.args.file.now so_far.0 page.0 page.1 (omega arith) (omega arith) in
    record {
      few = omega arith;
      so_far = (
        so_far.0 ++ page.0,
        kept_more so_far.0 page.0 c.args.kept.now c.loop.kept c.page_at.new.kept so_far.1 page.2,
        ap (λ (n : ℕ). with_values (so_far.0 ++ page.0) (pages_at c.args.asked (c.args.asked.end - (c.loop.counter + 1)) n c.in_ok-next.next c.args.file.now)) (sym less) ∙ (sym one ∙ so_far.2),
      );
    }
