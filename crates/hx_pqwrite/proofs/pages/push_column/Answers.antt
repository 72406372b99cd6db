use Rattle.std.proofs.Common.{◌≡◌, ℕ, suc, ◌-◌, ◌+◌, ◌++◌, length, map, sym, ap, ◌∙◌, arith}
use Rattle.std.proofs.lemmas.List.{length-map}
use Rattle.hx_base.specs.Columns.{value_in}
use Rattle.hx_pqwrite.specs.Files.{page_count, pages}
use Rattle.hx_pqwrite.proofs.Pushing.{next_page, last_page, still_good}
use Rattle.hx_pqwrite.proofs.pages.push_column.Goals as goal

pub loop-preserved : goal.loop-preserved
loop-preserved c =
    let count = page_count (length c.args.rows.now) in
    let more : count - c.loop.counter ≡ suc (count - (c.loop.counter + 1)) = omega (arith, c.loop-test.true, c.div_ceil-end.ensures) in
    record {
      good = still_good _ c.loop.rest.now c.split_at.result.1.now c.split_at.ensures.back c.loop.invariant.good;
      so_far = next_page c.args.column (count - c.loop.counter) (count - (c.loop.counter + 1)) c.min.result c.loop.rest.now c.split_at.result.0.now c.split_at.result.1.now c.loop.bytes.items c.push_page.new.bytes.items _
          more (omega (arith, c.min.ensures)) c.split_at.ensures.front c.split_at.ensures.back c.in_ok-push_page.ensures c.loop.invariant.so_far;
    }

pub returns : goal.returns
returns c =
    let count = page_count (length c.args.rows.now) in
    let none : count - c.loop.counter ≡ 0 = omega (arith, c.loop-test.false, c.div_ceil-end.ensures) in
    let values = map (value_in c.args.column) c.args.rows.now in
    last_page c.args.column (count - c.loop.counter) c.loop.rest.now c.loop.bytes.items _ none c.loop.invariant.so_far
    ∙ ap (λ (n : ℕ). c.args.bytes.now.items ++ pages (page_count n) values) (sym (length-map c.args.rows.now (value_in c.args.column)))
