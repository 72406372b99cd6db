use Rattle.std.proofs.Common.{List, false, sym, subst}
use Rattle.hx_base.specs.Pixels.{pixel_of}
use Rattle.hx_base.specs.declared.pixel.Pixel.{Pixel}
use Rattle.hx_base.specs.declared.row.Row.{Row}
use Rattle.hx_xmatch.specs.Runs.{HasAround, IsRunOf, IsUncovered}
use Rattle.hx_xmatch.specs.declared.runs.Run.{Run}
use Rattle.hx_xmatch.proofs.Around.{first_ones, some_of}
use Rattle.hx_xmatch.proofs.Texts.{no_row}
use Rattle.hx_xmatch.proofs.runs.next_run.Goals as goal

pub returns-in_ok-around_all-in-None : goal.returns-in_ok-around_all-in-None
returns-in_ok-around_all-in-None c =
    let tree = c.args.tree.now in
    let m = c.args.margin_order in
    let rows = c.args.rows.now in
    let count = c.count_uncovered-count.result in
    let indices = c.in_ok-around_all-in-None.field-0.items in
    let around = first_ones (λ (row : Row). HasAround tree m (pixel_of m row.hp) indices) rows count c.count_uncovered-count.ensures.within c.in_ok-around_all-in-None.ensures.around in
    let run : Run = record { count = count; parts = c.in_ok-around_all-in-None.field-0; margin = false } in
    subst (λ (parts : List Pixel). IsRunOf parts m rows run) (sym c.requires.parts) (record {
      within = c.count_uncovered-count.ensures.within;
      some = λ lt. some_of (IsUncovered tree) rows count no_row lt c.in-None.ensures.holder c.count_uncovered-count.ensures.behind;
      indices = c.in_ok-around_all-in-None.ensures.indices;
      served = λ k d low lt. (c.count_uncovered-count.ensures.outside k d low lt, around k d low lt);
    })
