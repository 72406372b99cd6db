use Rattle.std.proofs.Common.{◌≡◌, ◌-◌, ◌≤◌, ℤ, List, Option}
use Rattle.hx_pqread.specs.Pages.{pages_at}
use Rattle.hx_pqread.specs.Keeping.{KeepsMore}
use Rattle.hx_pqread.proofs.Joins.{with_values}
use Rattle.hx_pqread.proofs.page.read_pages.Given as goal

abbrev pub invariant-loop : goal.invariant-loop
invariant-loop l = record {
  few : l.kept.count ≤ l.total;
  so_far : (values : List (Option ℤ)) × KeepsMore values l.fn.kept l.kept
      × (with_values values (pages_at l.asked (l.end - l.counter) (l.total - l.kept.count) l.next l.file) ≡ pages_at l.asked l.asked.end l.count l.place l.file);
}
