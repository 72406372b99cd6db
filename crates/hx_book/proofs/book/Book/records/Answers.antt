use Rattle.std.proofs.Common.{List, [], Contains, sym, subst}
use Rattle.hx_journal.specs.declared.record.Record.{Record}
use Rattle.hx_book.specs.Books.{job_of}
use Rattle.hx_book.specs.Resumable.{HasNumber, done_of}
use Rattle.hx_book.specs.Tasks.{Follow}
use Rattle.hx_book.proofs.Reading.{under_way}
use Rattle.hx_book.proofs.book.Book.records.Goals as goal

pub returns-clause-follow : goal.returns-clause-follow
returns-clause-follow g c p first =
    let clear = rw (← c.self.view_is) at first in
    subst (λ (l : List Record). Follow (job_of g.J.Job.of) [] (done_of l)) (sym c.records.ensures.items) (under_way g.J.Job.of g.Src.Source.source g.S.Store.disk _ c.self.invariant clear p).follow

pub returns-clause-numbers : goal.returns-clause-numbers
returns-clause-numbers g c p first =
    let clear = rw (← c.self.view_is) at first in
    subst (λ (l : List Record). (r : Record) → Contains l r → HasNumber (job_of g.J.Job.of) r) (sym c.records.ensures.items) (under_way g.J.Job.of g.Src.Source.source g.S.Store.disk _ c.self.invariant clear p).numbers
