use Rattle.std.proofs.Common.{All}
use Rattle.hx_base.specs.Rows.{IsGood}
use Rattle.hx_book.specs.Books.{job_of}
use Rattle.hx_import.specs.Given.{GathersFirst}
use Rattle.hx_import.specs.Working.{IsStill}
use Rattle.hx_import.proofs.making.make_part.Given as goal

-- the slices of the inputs so far are gathered
abbrev pub invariant-loop-input : goal.invariant-loop-input
invariant-loop-input g l = record {
  still : IsStill l.fn.book l.book;
  good : All IsGood l.rows.items;
  gathered : g.J.Job.of.premises → GathersFirst (job_of g.J.Job.of) l.number l.input l.rows.items;
}
