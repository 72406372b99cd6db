use Rattle.std.proofs.Common.{All, take}
use Rattle.hx_base.specs.Rows.{IsGood}
use Rattle.hx_book.specs.Books.{job_of}
use Rattle.hx_import.specs.Given.{GathersAround}
use Rattle.hx_import.specs.Working.{IsStill}
use Rattle.hx_import.proofs.making.make_margin.Given as goal

-- the slices of the partitions so far are gathered
abbrev pub invariant-loop-i : goal.invariant-loop-i
invariant-loop-i g l = record {
  still : IsStill l.fn.book l.book;
  good : All IsGood l.rows.items;
  gathered : g.J.Job.of.premises → GathersAround (job_of g.J.Job.of) l.number (take l.i l.numbers.items) l.rows.items;
}
