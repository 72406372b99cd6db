use Rattle.std.proofs.Common.{◌≡◌, ◌≤◌, None, take}
use Rattle.hx_book.specs.Books.{AreInTurn, IsPlanned, IsScheduled, job_of}
use Rattle.hx_book.specs.Resumable.{done_of}
use Rattle.hx_book.proofs.progress.walk.Given as goal

abbrev pub invariant-loop-index : goal.invariant-loop-index
invariant-loop-index g l = record {
  scheduled : IsScheduled l.fn.inputs l.progress.partitions (done_of (take l.index l.records)) l.progress.stage l.progress.from l.progress.flags.items None None;
  inputs : l.progress.inputs ≡ l.fn.inputs;
  few : l.progress.partitions ≤ 100000;
  planned : AreInTurn (job_of g.J.Job.of) l.records → 3 ≤ l.progress.stage → IsPlanned g.J.Job.of l.progress.partitions;
}
