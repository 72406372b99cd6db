use Rattle.std.proofs.Common.{◌≡◌, ◌≤◌, None, IfSome}
use Rattle.hx_import.specs.Given.{IsCutFor}
use Rattle.hx_import.proofs.serial.work.Given as goal

-- no task is held, and the partitions that are known are the job's
abbrev pub invariant-loop : goal.invariant-loop
invariant-loop g l = record {
  free : l.book.held ≡ None;
  own : l.book.settings ≡ g.J.Job.of.settings;
  later : g.J.Job.of.before ≤ l.book.faults;
  asked : l.settings ≡ g.J.Job.of.settings;
  known : IfSome l.known (λ cut. IsCutFor g.J.Job.of cut.plan cut.tree);
}
