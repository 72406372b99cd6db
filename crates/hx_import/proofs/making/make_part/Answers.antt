use Rattle.std.proofs.Common.{Err, rules, None, ◌≡◌, arith, subst, ℕ, length}
use Rattle.hx_book.specs.Books.{job_of}
use Rattle.hx_book.specs.Tasks.{task}
use Rattle.hx_book.proofs.Keeping.{inputs_are}
use Rattle.hx_import.specs.Given.{GathersFirst}
use Rattle.hx_import.proofs.Gathered.{begun}
use Rattle.hx_import.proofs.Working.{after_read, at_stage, refused_result, slice_failed, split_recorded, still, still_clear, still_same, unread_failed}
use Rattle.hx_import.proofs.making.make_part.Goals as goal

pub returns-in_err-part_of-clause-cause : goal.returns-in_err-part_of-clause-cause
returns-in_err-part_of-clause-cause g c =
    let is : c.from_residual.result ≡ Err c.in_err-part_of.field-0.0 = search rules in
    rw is (unread_failed g.J.Job.of g.Src.Source.source (task 4 c.args.number) None c.args.book.now.faults c.in_err-part_of.field-0.0 c.in_err-part_of.ensures.cause)

pub loop-input-init : goal.loop-input-init
loop-input-init g c = record {
  still = still_same c.args.book.now;
  good = rw c.new-rows.ensures.items (λ k d less. absurd (omega (arith, less)));
  gathered = rw c.new-rows.ensures.items (begun g.J.Job.of c.args.number c.in_ok-part_of.field-0 c.args.cut.now.plan c.args.cut.now.tree c.requires.cut c.in_ok-part_of.ensures.part);
}

pub read_slice-requires-clause-recorded : goal.read_slice-requires-clause-recorded
read_slice-requires-clause-recorded g c =
    split_recorded g.J.Job.of c.args.book.now c.loop-input.book (task 4 c.args.number) c.requires.work c.loop-input.invariant.still c.loop-input.input (omega arith) (omega (arith, c.loop-input-test.true, c.inputs-inputs.ensures.all))

pub read_slice-requires-clause-unfinished : goal.read_slice-requires-clause-unfinished
read_slice-requires-clause-unfinished g c = at_stage g.J.Job.of c.args.book.now c.loop-input.book (task 4 c.args.number) c.requires.work c.loop-input.invariant.still (omega arith)

pub read_slice-requires-clause-clear : goal.read_slice-requires-clause-clear
read_slice-requires-clause-clear g c = still_clear g.J.Job.of c.args.book.now c.loop-input.book (task 4 c.args.number) c.requires.work c.loop-input.invariant.still

pub returns-in_err-slice-clause-cause : goal.returns-in_err-slice-clause-cause
returns-in_err-slice-clause-cause g c =
    let is : c.from_residual-in_err-slice.result ≡ Err c.in_err-slice.field-0.0 = search rules in
    rw is (slice_failed g.J.Job.of g.Src.Source.source (task 4 c.args.number) None c.read_slice.new.self.faults _ c.in_err-slice.field-0.0 c.in_err-slice.ensures.cause)

pub returns-in_err-slice-clause-still : goal.returns-in_err-slice-clause-still
returns-in_err-slice-clause-still g c =
    still c.args.book.now c.loop-input.book c.read_slice.new.self c.loop-input.invariant.still (after_read c.loop-input.book c.read_slice.new.self c.read_slice.ensures.same c.read_slice.ensures.shape c.read_slice.ensures.later)

pub returns-in_err-add_slice-clause-still : goal.returns-in_err-add_slice-clause-still
returns-in_err-add_slice-clause-still g c =
    still c.args.book.now c.loop-input.book c.read_slice.new.self c.loop-input.invariant.still (after_read c.loop-input.book c.read_slice.new.self c.read_slice.ensures.same c.read_slice.ensures.shape c.read_slice.ensures.later)

pub loop-input-preserved : goal.loop-input-preserved
loop-input-preserved g c = record {
  still = still c.args.book.now c.loop-input.book c.read_slice.new.self c.loop-input.invariant.still (after_read c.loop-input.book c.read_slice.new.self c.read_slice.ensures.same c.read_slice.ensures.shape c.read_slice.ensures.later);
  good = c.in_ok-add_slice.ensures.good;
  gathered = c.in_ok-add_slice.ensures.gathered;
}

pub reduce_file-requires-clause-gathered : goal.reduce_file-requires-clause-gathered
reduce_file-requires-clause-gathered g c = λ p.
    let count : c.loop-input.input ≡ length g.J.Job.of.origins = omega (arith, c.loop-input-test.false, c.loop-input.auto, c.inputs-inputs.ensures.all, inputs_are g.J.Job.of) in
    subst (λ (n : ℕ). GathersFirst (job_of g.J.Job.of) c.args.number n c.loop-input.rows.items) count (c.loop-input.invariant.gathered p)

pub returns-clause-cause : goal.returns-clause-cause
returns-clause-cause g c = refused_result g.J.Job.of g.Src.Source.source (task 4 c.args.number) None c.loop-input.book.faults c.reduce_file.result c.reduce_file.ensures.cause
