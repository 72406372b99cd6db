use Rattle.std.proofs.Common.{Err, rules, None, ◌≡◌, ◌<◌, ◌∙◌, ◌+◌, ◌++◌, ◌∷◌, [], arith, ap, sym, subst, take, ℕ, List, length}
use Rattle.std.proofs.lemmas.List.{take_all, take_more}
use Rattle.hx_book.specs.Books.{job_of}
use Rattle.hx_book.specs.Tasks.{task}
use Rattle.hx_import.specs.Given.{GathersAround}
use Rattle.hx_import.proofs.Gathered.{begun_around}
use Rattle.hx_import.proofs.Working.{after_read, around_there, at_stage, margins_recorded, memory_result, slice_failed, still, still_clear, still_same, unread_failed}
use Rattle.hx_import.proofs.making.make_margin.Goals as goal

pub returns-in_err-part-clause-cause : goal.returns-in_err-part-clause-cause
returns-in_err-part-clause-cause g c =
    let is : c.from_residual.result ≡ Err c.in_err-part.field-0.0 = search rules in
    rw is (unread_failed g.J.Job.of g.Src.Source.source (task 6 c.args.number) None c.args.book.now.faults c.in_err-part.field-0.0 c.in_err-part.ensures.cause)

pub returns-in_err-part-clause-still : goal.returns-in_err-part-clause-still
returns-in_err-part-clause-still g c = still_same c.args.book.now

pub loop-i-init : goal.loop-i-init
loop-i-init g c = record {
  still = still_same c.args.book.now;
  good = rw c.new-rows.ensures.items (λ k d less. absurd (omega (arith, less)));
  gathered = rw c.new-rows.ensures.items (begun_around g.J.Job.of c.args.number c.in_ok-part.part c.args.cut.now.plan c.args.cut.now.tree c.requires.cut c.in_ok-part.ensures.part);
}

pub read_slice-requires-clause-recorded : goal.read_slice-requires-clause-recorded
read_slice-requires-clause-recorded g c =
    let numbers = c.in_ok-numbers.numbers in
    let n = c.index.result.now in
    let within : c.loop-i.i < length numbers.items = omega (arith, c.loop-i-test.true, c.len-i-end.ensures, numbers.ok) in
    let small = around_there c.args.cut.now.tree c.in_ok-part.part numbers.items n c.in_ok-numbers.ensures (c.loop-i.i, within, sym c.index.ensures) in
    margins_recorded g.J.Job.of c.args.book.now c.loop-i.book (task 6 c.args.number) c.requires.work c.loop-i.invariant.still c.args.cut.now.plan c.args.cut.now.tree c.requires.cut n small (omega arith)

pub read_slice-requires-clause-unfinished : goal.read_slice-requires-clause-unfinished
read_slice-requires-clause-unfinished g c = at_stage g.J.Job.of c.args.book.now c.loop-i.book (task 6 c.args.number) c.requires.work c.loop-i.invariant.still (omega arith)

pub read_slice-requires-clause-clear : goal.read_slice-requires-clause-clear
read_slice-requires-clause-clear g c = still_clear g.J.Job.of c.args.book.now c.loop-i.book (task 6 c.args.number) c.requires.work c.loop-i.invariant.still

pub returns-in_err-slice-clause-cause : goal.returns-in_err-slice-clause-cause
returns-in_err-slice-clause-cause g c =
    let is : c.from_residual-in_err-slice.result ≡ Err c.in_err-slice.field-0.0 = search rules in
    rw is (slice_failed g.J.Job.of g.Src.Source.source (task 6 c.args.number) None c.read_slice.new.self.faults _ c.in_err-slice.field-0.0 c.in_err-slice.ensures.cause)

pub returns-in_err-slice-clause-still : goal.returns-in_err-slice-clause-still
returns-in_err-slice-clause-still g c =
    still c.args.book.now c.loop-i.book c.read_slice.new.self c.loop-i.invariant.still (after_read c.loop-i.book c.read_slice.new.self c.read_slice.ensures.same c.read_slice.ensures.shape c.read_slice.ensures.later)

pub returns-in_err-add_margin_slice-clause-still : goal.returns-in_err-add_margin_slice-clause-still
returns-in_err-add_margin_slice-clause-still g c =
    still c.args.book.now c.loop-i.book c.read_slice.new.self c.loop-i.invariant.still (after_read c.loop-i.book c.read_slice.new.self c.read_slice.ensures.same c.read_slice.ensures.shape c.read_slice.ensures.later)

pub loop-i-preserved : goal.loop-i-preserved
loop-i-preserved g c =
    let numbers = c.in_ok-numbers.numbers in
    let i = c.loop-i.i in
    let n = c.index-in-loop-i.result.now in
    let within : i < length numbers.items = omega (arith, c.loop-i-test.true, c.len-i-end.ensures, numbers.ok) in
    let next : take i c.deref-in-loop-i.result.now ++ n ∷ [] ≡ take (i + 1) numbers.items =
    ap (λ (ns : List ℕ). take i ns ++ n ∷ []) c.deref-in-loop-i.ensures.value ∙ ap (λ (m : ℕ). take i numbers.items ++ m ∷ []) c.index-in-loop-i.ensures ∙ sym (take_more numbers.items i n within) in
    record {
      still = still c.args.book.now c.loop-i.book c.read_slice.new.self c.loop-i.invariant.still (after_read c.loop-i.book c.read_slice.new.self c.read_slice.ensures.same c.read_slice.ensures.shape c.read_slice.ensures.later);
      good = c.in_ok-add_margin_slice.ensures.good;
      gathered = λ p. subst (λ (ns : List ℕ). GathersAround (job_of g.J.Job.of) c.args.number ns c.add_margin_slice.new.gathered.items) next (c.in_ok-add_margin_slice.ensures.gathered p);
    }

pub margin_file-requires-clause-gathered : goal.margin_file-requires-clause-gathered
margin_file-requires-clause-gathered g c = λ p.
    let numbers = c.in_ok-numbers.numbers in
    let all : take c.loop-i.i numbers.items ≡ c.deref-2.result.now = take_all c.loop-i.i numbers.items (omega (arith, c.loop-i-test.false, c.len-i-end.ensures, numbers.ok)) ∙ sym c.deref-2.ensures.value in
    subst (λ (ns : List ℕ). GathersAround (job_of g.J.Job.of) c.args.number ns c.loop-i.rows.items) all (c.loop-i.invariant.gathered p)

pub returns-clause-cause : goal.returns-clause-cause
returns-clause-cause g c = memory_result g.J.Job.of g.Src.Source.source (task 6 c.args.number) None c.loop-i.book.faults c.margin_file.result c.margin_file.ensures.cause
