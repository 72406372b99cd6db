use Rattle.std.proofs.Common.{◌≡◌, ◌∙◌, ℕ, List, Option, Ok, Err, refl, sym, ap, subst, arith}
use Rattle.hx_base.specs.Paths.{path_of}
use Rattle.hx_base.specs.declared.pixel.Pixel.{Pixel}
use Rattle.hx_outside.specs.Folders.{contents}
use Rattle.hx_spill.specs.Splits.{slice}
use Rattle.hx_book.specs.Books.{Shown, job_of}
use Rattle.hx_book.specs.Recordings.{pixel_for}
use Rattle.hx_book.specs.Slices.{Answers, IsSliceCause, IsSliceOf, read_alone}
use Rattle.hx_book.proofs.Keeping.{same_kept}
use Rattle.hx_book.proofs.Reading.{recorded_there}
use Rattle.hx_book.proofs.Slicing.{alone_is, answered, slice_cause, slice_of_file}
use Rattle.hx_book.proofs.book.Book.read_slice.Goals as goal

pub same-self : goal.same-self
same-self g c = refl

pub returns-in-Err-clause-same : goal.returns-in-Err-clause-same
returns-in-Err-clause-same g c = (refl, refl, refl, refl, refl)

pub returns-in-Err-clause-shape : goal.returns-in-Err-clause-shape
returns-in-Err-clause-shape g c = (refl, refl, refl, refl)

pub returns-in-Err-clause-later : goal.returns-in-Err-clause-later
returns-in-Err-clause-later g c = omega arith

pub invariant_of-self : goal.invariant_of-self
invariant_of-self g c =
    same_kept g.J.Job.of g.Src.Source.source g.S.Store.disk _ c.self.invariant c.read_alone.new.store c.read_alone.ensures.passes c.read_alone.ensures.later

pub returns-in-Ok-read_alone-clause-value : goal.returns-in-Ok-read_alone-clause-value
returns-in-Ok-read_alone-clause-value g c p =
    let i = c.self.inside in
    let recorded = rw (← c.self.view_is) at c.requires.recorded in
    let clear = rw (← c.self.view_is) at c.requires.clear in
    let unfinished = rw (← c.self.view_is) at c.requires.unfinished in
    let named : c.as_str.result.now ≡ path_of i.settings.name c.args.file (pixel_for i.parts.items c.args.file) =
    c.as_str.ensures.value ∙ (c.in-Ok.ensures ∙ ap (λ (l : List Pixel). path_of i.settings.name c.args.file (pixel_for l c.args.file)) c.deref.ensures.value) in
    let (bytes, there, value) = recorded_there g.J.Job.of g.Src.Source.source g.S.Store.disk _ c.self.invariant clear unfinished p c.args.file (recorded p) c.as_str.result.now named in
    let tells = (c.self.invariant.disk (c.self.invariant.with_tells p)).told in
    let (placed, reads, is) = slice_of_file (job_of g.J.Job.of) c.args.part bytes c.args.file c.requires.parts value in
    let alone = alone_is c.args.part bytes placed reads in
    let answers = subst (λ (o : Option (List ℕ)). Answers (Ok c.in-Ok-read_alone.rows) (read_alone c.args.part (contents o))) there (c.in-Ok-read_alone.ensures.answers tells) in
    subst (IsSliceOf (job_of g.J.Job.of) c.args.file c.args.part) (answered c.in-Ok-read_alone.rows (read_alone c.args.part bytes) (slice c.args.part placed) answers alone) is

pub returns-in-Ok-read_alone-clause-good : goal.returns-in-Ok-read_alone-clause-good
returns-in-Ok-read_alone-clause-good g c = c.in-Ok-read_alone.ensures.good

pub returns-in-Ok-read_alone-clause-same : goal.returns-in-Ok-read_alone-clause-same
returns-in-Ok-read_alone-clause-same g c = (ap (λ (s : Shown). s.records) c.self.view_is, ap (λ (s : Shown). s.held) c.self.view_is, ap (λ (s : Shown). s.kept) c.self.view_is, ap (λ (s : Shown). s.first) c.self.view_is, ap (λ (s : Shown). s.stage) c.self.view_is)

pub returns-in-Ok-read_alone-clause-shape : goal.returns-in-Ok-read_alone-clause-shape
returns-in-Ok-read_alone-clause-shape g c = (ap (λ (s : Shown). s.inputs) c.self.view_is, ap (λ (s : Shown). s.partitions) c.self.view_is, ap (λ (s : Shown). s.settings) c.self.view_is, ap (λ (s : Shown). s.from) c.self.view_is)

pub returns-in-Ok-read_alone-clause-later : goal.returns-in-Ok-read_alone-clause-later
returns-in-Ok-read_alone-clause-later g c =
    let l = c.read_alone.ensures.later in
    rw (← c.self.view_is) l

pub invariant_of-self-2 : goal.invariant_of-self-2
invariant_of-self-2 g c =
    same_kept g.J.Job.of g.Src.Source.source g.S.Store.disk _ c.self.invariant c.read_alone.new.store c.read_alone.ensures.passes c.read_alone.ensures.later

pub returns-clause-cause : goal.returns-clause-cause
returns-clause-cause g c =
    subst (IsSliceCause g.J.Job.of c.args.file (g.S.Store.disk.faults c.read_alone.new.store)) (sym c.of_slice.ensures)
    (slice_cause g.J.Job.of c.args.file (g.S.Store.disk.faults c.read_alone.new.store) c.in-Err-read_alone.error
    (λ p.
    let i = c.self.inside in
    let recorded = rw (← c.self.view_is) at c.requires.recorded in
    let clear = rw (← c.self.view_is) at c.requires.clear in
    let unfinished = rw (← c.self.view_is) at c.requires.unfinished in
    let named : c.as_str.result.now ≡ path_of i.settings.name c.args.file (pixel_for i.parts.items c.args.file) =
    c.as_str.ensures.value ∙ (c.in-Ok.ensures ∙ ap (λ (l : List Pixel). path_of i.settings.name c.args.file (pixel_for l c.args.file)) c.deref.ensures.value) in
    let (bytes, there, value) = recorded_there g.J.Job.of g.Src.Source.source g.S.Store.disk _ c.self.invariant clear unfinished p c.args.file (recorded p) c.as_str.result.now named in
    let tells = (c.self.invariant.disk (c.self.invariant.with_tells p)).told in
    let (placed, reads, is) = slice_of_file (job_of g.J.Job.of) c.args.part bytes c.args.file c.requires.parts value in
    let alone = alone_is c.args.part bytes placed reads in
    let answers = subst (λ (o : Option (List ℕ)). Answers (Err c.in-Err-read_alone.error) (read_alone c.args.part (contents o))) there (c.in-Err-read_alone.ensures.answers tells) in
    (slice c.args.part placed, subst (Answers (Err c.in-Err-read_alone.error)) alone answers))
    (λ e. let rose = c.in-Err-read_alone.ensures.failed (ap Err e) in let count = c.self.invariant.count in omega (arith, rose, count)))

pub returns-clause-same : goal.returns-clause-same
returns-clause-same g c = (ap (λ (s : Shown). s.records) c.self.view_is, ap (λ (s : Shown). s.held) c.self.view_is, ap (λ (s : Shown). s.kept) c.self.view_is, ap (λ (s : Shown). s.first) c.self.view_is, ap (λ (s : Shown). s.stage) c.self.view_is)

pub returns-clause-shape : goal.returns-clause-shape
returns-clause-shape g c = (ap (λ (s : Shown). s.inputs) c.self.view_is, ap (λ (s : Shown). s.partitions) c.self.view_is, ap (λ (s : Shown). s.settings) c.self.view_is, ap (λ (s : Shown). s.from) c.self.view_is)

pub returns-clause-later : goal.returns-clause-later
returns-clause-later g c =
    let l = c.read_alone.ensures.later in
    rw (← c.self.view_is) l
