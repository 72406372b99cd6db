use Rattle.std.proofs.Common.{◌≡◌, ◌∙◌, ℕ, List, Option, Some, None, Err, Vec, Global, option_map, refl, sym, ap, subst, arith}
use Rattle.hx_base.specs.Paths.{path_of}
use Rattle.hx_base.specs.declared.pixel.Pixel.{Pixel}
use Rattle.hx_book.specs.Books.{Shown, job_of}
use Rattle.hx_book.specs.Recordings.{pixel_for}
use Rattle.hx_book.specs.Values.{IsFileOf}
use Rattle.hx_book.proofs.Keeping.{same_kept}
use Rattle.hx_book.proofs.Reading.{recorded_there}
use Rattle.hx_book.proofs.book.Book.read_file.Goals as goal

pub same-self : goal.same-self
same-self g c = refl

pub returns-in-Err-clause-same : goal.returns-in-Err-clause-same
returns-in-Err-clause-same g c = (refl, refl, refl, refl, refl)

pub returns-in-Err-clause-shape : goal.returns-in-Err-clause-shape
returns-in-Err-clause-shape g c = (refl, refl, refl, refl)

pub returns-in-Err-clause-later : goal.returns-in-Err-clause-later
returns-in-Err-clause-later g c = omega arith

pub invariant_of-self : goal.invariant_of-self
invariant_of-self g c =
    same_kept g.J.Job.of g.Src.Source.source g.S.Store.disk _ c.self.invariant c.read_file.new.store c.read_file.ensures.passes c.read_file.ensures.cause.later

pub returns-in-Ok-Some-clause-value : goal.returns-in-Ok-Some-clause-value
returns-in-Ok-Some-clause-value g c p =
    let i = c.self.inside in
    let recorded = rw (← c.self.view_is) at c.requires.recorded in
    let clear = rw (← c.self.view_is) at c.requires.clear in
    let unfinished = rw (← c.self.view_is) at c.requires.unfinished in
    let named : c.as_str.result.now ≡ path_of i.settings.name c.args.file (pixel_for i.parts.items c.args.file) =
    c.as_str.ensures.value ∙ (c.in-Ok.ensures ∙ ap (λ (l : List Pixel). path_of i.settings.name c.args.file (pixel_for l c.args.file)) c.deref.ensures.value) in
    let (bytes, there, value) = recorded_there g.J.Job.of g.Src.Source.source g.S.Store.disk _ c.self.invariant clear unfinished p c.args.file (recorded p) c.as_str.result.now named in
    let tells = (c.self.invariant.disk (c.self.invariant.with_tells p)).told in
    let same : Some bytes ≡ Some c.in-Ok-Some.bytes.items = sym there ∙ (sym (c.in-Ok-Some.ensures.gives tells) ∙ ap (λ (o : Option (Vec ℕ Global)). option_map (λ (v : Vec ℕ Global). v.items) o) c.in-Ok-Some.field-0-is) in
    subst (λ (l : List ℕ). IsFileOf (job_of g.J.Job.of) l c.args.file) (cc same) value

pub returns-in-Ok-Some-clause-same : goal.returns-in-Ok-Some-clause-same
returns-in-Ok-Some-clause-same g c = (ap (λ (s : Shown). s.records) c.self.view_is, ap (λ (s : Shown). s.held) c.self.view_is, ap (λ (s : Shown). s.kept) c.self.view_is, ap (λ (s : Shown). s.first) c.self.view_is, ap (λ (s : Shown). s.stage) c.self.view_is)

pub returns-in-Ok-Some-clause-shape : goal.returns-in-Ok-Some-clause-shape
returns-in-Ok-Some-clause-shape g c = (ap (λ (s : Shown). s.inputs) c.self.view_is, ap (λ (s : Shown). s.partitions) c.self.view_is, ap (λ (s : Shown). s.settings) c.self.view_is, ap (λ (s : Shown). s.from) c.self.view_is)

pub returns-in-Ok-Some-clause-later : goal.returns-in-Ok-Some-clause-later
returns-in-Ok-Some-clause-later g c =
    let l = c.read_file.ensures.cause.later in
    rw (← c.self.view_is) l

pub invariant_of-self-in-Ok-None : goal.invariant_of-self-in-Ok-None
invariant_of-self-in-Ok-None g c =
    same_kept g.J.Job.of g.Src.Source.source g.S.Store.disk _ c.self.invariant c.read_file.new.store c.read_file.ensures.passes c.read_file.ensures.cause.later

pub returns-in-Ok-None-clause-cause : goal.returns-in-Ok-None-clause-cause
returns-in-Ok-None-clause-cause g c = (
  refl,
  refl,
  refl,
  λ p.
      let i = c.self.inside in
      let recorded = rw (← c.self.view_is) at c.requires.recorded in
      let clear = rw (← c.self.view_is) at c.requires.clear in
      let unfinished = rw (← c.self.view_is) at c.requires.unfinished in
      let named : c.as_str.result.now ≡ path_of i.settings.name c.args.file (pixel_for i.parts.items c.args.file) =
      c.as_str.ensures.value ∙ (c.in-Ok.ensures ∙ ap (λ (l : List Pixel). path_of i.settings.name c.args.file (pixel_for l c.args.file)) c.deref.ensures.value) in
      let (bytes, there, value) = recorded_there g.J.Job.of g.Src.Source.source g.S.Store.disk _ c.self.invariant clear unfinished p c.args.file (recorded p) c.as_str.result.now named in
      let tells = (c.self.invariant.disk (c.self.invariant.with_tells p)).told in
      let same : Some bytes ≡ None = sym there ∙ (sym (c.in-Ok-None.ensures.gives tells) ∙ ap (λ (o : Option (Vec ℕ Global)). option_map (λ (v : Vec ℕ Global). v.items) o) c.in-Ok-None.field-0-is) in
      cc same,
)

pub returns-in-Ok-None-clause-same : goal.returns-in-Ok-None-clause-same
returns-in-Ok-None-clause-same g c = (ap (λ (s : Shown). s.records) c.self.view_is, ap (λ (s : Shown). s.held) c.self.view_is, ap (λ (s : Shown). s.kept) c.self.view_is, ap (λ (s : Shown). s.first) c.self.view_is, ap (λ (s : Shown). s.stage) c.self.view_is)

pub returns-in-Ok-None-clause-shape : goal.returns-in-Ok-None-clause-shape
returns-in-Ok-None-clause-shape g c = (ap (λ (s : Shown). s.inputs) c.self.view_is, ap (λ (s : Shown). s.partitions) c.self.view_is, ap (λ (s : Shown). s.settings) c.self.view_is, ap (λ (s : Shown). s.from) c.self.view_is)

pub returns-in-Ok-None-clause-later : goal.returns-in-Ok-None-clause-later
returns-in-Ok-None-clause-later g c =
    let l = c.read_file.ensures.cause.later in
    rw (← c.self.view_is) l

pub invariant_of-self-in-Err-Failed : goal.invariant_of-self-in-Err-Failed
invariant_of-self-in-Err-Failed g c =
    same_kept g.J.Job.of g.Src.Source.source g.S.Store.disk _ c.self.invariant c.read_file.new.store c.read_file.ensures.passes c.read_file.ensures.cause.later

pub returns-in-Err-Failed-clause-cause : goal.returns-in-Err-Failed-clause-cause
returns-in-Err-Failed-clause-cause g c =
    let rose = c.in-Err-Failed.ensures.cause.failed (ap Err c.in-Err-Failed.field-0-is) in
    let count = c.self.invariant.count in
    omega (arith, rose, count)

pub returns-in-Err-Failed-clause-same : goal.returns-in-Err-Failed-clause-same
returns-in-Err-Failed-clause-same g c = (ap (λ (s : Shown). s.records) c.self.view_is, ap (λ (s : Shown). s.held) c.self.view_is, ap (λ (s : Shown). s.kept) c.self.view_is, ap (λ (s : Shown). s.first) c.self.view_is, ap (λ (s : Shown). s.stage) c.self.view_is)

pub returns-in-Err-Failed-clause-shape : goal.returns-in-Err-Failed-clause-shape
returns-in-Err-Failed-clause-shape g c = (ap (λ (s : Shown). s.inputs) c.self.view_is, ap (λ (s : Shown). s.partitions) c.self.view_is, ap (λ (s : Shown). s.settings) c.self.view_is, ap (λ (s : Shown). s.from) c.self.view_is)

pub returns-in-Err-Failed-clause-later : goal.returns-in-Err-Failed-clause-later
returns-in-Err-Failed-clause-later g c =
    let l = c.read_file.ensures.cause.later in
    rw (← c.self.view_is) l

pub invariant_of-self-2 : goal.invariant_of-self-2
invariant_of-self-2 g c =
    same_kept g.J.Job.of g.Src.Source.source g.S.Store.disk _ c.self.invariant c.read_file.new.store c.read_file.ensures.passes c.read_file.ensures.cause.later

pub returns-clause-same : goal.returns-clause-same
returns-clause-same g c = (ap (λ (s : Shown). s.records) c.self.view_is, ap (λ (s : Shown). s.held) c.self.view_is, ap (λ (s : Shown). s.kept) c.self.view_is, ap (λ (s : Shown). s.first) c.self.view_is, ap (λ (s : Shown). s.stage) c.self.view_is)

pub returns-clause-shape : goal.returns-clause-shape
returns-clause-shape g c = (ap (λ (s : Shown). s.inputs) c.self.view_is, ap (λ (s : Shown). s.partitions) c.self.view_is, ap (λ (s : Shown). s.settings) c.self.view_is, ap (λ (s : Shown). s.from) c.self.view_is)

pub returns-clause-later : goal.returns-clause-later
returns-clause-later g c =
    let l = c.read_file.ensures.cause.later in
    rw (← c.self.view_is) l
