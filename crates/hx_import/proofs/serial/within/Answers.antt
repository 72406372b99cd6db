use Rattle.std.proofs.Common.{Some, ◌≡◌, ◌∙◌, inl, refl, subst, sym}
use Rattle.hx_base.specs.declared.refusal.Refusal.TheVariants as other
use Rattle.hx_book.specs.Books.{job_of}
use Rattle.hx_import.specs.Importing.{IsRun}
use Rattle.hx_import.specs.Imports.{IsDecidedBy, IsFolderRefusal}
use Rattle.hx_import.proofs.Firsts.{not_long, opened_decided, refused_decided}
use Rattle.hx_import.proofs.Ran.{back_early, is_asked, not_late, refused_run}
use Rattle.hx_import.proofs.serial.within.Goals as goal

pub work-requires-clause-asked : goal.work-requires-clause-asked
work-requires-clause-asked g c = is_asked g.J.Job.of g.Src.Source.source g.S.Store.disk c.args.settings c.args.inputs.items c.args.store c.requires.named c.requires.limits c.requires.few

pub returns-in-Err-clause-run : goal.returns-in-Err-clause-run
returns-in-Err-clause-run g c =
    let j = g.J.Job.of in
    let source = g.Src.Source.source in
    let d = g.S.Store.disk in
    let b = c.in-Err.back in
    let e = c.in-Err.ensures in
    let out = c.refused.result in
    let (inputs, store) = c.refused.ensures.back in
    let run = refused_run j source d b.inputs.items b.store e.back e.told e.good e.untouched e.faults out.refusal out.rows out.partitions out.margin (rw c.refused.ensures.refusal refl) (rw c.refused.ensures.refusal (inl e.cause)) (λ tells. rw c.refused.ensures.refusal (back_early j source d b.inputs.items b.store b.refusal e.cause e.early tells)) c.refused.ensures.numbers in
    subst (λ s. IsRun j source d out.refusal out.rows out.partitions out.margin out.inputs.items s) (sym store)
    (subst (λ v. IsRun j source d out.refusal out.rows out.partitions out.margin v.items b.store) (sym inputs) run)

pub returns-in-Ok-clause-other : goal.returns-in-Ok-clause-other
returns-in-Ok-clause-other g c = λ bytes place kept asked tell tells is. absurd (not_late c.work.result.refusal place kept asked c.work.ensures.late is)

pub returns-in-Err-clause-other : goal.returns-in-Err-clause-other
returns-in-Err-clause-other g c = λ bytes place kept asked tell tells is.
    let r = c.in-Err.back.refusal in
    let shows = c.in-Err.ensures.shows bytes tell tells in
    let same : Some r ≡ Some (other.OtherJob place kept asked) = sym c.refused.ensures.refusal ∙ is in
    let own : r ≡ other.OtherJob place kept asked = cc same in
    rw own at shows

pub returns-in-Ok-clause-folder : goal.returns-in-Ok-clause-folder
returns-in-Ok-clause-folder g c = λ bytes tell short tells.
    let e = c.in-Ok.ensures in
    opened_decided (job_of g.J.Job.of) (g.S.Store.disk.reads c.args.store) c.work.result.refusal c.in-Ok.book.records (e.barred bytes tell tells) (e.records tells) c.work.ensures.late

pub returns-in-Err-clause-folder : goal.returns-in-Err-clause-folder
returns-in-Err-clause-folder g c = λ bytes tell short tells.
    let j = g.J.Job.of in
    let d = g.S.Store.disk in
    let b = c.in-Err.back in
    let e = c.in-Err.ensures in
    let decided = refused_decided j g.Src.Source.source b.inputs.items (d.faults b.store) (d.reads c.args.store) b.refusal e.cause (not_long bytes b.refusal (λ what found limit is. e.long bytes what found limit tell is) short) (e.shows bytes tell tells) in
    subst (IsDecidedBy (IsFolderRefusal (job_of j) (d.reads c.args.store))) (sym c.refused.ensures.refusal) decided
