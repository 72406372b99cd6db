use Rattle.std.proofs.Common.{◌≤◌, arith, length, map, subst}
use Rattle.std.proofs.lemmas.List.{length-map}
use Rattle.hx_base.specs.Limits.{most_inputs}
use Rattle.hx_book.specs.Books.{input_of, job_of, origin_of}
use Rattle.hx_book.specs.Tasks.{JobData}
use Rattle.hx_import.specs.Importing.{members_of}
use Rattle.hx_import.specs.Imports.{IsDecidedBy, IsFolderRefusal}
use Rattle.hx_import.proofs.Firsts.{first_shown}
use Rattle.hx_import.proofs.Handed.{cause_left, counts_left, handed_back, other_header, others_left, whole_left}
use Rattle.hx_import.proofs.Ran.{are_named, job_same}
use Rattle.hx_import.proofs.serial.import_one.Goals as goal

pub within-requires-clause-named : goal.within-requires-clause-named
within-requires-clause-named g c = are_named g.Src.Source.source g.S.Store.disk c.args.settings c.args.inputs.items c.args.store

pub returns-clause-inputs : goal.returns-clause-inputs
returns-clause-inputs g c = handed_back g.Src.Source.source g.S.Store.disk c.args.settings c.args.inputs.items c.args.store c.within.result.inputs.items c.within.ensures.run.back

pub returns-clause-faults : goal.returns-clause-faults
returns-clause-faults g c = c.within.ensures.run.later

pub returns-clause-others : goal.returns-clause-others
returns-clause-others g c =
    let r = c.within.result in
    others_left g.Src.Source.source g.S.Store.disk c.args.settings c.args.inputs.items c.args.store r.refusal r.rows r.partitions r.margin r.inputs.items r.store c.within.ensures.run

pub returns-clause-whole : goal.returns-clause-whole
returns-clause-whole g c = λ bytes tell can.
    let source = g.Src.Source.source in
    let d = g.S.Store.disk in
    let r = c.within.result in
    let origins = map (origin_of source) c.args.inputs.items in
    let few : length (map input_of origins) ≤ most_inputs = omega (arith, c.requires.few, length-map c.args.inputs.items (origin_of source), length-map origins input_of) in
    let job = job_of (members_of source d c.args.settings c.args.inputs.items c.args.store) in
    whole_left source d c.args.settings c.args.inputs.items c.args.store r.refusal r.rows r.partitions r.margin r.inputs.items r.store c.within.ensures.run bytes tell can
    (λ f filed. c.finished_is_catalogue.ensures job f few c.as_str-name.ensures.rule c.requires.limits filed)

pub returns-clause-counts : goal.returns-clause-counts
returns-clause-counts g c = λ bytes tell can none.
    let r = c.within.result in
    counts_left g.Src.Source.source g.S.Store.disk c.args.settings c.args.inputs.items c.args.store r.refusal r.rows r.partitions r.margin r.inputs.items r.store c.within.ensures.run bytes tell can none

pub returns-clause-none : goal.returns-clause-none
returns-clause-none g c = c.within.ensures.run.nothing

pub returns-clause-cause : goal.returns-clause-cause
returns-clause-cause g c =
    let source = g.Src.Source.source in
    let d = g.S.Store.disk in
    let r = c.within.result in
    cause_left source d c.args.settings c.args.inputs.items c.args.store r.refusal r.rows r.partitions r.margin r.inputs.items r.store c.within.ensures.run _
    (λ place kept asked is bytes tell tells. other_header source d c.args.settings c.args.inputs.items c.args.store bytes tell (d.reads c.args.store) place kept asked (c.within.ensures.other bytes place kept asked tell tells is))

pub returns-clause-folder : goal.returns-clause-folder
returns-clause-folder g c = λ bytes tell short tells.
    let d = g.S.Store.disk in
    subst (λ (job : JobData). IsDecidedBy (IsFolderRefusal job (d.reads c.args.store)) c.within.result.refusal)
    (job_same g.Src.Source.source d c.args.settings c.args.inputs.items c.args.store bytes tell)
    (c.within.ensures.folder bytes tell short tells)

pub returns-clause-first : goal.returns-clause-first
returns-clause-first g c = λ bytes tell short can.
    let r = c.within.result in
    first_shown g.Src.Source.source g.S.Store.disk c.args.settings c.args.inputs.items c.args.store bytes tell short can r.rows r.partitions r.margin r.inputs.items r.store r.refusal c.within.ensures.run
