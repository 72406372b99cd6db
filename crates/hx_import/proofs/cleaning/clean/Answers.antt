use Rattle.std.proofs.Common.{◌∙◌, subst, sym}
use Rattle.std.specs.List.{All}
use Rattle.hx_journal.specs.Journal.{Stands, journal_file}
use Rattle.hx_import.specs.Cleaning.{HasNoWorkOf}
use Rattle.hx_import.proofs.Cleaned.{cleaned_in_order, keeps_next, opened_in_order, opened_passes}
use Rattle.hx_import.proofs.cleaning.clean.Goals as goal

pub returns-in-Err-clause-refused : goal.returns-in-Err-clause-refused
returns-in-Err-clause-refused g c tells = c.refusal_of.ensures.refused (g.S.Store.disk.reads c.args.store.now) c.args.name.now

pub returns-in-Err-Absent-clause-passes : goal.returns-in-Err-Absent-clause-passes
returns-in-Err-Absent-clause-passes g c tells = opened_passes g.S.Store.disk _ _ _ c.args.name.now tells (c.has_properties.ensures.passes tells) c.open.ensures.passes

pub returns-in-Err-Damaged-clause-passes : goal.returns-in-Err-Damaged-clause-passes
returns-in-Err-Damaged-clause-passes g c tells = opened_passes g.S.Store.disk _ _ _ c.args.name.now tells (c.has_properties.ensures.passes tells) c.open.ensures.passes

pub returns-in-Err-StoreFault-clause-passes : goal.returns-in-Err-StoreFault-clause-passes
returns-in-Err-StoreFault-clause-passes g c tells = opened_passes g.S.Store.disk _ _ _ c.args.name.now tells (c.has_properties.ensures.passes tells) c.open.ensures.passes

pub returns-in-Err-Memory-clause-passes : goal.returns-in-Err-Memory-clause-passes
returns-in-Err-Memory-clause-passes g c tells = opened_passes g.S.Store.disk _ _ _ c.args.name.now tells (c.has_properties.ensures.passes tells) c.open.ensures.passes

pub returns-in-Ok-remove_all-clause-passes : goal.returns-in-Ok-remove_all-clause-passes
returns-in-Ok-remove_all-clause-passes g c tells =
    let run = opened_passes g.S.Store.disk _ _ _ c.args.name.now tells (c.has_properties.ensures.passes tells) c.open.ensures.passes in
    keeps_next g.S.Store.disk _ _ _ c.args.name.now tells run (c.remove_all.ensures.passes run.told)

pub returns-clause-passes : goal.returns-clause-passes
returns-clause-passes g c tells =
    let run = opened_passes g.S.Store.disk _ _ _ c.args.name.now tells (c.has_properties.ensures.passes tells) c.open.ensures.passes in
    keeps_next g.S.Store.disk _ _ _ c.args.name.now tells run (c.remove_all.ensures.passes run.told)

pub returns-in-Err-Absent-clause-in_order : goal.returns-in-Err-Absent-clause-in_order
returns-in-Err-Absent-clause-in_order g c tells = opened_in_order g.S.Store.disk c.args.name.now _ _ _ tells (c.has_properties.ensures.passes tells) c.open.ensures.passes

pub returns-in-Err-Damaged-clause-in_order : goal.returns-in-Err-Damaged-clause-in_order
returns-in-Err-Damaged-clause-in_order g c tells = opened_in_order g.S.Store.disk c.args.name.now _ _ _ tells (c.has_properties.ensures.passes tells) c.open.ensures.passes

pub returns-in-Err-StoreFault-clause-in_order : goal.returns-in-Err-StoreFault-clause-in_order
returns-in-Err-StoreFault-clause-in_order g c tells = opened_in_order g.S.Store.disk c.args.name.now _ _ _ tells (c.has_properties.ensures.passes tells) c.open.ensures.passes

pub returns-in-Err-Memory-clause-in_order : goal.returns-in-Err-Memory-clause-in_order
returns-in-Err-Memory-clause-in_order g c tells = opened_in_order g.S.Store.disk c.args.name.now _ _ _ tells (c.has_properties.ensures.passes tells) c.open.ensures.passes

pub returns-in-Ok-remove_all-clause-in_order : goal.returns-in-Ok-remove_all-clause-in_order
returns-in-Ok-remove_all-clause-in_order g c tells =
    let first = c.has_properties.ensures.passes tells in
    cleaned_in_order g.S.Store.disk c.args.name.now _ _ _ _ c.in-Ok.journal _ tells first c.open.ensures.passes c.in-Ok.ensures.named (c.in-Ok.ensures.opened first.told).heading c.in-Ok.ensures.ready c.records.ensures.items
    c.remove_all.ensures.in_order

pub returns-clause-in_order : goal.returns-clause-in_order
returns-clause-in_order g c tells =
    let first = c.has_properties.ensures.passes tells in
    cleaned_in_order g.S.Store.disk c.args.name.now _ _ _ _ c.in-Ok.journal _ tells first c.open.ensures.passes c.in-Ok.ensures.named (c.in-Ok.ensures.opened first.told).heading c.in-Ok.ensures.ready c.records.ensures.items
    c.remove_all.ensures.in_order

pub returns-clause-refused : goal.returns-clause-refused
returns-clause-refused g c tells = c.refusal_of-in-Err-remove_all.ensures.refused (g.S.Store.disk.reads c.args.store.now) c.args.name.now

pub returns-in-Ok-remove_all-clause-cleaned : goal.returns-in-Ok-remove_all-clause-cleaned
returns-in-Ok-remove_all-clause-cleaned g c tells = λ f now.
    let d = g.S.Store.disk in
    let name = c.args.name.now in
    let first = c.has_properties.ensures.passes tells in
    let run = opened_passes d _ _ _ name tells first c.open.ensures.passes in
    let opened = c.in-Ok.ensures.opened first.told in
    record {
      journal = c.in-Ok-remove_all.ensures.journal run.told f now;
      work = λ header records heading stands.
          let before : Stands header records (d.reads _ (journal_file name)) = subst (Stands header records) (λ k. sym first.seen k (journal_file name)) stands in
          let one = c.a_file_is_one_journal.ensures header c.in-Ok.journal.header records c.in-Ok.journal.records _ heading opened.heading before opened.stands in
          let gone = c.in-Ok-remove_all.ensures.gone run.told f now in
          subst (All (HasNoWorkOf name f)) (c.records.ensures.items ∙ sym one.1) gone;
    }
