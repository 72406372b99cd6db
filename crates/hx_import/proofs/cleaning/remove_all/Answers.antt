use Rattle.std.proofs.Common.{◌∙◌, refl, subst, sym}
use Rattle.hx_base.specs.declared.refusal.JobFile.TheVariants as file
use Rattle.hx_import.specs.Cleaning.{IsWorkFile, no_pixel}
use Rattle.hx_import.proofs.Cleaned.{all_gone, is_work, journal_last, keeps_file, keeps_next, kept_in_order, that_gone}
use Rattle.hx_import.proofs.cleaning.remove_all.Goals as goal

pub returns-clause-passes : goal.returns-clause-passes
returns-clause-passes g c tells =
    let run = c.remove_work.ensures.passes tells in
    let work = subst (IsWorkFile c.args.name.now) (sym (c.as_str.ensures.value ∙ c.in_ok-journal.ensures)) (is_work c.args.name.now file.Journal no_pixel refl) in
    keeps_next g.S.Store.disk _ _ _ c.args.name.now tells run (keeps_file g.S.Store.disk _ _ c.args.name.now _ work run.told (c.remove_for_good.ensures.passes run.told))

pub returns-in_err-remove_work-clause-in_order : goal.returns-in_err-remove_work-clause-in_order
returns-in_err-remove_work-clause-in_order g c tells = kept_in_order g.S.Store.disk c.args.name.now _ _ c.args.records.now tells (c.remove_work.ensures.journal tells)

pub returns-in_err-journal-clause-in_order : goal.returns-in_err-journal-clause-in_order
returns-in_err-journal-clause-in_order g c tells = kept_in_order g.S.Store.disk c.args.name.now _ _ c.args.records.now tells (c.remove_work.ensures.journal tells)

pub returns-clause-in_order : goal.returns-clause-in_order
returns-clause-in_order g c tells =
    let run = c.remove_work.ensures.journal tells in
    journal_last g.S.Store.disk c.args.name.now _ _ _ c.args.records.now _ (c.as_str.ensures.value ∙ c.in_ok-journal.ensures) tells run (c.in_ok-remove_work.ensures.gone tells) (c.remove_for_good.ensures.passes run.told)

pub returns-clause-gone : goal.returns-clause-gone
returns-clause-gone g c tells =
    let run = c.remove_work.ensures.passes tells in
    all_gone g.S.Store.disk _ _ c.args.name.now c.args.records.now _ c.remove_for_good.result (c.in_ok-remove_work.ensures.gone tells) (c.remove_for_good.ensures.gone run.told)

pub returns-clause-journal : goal.returns-clause-journal
returns-clause-journal g c tells =
    let run = c.remove_work.ensures.passes tells in
    that_gone g.S.Store.disk _ _ _ _ c.remove_for_good.result (sym (c.as_str.ensures.value ∙ c.in_ok-journal.ensures)) (c.remove_for_good.ensures.gone run.told)
