use Rattle.hx_import.proofs.Cleaned.{journal_kept, left_gone_where, still_gone}
use Rattle.hx_import.proofs.cleaning.remove_work_of.Goals as goal

pub returns-clause-journal : goal.returns-clause-journal
returns-clause-journal g c tells =
    journal_kept g.S.Store.disk c.args.name.now _ _ c.args.entry.now.task c.in-Some.file _ _ _ c.in-Some.ensures c.as_str.ensures.value c.in_ok-path.ensures tells (c.remove_for_good.ensures.passes tells)

pub returns-clause-gone : goal.returns-clause-gone
returns-clause-gone g c tells =
    left_gone_where g.S.Store.disk _ _ c.args.name.now c.args.entry.now c.in-Some.file _ c.remove_for_good.result c.in-Some.ensures _ _ c.as_str.ensures.value c.in_ok-path.ensures (c.remove_for_good.ensures.gone tells)

pub returns-clause-still : goal.returns-clause-still
returns-clause-still g c tells = still_gone g.S.Store.disk _ _ _ c.remove_for_good.result (c.remove_for_good.ensures.gone tells)
