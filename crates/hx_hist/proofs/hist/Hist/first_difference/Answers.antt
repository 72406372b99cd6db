use Rattle.std.proofs.Common.{◌∙◌, sym}
use Rattle.std.proofs.lemmas.Bool.{false≢true}
use Rattle.hx_hist.proofs.Counts.{first_difference}
use Rattle.hx_hist.proofs.hist.Hist.first_difference.Goals as goal

pub returns-clause-first : goal.returns-clause-first
returns-clause-first c =
    let common = c.common_pairs-index in
    let kept = c.pairs-kept.ensures in
    let found = c.pairs-found.ensures in
    rw (← kept.pairs, ← found.pairs, c.count_from.ensures, c.count_from-2.ensures)
    (first_difference c.args.self.now.order c.in_ok-pixel.pixel common.result c.pairs-kept.result.now c.pairs-found.result.now (rw (← kept.pairs) at kept.histogram) (rw (← found.pairs, ← c.requires.order) at found.histogram)
    common.ensures.same common.ensures.next c.in_ok-pixel.ensures.least)

pub returns-clause-none : goal.returns-clause-none
returns-clause-none c =
    let first = returns-clause-first c in
    (λ none. absurd (false≢true (sym none)), λ same. absurd (first.differ (first.kept_count ∙ same c.in_ok-pixel.pixel ∙ sym first.found_count)))
