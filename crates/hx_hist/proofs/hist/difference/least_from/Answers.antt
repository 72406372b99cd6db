use Rattle.std.proofs.Common.{sym}
use Rattle.std.proofs.lemmas.Bool.{ltb-false}
use Rattle.hx_hist.proofs.Counts.{least_of_both, least_of_found, least_of_kept}
use Rattle.hx_hist.proofs.hist.difference.least_from.Goals as goal

pub returns-in-Some-Some-clause-least : goal.returns-in-Some-Some-clause-least
returns-in-Some-Some-clause-least c =
    let arm = c.in-Some-Some in
    let one = arm.ensures.lookup.3 in
    let other = arm.ensures'.lookup.3 in
    least_of_both c.args.index c.min.result c.args.kept.now c.args.found.now arm.one.now arm.other.now c.requires.kept c.requires.found one.0 other.0 one.1 other.1 c.min.ensures

pub returns-in-Some-None-clause-least : goal.returns-in-Some-None-clause-least
returns-in-Some-None-clause-least c =
    let arm = c.in-Some-None in
    let one = arm.ensures.lookup.3 in
    least_of_kept c.args.index c.args.kept.now c.args.found.now arm.one.now c.requires.kept one.0 one.1 (ltb-false c.args.index _ (sym arm.ensures'.lookup.0))

pub returns-in-None-Some-clause-least : goal.returns-in-None-Some-clause-least
returns-in-None-Some-clause-least c =
    let arm = c.in-None-Some in
    let other = arm.ensures'.lookup.3 in
    least_of_found c.args.index c.args.kept.now c.args.found.now arm.other.now c.requires.found other.0 other.1 (ltb-false c.args.index _ (sym arm.ensures.lookup.0))
