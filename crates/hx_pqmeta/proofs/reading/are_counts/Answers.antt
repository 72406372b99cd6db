use Rattle.std.proofs.Common.{rules, ◌≤ℤ◌, ◌-ℤ◌, ◌+◌, ◌∷◌, ℤ, pos, List, map, drop, sym, ap, ◌∙◌, arith, to_z}
use Rattle.std.specs.Int.{w64}
use Rattle.std.specs.Int.RustNames.{FitsSigned}
use Rattle.std.proofs.lemmas.Int.{to_z-of_z, ints}
use Rattle.std.proofs.lemmas.List.{at_drop_more}
use Rattle.hx_pqmeta.specs.Records.{GroupRecord}
use Rattle.hx_pqmeta.specs.Footers.{are_counts}
use Rattle.hx_pqmeta.proofs.Counts.{counts_next, counts_stop, differs}
use Rattle.hx_pqmeta.proofs.reading.are_counts.Goals as goal

pub returns-then-not-lies_within : goal.returns-then-not-lies_within
returns-then-not-lies_within c =
    let rows_fit : FitsSigned w64 c.args.rows = search rules in
    let count = c.rows-count.result in
    let count_fits : FitsSigned w64 count = search rules in
    let left = to_z w64 c.loop-group.left-bits in
    let counts = λ (groups : List GroupRecord). map (λ group. group.rows) groups in
    let first = at_drop_more (λ groups. are_counts left (counts groups)) c.args.groups.now c.loop-group.group-index c.group-item.result (omega arith) in
    let within = rw (to_z-of_z w64 count count_fits) at c.lies_within.ensures.1 in
    let stop = counts_stop left count (counts (drop (c.loop-group.group-index + 1) c.args.groups.now)) (λ h. (let yes = rw c.if-not-lies_within.true at within h in absurd cc)) in
    let all = rw (to_z-of_z w64 c.args.rows rows_fit) at c.loop-group.invariant.1 in
    let same = ap (λ (n : ℤ). are_counts left (n ∷ counts (drop (c.loop-group.group-index + 1) c.args.groups.now))) (c.rows-count.ensures ∙ ap (λ (group : GroupRecord). group.rows) c.group-item.is) in
    sym stop ∙ (same ∙ (sym first ∙ all))

pub loop-group-preserved : goal.loop-group-preserved
loop-group-preserved c =
    let count = c.rows-count.result in
    let count_fits : FitsSigned w64 count = search rules in
    let left = to_z w64 c.loop-group.left-bits in
    let left_fits : FitsSigned w64 left = search rules in
    let counts = λ (groups : List GroupRecord). map (λ group. group.rows) groups in
    let first = at_drop_more (λ groups. are_counts left (counts groups)) c.args.groups.now c.loop-group.group-index c.group-item.result (omega arith) in
    let within = rw (to_z-of_z w64 count count_fits) at c.lies_within.ensures.0 c.if-not-lies_within.false in
    let next = counts_next left count (counts (drop (c.loop-group.group-index + 1) c.args.groups.now)) c.loop-group.invariant.0 within.0 within.1 in
    let same = ap (λ (n : ℤ). are_counts left (n ∷ counts (drop (c.loop-group.group-index + 1) c.args.groups.now))) (c.rows-count.ensures ∙ ap (λ (group : GroupRecord). group.rows) c.group-item.is) in
    let less : pos 0 ≤ℤ (left -ℤ count) = grind (arith, ints, within.0, within.1) in
    let less_fits : FitsSigned w64 (left -ℤ count) = differs left count left_fits within.0 within.1 in
    rw (to_z-of_z w64 count count_fits, to_z-of_z w64 (left -ℤ count) less_fits) (less, sym next ∙ (same ∙ (sym first ∙ c.loop-group.invariant.1)))
