use Rattle.std.proofs.Common.{rules, ◌≡◌, ℤ, List, map, true, sym, ◌∙◌}
use Rattle.std.specs.Int.{w64}
use Rattle.std.specs.Int.RustNames.{FitsSigned}
use Rattle.std.proofs.lemmas.Int.{to_z-of_z}
use Rattle.hx_pqmeta.specs.Footers.{are_counts}
use Rattle.hx_pqmeta.proofs.Counts.{counts_few}
use Rattle.hx_pqmeta.proofs.reading.sound.Goals as goal

pub returns-then-are_counts-clause-rows : goal.returns-then-are_counts-clause-rows
returns-then-are_counts-clause-rows c =
    let fits : FitsSigned w64 c.rows.result = search rules in
    let right : are_counts c.rows.result (map (λ group. group.rows) c.args.footer.groups) ≡ true =
    rw (← c.groups.ensures) (sym (rw (to_z-of_z w64 c.rows.result fits) at c.are_counts.ensures) ∙ c.if-are_counts.true) in
    counts_few c.rows.result c.args.footer.groups fits right
