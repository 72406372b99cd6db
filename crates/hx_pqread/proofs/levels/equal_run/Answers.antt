use Rattle.std.proofs.Common.{rules, ◌≡◌, ◌<◌, ◌&&◌, length, true, ltb, refl, arith}
use Rattle.std.proofs.lemmas.Bool.Decides.{nat_tests}
use Rattle.std.specs.Prelude.{slice_index}
use Rattle.hx_pqread.specs.Levels.{equal_at}
use Rattle.hx_pqread.proofs.Saying.{take_equal}
use Rattle.hx_pqread.proofs.levels.equal_run.Goals as goal

pub returns-clause-value : goal.returns-clause-value
unfolding equal_at
returns-clause-value c =
    let bytes = c.args.bytes.now in
    let some : 0 < length bytes = search rules in
    let small : slice_index bytes 0 < 2 = omega arith in
    let test : ltb 0 (length bytes) && ltb (slice_index bytes 0) 2 ≡ true = grind (arith, nat_tests) in
    let first = take_equal c.args.wanted c.args.count c.least.result (slice_index bytes 0) c.least.ensures in
    rw (test, first, c.equal.ensures.value, c.split_at.ensures.back) refl
