use Rattle.std.proofs.Common.{arith, nat_le}
use Rattle.std.proofs.lemmas.Bool.{leb-true}
use Rattle.hx_spill.specs.Plans.{row_behind}
use Rattle.hx_spill.proofs.Each.{each-length, kept-is}
use Rattle.hx_spill.proofs.plan.read_plan.Goals as goal

pub new-requires : goal.new-requires
new-requires c =
    let read = c.in_ok-rows.ensures.read in
    let few = kept-is (nat_le c.in_ok-n.n 100000) c.in_ok-n-2.n c.in_ok-n.n 4 c.in_ok-n-2.ensures in
    let number = each-length (row_behind c.args.bytes.now) c.in_ok-n-2.n c.in_ok-rows.field-0.rows.items read.read in
    record {
      most = omega (arith, number, leb-true _ _ few.0, few.1);
      disjoint = (c.ranges_of_pixels.ensures.ascending _).1 (read.exist, read.ascend);
      each = read.rows_fit;
    }
