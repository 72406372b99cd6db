use Rattle.std.proofs.Common.{arith, length, [], ◌<◌, ◌++◌, ◌∷◌}
use Rattle.std.proofs.lemmas.Bool.Decides.{nat_tests}
use Rattle.hx_catalog.specs.Fronts.{BeginsByNone}
use Rattle.hx_catalog.specs.Lists.{IsList, MayFollow, pixel_line}
use Rattle.hx_catalog.proofs.Listed.{header-broken, list-broken, list-next}
use Rattle.hx_catalog.proofs.lists.pixels_of.Goals as goal

pub returns-in_default-clause-refused : goal.returns-in_default-clause-refused
returns-in_default-clause-refused c = header-broken c.args.bytes.now c.in_default.ensures

pub returns-in_default-next_pixel-clause-refused : goal.returns-in_default-next_pixel-clause-refused
returns-in_default-next_pixel-clause-refused c =
    let some : 0 < length c.loop-rest.rest.now = grind (arith, nat_tests) in
    let none : BeginsByNone (MayFollow c.loop-rest.pixels.items) pixel_line 10 c.loop-rest.rest.now = rw (← c.deref.ensures.value) c.in_default-next_pixel.ensures in
    rw c.damaged.ensures (list-broken c.loop-rest.pixels.items c.args.bytes.now c.loop-rest.rest.now c.loop-rest.invariant.list c.loop-rest.invariant.form some none)

pub loop-rest-preserved : goal.loop-rest-preserved
loop-rest-preserved c =
    let pixels = c.loop-rest.pixels.items in
    let next = c.in-Some-next_pixel in
    let list : IsList (pixels ++ next.pixel ∷ []) = rw (← c.deref.ensures.value) next.ensures.0 in
    let pushed = c.in_ok-push_pixel.ensures in record {
      list = rw pushed list;
      form = rw pushed (list-next pixels next.pixel c.args.bytes.now c.loop-rest.rest.now next.behind.now c.loop-rest.invariant.form next.ensures.1);
    }
