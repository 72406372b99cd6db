use Rattle.std.proofs.Common.{◌≡◌, ◌≤◌, ◌<◌, ◌∷◌, ◌++◌, [], ℕ, List, arith, length}
use Rattle.std.proofs.lemmas.List.{length-append}
use Rattle.std.proofs.lemmas.List.Elements.{All-push}
use Rattle.std.proofs.lemmas.List.Quantifiers.{all_pairs_push}
use Rattle.hx_base.specs.Pixels.{IsPixel, end_position, first_position}
use Rattle.hx_base.specs.declared.pixel.Pixel.{Pixel}
use Rattle.hx_base.proofs.Ranges.{disjoint_where_ascending, some_range}
use Rattle.hx_ptree.proofs.tests.parts_of.Invariants.{IsListed}
use Rattle.hx_ptree.proofs.tests.parts_of.Goals as goal
use Rattle.hx_ptree.proofs.tests.parts_of.Goals.{then-len-lt100000+then-exists+then-end-first_position+in_ok-push, else-len-lt100000}

pushed : (end next : ℕ) (parts : List Pixel) (pixel : Pixel) → IsListed end parts → length parts < 100000 → IsPixel pixel → end ≤ first_position pixel → next ≡ end_position pixel → IsListed next (parts ++ pixel ∷ [])
pushed end next parts pixel listed room exists at is = record {
  most = omega (arith, length-append parts (pixel ∷ []));
  each = All-push IsPixel parts pixel listed.each exists;
  ascending = all_pairs_push (λ a b. end_position a ≤ first_position b) parts pixel listed.ascending (λ k d lt. omega (arith, at, listed.ended k d lt));
  ended = All-push (λ part. end_position part ≤ next) parts pixel (λ k d lt. omega (arith, at, is, some_range pixel, listed.ended k d lt)) (omega (arith, is));
}

pub loop-order-preserved : goal.loop-order-preserved
loop-order-preserved c = elim c.if-len-lt100000.branch [
  | then-len-lt100000+then-exists+then-end-first_position+in_ok-push w ↦
      rw (w.parts-is, w.end-is, w.in_ok-push.ensures.items)
      (pushed c.loop-order.end w.end_position-end.result c.loop-order.parts.items _ c.loop-order.invariant (omega arith) (w.exists.ensures.0 w.if-exists.true) (omega (arith, w.first_position.ensures.value)) w.end_position-end.ensures.value)
  | else-len-lt100000 w ↦ rw (w.parts-is, w.end-is) c.loop-order.invariant
]

pub returns : goal.returns
returns c =
    let listed = c.loop-order.invariant in
    record { most = listed.most; disjoint = disjoint_where_ascending c.loop-order.parts.items listed.each listed.ascending }
