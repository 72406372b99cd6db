use Rattle.std.proofs.Common.{◌≡◌, Some}
use Rattle.std.proofs.lemmas.Bool.Decides.{Decides-eqb}
use Rattle.hx_cover.proofs.NearPixels.{indices_agree, one_holder}
use Rattle.hx_cover.proofs.nearness.have_one_holder.Goals as goal

pub returns-in-Some-Some-clause-holder : goal.returns-in-Some-Some-clause-holder
returns-in-Some-Some-clause-holder c =
    let s = c.in-Some-Some in
    let tree = c.args.tree.now in (
      λ t. one_holder tree c.args.a c.args.b s.first s.second s.ensures.holder s.ensures'.holder ((Decides-eqb s.first s.second).0 t),
      λ h.
          let e : Some s.first ≡ Some s.second = indices_agree tree c.args.a c.args.b (Some s.first) (Some s.second) s.ensures.list.disjoint s.ensures.holder s.ensures'.holder h in
          (Decides-eqb s.first s.second).1 (let same : s.first ≡ s.second = cc in same),
    )
