use Rattle.std.proofs.Common.{◌≡◌, ◌+◌, ℕ, List, Some, None, Err, inl, inr, ap, refl, rules, subst}
use Rattle.hx_catalog.specs.declared.properties.Properties.{Properties}
use Rattle.hx_cover.specs.TooNear.{IsFirstTooNear}
use Rattle.hx_cover.specs.declared.bounds.CoverBox.{CoverBox}
use Rattle.hx_outside.specs.Folders.{Folder}
use Rattle.hx_outside.proofs.Runs.{same_next}
use Rattle.hx_xmatch.specs.Files.{MayRefuseRows}
use Rattle.hx_xmatch.proofs.TestLemmas.{AreItsBoxes, covered_from, narrow_from}
use Rattle.hx_xmatch.proofs.coverage.check_coverage.Goals as goal

pub returns-in_err-rights-clause-kinds : goal.returns-in_err-rights-clause-kinds
returns-in_err-rights-clause-kinds g c =
    let is : c.from_residual.result ≡ Err c.in_err-rights.field-0.0 = search rules in
    rw is (inl (inr (subst (λ (s : ℕ). MayRefuseRows s c.in_err-rights.field-0.0) c.requires.right c.in_err-rights.ensures.kinds)))

pub returns-clause-unchanged : goal.returns-clause-unchanged
returns-clause-unchanged g c tells =
    let run = c.boxes_of.ensures.unchanged tells in
    same_next g.S.Store.disk _ _ _ tells run (c.boxes_of-2.ensures.unchanged run.told)

pub returns-in-None-clause-covered : goal.returns-in-None-clause-covered
returns-in-None-clause-covered g c tells =
    let d = g.S.Store.disk in
    let run = c.boxes_of.ensures.unchanged tells in
    let m = c.properties.result.now.settings.margin_order in
    let lefts = c.in_ok-lefts.lefts.items in
    let rights = c.in_ok-rights.rights.items in
    let is_left : AreItsBoxes (d.reads c.args.store.now) c.args.left.now (m + 2) lefts =
    subst (λ (h : Folder). AreItsBoxes h c.args.left.now (m + 2) lefts) run.seen (c.in_ok-lefts.ensures.boxes run.told) in
    let first : IsFirstTooNear c.tree.result.now m c.args.r2 lefts rights None =
    subst (λ (l : List CoverBox). IsFirstTooNear c.tree.result.now m c.args.r2 l rights None) c.deref.ensures.value
    (subst (λ (l : List CoverBox). IsFirstTooNear c.tree.result.now m c.args.r2 c.deref.result.now l None) c.in_ok-rights-2.ensures c.in-None.ensures) in
    covered_from (d.reads c.args.store.now) c.args.left.now c.args.right.now c.args.r2 m c.tree.result.now lefts rights (ap (λ (p : Properties). p.settings.margin_order) c.properties.ensures.properties)
    c.tree.ensures.parts is_left (c.in_ok-rights.ensures.boxes tells) first

pub returns-clause-refused : goal.returns-clause-refused
returns-clause-refused g c tells =
    let d = g.S.Store.disk in
    let run = c.boxes_of.ensures.unchanged tells in
    let m = c.properties.result.now.settings.margin_order in
    let lefts = c.in_ok-lefts.lefts.items in
    let rights = c.in_ok-rights.rights.items in
    let found = c.in-Some.field-0 in
    let is_left : AreItsBoxes (d.reads c.args.store.now) c.args.left.now (m + 2) lefts =
    subst (λ (h : Folder). AreItsBoxes h c.args.left.now (m + 2) lefts) run.seen (c.in_ok-lefts.ensures.boxes run.told) in
    let first : IsFirstTooNear c.tree.result.now m c.args.r2 lefts rights (Some found) =
    subst (λ (l : List CoverBox). IsFirstTooNear c.tree.result.now m c.args.r2 l rights (Some found)) c.deref.ensures.value
    (subst (λ (l : List CoverBox). IsFirstTooNear c.tree.result.now m c.args.r2 c.deref.result.now l (Some found)) c.in_ok-rights-2.ensures c.in-Some.ensures) in
    inr (
      found.left,
      found.right,
      found.gap2,
      refl,
      narrow_from (d.reads c.args.store.now) c.args.left.now c.args.right.now c.args.r2 m c.tree.result.now lefts rights (ap (λ (p : Properties). p.settings.margin_order) c.properties.ensures.properties)
          c.tree.ensures.parts is_left (c.in_ok-rights.ensures.boxes tells) found first,
    )
