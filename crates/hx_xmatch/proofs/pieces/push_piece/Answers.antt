use Rattle.std.proofs.Common.{◌≤◌, ◌-◌, ℕ, List, Bool, length, take, drop, ap, sym, refl, subst, arith, length-drop}
use Rattle.std.proofs.lemmas.List.{length-take}
use Rattle.std.proofs.lemmas.List.Elements.{All-drop, All-take}
use Rattle.hx_base.specs.Rows.{IsGood}
use Rattle.hx_base.specs.declared.pixel.Pixel.{Pixel}
use Rattle.hx_base.specs.declared.row.Row.{Row}
use Rattle.hx_catalog.specs.declared.properties.Properties.{Properties}
use Rattle.hx_outside.specs.Folders.{Folder, Same}
use Rattle.hx_outside.proofs.Runs.{same_next, stands}
use Rattle.hx_xmatch.specs.Fields.{IsFieldOf}
use Rattle.hx_xmatch.specs.Files.{HasRowsAt, margin_order_of}
use Rattle.hx_xmatch.specs.Runs.{IsRunOf}
use Rattle.hx_xmatch.proofs.PieceLemmas.{all_added, none_added, rest_is, run_added}
use Rattle.hx_xmatch.proofs.Texts.{matched_few}
use Rattle.hx_xmatch.proofs.pieces.push_piece.Goals as goal

pub loop-at-init : goal.loop-at-init
loop-at-init g c = record {
  passes = λ tells. stands g.S.Store.disk c.args.store.now Same tells (λ f. refl);
  later = omega arith;
  field = λ tells held. held;
  within = omega arith;
  few = omega arith;
  lines = λ tells held rows finds. none_added c.args.r2 rows c.args.text.now.items;
}

pub returns-in_err-turn_to-clause-unchanged : goal.returns-in_err-turn_to-clause-unchanged
returns-in_err-turn_to-clause-unchanged g c tells =
    let run = c.loop-at.invariant.passes tells in
    same_next g.S.Store.disk _ _ _ tells run (c.turn_to.ensures.unchanged run.told)

pub returns-in_err-matched-clause-unchanged : goal.returns-in_err-matched-clause-unchanged
returns-in_err-matched-clause-unchanged g c tells =
    let run = c.loop-at.invariant.passes tells in
    same_next g.S.Store.disk _ _ _ tells run (c.turn_to.ensures.unchanged run.told)

pub push_matches-requires : goal.push_matches-requires
push_matches-requires g c =
    let left = c.args.left.now in
    let at = c.loop-at.at in
    All-take IsGood c.in_ok-run.run'.count (take (length left - at) (drop at left)) (All-take IsGood (length left - at) (drop at left) (All-drop IsGood at left c.requires))

pub loop-at-preserved : goal.loop-at-preserved
loop-at-preserved g c =
    let d = g.S.Store.disk in
    let right = c.args.right.now in
    let start = d.reads c.args.store.now in
    let left = c.args.left.now in
    let at = c.loop-at.at in
    let run = c.in_ok-run.run' in
    let piece = take run.count (drop at left) in
    let tree = c.turn_to.new.self.tree in
    let rest = take (length left - at) (drop at left) in
    let whole = rest_is left at in
    let is : IsRunOf right.parts (margin_order_of right) (drop at left) run =
    subst (λ (rows : List Row). IsRunOf right.parts (margin_order_of right) rows run) whole
    (subst (λ (m : ℕ). IsRunOf right.parts m rest run) (ap (λ (p : Properties). p.settings.margin_order) c.properties.ensures.properties)
    (subst (λ (parts : List Pixel). IsRunOf parts c.properties.result.now.settings.margin_order rest run) c.parts.ensures.parts c.in_ok-run.ensures)) in
    let lines = rw whole at c.in_ok-matched.ensures.lines in
    let matched = rw whole at c.in_ok-matched.ensures.matched in
    let within : run.count ≤ length (drop at left) = is.within in
    record {
      passes = λ tells. let passed = c.loop-at.invariant.passes tells in same_next d _ _ _ tells passed (c.turn_to.ensures.unchanged passed.told);
      later = omega (arith, c.loop-at.invariant.later, c.turn_to.ensures.cause.later);
      field = λ tells held.
          let passed = c.loop-at.invariant.passes tells in
          let before : IsFieldOf (HasRowsAt (d.reads c.loop-at.store) right) c.loop-at.field.parts.items c.loop-at.field.margin c.loop-at.field.tree =
          subst (λ (h : Folder). IsFieldOf (HasRowsAt h right) c.loop-at.field.parts.items c.loop-at.field.margin c.loop-at.field.tree) (sym passed.seen) (c.loop-at.invariant.field tells held) in
          let after : IsFieldOf (HasRowsAt start right) run.parts.items run.margin tree =
          subst (λ (h : Folder). IsFieldOf (HasRowsAt h right) run.parts.items run.margin tree) passed.seen (c.in_ok-turn_to.ensures.field passed.told before) in
          let (parts, margin) = c.in_ok-turn_to.ensures.parts in
          subst (λ (l : List ℕ). IsFieldOf (HasRowsAt start right) l c.turn_to.new.self.margin tree) (sym parts)
          (subst (λ (b : Bool). IsFieldOf (HasRowsAt start right) run.parts.items b tree) (sym margin) after);
      within = omega (arith, within, length-drop at left, c.loop-at-test.true);
      few = omega (arith, c.loop-at.invariant.few, matched, matched_few c.args.r2 tree piece, length-take run.count (drop at left));
      lines = λ tells held rows finds.
          let passed = c.loop-at.invariant.passes tells in
          let before : IsFieldOf (HasRowsAt (d.reads c.loop-at.store) right) c.loop-at.field.parts.items c.loop-at.field.margin c.loop-at.field.tree =
          subst (λ (h : Folder). IsFieldOf (HasRowsAt h right) c.loop-at.field.parts.items c.loop-at.field.margin c.loop-at.field.tree) (sym passed.seen) (c.loop-at.invariant.field tells held) in
          let after : IsFieldOf (HasRowsAt start right) run.parts.items run.margin tree =
          subst (λ (h : Folder). IsFieldOf (HasRowsAt h right) run.parts.items run.margin tree) passed.seen (c.in_ok-turn_to.ensures.field passed.told before) in
          run_added start right c.args.r2 rows left finds at run tree c.args.text.now.items c.loop-at.text.items _ c.loop-at.matched _ is after (c.loop-at.invariant.lines tells held rows finds) lines matched;
    }

pub returns-clause-lines : goal.returns-clause-lines
returns-clause-lines g c tells = λ held rows finds. all_added c.args.r2 rows c.args.left.now c.loop-at.at _ _ _ c.loop-at-test.false (c.loop-at.invariant.lines tells held rows finds)

pub overflow_add-matched : goal.overflow_add-matched
overflow_add-matched g c =
    let left = c.args.left.now in
    let at = c.loop-at.at in
    let piece = take c.in_ok-run.run'.count (drop at left) in
    let matched = rw (rest_is left at) at c.in_ok-matched.ensures.matched in
    omega (arith, c.loop-at.invariant.few, c.loop-at-test.true, matched, matched_few c.args.r2 c.turn_to.new.self.tree piece, length-take c.in_ok-run.run'.count (drop at left), length-drop at left)
