use Rattle.std.proofs.Common.{ℕ, List, take, get_or, sym, subst, arith}
use Rattle.std.proofs.lemmas.List.{take_more}
use Rattle.hx_outside.specs.Folders.{Folder}
use Rattle.hx_outside.proofs.Runs.{same_next}
use Rattle.hx_xmatch.specs.Fields.{IsFieldOf}
use Rattle.hx_xmatch.specs.Files.{HasRowsAt}
use Rattle.hx_xmatch.specs.Pieces.{AddsPart}
use Rattle.hx_xmatch.proofs.FieldLemmas.{field_more}
use Rattle.hx_xmatch.proofs.fields.load_rows.Goals as goal

pub returns-in_err-add_part-clause-unchanged : goal.returns-in_err-add_part-clause-unchanged
returns-in_err-add_part-clause-unchanged g c tells =
    let run = c.loop-part.invariant.passes tells in
    same_next g.S.Store.disk _ _ _ tells run (c.add_part.ensures.unchanged run.told)

pub loop-part-preserved : goal.loop-part-preserved
loop-part-preserved g c =
    let d = g.S.Store.disk in
    let parts = c.args.parts.now in
    let i = c.loop-part.part-index in
    let right = c.args.right.now in
    record {
      passes = λ tells. let run = c.loop-part.invariant.passes tells in same_next d _ _ _ tells run (c.add_part.ensures.unchanged run.told);
      later = omega (arith, c.loop-part.invariant.later, c.add_part.ensures.cause.later);
      field = λ tells.
          let run = c.loop-part.invariant.passes tells in
          let told = HasRowsAt (d.reads c.args.store.now) right in
          let more : AddsPart told (get_or parts i 0) c.args.margin c.loop-part.rows.items c.add_part.new.rows.items =
          subst (λ (h : Folder). AddsPart (HasRowsAt h right) (get_or parts i 0) c.args.margin c.loop-part.rows.items c.add_part.new.rows.items) run.seen (c.in_ok-add_part.ensures.added run.told) in
          subst (λ (l : List ℕ). IsFieldOf told l c.args.margin c.add_part.new.rows.items) (sym (take_more parts i 0 c.loop-part-test.true))
          (field_more told (take i parts) (get_or parts i 0) c.args.margin c.loop-part.rows.items c.add_part.new.rows.items (c.loop-part.invariant.field tells) more);
      good = c.in_ok-add_part.ensures.good;
    }
