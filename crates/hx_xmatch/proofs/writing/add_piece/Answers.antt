use Rattle.std.proofs.Common.{◌≡◌, ◌∙◌, ◌++◌, ℕ, List, Err, Some, inl, ap, sym, rules, subst}
use Rattle.hx_base.specs.declared.row.Row.{Row}
use Rattle.hx_outside.specs.Folders.{Folder, contents}
use Rattle.hx_outside.proofs.Runs.{same_next}
use Rattle.hx_xmatch.specs.Fields.{IsFieldOf}
use Rattle.hx_xmatch.specs.Files.{HasRowsAt}
use Rattle.hx_xmatch.specs.MatchText.{match_lines, matched_rows}
use Rattle.hx_xmatch.specs.Pieces.{FindsAll}
use Rattle.hx_xmatch.proofs.Composed.{same_is_but, same_then_but}
use Rattle.hx_xmatch.proofs.writing.add_piece.Goals as goal

pub returns-in_err-rows-clause-passes : goal.returns-in_err-rows-clause-passes
returns-in_err-rows-clause-passes g c tells = same_is_but g.S.Store.disk _ tells _ _ (c.load.ensures.unchanged tells)

pub returns-in_err-matched-clause-passes : goal.returns-in_err-matched-clause-passes
returns-in_err-matched-clause-passes g c tells =
    let d = g.S.Store.disk in
    let run = c.load.ensures.unchanged tells in
    same_is_but d _ tells _ _ (same_next d _ _ _ tells run (c.push_piece.ensures.unchanged run.told))

pub returns-in_err-add-clause-passes : goal.returns-in_err-add-clause-passes
returns-in_err-add-clause-passes g c tells =
    let d = g.S.Store.disk in
    let first = c.load.ensures.unchanged tells in
    let run = same_next d _ _ _ tells first (c.push_piece.ensures.unchanged first.told) in
    same_then_but d _ tells _ _ _ run (c.add.ensures.passes run.told)

pub returns-clause-passes : goal.returns-clause-passes
returns-clause-passes g c tells =
    let d = g.S.Store.disk in
    let first = c.load.ensures.unchanged tells in
    let run = same_next d _ _ _ tells first (c.push_piece.ensures.unchanged first.told) in
    same_then_but d _ tells _ _ _ run (c.add.ensures.passes run.told)

pub returns-clause-field : goal.returns-clause-field
returns-clause-field g c tells = λ held.
    let d = g.S.Store.disk in
    let run = c.load.ensures.unchanged tells in
    let right = c.args.pair.now.right in
    let field = c.args.work.now.field in
    let new = c.push_piece.new.field in
    let at_mid = subst (λ (h : Folder). IsFieldOf (HasRowsAt h right) field.parts.items field.margin field.tree) (sym run.seen) held in
    subst (λ (h : Folder). IsFieldOf (HasRowsAt h right) new.parts.items new.margin new.tree) run.seen (c.in_ok-matched.ensures.field run.told at_mid)

pub returns-clause-added : goal.returns-clause-added
returns-clause-added g c tells = λ held.
    let d = g.S.Store.disk in
    let pair = c.args.pair.now in
    let right = pair.right in
    let field = c.args.work.now.field in
    let tmp = c.args.tmp.now in
    let run = c.load.ensures.unchanged tells in
    let both = same_next d _ _ _ tells run (c.push_piece.ensures.unchanged run.told) in
    let at_mid = subst (λ (h : Folder). IsFieldOf (HasRowsAt h right) field.parts.items field.margin field.tree) (sym run.seen) held in
    let file = c.in_ok-rows.rows.items in
    let left = c.deref.result.now in
    let lines = c.push_piece.new.text.items in
    record {
      file = file;
      is = c.in_ok-rows.ensures.loaded tells;
      lines = lines;
      added =
          c.in_ok-add.ensures.added both.told
          ∙ ap (λ (h : Folder). Some (contents (h tmp) ++ c.deref-2.result.now)) both.seen
          ∙ ap (λ (l : List ℕ). Some (contents (d.reads c.args.store.now tmp) ++ l)) c.deref-2.ensures.value;
      rows_are = search rules;
      found = λ all finds.
          let here = subst (λ (h : Folder). FindsAll h right pair.r2 all left) (sym run.seen)
          (subst (λ (l : List Row). FindsAll (d.reads c.args.store.now) right pair.r2 all l) (sym c.deref.ensures.value) finds) in
          let adds = c.in_ok-matched.ensures.lines run.told at_mid all here in (
            adds.lines ∙ ap (λ (l : List ℕ). l ++ match_lines pair.r2 all left) c.clear.ensures.items ∙ ap (match_lines pair.r2 all) c.deref.ensures.value,
            adds.count ∙ ap (matched_rows pair.r2 all) c.deref.ensures.value,
          );
    }

pub returns-in_err-add-clause-refused : goal.returns-in_err-add-clause-refused
returns-in_err-add-clause-refused g c tells =
    let is : c.from_residual-in_err-add.result ≡ Err c.in_err-add.field-0.0 = search rules in
    rw is (inl (inl c.in_err-add.ensures.kinds))
