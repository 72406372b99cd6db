use Rattle.std.proofs.Common.{Bool, true, sym, subst}
use Rattle.std.specs.Prelude.{OnOk}
use Rattle.hx_outside.specs.Folders.{Folder}
use Rattle.hx_outside.proofs.Runs.{same_next}
use Rattle.hx_xmatch.specs.Files.{HasRowsAt}
use Rattle.hx_xmatch.specs.Pieces.{AddsFile, AddsPart}
use Rattle.hx_xmatch.proofs.FieldLemmas.{both_on_ok, part_alone}
use Rattle.hx_xmatch.proofs.fields.add_part.Goals as goal

pub returns-then-margin-clause-unchanged : goal.returns-then-margin-clause-unchanged
returns-then-margin-clause-unchanged g c tells =
    let run = c.add_file.ensures.unchanged tells in
    same_next g.S.Store.disk _ _ _ tells run (c.add_file-then-margin.ensures.unchanged run.told)

pub returns-then-margin-clause-added : goal.returns-then-margin-clause-added
returns-then-margin-clause-added g c tells =
    let d = g.S.Store.disk in
    let run = c.add_file.ensures.unchanged tells in
    let right = c.args.right.now in
    let told = HasRowsAt (d.reads c.args.store.now) right in
    let part = c.args.part in
    let old = c.args.rows.now.items in
    let mid = c.add_file.new.rows.items in
    let new = c.add_file-then-margin.new.rows.items in
    let answer = c.add_file-then-margin.result in
    let second : OnOk answer (AddsFile (told part true) mid new) =
    subst (λ (h : Folder). OnOk answer (AddsFile (HasRowsAt h right part true) mid new)) run.seen (c.add_file-then-margin.ensures.added run.told) in
    subst (λ (b : Bool). OnOk answer (AddsPart told part b old new)) (sym c.if-margin.true) (both_on_ok told part old mid new answer (c.in_ok-add_file.ensures.added tells) second)

pub returns-clause-added : goal.returns-clause-added
returns-clause-added g c tells =
    let told = HasRowsAt (g.S.Store.disk.reads c.args.store.now) c.args.right.now in
    subst (λ (b : Bool). AddsPart told c.args.part b c.args.rows.now.items c.add_file.new.rows.items) (sym c.if-margin.false)
    (part_alone told c.args.part c.args.rows.now.items c.add_file.new.rows.items (c.in_ok-add_file.ensures.added tells))
