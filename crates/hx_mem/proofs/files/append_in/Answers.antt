use Rattle.std.proofs.Common.{◌≡◌, ◌∙◌, ◌++◌, Option, List, ℕ, Some, ap}
use Rattle.std.proofs.lemmas.Result.{on_ok_weaker, on_err_weaker}
use Rattle.hx_outside.specs.Folders.{contents}
use Rattle.hx_mem.specs.Files.{folder_of}
use Rattle.hx_mem.proofs.Entries.{had, becomes, remains}
use Rattle.hx_mem.proofs.files.append_in.Goals as goal

pub returns-clause-ok : goal.returns-clause-ok
returns-clause-ok c =
    let es = c.place.new.files.items in
    let f = folder_of c.args.files.now.items in
    let old = c.index_mut.result.now in
    let new = c.append.new.self in
    let before = had es c.in_ok-at.at old new c.args.name.now f c.in_ok-at.ensures.found c.index_mut.ensures.value c.append.ensures.name c.place.ensures.same in
    on_ok_weaker c.append.result (λ (is : new.bytes ≡ Some (contents old.bytes ++ c.args.bytes.now)).
    becomes es c.in_ok-at.at old new c.args.name.now f c.in_ok-at.ensures.found c.index_mut.ensures.value c.append.ensures.name c.place.ensures.same _
    (is ∙ ap (λ (o : Option (List ℕ)). Some (contents o ++ c.args.bytes.now)) before)) c.append.ensures.ok

pub returns-clause-err : goal.returns-clause-err
returns-clause-err c =
    let es = c.place.new.files.items in
    let f = folder_of c.args.files.now.items in
    let old = c.index_mut.result.now in
    let new = c.append.new.self in
    on_err_weaker c.append.result (λ (is : new.bytes ≡ old.bytes).
    remains es c.in_ok-at.at old new c.args.name.now f c.in_ok-at.ensures.found c.index_mut.ensures.value c.append.ensures.name c.place.ensures.same is) c.append.ensures.err
