use Rattle.std.proofs.Common.{◌≡◌, ◌∙◌, List, ℕ, subst}
use Rattle.hx_outside.specs.Folders.{MaySetByte, MayCut, MayRemove, removed}
use Rattle.hx_outside.proofs.Calls.{set_byte_same, cut_same}
use Rattle.hx_mem.specs.declared.change.Change.TheVariants.{SetByte, Cut, Remove}
use Rattle.hx_mem.specs.Files.{folder_of}
use Rattle.hx_mem.proofs.Torn.{is_change}
use Rattle.hx_mem.proofs.crash.tear.Goals as goal

pub returns-in_ok-tear_byte-in-SetByte-clause-fits :
    goal.returns-in_ok-tear_byte-in-SetByte-clause-fits
returns-in_ok-tear_byte-in-SetByte-clause-fits c fits =
    let reads = folder_of c.args.reads.now in
    let f = folder_of c.args.image.now.items in
    let g = folder_of c.tear_byte.new.image.items in
    is_change c.args.call.now.done c.args.free c.args.call.now.change (SetByte c.in-SetByte.name c.in-SetByte.at c.in-SetByte.value) reads f g c.in-SetByte.is
    (subst (λ (n : List ℕ). MaySetByte n c.in-SetByte.at reads f g) c.as_slice-then-happens-2.ensures c.in_ok-tear_byte-in-SetByte.ensures)

pub returns-else-happens-2-clause-fits : goal.returns-else-happens-2-clause-fits
returns-else-happens-2-clause-fits c fits =
    let reads = folder_of c.args.reads.now in
    let f = folder_of c.args.image.now.items in
    is_change c.args.call.now.done c.args.free c.args.call.now.change (SetByte c.in-SetByte.name c.in-SetByte.at c.in-SetByte.value) reads f f c.in-SetByte.is
    (set_byte_same c.in-SetByte.name c.in-SetByte.at reads f)

pub returns-in_ok-tear_cut-in-Cut-clause-fits : goal.returns-in_ok-tear_cut-in-Cut-clause-fits
returns-in_ok-tear_cut-in-Cut-clause-fits c fits =
    let reads = folder_of c.args.reads.now in
    let f = folder_of c.args.image.now.items in
    let g = folder_of c.tear_cut.new.image.items in
    is_change c.args.call.now.done c.args.free c.args.call.now.change (Cut c.in-Cut.name c.in-Cut.len) reads f g c.in-Cut.is
    (subst (λ (n : List ℕ). MayCut n c.in-Cut.len reads f g) c.as_slice-then-happens-3.ensures c.in_ok-tear_cut-in-Cut.ensures)

pub returns-else-happens-3-clause-fits : goal.returns-else-happens-3-clause-fits
returns-else-happens-3-clause-fits c fits =
    let reads = folder_of c.args.reads.now in
    let f = folder_of c.args.image.now.items in
    is_change c.args.call.now.done c.args.free c.args.call.now.change (Cut c.in-Cut.name c.in-Cut.len) reads f f c.in-Cut.is
    (cut_same c.in-Cut.name c.in-Cut.len reads f)

pub returns-in-Remove-clause-fits : goal.returns-in-Remove-clause-fits
returns-in-Remove-clause-fits c fits =
    let reads = folder_of c.args.reads.now in
    let f = folder_of c.args.image.now.items in
    let g = folder_of c.tear_remove.new.image.items in
    let name : c.as_slice-in-Remove.result.now ≡ c.in-Remove.name = c.as_slice-in-Remove.ensures in
    is_change c.args.call.now.done c.args.free c.args.call.now.change (Remove c.in-Remove.name) reads f g c.in-Remove.is (
      subst (λ (n : List ℕ). MayRemove n f g) name c.tear_remove.ensures.may,
      λ done bound. c.tear_remove.ensures.does (c.is_due.ensures done bound.0) ∙ (λ k. removed (name k) f),
    )
