use Rattle.std.proofs.Common.{Some, refl}
use Rattle.hx_mem.specs.declared.files.File.{File}
use Rattle.hx_mem.specs.Files.{folder_of}
use Rattle.hx_mem.proofs.Entries.{becomes}
use Rattle.hx_mem.proofs.files.put_in.Goals as goal

pub returns-clause-ok : goal.returns-clause-ok
returns-clause-ok c =
    let es = c.place.new.files.items in
    let old = c.index_mut-file.result.now in
    let new : File = record { name = old.name; bytes = Some c.args.bytes } in
    becomes es c.in_ok-at.at old new c.args.name.now (folder_of c.args.files.now.items) c.in_ok-at.ensures.found c.index_mut-file.ensures.value refl c.place.ensures.same _ refl
