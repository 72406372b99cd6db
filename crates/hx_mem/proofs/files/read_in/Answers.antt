use Rattle.std.proofs.Common.{List, ℕ, Option, subst, sym, rules}
use Rattle.hx_outside.specs.Disk.{ReadsBytes}
use Rattle.hx_mem.specs.Files.{IsAt}
use Rattle.hx_mem.proofs.Entries.{is_there}
use Rattle.hx_mem.proofs.files.read_in.Goals as goal

pub returns : goal.returns
returns c =
    let here : IsAt c.args.files.now c.in-Some.place c.args.name.now = search rules in
    subst (λ (o : Option (List ℕ)). ReadsBytes o c.args.at c.args.buf.now c.read.new.buf c.read.result) (sym (is_there c.args.files.now c.in-Some.place c.index-files-place.result c.args.name.now here c.index-files-place.is)) c.read.ensures
