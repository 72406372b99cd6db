use Rattle.std.proofs.Common.{◌+◌, List, ℕ, Option, Some, length, subst}
use Rattle.hx_outside.specs.Folders.{Grown, file_length}
use Rattle.hx_mem.specs.Files.{folder_of}
use Rattle.hx_mem.proofs.Torn.{put_back}
use Rattle.hx_mem.proofs.crash.tear_append.Goals as goal

pub returns : goal.returns
returns c =
    let name = c.args.name.now in
    let bytes = c.args.bytes.now in
    let torn : Grown (file_length name (folder_of c.args.reads.now) + length bytes) (folder_of c.args.image.now.items name) (Some c.in_ok-torn.torn) =
    subst (λ (o : Option (List ℕ)). Grown (file_length name (folder_of c.args.reads.now) + length bytes) o (Some c.in_ok-torn.torn)) c.take_in-old.ensures.gives
    (subst (λ (n : ℕ). Grown (n + length bytes) c.take_in-old.result (Some c.in_ok-torn.torn)) c.size_in.ensures c.in_ok-torn.ensures) in
    put_back name (Grown (file_length name (folder_of c.args.reads.now) + length bytes)) (Some c.in_ok-torn.torn)
    (folder_of c.args.image.now.items) (folder_of c.take_in-old.new.files.items) (folder_of c.put_in.new.files.items)
    c.take_in-old.ensures.leaves c.in_ok-put_in.ensures.ok torn
