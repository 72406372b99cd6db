use Rattle.std.proofs.Common.{◌≡◌, ◌∙◌, ◌<◌, List, ℕ, Option, Some, None, subst, sym, arith, rules}
use Rattle.hx_outside.specs.Folders.{file_length, Shortened, MayCut}
use Rattle.hx_outside.proofs.Calls.{cut_same, cut_within}
use Rattle.hx_mem.specs.Files.{folder_of}
use Rattle.hx_mem.proofs.Torn.{put_back, taken_none}
use Rattle.hx_mem.proofs.crash.tear_cut.Goals as goal

pub returns-in_default : goal.returns-in_default
returns-in_default c =
    let name = c.args.name.now in
    let reads = folder_of c.args.reads.now in
    let f = folder_of c.args.image.now.items in
    let out : c.take_in.result ≡ None = search rules in
    let is = taken_none name f (folder_of c.take_in.new.files.items) c.take_in.ensures.leaves (sym c.take_in.ensures.gives ∙ out) in
    subst (MayCut name c.args.len reads f) (sym is) (cut_same name c.args.len reads f)

pub returns : goal.returns
returns c =
    let name = c.args.name.now in
    let reads = folder_of c.args.reads.now in
    let f = folder_of c.args.image.now.items in
    let torn = c.torn_cut.new.bytes in
    let within : c.args.len < file_length name reads = omega (arith, c.if-len-size_in.false, c.size_in.ensures) in
    let there : Some c.in-Some.bytes ≡ f name = sym c.in-Some.is ∙ c.take_in.ensures.gives in
    let step : Shortened c.args.len (f name) (Some torn) = subst (λ (o : Option (List ℕ)). Shortened c.args.len o (Some torn)) there c.torn_cut.ensures in
    cut_within name c.args.len reads f (folder_of c.put_in.new.files.items) within
    (put_back name (Shortened c.args.len) (Some torn) f (folder_of c.take_in.new.files.items) (folder_of c.put_in.new.files.items) c.take_in.ensures.leaves c.in_ok-put_in.ensures.ok step)
