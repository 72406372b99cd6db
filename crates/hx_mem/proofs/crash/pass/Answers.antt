use Rattle.hx_mem.specs.Files.{folder_of}
use Rattle.hx_mem.specs.Logs.{IsBound}
use Rattle.hx_mem.proofs.Followed.{kept_or_over}
use Rattle.hx_mem.proofs.crash.pass.Goals as goal

pub returns : goal.returns
returns c =
    let reads = folder_of c.args.reads.now in
    let f = folder_of c.args.image.now.items in
    kept_or_over c.in_ok-fits.fits c.args.call.now.done c.args.call.now.change (IsBound c.args.free c.args.call.now.change reads f) reads f
    (folder_of c.tear.new.image.items) (folder_of c.keep.new.image.items)
    c.in_ok-fits.ensures.fits c.in_ok-fits.ensures.starts_over c.in_ok-keep.ensures.kept c.in_ok-keep.ensures.over
