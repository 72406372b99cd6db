use Rattle.std.proofs.Common.{◌≡◌, OnOk, subst, sym, rules}
use Rattle.hx_outside.specs.Disk.{Acts}
use Rattle.hx_outside.specs.Folders.{MayCut, cut_to}
use Rattle.hx_mem.specs.declared.change.Change.TheVariants.{Cut}
use Rattle.hx_mem.specs.Stores.{Held, after_call, after_change, mem_disk}
use Rattle.hx_outside.proofs.Calls.{cut_same}
use Rattle.hx_mem.proofs.Images.{idles}
use Rattle.hx_mem.proofs.Made.{cut_acts, cut_made}
use Rattle.hx_mem.proofs.store.MemStoreStore.cut.Goals as goal

pub returns-clause-acts : goal.returns-clause-acts
returns-clause-acts c told =
    let is : c.make.new.self ≡ after_change (Cut c.args.name.now c.args.len) c.make.result c.args.self.now = search rules in
    subst (λ (s : Held). Acts mem_disk c.args.self.now s (MayCut c.args.name.now c.args.len (mem_disk.reads c.args.self.now)) c.make.result) (sym is) (cut_acts c.args.self.now c.make.result c.args.name.now c.args.len)

pub returns-clause-done : goal.returns-clause-done
returns-clause-done c told =
    let is : c.make.new.self ≡ after_change (Cut c.args.name.now c.args.len) c.make.result c.args.self.now = search rules in
    subst (λ (s : Held). OnOk c.make.result (mem_disk.reads s ≡ cut_to c.args.name.now c.args.len (mem_disk.reads c.args.self.now))) (sym is) (cut_made c.args.self.now c.make.result c.args.name.now c.args.len)

pub returns-in_err-name-clause-acts : goal.returns-in_err-name-clause-acts
returns-in_err-name-clause-acts c told =
    let old = c.args.self.now in
    subst (λ (s : Held). Acts mem_disk old s (MayCut c.args.name.now c.args.len (mem_disk.reads c.args.self.now)) c.from_residual.result) (sym c.call_fails-fails.ensures.after)
    (idles old old.looked (after_call old).count c.from_residual.result (MayCut c.args.name.now c.args.len (mem_disk.reads c.args.self.now)) (cut_same c.args.name.now c.args.len (mem_disk.reads old)))
