use Rattle.std.proofs.Common.{◌≡◌, OnOk, subst, sym, rules}
use Rattle.hx_outside.specs.Disk.{Acts}
use Rattle.hx_outside.specs.Folders.{MaySetByte, byte_set}
use Rattle.hx_mem.specs.declared.change.Change.TheVariants.{SetByte}
use Rattle.hx_mem.specs.Stores.{Held, after_call, after_change, mem_disk}
use Rattle.hx_outside.proofs.Calls.{set_byte_same}
use Rattle.hx_mem.proofs.Images.{idles}
use Rattle.hx_mem.proofs.Made.{set_acts, set_made}
use Rattle.hx_mem.proofs.store.MemStoreStore.set_byte.Goals as goal

pub returns-clause-acts : goal.returns-clause-acts
returns-clause-acts c told =
    let is : c.make.new.self ≡ after_change (SetByte c.args.name.now c.args.at c.args.value) c.make.result c.args.self.now = search rules in
    subst (λ (s : Held). Acts mem_disk c.args.self.now s (MaySetByte c.args.name.now c.args.at (mem_disk.reads c.args.self.now)) c.make.result) (sym is) (set_acts c.args.self.now c.make.result c.args.name.now c.args.at c.args.value)

pub returns-clause-done : goal.returns-clause-done
returns-clause-done c told =
    let is : c.make.new.self ≡ after_change (SetByte c.args.name.now c.args.at c.args.value) c.make.result c.args.self.now = search rules in
    subst (λ (s : Held). OnOk c.make.result (mem_disk.reads s ≡ byte_set c.args.name.now c.args.at c.args.value (mem_disk.reads c.args.self.now))) (sym is) (set_made c.args.self.now c.make.result c.args.name.now c.args.at c.args.value)

pub returns-in_err-name-clause-acts : goal.returns-in_err-name-clause-acts
returns-in_err-name-clause-acts c told =
    let old = c.args.self.now in
    subst (λ (s : Held). Acts mem_disk old s (MaySetByte c.args.name.now c.args.at (mem_disk.reads c.args.self.now)) c.from_residual.result) (sym c.call_fails-fails.ensures.after)
    (idles old old.looked (after_call old).count c.from_residual.result (MaySetByte c.args.name.now c.args.at (mem_disk.reads c.args.self.now)) (set_byte_same c.args.name.now c.args.at (mem_disk.reads old)))
