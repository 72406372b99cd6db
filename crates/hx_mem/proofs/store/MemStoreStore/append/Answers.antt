use Rattle.std.proofs.Common.{◌≡◌, OnOk, subst, sym, rules}
use Rattle.hx_outside.specs.Disk.{Acts}
use Rattle.hx_outside.specs.Folders.{MayAppend, appended}
use Rattle.hx_mem.specs.declared.change.Change.TheVariants.{Append}
use Rattle.hx_mem.specs.Stores.{Held, after_change, mem_disk}
use Rattle.hx_mem.proofs.Made.{append_acts, append_made}
use Rattle.hx_mem.proofs.store.MemStoreStore.append.Goals as goal

pub returns-clause-acts : goal.returns-clause-acts
returns-clause-acts c told =
    let is : c.make.new.self ≡ after_change (Append c.args.name.now c.args.bytes.now) c.make.result c.args.self.now = search rules in
    subst (λ (s : Held). Acts mem_disk c.args.self.now s (MayAppend c.args.name.now c.args.bytes.now (mem_disk.reads c.args.self.now)) c.make.result) (sym is) (append_acts c.args.self.now c.make.result c.args.name.now c.args.bytes.now)

pub returns-clause-done : goal.returns-clause-done
returns-clause-done c told =
    let is : c.make.new.self ≡ after_change (Append c.args.name.now c.args.bytes.now) c.make.result c.args.self.now = search rules in
    subst (λ (s : Held). OnOk c.make.result (mem_disk.reads s ≡ appended c.args.name.now c.args.bytes.now (mem_disk.reads c.args.self.now))) (sym is) (append_made c.args.self.now c.make.result c.args.name.now c.args.bytes.now)
