use Rattle.std.proofs.Common.{◌≡◌, OnOk, subst, sym, rules}
use Rattle.hx_outside.specs.Disk.{Acts, IsStable}
use Rattle.hx_outside.specs.Folders.{Same}
use Rattle.hx_mem.specs.declared.change.Change.TheVariants.{Sync}
use Rattle.hx_mem.specs.Stores.{Held, after_change, mem_disk}
use Rattle.hx_mem.proofs.Made.{sync_acts, sync_made}
use Rattle.hx_mem.proofs.store.MemStoreStore.sync.Goals as goal

pub returns-clause-acts : goal.returns-clause-acts
returns-clause-acts c told =
    let is : c.make.new.self ≡ after_change (Sync c.args.name.now) c.make.result c.args.self.now = search rules in
    subst (λ (s : Held). Acts mem_disk c.args.self.now s (Same) c.make.result) (sym is) (sync_acts c.args.self.now c.make.result c.args.name.now)

pub returns-clause-done : goal.returns-clause-done
returns-clause-done c told =
    let is : c.make.new.self ≡ after_change (Sync c.args.name.now) c.make.result c.args.self.now = search rules in
    subst (λ (s : Held). OnOk c.make.result (IsStable mem_disk s c.args.name.now)) (sym is) (sync_made c.args.self.now c.make.result c.args.name.now)
