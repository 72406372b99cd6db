use Rattle.std.proofs.Common.{◌≡◌, OnOk, subst, sym, rules}
use Rattle.hx_outside.specs.Disk.{Acts, IsDoneToAll}
use Rattle.hx_outside.specs.Folders.{MayRename, renamed}
use Rattle.hx_mem.specs.declared.change.Change.TheVariants.{Rename}
use Rattle.hx_mem.specs.Stores.{Held, after_change, mem_disk}
use Rattle.hx_mem.proofs.Made.{rename_acts, rename_made, rename_whole}
use Rattle.hx_mem.proofs.store.MemStoreStore.rename.Goals as goal

pub returns-clause-acts : goal.returns-clause-acts
returns-clause-acts c told =
    let is : c.make.new.self ≡ after_change (Rename c.args.from.now c.args.to.now) c.make.result c.args.self.now = search rules in
    subst (λ (s : Held). Acts mem_disk c.args.self.now s (MayRename c.args.from.now c.args.to.now (mem_disk.reads c.args.self.now)) c.make.result) (sym is) (rename_acts c.args.self.now c.make.result c.args.from.now c.args.to.now)

pub returns-clause-done : goal.returns-clause-done
returns-clause-done c told =
    let is : c.make.new.self ≡ after_change (Rename c.args.from.now c.args.to.now) c.make.result c.args.self.now = search rules in
    subst (λ (s : Held). OnOk c.make.result (mem_disk.reads s ≡ renamed c.args.from.now c.args.to.now (mem_disk.reads c.args.self.now))) (sym is) (rename_made c.args.self.now c.make.result c.args.from.now c.args.to.now)

pub returns-clause-whole : goal.returns-clause-whole
returns-clause-whole c told stable =
    let is : c.make.new.self ≡ after_change (Rename c.args.from.now c.args.to.now) c.make.result c.args.self.now = search rules in
    subst (λ (s : Held). OnOk c.make.result (IsDoneToAll mem_disk c.args.self.now s (renamed c.args.from.now c.args.to.now))) (sym is) (rename_whole c.args.self.now c.make.result c.args.from.now c.args.to.now stable)
