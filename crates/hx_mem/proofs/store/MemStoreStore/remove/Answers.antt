use Rattle.std.proofs.Common.{◌≡◌, OnOk, subst, sym, rules}
use Rattle.hx_outside.specs.Disk.{Acts, IsDoneToAll}
use Rattle.hx_outside.specs.Folders.{MayRemove, removed}
use Rattle.hx_mem.specs.declared.change.Change.TheVariants.{Remove}
use Rattle.hx_mem.specs.Stores.{Held, after_change, mem_disk}
use Rattle.hx_mem.proofs.Made.{remove_acts, remove_made, remove_whole}
use Rattle.hx_mem.proofs.store.MemStoreStore.remove.Goals as goal

pub returns-clause-acts : goal.returns-clause-acts
returns-clause-acts c told =
    let is : c.make.new.self ≡ after_change (Remove c.args.name.now) c.make.result c.args.self.now = search rules in
    subst (λ (s : Held). Acts mem_disk c.args.self.now s (MayRemove c.args.name.now) c.make.result) (sym is) (remove_acts c.args.self.now c.make.result c.args.name.now)

pub returns-clause-done : goal.returns-clause-done
returns-clause-done c told =
    let is : c.make.new.self ≡ after_change (Remove c.args.name.now) c.make.result c.args.self.now = search rules in
    subst (λ (s : Held). OnOk c.make.result (mem_disk.reads s ≡ removed c.args.name.now (mem_disk.reads c.args.self.now))) (sym is) (remove_made c.args.self.now c.make.result c.args.name.now)

pub returns-clause-whole : goal.returns-clause-whole
returns-clause-whole c told stable =
    let is : c.make.new.self ≡ after_change (Remove c.args.name.now) c.make.result c.args.self.now = search rules in
    subst (λ (s : Held). OnOk c.make.result (IsDoneToAll mem_disk c.args.self.now s (removed c.args.name.now))) (sym is) (remove_whole c.args.self.now c.make.result c.args.name.now stable)
