use Rattle.std.proofs.Common.{◌≡◌, Some, subst, sym, rules}
use Rattle.hx_outside.specs.Disk.{IsDoneToAll}
use Rattle.hx_outside.specs.Folders.{written}
use Rattle.hx_mem.specs.Stores.{Held, mem_disk}
use Rattle.hx_mem.proofs.Made.{after_put, put_reads, put_images}
use Rattle.hx_mem.proofs.store.MemStore.put.Goals as goal

pub returns-in-Ok-clause-reads : goal.returns-in-Ok-clause-reads
returns-in-Ok-clause-reads c =
    let is : c.make.new.self ≡ after_put c.args.name.now c.args.bytes.now c.args.self.now = search rules in
    subst (λ (s : Held). mem_disk.reads s ≡ written c.args.name.now (Some c.args.bytes.now) (mem_disk.reads c.args.self.now)) (sym is) (put_reads c.args.self.now c.args.name.now c.args.bytes.now)

pub returns-in-Ok-clause-images : goal.returns-in-Ok-clause-images
returns-in-Ok-clause-images c =
    let is : c.make.new.self ≡ after_put c.args.name.now c.args.bytes.now c.args.self.now = search rules in
    subst (λ (s : Held). IsDoneToAll mem_disk c.args.self.now s (written c.args.name.now (Some c.args.bytes.now))) (sym is) (put_images c.args.self.now c.args.name.now c.args.bytes.now)
