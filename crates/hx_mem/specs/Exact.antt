-- The images of a store in memory are those of the rules, no fewer and no more.
use Rattle.std.specs.Prelude.{◌↔◌, Bool, true, false, Result, Ok, Err}
use Rattle.hx_outside.specs.Folders.{Folder}
use Rattle.hx_outside.specs.Disk.{After}
use Rattle.hx_outside.specs.declared.store.StoreError.{StoreError}
use Rattle.hx_outside.specs.declared.store.StoreError.TheVariants.{Failed}
use Rattle.hx_mem.specs.declared.change.Change.{Change}
use Rattle.hx_mem.specs.Logs.{MayLead}
use Rattle.hx_mem.specs.Stores.{Held, mem_disk, after_change}

-- what a call answers that was done or failed
abbrev pub answer : Bool → Result (Unit {0}) StoreError
answer true = Ok tt
answer false = Err Failed

abbrev pub ImagesAreExact : Type 0
ImagesAreExact = (old : Held) (change : Change) (done : Bool) (f : Folder)
    → mem_disk.may_leave (after_change change (answer done) old) f
    ↔ After (mem_disk.may_leave old) (MayLead (record { change = change; done = done }) (mem_disk.reads old) (mem_disk.may_leave old)) f
