-- A folder that is a store.
use Rattle.std.specs.Prelude.{ℕ, List}
use Rattle.std.specs.declared.io.ErrorKind.{ErrorKind}
use Rattle.std.specs.declared.io.ErrorKind.TheVariants as kind
use Rattle.hx_outside.specs.Disk.{DiskMembers, silent}
use Rattle.hx_outside.specs.declared.store.StoreError.{StoreError}
use Rattle.hx_outside.specs.declared.store.StoreError.TheVariants as error

-- its path, and how often it has failed
pub record Kept : Type 0 where
  pub root : List ℕ
  pub faults : ℕ

-- a folder as a store: it tells nothing of its files
abbrev pub folder_store : DiskMembers Kept
folder_store = silent (λ folder. folder.faults)

-- what is told of a call that changes nothing and did not succeed
abbrev pub fault_of : ErrorKind → StoreError
fault_of kind.OutOfMemory = error.Memory
fault_of _ = error.Failed
