-- A file that is a source.
use Rattle.std.specs.Prelude.{◌<◌, ◌≤◌, ◌-◌, ℕ, List, Bool, Option}
use Rattle.hx_outside.specs.Sources.{SourceMembers, silent}

-- its path, its size where that was asked, whether it is open, and how often it has failed
pub record Opened : Type 0 where
  pub path : List ℕ
  pub size : Option ℕ
  pub is_open : Bool
  pub faults : ℕ

-- a read of a file of this size gives no byte at or past it, and some where one is there and wanted
pub record ReadsWithin (size at room count : ℕ) : Type 0 where
  pub within : count ≤ size - at
  pub some : at < size → 0 < room → 0 < count

-- a file as a source: it tells nothing of its bytes
abbrev pub file_source : SourceMembers Opened
file_source = silent (λ file. file.path) (λ file. file.faults)
