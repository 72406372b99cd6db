-- What publishing a file makes of a folder, at any moment.
use Rattle.std.specs.Prelude.{◌≡◌, ◌⊎◌, ℕ, List, Some}
use Rattle.hx_outside.specs.Folders.{Folder, SameButBoth}
use Rattle.hx_outside.specs.Disk.{DiskMembers}

-- Of the files but the temporary one only that of the name may change: it may have the bytes instead.
pub record Publishes (tmp name bytes : List ℕ) (f g : Folder) : Type 0 where
  pub others : SameButBoth tmp name f g
  pub there : (g name ≡ f name) ⊎ (g name ≡ Some bytes)

-- each folder that a crash may leave has these bytes under the name
abbrev pub HasInEach : {S : Type 0} → DiskMembers S → S → List ℕ → List ℕ → Type 0
HasInEach d s name bytes = (f : Folder) → d.may_leave s f → f name ≡ Some bytes
