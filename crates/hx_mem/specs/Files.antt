-- A list of named files as a folder.
use Rattle.std.specs.Prelude.{◌≡◌, ◌≢◌, ℕ, zero, suc, List, [], ◌∷◌, Option, Some, None, if◌then◌else◌}
use Rattle.std.specs.Str.{bytes_eq}
use Rattle.hx_outside.specs.Folders.{Folder}
use Rattle.hx_mem.specs.declared.files.File.{File}

-- the folder of these files, of which the first of a name counts
abbrev pub folder_of : List File → Folder
folder_of [] n = None
folder_of (e ∷ es) n = if bytes_eq n e.name then e.bytes else folder_of es n

-- no file has the name
abbrev pub IsNowhere : List File → List ℕ → Type 0
IsNowhere [] name = Unit {0}
IsNowhere (e ∷ es) name = (e.name ≢ name) × IsNowhere es name

-- the first file of the name is the i-th
abbrev pub IsAt : List File → ℕ → List ℕ → Type 0
IsAt [] i name = ⊥
IsAt (e ∷ es) zero name = e.name ≡ name
IsAt (e ∷ es) (suc i) name = (e.name ≢ name) × IsAt es i name

-- the first file of the name, where there is one
abbrev pub IsFound : List File → List ℕ → Option ℕ → Type 0
IsFound es name None = IsNowhere es name
IsFound es name (Some i) = IsAt es i name
