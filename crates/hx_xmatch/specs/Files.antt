-- What the files of a catalogue's partitions are read as, and why one isn't.
use Rattle.std.specs.Prelude.{◌≡◌, ◌⊎◌, ℕ, Bool, false, List, Some, Err, slice_get}
use Rattle.hx_base.specs.declared.pixel.Pixel.{Pixel}
use Rattle.hx_base.specs.declared.refusal.JobFile.{JobFile}
use Rattle.hx_base.specs.declared.refusal.Refusal.{Refusal}
use Rattle.hx_base.specs.declared.refusal.Refusal.TheVariants as refusal
use Rattle.hx_base.specs.declared.row.Row.{Row}
use Rattle.hx_catalog.specs.Answers.{IsOutside, Loads, Opened}
use Rattle.hx_catalog.specs.Files.{AreListed, HasRows}
use Rattle.hx_outside.specs.Folders.{Folder}

-- the name of a catalogue that was opened, and its margin order
abbrev pub name_of : Opened → List ℕ
name_of opened = opened.properties.settings.name

abbrev pub margin_order_of : Opened → ℕ
margin_order_of opened = opened.properties.settings.margin_order

-- the file of the partition at an index, or that of its margin, has these rows
abbrev pub HasRowsAt : Folder → Opened → ℕ → Bool → List Row → Type 0
HasRowsAt folder opened index margin rows = (pixel : Pixel) × (slice_get opened.parts index ≡ Some pixel) × HasRows folder (name_of opened) margin pixel rows

-- all rows of a catalogue: those of its partitions' files, one after another
abbrev pub AreAllRows : Folder → Opened → List Row → Type 0
AreAllRows folder opened rows = AreListed folder (name_of opened) false opened.parts rows

-- why a file of rows isn't loaded: its damage, a fault of the store or want of memory
abbrev pub IsLoadRefusal : Folder → Opened → Refusal → Type 0
IsLoadRefusal folder opened given = IsOutside given ⊎ ((index : ℕ) × (margin : Bool) × Loads folder opened index margin (Err given))

-- a refusal names some file of a side
abbrev pub NamesFileOf : (side : ℕ) → Refusal → Type 0
NamesFileOf side given = (file : JobFile) × (place : ℕ) × (given ≡ refusal.Damaged side file place)

-- the refusals of loading files of a side, whatever the store
abbrev pub MayRefuseRows : (side : ℕ) → Refusal → Type 0
MayRefuseRows side given = IsOutside given ⊎ NamesFileOf side given

-- the same of either of two catalogues
abbrev pub IsEitherLoadRefusal : Folder → Opened → Opened → Refusal → Type 0
IsEitherLoadRefusal folder left right given = IsLoadRefusal folder left given ⊎ IsLoadRefusal folder right given

abbrev pub MayRefuseFiles : Refusal → Type 0
MayRefuseFiles given = MayRefuseRows 1 given ⊎ MayRefuseRows 2 given
