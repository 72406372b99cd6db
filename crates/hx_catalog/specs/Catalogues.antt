-- What makes the files of a folder a catalogue in the HATS layout: eight sentences, and a folder that reads as the catalogue of some rows
-- under some settings. `parts` are the pixels of its partitions.
use Rattle.std.specs.Prelude.{◌≡◌, ℕ, ℤ, Bool, true, false, List, Some, All, length}
use Rattle.hx_base.specs.Columns.{column_names}
use Rattle.hx_base.specs.Contents.{AreMarginRows, partition_rows}
use Rattle.hx_base.specs.Partitions.{ArePartitions, NothingOverfull}
use Rattle.hx_base.specs.Pixels.{count_in}
use Rattle.hx_base.specs.Rows.{IsGood}
use Rattle.hx_base.specs.declared.pixel.Pixel.{Pixel}
use Rattle.hx_base.specs.declared.row.Row.{Row}
use Rattle.hx_base.specs.declared.settings.Settings.{Settings}
use Rattle.hx_outside.specs.Folders.{Folder}
use Rattle.hx_pqread.specs.Laws.{HasColumns}
use Rattle.hx_catalog.specs.Files.{AreListed, FileHolds, HasRows, list_file, margin_list_file, margin_properties_file, properties_file, rows_file}
use Rattle.hx_catalog.specs.Lists.{IsList, list_text}
use Rattle.hx_catalog.specs.Properties.{AreProperties, properties_text}
use Rattle.hx_catalog.specs.declared.properties.Properties.{Properties}

-- ---- the eight sentences

-- the properties that stand in a folder are those of a catalogue, not of a margin catalogue, and have its name
pub record HasProperties (folder : Folder) (name : List ℕ) (properties : Properties) : Type 0 where
  pub text : folder (properties_file name) ≡ Some (properties_text properties)
  pub valid : AreProperties properties
  pub named : properties.settings.name ≡ name
  pub kind : properties.margin ≡ false

-- the list that stands in a folder names these partitions
pub record HasList (folder : Folder) (name : List ℕ) (parts : List Pixel) : Type 0 where
  pub text : folder (list_file name) ≡ Some (list_text parts)
  pub valid : IsList parts

-- 1: the properties and the list are read
pub record HasTexts (folder : Folder) (name : List ℕ) (properties : Properties) (parts : List Pixel) : Type 0 where
  pub own : HasProperties folder name properties
  pub list : HasList folder name parts

-- 2: a partition's file is read as the five columns
pub record IsReadAsColumns (folder : Folder) (name : List ℕ) (part : Pixel) : Type 0 where
  pub bytes : List ℕ
  pub there : folder (rows_file name false part) ≡ Some bytes
  pub lists : List (List ℤ)
  pub columns : HasColumns bytes column_names lists

-- 3: its rows are good, ascend and lie in it
abbrev pub HasItsRows : Folder → List ℕ → Pixel → Type 0
HasItsRows folder name part = (rows : List Row) × HasRows folder name false part rows

-- 4: the list is exactly the partitions into which all rows are cut, and no pixel is overfull
pub record AreCutInto (settings : Settings) (rows : List Row) (parts : List Pixel) : Type 0 where
  pub partitions : ArePartitions (λ pixel. count_in pixel rows) settings.lowest settings.highest settings.threshold parts
  pub none_overfull : NothingOverfull (λ pixel. count_in pixel rows) settings.highest settings.threshold

-- 5: the margin catalogue has the same list
abbrev pub HasMarginList : Folder → List ℕ → List Pixel → Type 0
HasMarginList folder name parts = folder (margin_list_file name) ≡ Some (list_text parts)

-- 6: a partition's margin file has the rows of its margin
pub record HasItsMargin (folder : Folder) (name : List ℕ) (margin_order : ℕ) (rows : List Row) (part : Pixel) : Type 0 where
  pub margin : List Row
  pub is : AreMarginRows part margin_order rows margin
  pub holds : FileHolds (folder (rows_file name true part)) margin

-- what the properties of a catalogue, or of its margin catalogue, say of so many rows in these partitions
abbrev pub properties_with : Settings → Bool → ℕ → List Pixel → Properties
properties_with settings margin count parts = record { settings = settings; margin = margin; rows = count; partitions = length parts }

-- 7: the margin catalogue has its properties, which count the rows of all margins
pub record HasMarginProperties (folder : Folder) (name : List ℕ) (settings : Settings) (parts : List Pixel) : Type 0 where
  pub margins : List Row
  pub listed : AreListed folder name true parts margins
  pub text : folder (margin_properties_file name) ≡ Some (properties_text (properties_with settings true (length margins) parts))

-- 8: the properties count the rows and the partitions that are there
abbrev pub HaveCounts : Properties → List Row → List Pixel → Type 0
HaveCounts properties rows parts = (properties.rows ≡ length rows) × (properties.partitions ≡ length parts)

-- ---- catalogues

-- All eight sentences, of a folder by itself: of the settings in its properties, and all rows of the files that its list names.
pub record KeepsSentences (folder : Folder) (name : List ℕ) (properties : Properties) (parts : List Pixel) (rows : List Row) : Type 0 where
  pub texts : HasTexts folder name properties parts
  pub columns : All (IsReadAsColumns folder name) parts
  pub own_rows : All (HasItsRows folder name) parts
  pub listed : AreListed folder name false parts rows
  pub cut : AreCutInto properties.settings rows parts
  pub margin_list : HasMarginList folder name parts
  pub margins : All (HasItsMargin folder name properties.settings.margin_order rows) parts
  pub margin_properties : HasMarginProperties folder name properties.settings parts
  pub counts : HaveCounts properties rows parts

-- A folder reads as the catalogue of these rows, in whatever order, under these settings: each file of a partition has exactly the rows that it contains.
pub record IsCatalogue (folder : Folder) (name : List ℕ) (settings : Settings) (rows : List Row) : Type 0 where
  pub parts : List Pixel
  pub good : All IsGood rows
  pub texts : HasTexts folder name (properties_with settings false (length rows) parts) parts
  pub cut : AreCutInto settings rows parts
  pub contents : All (λ part. FileHolds (folder (rows_file name false part)) (partition_rows part rows)) parts
  pub margin_list : HasMarginList folder name parts
  pub margins : All (HasItsMargin folder name settings.margin_order rows) parts
  pub margin_properties : HasMarginProperties folder name settings parts

-- A folder has a finished catalogue: it reads as that of the rows of its own files, one file after another.
pub record IsFinished (folder : Folder) (name : List ℕ) (settings : Settings) (rows : List Row) : Type 0 where
  pub catalogue : IsCatalogue folder name settings rows
  pub listed : AreListed folder name false catalogue.parts rows

abbrev pub HasCatalogue : Folder → List ℕ → Type 0
HasCatalogue folder name = (settings : Settings) × (rows : List Row) × IsFinished folder name settings rows
