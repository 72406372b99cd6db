-- What the calls on a catalogue answer, by the files as they read; and what may come in place of an answer.
use Rattle.std.specs.Prelude.{◌≡◌, ◌≢◌, ◌≤◌, ◌⊎◌, ⊤, ℕ, ℤ, Bool, false, true, List, Option, Some, None, Result, Ok, Err, Vec, IsErrOf, length, slice_get, take}
use Rattle.std.specs.declared.alloc.Global.{Global}
use Rattle.hx_base.specs.Columns.{column_names}
use Rattle.hx_base.specs.declared.pixel.Pixel.{Pixel}
use Rattle.hx_base.specs.declared.refusal.JobFile.{JobFile}
use Rattle.hx_base.specs.declared.refusal.JobFile.TheVariants as file
use Rattle.hx_base.specs.declared.refusal.Refusal.{Refusal}
use Rattle.hx_base.specs.declared.refusal.Refusal.TheVariants as refusal
use Rattle.hx_base.specs.declared.row.Row.{Row}
use Rattle.hx_base.specs.declared.refusal.SpillRefusal.{SpillRefusal}
use Rattle.hx_base.specs.declared.refusal.SpillRefusal.TheVariants as unread
use Rattle.hx_base.specs.declared.settings.Settings.{Settings}
use Rattle.hx_outside.specs.Faults.{HasFailed}
use Rattle.hx_outside.specs.Folders.{Folder}
use Rattle.hx_outside.specs.declared.store.StoreError.{StoreError}
use Rattle.hx_outside.specs.declared.store.StoreError.TheVariants as error
use Rattle.hx_pqmeta.specs.declared.refusal.PqRefusal.{PqRefusal}
use Rattle.hx_pqmeta.specs.declared.refusal.PqRefusal.TheVariants as parquet
use Rattle.hx_pqread.specs.Laws.{HasColumns, parquet_fault}
use Rattle.hx_catalog.specs.Catalogues.{HasProperties, HasTexts, properties_with}
use Rattle.hx_catalog.specs.Files.{Belong, HasRows, HoldsRows, list_file, properties_file, rows_file, rows_of_part}
use Rattle.hx_catalog.specs.Lines.{IsFirstBroken, text_of}
use Rattle.hx_catalog.specs.Lists.{AreListLines}
use Rattle.hx_catalog.specs.Properties.{AreProperties, ArePropertyLines, properties_text, property_lines}
use Rattle.hx_catalog.specs.declared.properties.Properties.{Properties}

-- a catalogue that was opened: its properties, its partitions, and the side by which refusals name it
pub record Opened : Type 0 where
  pub properties : Properties
  pub parts : List Pixel
  pub side : ℕ

-- the one whose properties say this of so many rows in these partitions
abbrev pub opened_of : Settings → (count : ℕ) → List Pixel → (side : ℕ) → Opened
opened_of settings count parts side = record { properties = properties_with settings false count parts; parts = parts; side = side }

-- ---- answers, and what may come in their place

-- a fault of the store, or want of memory
abbrev pub IsOutside : Refusal → Type 0
IsOutside given = (given ≡ refusal.StoreFault) ⊎ (given ≡ refusal.Memory)

abbrev pub IsFromOutside : {T : Type 0} → Result T Refusal → Type 0
IsFromOutside (Ok done) = ⊥
IsFromOutside (Err given) = IsOutside given

-- a store's error as a refusal
abbrev pub store_refusal : StoreError → Refusal
store_refusal error.Failed = refusal.StoreFault
store_refusal error.Memory = refusal.Memory

-- The answer is the right one, and each right one is it; but a fault of the store or want of memory may come in its place.
pub record IsExact {T : Type 0} (IsRight : Result T Refusal → Type 0) (answer : Result T Refusal) : Type 0 where
  pub only : IsRight answer ⊎ IsFromOutside answer
  pub always : (right : Result T Refusal) → IsRight right → (answer ≡ right) ⊎ IsFromOutside answer

-- the count of the store's faults never falls, and it has risen where a fault of the store is answered
pub record HasFaultCause {S T : Type 0} (faults : S → ℕ) (before now : S) (answer : Result T Refusal) : Type 0 where
  pub later : faults before ≤ faults now
  pub failed : IsErrOf answer refusal.StoreFault → HasFailed faults before now

-- ---- damage

-- why bytes aren't read: their damage, by its place, or want of memory
abbrev pub IsUnread : (ℕ → Type 0) → SpillRefusal → Type 0
IsUnread IsDamage (unread.Damaged place) = IsDamage place
IsUnread IsDamage unread.Memory = ⊤

-- the refusal of a file that isn't read
abbrev pub damaged_file : (side : ℕ) → JobFile → SpillRefusal → Refusal
damaged_file side file (unread.Damaged place) = refusal.Damaged side file place
damaged_file side file unread.Memory = refusal.Memory

-- a refusal names the damage of a file, by its place
abbrev pub IsDamagedAt : (side : ℕ) → JobFile → (ℕ → Type 0) → Refusal → Type 0
IsDamagedAt side file IsDamage given = (place : ℕ) × (given ≡ refusal.Damaged side file place) × IsDamage place

-- ---- opening

-- properties of another catalogue, by the place of the line of the name, or else of the line of the kind
abbrev pub AreOthers : List ℕ → Properties → ℕ → Type 0
AreOthers name properties place =
    ((properties.settings.name ≢ name) × (place ≡ length (text_of (take 1 (property_lines properties)))))
    ⊎ ((properties.settings.name ≡ name) × (properties.margin ≡ true) × (place ≡ length (text_of (take 2 (property_lines properties)))))

-- the damage of properties that are there: the first line that breaks a rule, or else the line that is another catalogue's
abbrev pub IsPropertiesDamage : List ℕ → Option (List ℕ) → ℕ → Type 0
IsPropertiesDamage name None place = ⊥
IsPropertiesDamage name (Some text) place =
    IsFirstBroken ArePropertyLines text place
    ⊎ ((properties : Properties) × AreProperties properties × (text ≡ properties_text properties) × AreOthers name properties place)

-- the damage of a list: it is absent, or its first line that breaks a rule
abbrev pub IsListDamage : Option (List ℕ) → ℕ → Type 0
IsListDamage None place = place ≡ 0
IsListDamage (Some text) place = IsFirstBroken AreListLines text place

-- Why a catalogue isn't opened: its properties are absent or damaged, or where they are read the list is damaged.
abbrev pub IsNotOpened : Folder → (name : List ℕ) → (side : ℕ) → Refusal → Type 0
IsNotOpened folder name side given =
    ((given ≡ refusal.NoCatalogue side) × (folder (properties_file name) ≡ None))
    ⊎ IsDamagedAt side file.Properties (IsPropertiesDamage name (folder (properties_file name))) given
    ⊎ (((properties : Properties) × HasProperties folder name properties) × IsDamagedAt side file.List (IsListDamage (folder (list_file name))) given)

-- what opening a catalogue answers
abbrev pub Opens : Folder → (name : List ℕ) → (side : ℕ) → Result Opened Refusal → Type 0
Opens folder name side (Ok opened) = (opened.side ≡ side) × HasTexts folder name opened.properties opened.parts
Opens folder name side (Err given) = IsNotOpened folder name side given

-- the refusals of opening, whatever the store
abbrev pub MayRefuseOpening : (side : ℕ) → Refusal → Type 0
MayRefuseOpening side given =
    IsOutside given ⊎ (given ≡ refusal.NoCatalogue side)
    ⊎ ((place : ℕ) × (given ≡ refusal.Damaged side file.Properties place)) ⊎ ((place : ℕ) × (given ≡ refusal.Damaged side file.List place))

-- ---- loading

-- a Parquet file's refusal as damage, by its place: that of a Thrift refusal, and 0 for every other fault
abbrev pub parquet_damage : PqRefusal → SpillRefusal
parquet_damage (parquet.Thrift at) = unread.Damaged at
parquet_damage parquet.Memory = unread.Memory
parquet_damage other = unread.Damaged 0

-- where a file of rows is damaged whose columns are read so: at a Thrift refusal, else at its beginning
abbrev pub damage_place : {X : Type 0} → Result X PqRefusal → ℕ
damage_place (Err (parquet.Thrift at)) = at
damage_place _ = 0

-- the damage of a Parquet file that should have rows: it isn't read as the five columns; or they have no rows that are good, ascend and belong there
abbrev pub IsRowsDamage : Bool → Pixel → List ℕ → ℕ → Type 0
IsRowsDamage margin pixel bytes place =
    ((fault : PqRefusal) × (parquet_fault bytes column_names ≡ Some fault) × (parquet_damage fault ≡ unread.Damaged place))
    ⊎ ((place ≡ 0) × ((lists : List (List ℤ)) × HasColumns bytes column_names lists) × ((rows : List Row) → HoldsRows bytes rows → ¬ (Belong margin pixel rows)))

-- the damage of a file of rows: it is absent, or damaged as a Parquet file
abbrev pub IsFileDamage : Bool → Pixel → Option (List ℕ) → ℕ → Type 0
IsFileDamage margin pixel None place = place ≡ 0
IsFileDamage margin pixel (Some bytes) place = IsRowsDamage margin pixel bytes place

-- what is answered of the file of a pixel that has this number among the partitions
abbrev pub LoadsFile : Folder → Opened → (part : ℕ) → (margin : Bool) → Pixel → Result (List Row) Refusal → Type 0
LoadsFile folder opened part margin pixel (Ok rows) = HasRows folder opened.properties.settings.name margin pixel rows
LoadsFile folder opened part margin pixel (Err given) =
    IsDamagedAt opened.side (rows_of_part margin part) (IsFileDamage margin pixel (folder (rows_file opened.properties.settings.name margin pixel))) given

-- what loading a partition's own rows answers, or those of its margin
abbrev pub Loads : Folder → Opened → (part : ℕ) → (margin : Bool) → Result (List Row) Refusal → Type 0
Loads folder opened part margin answer = (pixel : Pixel) × (slice_get opened.parts part ≡ Some pixel) × LoadsFile folder opened part margin pixel answer

-- the refusals of loading a file, whatever the store
abbrev pub MayRefuseLoading : (side : ℕ) → JobFile → Refusal → Type 0
MayRefuseLoading side file given = IsOutside given ⊎ ((place : ℕ) × (given ≡ refusal.Damaged side file place))

-- rows that were answered, as a list
abbrev pub listed : Result (Vec Row Global) Refusal → Result (List Row) Refusal
listed (Ok rows) = Ok rows.items
listed (Err given) = Err given
