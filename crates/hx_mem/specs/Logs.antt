-- The calls of a store in memory, and what a crash may leave of the folder that it began with.
use Rattle.std.specs.Prelude.{◌≡◌, ◌≤◌, ℕ, List, [], ◌∷◌, ◌++◌, Some, Result, Ok, Err, Bool, true, false, length, take}
use Rattle.hx_outside.specs.Folders.{Folder, Step, written, appended, byte_set, cut_to, removed, renamed, MayAppend, MaySetByte, MayCut, MayRename, MayRemove}
use Rattle.hx_outside.specs.Disk.{After}
use Rattle.hx_outside.specs.declared.store.StoreError.{StoreError}
use Rattle.hx_outside.specs.declared.store.StoreError.TheVariants.{Failed, Memory}
use Rattle.hx_mem.specs.declared.change.Change.{Change}
use Rattle.hx_mem.specs.declared.change.Change.TheVariants.{Put, Append, SetByte, Cut, Sync, Rename, Remove}
use Rattle.hx_mem.specs.declared.change.Call.{Call}

-- what a change makes of a folder
abbrev pub effect : Change → Folder → Folder
effect (Put name bytes) f = written name (Some bytes) f
effect (Append name bytes) f = appended name bytes f
effect (SetByte name at value) f = byte_set name at value f
effect (Cut name len) f = cut_to name len f
effect (Sync name) f = f
effect (Rename from to) f = renamed from to f
effect (Remove name) f = removed name f

-- where it was done
abbrev pub effect_if : Bool → Change → Folder → Folder
effect_if true change f = effect change f
effect_if false change f = f

-- how a store reads after these calls, the first of them first
abbrev pub reads_after : List Call → Folder → Folder
reads_after [] reads = reads
reads_after (call ∷ calls) reads = reads_after calls (effect_if call.done call.change reads)

-- each of these images has the file as the store reads
abbrev pub AllHave : (Folder → Type 0) → Folder → List ℕ → Type 0
AllHave images reads name = (f : Folder) → images f → f name ≡ reads name

-- the file that a change names; of a rename the one that gets another name
abbrev pub name_of : Change → List ℕ
name_of (Put name bytes) = name
name_of (Append name bytes) = name
name_of (SetByte name at value) = name
name_of (Cut name len) = name
name_of (Sync name) = name
name_of (Rename from to) = from
name_of (Remove name) = name

-- What a call may make of an image, where the store read as `reads`, and that file was stable if so is said. A sync
-- that was done leaves the images with the file as it reads. A rename or remove of a stable file that was done is
-- done in each image.
abbrev pub MayBecome : Bool → Change → Type 0 → Folder → Step
MayBecome done (Put name bytes) stable reads f g = g ≡ effect_if done (Put name bytes) f
MayBecome done (Append name bytes) stable reads f g = MayAppend name bytes reads f g
MayBecome done (SetByte name at value) stable reads f g = MaySetByte name at reads f g
MayBecome done (Cut name len) stable reads f g = MayCut name len reads f g
MayBecome done (Sync name) stable reads f g = (g ≡ f) × (done ≡ true → g name ≡ reads name)
MayBecome done (Rename from to) stable reads f g = MayRename from to reads f g × (done ≡ true → stable → g ≡ renamed from to f)
MayBecome done (Remove name) stable reads f g = MayRemove name f g × (done ≡ true → stable → g ≡ removed name f)

-- what a call may make of an image, where the store read as `reads` and had these images
abbrev pub MayLead : Call → Folder → (Folder → Type 0) → Step
MayLead call reads images = MayBecome call.done call.change (AllHave images reads (name_of call.change)) reads

-- the images after these calls
abbrev pub images_after : List Call → Folder → (Folder → Type 0) → Folder → Type 0
images_after [] reads images f = images f
images_after (call ∷ calls) reads images f =
    images_after calls (effect_if call.done call.change reads) (After images (MayLead call reads images)) f

-- a folder that a crash after these calls may leave, where the store began with a stable folder
abbrev pub IsImage : List Call → Folder → Folder → Type 0
IsImage log start f = images_after log start (λ g. g ≡ start) f

-- a folder that a crash after so many of these calls, at least t, may have left
abbrev pub WasImage : List Call → Folder → ℕ → Folder → Type 0
WasImage log start t f = (count : ℕ) × (t ≤ count) × (count ≤ length log) × IsImage (take count log) start f

-- the calls with one more, unless memory was wanted
abbrev pub logged : {T : Type 0} → Change → Result T StoreError → List Call → List Call
logged change (Ok done) log = log ++ record { change = change; done = true } ∷ []
logged change (Err Failed) log = log ++ record { change = change; done = false } ∷ []
logged change (Err Memory) log = log

-- how a store reads after these calls, and two images
pub record AreImages (log : List Call) (start reads image other : Folder) : Type 0 where
  pub read : reads ≡ reads_after log start
  pub first : IsImage log start image
  pub second : IsImage log start other

-- the file that a change names is as the store reads, and the image isn't free of it
abbrev pub IsBound : Bool → Change → Folder → Folder → Type 0
IsBound free change reads image = (free ≡ false) × (image (name_of change) ≡ reads (name_of change))
