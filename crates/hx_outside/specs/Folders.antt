-- Folders, what a call of a store makes of one when it is done, and what a crash within it may make of one.
use Rattle.std.specs.Prelude.{◌≡◌, ◌≢◌, ◌≤◌, ◌+◌, ◌⊎◌, ◌++◌, ◌∷◌, ℕ, List, [], Option, Some, None, option_map, is_some, length, take, drop, min, max, Bool, true, false, if◌then◌else◌, nat_lt}
use Rattle.std.specs.Str.{bytes_eq}

-- the bytes of each name, none where the file is absent
abbrev pub Folder : Type 0
Folder = List ℕ → Option (List ℕ)

-- what may become of a folder
abbrev pub Step : Type 1
Step = Folder → Folder → Type 0

-- the bytes of a file, none where it is absent
abbrev pub contents : Option (List ℕ) → List ℕ
contents None = []
contents (Some bytes) = bytes

-- the folder with this at that name
abbrev pub written : List ℕ → Option (List ℕ) → Folder → Folder
written name file f n = if bytes_eq n name then file else f n

abbrev pub appended : List ℕ → List ℕ → Folder → Folder
appended name bytes f = written name (Some (contents (f name) ++ bytes)) f

-- the bytes with this one in place of that at `at`, where there is one
abbrev pub set_at : ℕ → ℕ → List ℕ → List ℕ
set_at at value bytes = if nat_lt at (length bytes) then take at bytes ++ value ∷ drop (at + 1) bytes else bytes

abbrev pub byte_set : List ℕ → ℕ → ℕ → Folder → Folder
byte_set name at value f = written name (option_map (set_at at value) (f name)) f

abbrev pub cut_to : List ℕ → ℕ → Folder → Folder
cut_to name len f = written name (option_map (take len) (f name)) f

abbrev pub removed : List ℕ → Folder → Folder
removed name f = written name None f

-- the folder after a rename of this file, whose bytes are given
abbrev pub moved : List ℕ → List ℕ → Option (List ℕ) → Folder → Folder
moved from to None f = f
moved from to (Some bytes) f = if bytes_eq from to then f else written to (Some bytes) (removed from f)

-- the folder after a rename: as before where the file is absent, or both names are one
abbrev pub renamed : List ℕ → List ℕ → Folder → Folder
renamed from to f = moved from to (f from) f

-- every other file is the same
abbrev pub SameBut : List ℕ → Folder → Folder → Type 0
SameBut name f g = (n : List ℕ) → n ≢ name → g n ≡ f n

abbrev pub SameButBoth : List ℕ → List ℕ → Folder → Folder → Type 0
SameButBoth a b f g = (n : List ℕ) → n ≢ a → n ≢ b → g n ≡ f n

-- nothing changes
abbrev pub Same : Step
Same f g = g ≡ f

-- this step where that holds, else no change
abbrev pub StepIf : Bool → Step → Step
StepIf true step = step
StepIf false step = Same

-- only this file changes, and by this step
pub record Changes (name : List ℕ) (step : Option (List ℕ) → Option (List ℕ) → Type 0) (f g : Folder) : Type 0 where
  pub there : step (f name) (g name)
  pub others : SameBut name f g

-- anything may stand behind the old bytes, up to that end or the old one
pub record Torn (end : ℕ) (old new : List ℕ) : Type 0 where
  pub front : take (length old) new ≡ old
  pub no_shorter : length old ≤ length new
  pub no_longer : length new ≤ max (length old) end

-- while bytes are appended, up to that end; an absent file may stay absent
abbrev pub Grown : ℕ → Option (List ℕ) → Option (List ℕ) → Type 0
Grown end None None = Unit {0}
Grown end None (Some new) = length new ≤ end
Grown end (Some old) None = ⊥
Grown end (Some old) (Some new) = Torn end old new

-- anything may stand past the cut, up to the old end
pub record Cut (len : ℕ) (old new : List ℕ) : Type 0 where
  pub front : take len new ≡ take len old
  pub no_shorter : min len (length old) ≤ length new
  pub no_longer : length new ≤ length old

-- while a file is cut
abbrev pub Shortened : ℕ → Option (List ℕ) → Option (List ℕ) → Type 0
Shortened len None None = Unit {0}
Shortened len None (Some new) = ⊥
Shortened len (Some old) None = ⊥
Shortened len (Some old) (Some new) = Cut len old new

-- anything may stand at that one place
pub record Flipped (at : ℕ) (old new : List ℕ) : Type 0 where
  pub before : take at new ≡ take at old
  pub after : drop (at + 1) new ≡ drop (at + 1) old
  pub long : length new ≡ length old

-- while a byte is set
abbrev pub Altered : ℕ → Option (List ℕ) → Option (List ℕ) → Type 0
Altered at None None = Unit {0}
Altered at None (Some new) = ⊥
Altered at (Some old) None = ⊥
Altered at (Some old) (Some new) = Flipped at old new

-- the length of a file in bytes, 0 where it is absent
abbrev pub file_length : List ℕ → Folder → ℕ
file_length name f = length (contents (f name))

-- What a call may make of a folder that a crash before it would have left, where the store read as `reads` then.
abbrev pub MayAppend : List ℕ → List ℕ → Folder → Step
MayAppend name bytes reads = Changes name (Grown (file_length name reads + length bytes))

-- no change where the file has no such place
abbrev pub MaySetByte : List ℕ → ℕ → Folder → Step
MaySetByte name at reads = StepIf (nat_lt at (file_length name reads)) (Changes name (Altered at))

-- no change where the file is no longer than that
abbrev pub MayCut : List ℕ → ℕ → Folder → Step
MayCut name len reads = StepIf (nat_lt len (file_length name reads)) (Changes name (Shortened len))

-- before or after
abbrev pub Renames : List ℕ → List ℕ → Step
Renames from to f g = (g ≡ f) ⊎ (g ≡ renamed from to f)

-- no change where the file is absent
abbrev pub MayRename : List ℕ → List ℕ → Folder → Step
MayRename from to reads = StepIf (is_some (reads from)) (Renames from to)

-- before or after
abbrev pub MayRemove : List ℕ → Step
MayRemove name f g = (g ≡ f) ⊎ (g ≡ removed name f)
