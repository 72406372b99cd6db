-- What a store means: how it reads, what a crash may leave of it, and what each call may do to both.
use Rattle.std.specs.Prelude.{◌≡◌, ◌≤◌, ◌-◌, ◌⊎◌, ℕ, List, Option, None, length, take, drop, min, Result, IsErrOf}
use Rattle.hx_outside.specs.Folders.{Folder, Step, Same, contents}
use Rattle.hx_outside.specs.declared.store.StoreError.{StoreError}
use Rattle.hx_outside.specs.declared.store.StoreError.TheVariants.{Memory}

-- what a store means
pub record DiskMembers (S : Type 0) : Type 1 where
  -- it tells the rest
  pub tells : S → Type 0
  -- how it reads
  pub reads : S → Folder
  -- the images: the folders that a crash now may leave
  pub may_leave : S → Folder → Type 0
  -- a number that doesn't fall
  pub moment : S → ℕ
  -- the folders that a crash at some moment from that one on may have left
  pub left_since : S → ℕ → Folder → Type 0
  -- how often it has failed
  pub faults : S → ℕ
  -- how it reads is an image
  pub reads_now : (s : S) → tells s → may_leave s (reads s)
  -- now is a moment from any earlier one on
  pub counts_now : (s : S) (t : ℕ) (f : Folder) → t ≤ moment s → may_leave s f → left_since s t f
  -- what was left from a moment on was left from an earlier one on
  pub earlier : (s : S) (t u : ℕ) (f : Folder) → u ≤ t → left_since s t f → left_since s u f
  -- the only moment from now on is now
  pub only_now : (s : S) (f : Folder) → left_since s (moment s) f → may_leave s f

-- a folder from before, after a step
abbrev pub After : (Folder → Type 0) → Step → Folder → Type 0
After before step f = (g : Folder) × before g × step g f

-- Over a call or a run of calls: what a crash at a moment since an earlier one may have left is what it was at the
-- start, and what a crash since the start may have left. The latter is an image at the start after a step. How it
-- reads goes by the step too.
pub record Passes {S : Type 0} (d : DiskMembers S) (old new : S) (step : Step) : Type 0 where
  pub told : d.tells new
  pub later : d.moment old ≤ d.moment new
  pub keeps : (t : ℕ) (f : Folder) → t ≤ d.moment old → d.left_since old t f → d.left_since new t f
  pub leaves : (t : ℕ) (f : Folder) → t ≤ d.moment old → d.left_since new t f → d.left_since old t f ⊎ d.left_since new (d.moment old) f
  pub each : (f : Folder) → d.left_since new (d.moment old) f → After (d.may_leave old) step f
  pub seen : step (d.reads old) (d.reads new)

-- one call of a store that tells: want of memory changes nothing
pub record Acts {S T : Type 0} (d : DiskMembers S) (old new : S) (step : Step) (result : Result T StoreError) : Type 0 where
  pub passes : Passes d old new step
  pub unchanged : IsErrOf result Memory → Passes d old new Same

-- each image has the file as it reads
abbrev pub IsStable : {S : Type 0} → DiskMembers S → S → List ℕ → Type 0
IsStable d s name = (f : Folder) → d.may_leave s f → f name ≡ d.reads s name

-- each image is an image from before, to which this was done
abbrev pub IsDoneToAll : {S : Type 0} → DiskMembers S → S → S → (Folder → Folder) → Type 0
IsDoneToAll d old new change = (f : Folder) → d.may_leave new f → After (d.may_leave old) (λ g h. h ≡ change g) f

-- what is read: as many bytes of a file from `at` on as fit the buffer or are left
pub record ReadsBytes (file : Option (List ℕ)) (at : ℕ) (old new : List ℕ) (n : ℕ) : Type 0 where
  pub count : n ≡ min (length old) (length (contents file) - at)
  pub front : take n new ≡ take n (drop at (contents file))

-- a store that tells nothing but its faults
abbrev pub silent : {S : Type 0} → (S → ℕ) → DiskMembers S
silent faults = record {
  tells = λ s. ⊥;
  reads = λ s n. None;
  may_leave = λ s f. ⊥;
  moment = λ s. 0;
  left_since = λ s t f. ⊥;
  faults = faults;
  reads_now = λ s told. told;
  counts_now = λ s t f le now. now;
  earlier = λ s t u f le left. left;
  only_now = λ s f left. left;
}
