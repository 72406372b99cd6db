-- What each call may make of a folder: no change, and what is done, are among it, and other files stay.
use Rattle.std.proofs.Common.{◌≡◌, ◌≢◌, ◌≤◌, ◌<◌, ◌+◌, ◌∙◌, ◌∷◌, ◌++◌, ◌⊎◌, if◌then◌else◌, ℕ, List, Option, Some, None, Bool, true, false, nat_lt, option_map, length, take, drop, refl, sym, ap, subst, inl, inr, arith}
use Rattle.std.specs.Prelude.{is_some}
use Rattle.std.proofs.lemmas.Bool.Decides.{nat_tests}
use Rattle.std.proofs.lemmas.List.{take_all}
use Rattle.hx_outside.specs.Folders.{Folder, Step, StepIf, SameBut, SameButBoth, Changes, Grown, Altered, Shortened, contents, file_length, set_at, appended, byte_set, cut_to, renamed, removed, Renames, MayAppend, MaySetByte, MayCut, MayRename, MayRemove}
use Rattle.hx_outside.proofs.Names.{written_same, written_others, renamed_others, renamed_absent}
use Rattle.hx_outside.proofs.Steps.{changed, unchanged, grown, grown_same, shortened, shortened_same, altered, altered_same}

-- A step that is taken where something holds is that step, or none.
pub step_if : (b : Bool) (step : Step) (f g : Folder) → ((h : Folder) → step h h) → StepIf b step f g → step f g
step_if true step f g none s = s
step_if false step f g none s = subst (step f) (sym s) (none f)

pub step_if_same : (b : Bool) (step : Step) (f : Folder) → step f f → StepIf b step f f
step_if_same true step f s = s
step_if_same false step f s = refl

step_if_done : (b : Bool) (step : Step) (f g : Folder) → (b ≡ true → step f g) → (b ≡ false → g ≡ f) → StepIf b step f g
step_if_done true step f g done same = done refl
step_if_done false step f g done same = same refl

pub step_if_taken : (b : Bool) (step : Step) (f g : Folder) → b ≡ true → step f g → StepIf b step f g
step_if_taken b step f g holds s = step_if_done b step f g (λ e. s) (λ e. absurd (cc (holds, e)))

within_is : (at n : ℕ) → at < n → nat_lt at n ≡ true
within_is at n h = grind (arith, nat_tests)

-- Appending.
pub append_same : (name bytes : List ℕ) (reads f : Folder) → MayAppend name bytes reads f f
append_same name bytes reads f = unchanged name (Grown (file_length name reads + length bytes)) f (grown_same (file_length name reads + length bytes) (f name))

pub append_done : (name bytes : List ℕ) (f : Folder) → MayAppend name bytes f f (appended name bytes f)
append_done name bytes f = changed name (Grown (file_length name f + length bytes)) _ f (grown (f name) bytes)

-- Setting a byte.
altered_none : (name : List ℕ) (at : ℕ) (f : Folder) → Changes name (Altered at) f f
altered_none name at f = unchanged name (Altered at) f (altered_same at (f name))

pub set_byte_changes : (name : List ℕ) (at : ℕ) (reads f g : Folder) → MaySetByte name at reads f g → Changes name (Altered at) f g
set_byte_changes name at reads f g s = step_if (nat_lt at (file_length name reads)) (Changes name (Altered at)) f g (altered_none name at) s

pub set_byte_same : (name : List ℕ) (at : ℕ) (reads f : Folder) → MaySetByte name at reads f f
set_byte_same name at reads f = step_if_same (nat_lt at (file_length name reads)) (Changes name (Altered at)) f (altered_none name at f)

set_past : (b : Bool) (at value : ℕ) (old : List ℕ) → b ≡ false → (if b then take at old ++ value ∷ drop (at + 1) old else old) ≡ old
set_past true at value old past = absurd (cc past)
set_past false at value old past = refl

set_past_end : (at value : ℕ) (file : Option (List ℕ)) → nat_lt at (length (contents file)) ≡ false → option_map (set_at at value) file ≡ file
set_past_end at value None past = refl
set_past_end at value (Some old) past = ap (λ (l : List ℕ). Some l) (set_past (nat_lt at (length old)) at value old past)

pub set_byte_done : (name : List ℕ) (at value : ℕ) (f : Folder) → MaySetByte name at f f (byte_set name at value f)
set_byte_done name at value f =
    step_if_done (nat_lt at (file_length name f)) (Changes name (Altered at)) f (byte_set name at value f)
    (λ within. changed name (Altered at) _ f (altered at value (f name)))
    (λ past. written_same name (option_map (set_at at value) (f name)) f (set_past_end at value (f name) past))

pub set_byte_within : (name : List ℕ) (at : ℕ) (reads f g : Folder) → at < file_length name reads → Changes name (Altered at) f g → MaySetByte name at reads f g
set_byte_within name at reads f g within s = step_if_taken (nat_lt at (file_length name reads)) (Changes name (Altered at)) f g (within_is at (file_length name reads) within) s

-- Cutting.
shortened_none : (name : List ℕ) (len : ℕ) (f : Folder) → Changes name (Shortened len) f f
shortened_none name len f = unchanged name (Shortened len) f (shortened_same len (f name))

pub cut_changes : (name : List ℕ) (len : ℕ) (reads f g : Folder) → MayCut name len reads f g → Changes name (Shortened len) f g
cut_changes name len reads f g s = step_if (nat_lt len (file_length name reads)) (Changes name (Shortened len)) f g (shortened_none name len) s

pub cut_same : (name : List ℕ) (len : ℕ) (reads f : Folder) → MayCut name len reads f f
cut_same name len reads f = step_if_same (nat_lt len (file_length name reads)) (Changes name (Shortened len)) f (shortened_none name len f)

not_below : (len n : ℕ) → nat_lt len n ≡ false → n ≤ len
not_below len n h = grind (arith, nat_tests)

cut_past_end : (len : ℕ) (file : Option (List ℕ)) → nat_lt len (length (contents file)) ≡ false → option_map (take len) file ≡ file
cut_past_end len None past = refl
cut_past_end len (Some old) past = ap (λ (l : List ℕ). Some l) (take_all len old (not_below len (length old) past))

pub cut_done : (name : List ℕ) (len : ℕ) (f : Folder) → MayCut name len f f (cut_to name len f)
cut_done name len f =
    step_if_done (nat_lt len (file_length name f)) (Changes name (Shortened len)) f (cut_to name len f)
    (λ within. changed name (Shortened len) _ f (shortened len (f name)))
    (λ past. written_same name (option_map (take len) (f name)) f (cut_past_end len (f name) past))

pub cut_within : (name : List ℕ) (len : ℕ) (reads f g : Folder) → len < file_length name reads → Changes name (Shortened len) f g → MayCut name len reads f g
cut_within name len reads f g within s = step_if_taken (nat_lt len (file_length name reads)) (Changes name (Shortened len)) f g (within_is len (file_length name reads) within) s

-- Renaming.
pub rename_renames : (from to : List ℕ) (reads f g : Folder) → MayRename from to reads f g → Renames from to f g
rename_renames from to reads f g s = step_if (is_some (reads from)) (Renames from to) f g (λ h. inl refl) s

pub rename_same : (from to : List ℕ) (reads f : Folder) → MayRename from to reads f f
rename_same from to reads f = step_if_same (is_some (reads from)) (Renames from to) f (inl refl)

none_where : (file : Option (List ℕ)) → is_some file ≡ false → file ≡ None
none_where None absent = refl
none_where (Some bytes) absent = absurd (cc absent)

pub rename_done : (from to : List ℕ) (f : Folder) → MayRename from to f f (renamed from to f)
rename_done from to f =
    step_if_done (is_some (f from)) (Renames from to) f (renamed from to f)
    (λ there. inr refl)
    (λ absent. renamed_absent from to f (none_where (f from) absent))

-- Other files are the same.
pub append_others : (name bytes : List ℕ) (reads f g : Folder) → MayAppend name bytes reads f g → SameBut name f g
append_others name bytes reads f g s = s.others

pub set_byte_others : (name : List ℕ) (at : ℕ) (reads f g : Folder) → MaySetByte name at reads f g → SameBut name f g
set_byte_others name at reads f g s = (set_byte_changes name at reads f g s).others

pub cut_others : (name : List ℕ) (len : ℕ) (reads f g : Folder) → MayCut name len reads f g → SameBut name f g
cut_others name len reads f g s = (cut_changes name len reads f g s).others

-- either way: the same folder, or one that has the same
either_same : (f g h : Folder) (n : List ℕ) → h n ≡ f n → (g ≡ f) ⊎ (g ≡ h) → g n ≡ f n
either_same f g h n same (inl none) = λ k. none k n
either_same f g h n same (inr done) = (λ k. done k n) ∙ same

pub rename_others : (from to : List ℕ) (reads f g : Folder) → from ≢ to → MayRename from to reads f g → SameButBoth from to f g
rename_others from to reads f g apart s n a b = either_same f g (renamed from to f) n (renamed_others from to f apart n a b) (rename_renames from to reads f g s)

pub remove_others : (name : List ℕ) (f g : Folder) → MayRemove name f g → SameBut name f g
remove_others name f g s n apart = either_same f g (removed name f) n (written_others name None f n apart) s
