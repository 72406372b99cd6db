-- What a folder has at a name after a change.
use Rattle.std.proofs.Common.{◌≡◌, ◌≢◌, ◌∙◌, if◌then◌else◌, ℕ, List, Option, Some, None, Bool, true, false, refl, sym, ap}
use Rattle.std.specs.Str.{bytes_eq}
use Rattle.std.proofs.lemmas.Slice.Eq.{bytes_eq-Decides}
use Rattle.hx_outside.specs.Folders.{Folder, written, removed, moved, renamed, SameBut, SameButBoth}

pub same_name : (n : List ℕ) → bytes_eq n n ≡ true
same_name n = (bytes_eq-Decides n n).1 refl

not_true : (b : Bool) → (b ≡ true → ⊥) → b ≡ false
not_true false never = refl
not_true true never = absurd (never refl)

pub other_name : (n name : List ℕ) → n ≢ name → bytes_eq n name ≡ false
other_name n name apart = not_true _ (λ e. apart ((bytes_eq-Decides n name).0 e))

pub written_there : (name : List ℕ) (file : Option (List ℕ)) (f : Folder) → written name file f name ≡ file
written_there name file f = ap (λ (b : Bool). if b then file else f name) (same_name name)

pub written_others : (name : List ℕ) (file : Option (List ℕ)) (f : Folder) → SameBut name f (written name file f)
written_others name file f n apart = ap (λ (b : Bool). if b then file else f n) (other_name n name apart)

moved_others : (from to : List ℕ) (file : Option (List ℕ)) (f : Folder) → from ≢ to → SameButBoth from to f (moved from to file f)
moved_others from to None f apart n a b = refl
moved_others from to (Some bytes) f apart n a b =
    ap (λ (c : Bool). (if c then f else written to (Some bytes) (removed from f)) n) (other_name from to apart)
    ∙ written_others to (Some bytes) (removed from f) n b ∙ written_others from None f n a

pub renamed_others : (from to : List ℕ) (f : Folder) → from ≢ to → SameButBoth from to f (renamed from to f)
renamed_others from to f apart = moved_others from to (f from) f apart

moved_there : (from to bytes : List ℕ) (file : Option (List ℕ)) (f : Folder) → from ≢ to → file ≡ Some bytes → moved from to file f to ≡ Some bytes
moved_there from to bytes None f apart is = absurd (cc)
moved_there from to bytes (Some old) f apart is =
    ap (λ (c : Bool). (if c then f else written to (Some old) (removed from f)) to) (other_name from to apart)
    ∙ written_there to (Some old) (removed from f) ∙ is

pub renamed_there : (from to bytes : List ℕ) (f : Folder) → from ≢ to → f from ≡ Some bytes → renamed from to f to ≡ Some bytes
renamed_there from to bytes f apart is = moved_there from to bytes (f from) f apart is

same_at : (name : List ℕ) (file : Option (List ℕ)) (f : Folder) → file ≡ f name → (n : List ℕ) (b : Bool) → bytes_eq n name ≡ b → (if b then file else f n) ≡ f n
same_at name file f is n true same = is ∙ ap f (sym ((bytes_eq-Decides n name).0 same))
same_at name file f is n false other = refl

pub written_same : (name : List ℕ) (file : Option (List ℕ)) (f : Folder) → file ≡ f name → written name file f ≡ f
written_same name file f is = λ k n. same_at name file f is n (bytes_eq n name) refl k

moved_absent : (from to : List ℕ) (file : Option (List ℕ)) (f : Folder) → file ≡ None → moved from to file f ≡ f
moved_absent from to None f none = refl
moved_absent from to (Some bytes) f none = absurd (cc)

pub renamed_absent : (from to : List ℕ) (f : Folder) → f from ≡ None → renamed from to f ≡ f
renamed_absent from to f none = moved_absent from to (f from) f none

moved_is : (from to bytes : List ℕ) (file : Option (List ℕ)) (f : Folder) → from ≢ to → file ≡ Some bytes → moved from to file f ≡ written to (Some bytes) (removed from f)
moved_is from to bytes None f apart is = absurd (cc)
moved_is from to bytes (Some old) f apart is = ap (λ (c : Bool). if c then f else written to (Some old) (removed from f)) (other_name from to apart) ∙ ap (λ (o : Option (List ℕ)). written to o (removed from f)) is

pub renamed_is : (from to bytes : List ℕ) (f : Folder) → from ≢ to → f from ≡ Some bytes → renamed from to f ≡ written to (Some bytes) (removed from f)
renamed_is from to bytes f apart is = moved_is from to bytes (f from) f apart is

-- what was written last stands
written_last : (name : List ℕ) (new old : Option (List ℕ)) (f : Folder) (n : List ℕ) (b : Bool) → (if b then new else (if b then old else f n)) ≡ (if b then new else f n)
written_last name new old f n true = refl
written_last name new old f n false = refl

pub written_twice : (name : List ℕ) (new old : Option (List ℕ)) (f : Folder) → written name new (written name old f) ≡ written name new f
written_twice name new old f = λ k n. written_last name new old f n (bytes_eq n name) k
