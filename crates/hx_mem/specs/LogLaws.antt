-- Laws of the calls of a store in memory.
use Rattle.std.specs.Prelude.{◌≡◌, ◌≤◌, ℕ, List, [], ◌∷◌, Bool, true, false, length, take, refl}
use Rattle.std.proofs.Common.{sym, ap, subst, arith, inl, inr}
use Rattle.hx_outside.specs.Folders.{Folder}
use Rattle.hx_outside.specs.Disk.{After}
use Rattle.hx_outside.proofs.Calls.{append_same, append_done, set_byte_same, set_byte_done, cut_same, cut_done, rename_same, rename_done}
use Rattle.hx_mem.specs.declared.change.Change.{Change}
use Rattle.hx_mem.specs.declared.change.Change.TheVariants.{Put, Append, SetByte, Cut, Sync, Rename, Remove}
use Rattle.hx_mem.specs.declared.change.Call.{Call}
use Rattle.hx_mem.specs.Logs.{effect_if, AllHave, name_of, MayBecome, MayLead, reads_after, images_after, IsImage, WasImage}

take_all : {X : Type 0} (xs : List X) → take (length xs) xs ≡ xs
take_all [] = refl
take_all (x ∷ xs) = ap (λ l. x ∷ l) (take_all xs)

pub counts_now : (log : List Call) (start : Folder) (t : ℕ) (f : Folder) → t ≤ length log → IsImage log start f → WasImage log start t f
counts_now log start t f le now = (length log, le, omega arith, subst (λ l. IsImage l start f) (sym (take_all log)) now)

pub earlier : (log : List Call) (start : Folder) (t u : ℕ) (f : Folder) → u ≤ t → WasImage log start t f → WasImage log start u f
earlier log start t u f le was = let (k, from, to, image) = was in (k, omega (arith, le, from), to, image)

pub only_now : (log : List Call) (start : Folder) (f : Folder) → WasImage log start (length log) f → IsImage log start f
only_now log start f was =
    let (k, from, to, image) = was in
    let same : k ≡ length log = omega (arith, from, to) in
    subst (λ l. IsImage l start f) (take_all log) (subst (λ n. IsImage (take n log) start f) same image)

-- how it reads goes by what a call may do
pub kept : (done : Bool) (change : Change) (r : Folder) (stable : Type 0) → MayBecome done change stable r r (effect_if done change r)
kept true (Put name bytes) r stable = refl
kept false (Put name bytes) r stable = refl
kept true (Append name bytes) r stable = append_done name bytes r
kept false (Append name bytes) r stable = append_same name bytes r r
kept true (SetByte name at value) r stable = set_byte_done name at value r
kept false (SetByte name at value) r stable = set_byte_same name at r r
kept true (Cut name len) r stable = cut_done name len r
kept false (Cut name len) r stable = cut_same name len r r
kept true (Sync name) r stable = (refl, λ e. refl)
kept false (Sync name) r stable = (refl, λ e. refl)
kept true (Rename from to) r stable = (rename_done from to r, λ e all. refl)
kept false (Rename from to) r stable = (rename_same from to r r, λ e all. absurd (cc e))
kept true (Remove name) r stable = (inr refl, λ e all. refl)
kept false (Remove name) r stable = (inl refl, λ e all. absurd (cc e))

pub reads_among : (log : List Call) (r : Folder) (images : Folder → Type 0) → images r → images_after log r images (reads_after log r)
reads_among [] r images here = here
reads_among (c ∷ cs) r images here =
    reads_among cs (effect_if c.done c.change r) (After images (MayLead c r images)) (r, here, kept c.done c.change r (AllHave images r (name_of c.change)))
