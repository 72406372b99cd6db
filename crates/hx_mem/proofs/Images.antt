-- What one call more does to the images of a store.
use Rattle.std.proofs.Common.{◌≡◌, ◌⊎◌, ◌∷◌, ◌++◌, ℕ, List, [], length, Bool, true, false, Result, Ok, Err, OnOk, refl, sym, subst, inl, inr, ⊎_elim, arith, length-append}
use Rattle.std.proofs.lemmas.Bool.{cases_lt}
use Rattle.std.proofs.lemmas.List.{take-append-le, take_all}
use Rattle.hx_outside.specs.Folders.{Folder, Step, Same}
use Rattle.hx_outside.specs.Disk.{After, Passes, Acts}
use Rattle.hx_outside.specs.declared.store.StoreError.{StoreError}
use Rattle.hx_outside.specs.declared.store.StoreError.TheVariants.{Failed, Memory}
use Rattle.hx_mem.specs.declared.change.Change.{Change}
use Rattle.hx_mem.specs.declared.change.Call.{Call}
use Rattle.hx_mem.specs.Calls.{CallCount}
use Rattle.hx_mem.specs.Logs.{effect, effect_if, AllHave, name_of, MayBecome, MayLead, reads_after, images_after, IsImage, WasImage}
use Rattle.hx_mem.specs.LogLaws.{kept}
use Rattle.hx_mem.specs.Exact.{ImagesAreExact}
use Rattle.hx_mem.specs.Stores.{Held, start_of, mem_disk, after_call, after_change}

pub reads_more : (log : List Call) (c : Call) (r : Folder) → reads_after (log ++ c ∷ []) r ≡ effect_if c.done c.change (reads_after log r)
reads_more [] c r = refl
reads_more (d ∷ log) c r = reads_more log c (effect_if d.done d.change r)

-- the images with one call more are those before, after what it may do
pub images_more : (log : List Call) (c : Call) (r : Folder) (images : Folder → Type 0) (f : Folder) → images_after (log ++ c ∷ []) r images f
    → After (images_after log r images) (MayLead c (reads_after log r) (images_after log r images)) f
images_more [] c r images f image = image
images_more (d ∷ log) c r images f image = images_more log c (effect_if d.done d.change r) (After images (MayLead d r images)) f image

pub more_images : (log : List Call) (c : Call) (r : Folder) (images : Folder → Type 0) (f : Folder)
    → After (images_after log r images) (MayLead c (reads_after log r) (images_after log r images)) f → images_after (log ++ c ∷ []) r images f
more_images [] c r images f image = image
more_images (d ∷ log) c r images f image = more_images log c (effect_if d.done d.change r) (After images (MayLead d r images)) f image

before_more : (log : List Call) (c : Call) (start : Folder) (t : ℕ) (f : Folder) → WasImage log start t f → WasImage (log ++ c ∷ []) start t f
before_more log c start t f was =
    let (k, from, to, image) = was in
    (k, from, omega (arith, to, length-append log (c ∷ [])), subst (λ l. IsImage l start f) (sym (take-append-le k log (c ∷ []) to)) image)

more_before : (log : List Call) (c : Call) (start : Folder) (t : ℕ) (f : Folder) → WasImage (log ++ c ∷ []) start t f → WasImage log start t f ⊎ IsImage (log ++ c ∷ []) start f
more_before log c start t f was =
    let (k, from, to, image) = was in
    elim (cases_lt (length log) k) [
      | inr early ↦ inl (k, from, early, subst (λ l. IsImage l start f) (take-append-le k log (c ∷ []) early) image)
      | inl late ↦ inr (subst (λ l. IsImage l start f) (take_all k (log ++ c ∷ []) (omega (arith, late, length-append log (c ∷ [])))) image)
    ]

-- A store after one call more, whose step is among what the call may do.
module _ (old : Held) (c : Call) (looked : List (List ℕ)) (count : CallCount) (step : Step) (same : (f : Folder) → step f f)
    (torn : (f g : Folder) → MayLead c (mem_disk.reads old) (mem_disk.may_leave old) f g → step f g) where
  abbrev next : Held
  next = record old { log = old.log ++ c ∷ []; looked = looked; count = count }

  last : (f : Folder) → IsImage (old.log ++ c ∷ []) (start_of old) f → After (mem_disk.may_leave old) step f
  last f now = let (h, was, t) = images_more old.log c (start_of old) (λ g. g ≡ start_of old) f now in (h, was, torn h f t)

  was_now : (f : Folder) → IsImage (old.log ++ c ∷ []) (start_of old) f → WasImage (old.log ++ c ∷ []) (start_of old) (length old.log) f
  was_now f now = (length (old.log ++ c ∷ []), omega (arith, length-append old.log (c ∷ [])), omega arith, subst (λ (l : List Call). IsImage l (start_of old) f) (sym (take_all (length (old.log ++ c ∷ [])) (old.log ++ c ∷ []) (omega arith))) now)

  pub pushed : Passes mem_disk old next step
  pushed = record {
    told = tt;
    later = omega (arith, length-append old.log (c ∷ []));
    keeps = λ t f le left. before_more old.log c (start_of old) t f left;
    leaves = λ t f le left. ⊎_elim (λ was. inl was) (λ now. inr (was_now f now)) (more_before old.log c (start_of old) t f left);
    each = λ f left. ⊎_elim (λ was. (f, mem_disk.only_now old f was, same f)) (last f) (more_before old.log c (start_of old) (length old.log) f left);
    seen = subst (step (mem_disk.reads old)) (sym (reads_more old.log c (start_of old))) (torn (mem_disk.reads old) _ (kept c.done c.change (mem_disk.reads old) (AllHave (mem_disk.may_leave old) (mem_disk.reads old) (name_of c.change))));
  }

-- A store whose changes are the same.
module _ (old : Held) (looked : List (List ℕ)) (count : CallCount) where
  idle : (step : Step) → ((f : Folder) → step f f) → Passes mem_disk old (record old { looked = looked; count = count }) step
  idle step same = record {
    told = tt;
    later = omega arith;
    keeps = λ t f le left. left;
    leaves = λ t f le left. inl left;
    each = λ f left. (f, mem_disk.only_now old f left, same f);
    seen = same (mem_disk.reads old);
  }

  pub idles : {T : Type 0} (result : Result T StoreError) (step : Step) → ((f : Folder) → step f f) → Acts mem_disk old (record old { looked = looked; count = count }) step result
  idles result step same = record { passes = idle step same; unchanged = λ e. idle Same (λ f. refl) }

-- A store after a call that makes a change.
module _ (old : Held) (change : Change) where
  pub acts_by : {T : Type 0} (result : Result T StoreError) (step : Step) → ((f : Folder) → step f f)
      → ((done : Bool) (f g : Folder) → MayBecome done change (AllHave (mem_disk.may_leave old) (mem_disk.reads old) (name_of change)) (mem_disk.reads old) f g → step f g) → Acts mem_disk old (after_change change result old) step result
  acts_by (Ok x) step same torn = record { passes = pushed old (record { change = change; done = true }) old.looked (after_call old).count step same (torn true); unchanged = λ e. absurd (cc e) }
  acts_by (Err Failed) step same torn = record { passes = pushed old (record { change = change; done = false }) old.looked (after_call old).count step same (torn false); unchanged = λ e. absurd (cc e) }
  acts_by (Err Memory) step same torn = idles old old.looked (after_call old).count (Err Memory) step same

  pub reads_by : {T : Type 0} (result : Result T StoreError) → OnOk result (mem_disk.reads (after_change change result old) ≡ effect change (mem_disk.reads old))
  reads_by (Ok x) = reads_more old.log (record { change = change; done = true }) (start_of old)
  reads_by (Err e) = tt

  pub images_by : {T : Type 0} (result : Result T StoreError) → OnOk result ((f : Folder) → mem_disk.may_leave (after_change change result old) f → After (mem_disk.may_leave old) (MayBecome true change (AllHave (mem_disk.may_leave old) (mem_disk.reads old) (name_of change)) (mem_disk.reads old)) f)
  images_by (Ok x) = λ f now. images_more old.log (record { change = change; done = true }) (start_of old) (λ g. g ≡ start_of old) f now
  images_by (Err e) = tt

pub exact : ImagesAreExact
exact old change true f = (images_more old.log (record { change = change; done = true }) (start_of old) (λ g. g ≡ start_of old) f, more_images old.log (record { change = change; done = true }) (start_of old) (λ g. g ≡ start_of old) f)
exact old change false f = (images_more old.log (record { change = change; done = false }) (start_of old) (λ g. g ≡ start_of old) f, more_images old.log (record { change = change; done = false }) (start_of old) (λ g. g ≡ start_of old) f)
