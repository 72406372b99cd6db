-- What each call of a store in memory leaves.
use Rattle.std.proofs.Common.{◌≡◌, ◌∙◌, ◌∷◌, ◌++◌, ℕ, List, [], Some, Result, Ok, Err, OnOk, true, refl, sym, inl}
use Rattle.std.proofs.lemmas.Result.{on_ok_weaker}
use Rattle.hx_outside.specs.Folders.{written, appended, byte_set, cut_to, removed, renamed, Same, MayAppend, MaySetByte, MayCut, MayRename, MayRemove}
use Rattle.hx_outside.specs.Disk.{Acts, IsStable, IsDoneToAll}
use Rattle.hx_outside.specs.declared.store.StoreError.{StoreError}
use Rattle.hx_outside.proofs.Calls.{append_same, set_byte_same, cut_same, rename_same}
use Rattle.hx_mem.specs.declared.change.Change.TheVariants.{Put, Append, SetByte, Cut, Sync, Rename, Remove}
use Rattle.hx_mem.specs.Stores.{Held, start_of, mem_disk, after_change}
use Rattle.hx_mem.proofs.Images.{acts_by, reads_by, images_by, reads_more, images_more}

-- two facts of an answer
both : (A B : Type 0) (r : Result (Unit {0}) StoreError) → OnOk r A → OnOk r B → OnOk r (A × B)
both A B (Ok x) a b = (a, b)
both A B (Err e) a b = tt

-- a store after a put
abbrev pub after_put : List ℕ → List ℕ → Held → Held
after_put name bytes old = record old { log = old.log ++ record { change = Put name bytes; done = true } ∷ [] }

pub put_reads : (old : Held) (name bytes : List ℕ) → mem_disk.reads (after_put name bytes old) ≡ written name (Some bytes) (mem_disk.reads old)
put_reads old name bytes = reads_more old.log (record { change = Put name bytes; done = true }) (start_of old)

pub put_images : (old : Held) (name bytes : List ℕ) → IsDoneToAll mem_disk old (after_put name bytes old) (written name (Some bytes))
put_images old name bytes f now = images_more old.log (record { change = Put name bytes; done = true }) (start_of old) (λ g. g ≡ start_of old) f now

module _ (old : Held) (result : Result (Unit {0}) StoreError) (name : List ℕ) where
  pub append_acts : (bytes : List ℕ) → Acts mem_disk old (after_change (Append name bytes) result old) (MayAppend name bytes (mem_disk.reads old)) result
  append_acts bytes = acts_by old (Append name bytes) result (MayAppend name bytes (mem_disk.reads old)) (append_same name bytes (mem_disk.reads old)) (λ done f g t. t)

  pub append_made : (bytes : List ℕ) → OnOk result (mem_disk.reads (after_change (Append name bytes) result old) ≡ appended name bytes (mem_disk.reads old))
  append_made bytes = reads_by old (Append name bytes) result

  pub set_acts : (at value : ℕ) → Acts mem_disk old (after_change (SetByte name at value) result old) (MaySetByte name at (mem_disk.reads old)) result
  set_acts at value = acts_by old (SetByte name at value) result (MaySetByte name at (mem_disk.reads old)) (set_byte_same name at (mem_disk.reads old)) (λ done f g t. t)

  pub set_made : (at value : ℕ) → OnOk result (mem_disk.reads (after_change (SetByte name at value) result old) ≡ byte_set name at value (mem_disk.reads old))
  set_made at value = reads_by old (SetByte name at value) result

  pub cut_acts : (len : ℕ) → Acts mem_disk old (after_change (Cut name len) result old) (MayCut name len (mem_disk.reads old)) result
  cut_acts len = acts_by old (Cut name len) result (MayCut name len (mem_disk.reads old)) (cut_same name len (mem_disk.reads old)) (λ done f g t. t)

  pub cut_made : (len : ℕ) → OnOk result (mem_disk.reads (after_change (Cut name len) result old) ≡ cut_to name len (mem_disk.reads old))
  cut_made len = reads_by old (Cut name len) result

  pub sync_acts : Acts mem_disk old (after_change (Sync name) result old) Same result
  sync_acts = acts_by old (Sync name) result Same (λ f. refl) (λ done f g t. t.0)

  pub sync_made : OnOk result (IsStable mem_disk (after_change (Sync name) result old) name)
  sync_made = on_ok_weaker result (λ h f now. let (g, was, torn) = h.0 f now in torn.1 refl ∙ (λ k. sym h.1 k name))
      (both _ _ result (images_by old (Sync name) result) (reads_by old (Sync name) result))

  pub remove_acts : Acts mem_disk old (after_change (Remove name) result old) (MayRemove name) result
  remove_acts = acts_by old (Remove name) result (MayRemove name) (λ f. inl refl) (λ done f g t. t.0)

  pub remove_made : OnOk result (mem_disk.reads (after_change (Remove name) result old) ≡ removed name (mem_disk.reads old))
  remove_made = reads_by old (Remove name) result

  pub remove_whole : IsStable mem_disk old name → OnOk result (IsDoneToAll mem_disk old (after_change (Remove name) result old) (removed name))
  remove_whole stable = on_ok_weaker result (λ h f now. let (g, was, torn) = h f now in (g, was, torn.1 refl stable)) (images_by old (Remove name) result)

  pub rename_acts : (to : List ℕ) → Acts mem_disk old (after_change (Rename name to) result old) (MayRename name to (mem_disk.reads old)) result
  rename_acts to = acts_by old (Rename name to) result (MayRename name to (mem_disk.reads old)) (rename_same name to (mem_disk.reads old)) (λ done f g t. t.0)

  pub rename_made : (to : List ℕ) → OnOk result (mem_disk.reads (after_change (Rename name to) result old) ≡ renamed name to (mem_disk.reads old))
  rename_made to = reads_by old (Rename name to) result

  pub rename_whole : (to : List ℕ) → IsStable mem_disk old name → OnOk result (IsDoneToAll mem_disk old (after_change (Rename name to) result old) (renamed name to))
  rename_whole to stable = on_ok_weaker result (λ h f now. let (g, was, torn) = h f now in (g, was, torn.1 refl stable)) (images_by old (Rename name to) result)
