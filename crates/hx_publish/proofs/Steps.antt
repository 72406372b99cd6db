-- How each call of `publish` goes on from a folder that is being published to one that is.
use Rattle.std.proofs.Common.{◌≡◌, ◌≢◌, ◌∙◌, ◌++◌, inl, inr, ⊎_elim, ℕ, List, Option, Some, None, subst, sym, refl, ap, option_map, take, Result, Ok, Err, OnOk}
use Rattle.hx_outside.specs.Folders.{Folder, Same, SameBut, Renames, MayCut, MayAppend, MayRename, contents, cut_to, appended, renamed}
use Rattle.hx_outside.specs.Disk.{DiskMembers, Passes, IsStable, IsDoneToAll}
use Rattle.hx_outside.proofs.Runs.{weaker, goes_on}
use Rattle.hx_outside.proofs.Names.{renamed_there, renamed_others, written_there}
use Rattle.hx_outside.proofs.Calls.{cut_others, append_others, rename_renames}
use Rattle.hx_publish.specs.Publishing.{Publishes, HasInEach}

only_appended : (before : Option (List ℕ)) (bytes : List ℕ) → contents (option_map (take 0) before) ++ bytes ≡ bytes
only_appended None bytes = refl
only_appended (Some old) bytes = refl

-- what is read of a file that was emptied and filled
filled : (name bytes : List ℕ) (f g h : Folder) → g ≡ cut_to name 0 f → h ≡ appended name bytes g → h name ≡ Some bytes
filled name bytes f g h emptied full =
    (λ i. full i name) ∙ written_there name _ g
    ∙ ap (λ (o : Option (List ℕ)). Some (contents o ++ bytes)) ((λ i. emptied i name) ∙ written_there name _ f)
    ∙ ap (λ (l : List ℕ). Some l) (only_appended (f name) bytes)

module _ (tmp name bytes : List ℕ) (apart : tmp ≢ name) where
  on_tmp : (f g : Folder) → SameBut tmp f g → Publishes tmp name bytes f g
  on_tmp f g same = record { others = λ n a b. same n a; there = inl (same name (λ e. apart (sym e))) }

  joined : (f g h : Folder) → Publishes tmp name bytes f g → Publishes tmp name bytes g h → Publishes tmp name bytes f h
  joined f g h p q = record {
    others = λ n a b. q.others n a b ∙ p.others n a b;
    there = ⊎_elim (λ e. ⊎_elim (λ was. inl (e ∙ was)) (λ is. inr (e ∙ is)) p.there) (λ e. inr e) q.there;
  }

  renames : (f g : Folder) → f tmp ≡ Some bytes → Renames tmp name f g → Publishes tmp name bytes f g
  renames f g full (inl same) = record { others = λ n a b. λ i. same i n; there = inl (λ i. same i name) }
  renames f g full (inr moved) = record {
    others = λ n a b. (λ i. moved i n) ∙ renamed_others tmp name f apart n a b;
    there = inr ((λ i. moved i name) ∙ renamed_there tmp name bytes f apart full);
  }

  module _ {S : Type 0} (d : DiskMembers S) (old : S) (tells : d.tells old) where
    pub cut_first : (mid : S) → Passes d old mid (MayCut tmp 0 (d.reads old)) → Passes d old mid (Publishes tmp name bytes)
    cut_first mid call = weaker d old mid _ (Publishes tmp name bytes) call (λ f g was c. on_tmp f g (cut_others tmp 0 (d.reads old) f g c)) tells

    pub append_next : (mid new : S) → Passes d old mid (Publishes tmp name bytes) → Passes d mid new (MayAppend tmp bytes (d.reads mid)) → Passes d old new (Publishes tmp name bytes)
    append_next mid new run call = goes_on d old mid new (Publishes tmp name bytes) _ tells run call (λ f g h was p now c. joined f g h p (on_tmp g h (append_others tmp bytes (d.reads mid) g h c)))

    pub sync_next : (mid new : S) → Passes d old mid (Publishes tmp name bytes) → Passes d mid new Same → Passes d old new (Publishes tmp name bytes)
    sync_next mid new run call = goes_on d old mid new (Publishes tmp name bytes) Same tells run call (λ f g h was p now same. subst (Publishes tmp name bytes f) (sym same) p)

    pub rename_next : (mid new : S) → HasInEach d mid tmp bytes → Passes d old mid (Publishes tmp name bytes) → Passes d mid new (MayRename tmp name (d.reads mid)) → Passes d old new (Publishes tmp name bytes)
    rename_next mid new full run call =
        goes_on d old mid new (Publishes tmp name bytes) _ tells run call
        (λ f g h was p now c. joined f g h p (renames g h (full g now) (rename_renames tmp name (d.reads mid) g h c)))

  module _ {S T E : Type 0} (d : DiskMembers S) (new : S) where
    -- the file in each folder that a crash may leave, once the rename is done
    pub in_each : (mid : S) (result : Result T E) → HasInEach d mid tmp bytes → OnOk result (IsDoneToAll d mid new (renamed tmp name)) → OnOk result (HasInEach d new name bytes)
    in_each mid (Ok x) full all = λ f now. let (g, was, is) = all f now in (λ k. is k name) ∙ renamed_there tmp name bytes g apart (full g was)
    in_each mid (Err e) full all = tt

    pub read_there : (result : Result T E) → d.tells new → OnOk result (HasInEach d new name bytes) → OnOk result (d.reads new name ≡ Some bytes)
    read_there (Ok x) tells each = each (d.reads new) (d.reads_now new tells)
    read_there (Err e) tells each = tt

    pub stable_there : (result : Result T E) → d.tells new → OnOk result (HasInEach d new name bytes) → OnOk result (IsStable d new name)
    stable_there (Ok x) tells each = λ f now. each f now ∙ sym (each (d.reads new) (d.reads_now new tells))
    stable_there (Err e) tells each = tt

-- the temporary file in each folder that a crash may leave, once it is synced
pub full_in_each : {S : Type 0} (d : DiskMembers S) (first mid filled_one new : S) (tmp bytes : List ℕ)
    → d.reads mid ≡ cut_to tmp 0 (d.reads first) → d.reads filled_one ≡ appended tmp bytes (d.reads mid) → d.reads new ≡ d.reads filled_one
    → IsStable d new tmp → HasInEach d new tmp bytes
full_in_each d first mid filled_one new tmp bytes emptied full same stable f now =
    stable f now ∙ (λ i. same i tmp) ∙ filled tmp bytes (d.reads first) (d.reads mid) (d.reads filled_one) emptied full
