-- What is left while the end of a journal is cut.
use Rattle.std.proofs.Common.{◌≡◌, ◌+◌, ◌*◌, ◌∙◌, ◌∷◌, ◌++◌, ℕ, List, [], Option, Some, None, option_map, Result, Ok, Err, OnOk, length, take, drop, refl, sym, ap, subst, inl, inr, arith, append_assoc, length-append, take-append-drop}
use Rattle.std.proofs.lemmas.List.{take_at}
use Rattle.hx_outside.specs.Folders.{Folder, Same, Changes, Cut, Shortened, MayCut, cut_to}
use Rattle.hx_outside.proofs.Calls.{cut_changes}
use Rattle.hx_journal.specs.Headers.{IsHeader}
use Rattle.hx_outside.specs.Disk.{DiskMembers, Passes, IsStable}
use Rattle.hx_outside.specs.declared.store.StoreError.{StoreError}
use Rattle.hx_outside.proofs.Runs.{weaker, joined, goes_on}
use Rattle.hx_outside.proofs.Names.{written_there}
use Rattle.hx_journal.specs.Journal.{front, Opened, Stands, IsAtRest, Trims}
use Rattle.hx_journal.specs.Refusals.{IsOpened}
use Rattle.hx_journal.specs.declared.record.Record.{Record}
use Rattle.hx_journal.proofs.Gates.{length-front}

shortened_is : (len : ℕ) (old : List ℕ) (o p : Option (List ℕ)) → o ≡ Some old → Shortened len o p → (new : List ℕ) × (p ≡ Some new) × Cut len old new
shortened_is len old None p is g = absurd (cc is)
shortened_is len old (Some b) None is g = absurd g
shortened_is len old (Some b) (Some new) is g = let same : b ≡ old = cc is in (new, refl, subst (λ (l : List ℕ). Cut len l new) same g)

module _ (header : List ℕ) (rs : List Record) (gate : ℕ) (rest : List ℕ) (len : ℕ) (place : len ≡ length header + 33 * length rs + 1) where
  kept : take len (front header rs ++ (gate ∷ rest)) ≡ front header rs ++ (gate ∷ [])
  kept =
      ap (take len) (sym (append_assoc (front header rs) (gate ∷ []) rest))
      ∙ take_at (front header rs ++ (gate ∷ [])) rest len (omega (arith, place, length-front header rs, length-append (front header rs) (gate ∷ [])))

  cut_is : (new : List ℕ) → Cut len (front header rs ++ (gate ∷ rest)) new → new ≡ front header rs ++ (gate ∷ drop len new)
  cut_is new cut =
      sym (take-append-drop len new) ∙ ap (λ (l : List ℕ). l ++ drop len new) (cut.front ∙ kept) ∙ append_assoc (front header rs) (gate ∷ []) (drop len new)

module _ {S : Type 0} (d : DiskMembers S) (old : S) (name header : List ℕ) (rs : List Record) (len : ℕ) (heading : IsHeader header) (place : len ≡ length header + 33 * length rs + 1)
    (tells : d.tells old) (stable : IsStable d old name) (stands : Stands header rs (d.reads old name)) where
  on_cut : (f g : Folder) → d.may_leave old f → Changes name (Shortened len) f g → Trims name f g
  on_cut f g now c =
      let was = stable f now ∙ stands.is in
      let (new, is, cut) = shortened_is len (front header rs ++ (stands.gate ∷ stands.rest)) (f name) (g name) was c.there in
      record {
        others = c.others;
        there = inr (record { header = header; heading = heading; records = rs; sound = stands.sound; gate = stands.gate; closed = stands.closed; was_behind = stands.rest; is_behind = drop len new; was = was; is = is ∙ ap (λ (l : List ℕ). Some l) (cut_is header rs stands.gate stands.rest len place new cut) });
      }

  pub cut_passes : (mid : S) → Passes d old mid (MayCut name len (d.reads old)) → Passes d old mid (Trims name)
  cut_passes mid call = weaker d old mid (MayCut name len (d.reads old)) (Trims name) call (λ f g now s. on_cut f g now (cut_changes name len (d.reads old) f g s)) tells

  pub sync_passes : (mid new : S) → Passes d old mid (Trims name) → Passes d mid new Same → Passes d old new (Trims name)
  sync_passes mid new run call = goes_on d old mid new (Trims name) Same tells run call (λ f g h was p now same. subst (Trims name f) (sym same) p)

  pub comes_to_rest : {T : Type 0} (mid new : S) (result : Result T StoreError) → d.reads mid ≡ cut_to name len (d.reads old) → d.reads new ≡ d.reads mid → OnOk result (IsStable d new name) → OnOk result (IsAtRest d new name header rs)
  comes_to_rest mid new (Ok x) cut same at = record {
    gate = stands.gate;
    closed = stands.closed;
    sound = stands.sound;
    each = λ f now. at f now ∙ (λ k. same k name) ∙ (λ k. cut k name) ∙ written_there name _ (d.reads old) ∙ ap (option_map (take len)) stands.is ∙ ap (λ (l : List ℕ). Some l) (kept header rs stands.gate stands.rest len place);
  }
  comes_to_rest mid new (Err e) cut same at = tt

-- a run that changed nothing, and then a cut
pub after_same : {S : Type 0} (d : DiskMembers S) (old mid new : S) (name : List ℕ) → d.tells old → Passes d old mid Same → Passes d mid new (Trims name) → Passes d old new (Trims name)
after_same d old mid new name tells run call = joined d old mid new Same (Trims name) (Trims name) tells run call
    (λ f g now same. record { others = λ n apart. λ k. same k n; there = inl (λ k. same k name) })
    (λ f g h was same now p. subst (λ (x : Folder). Trims name x h) same p)

-- what holds holds at Ok
pub at_ok : {T E : Type 0} (result : Result T E) (P : Type 0) → P → OnOk result P
at_ok (Ok x) P holds = holds
at_ok (Err e) P holds = tt

-- a journal that was read while nothing changed, and then a cut
pub open_passes : {S : Type 0} (d : DiskMembers S) (old mid new : S) (file : List ℕ) (journal : Opened) (len : ℕ) → d.tells old
    → Passes d old mid Same → IsStable d mid file → IsOpened file (d.reads old file) journal → len ≡ length journal.header + 33 * length journal.records + 1
    → ((header : List ℕ) (rs : List Record) → IsHeader header → len ≡ length header + 33 * length rs + 1 → d.tells mid → IsStable d mid file → Stands header rs (d.reads mid file) → Passes d mid new (Trims file))
    → Passes d old new (Trims file)
open_passes d old mid new file journal len tells loaded stable opened place trimmed =
    after_same d old mid new file tells loaded
    (trimmed journal.header journal.records opened.heading place loaded.told stable (subst (Stands journal.header journal.records) (λ k. sym loaded.seen k file) opened.stands))
