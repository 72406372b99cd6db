-- Images go one call on.
use Rattle.std.proofs.Common.{◌≡◌, ◌≢◌, ◌⊎◌, ◌∙◌, ◌∷◌, ◌++◌, List, [], Bool, true, false, refl, sym, subst, inl, inr, ⊎_elim}
use Rattle.hx_outside.specs.Folders.{Folder}
use Rattle.hx_mem.specs.declared.change.Change.{Change}
use Rattle.hx_mem.specs.declared.change.Change.TheVariants.{Put, Append, SetByte, Cut, Sync, Rename, Remove}
use Rattle.hx_mem.specs.declared.change.Call.{Call}
use Rattle.hx_mem.specs.Logs.{AllHave, AreImages, IsBound, IsImage, MayBecome, MayLead, effect_if, name_of, reads_after}
use Rattle.hx_mem.specs.LogLaws.{reads_among}
use Rattle.hx_mem.proofs.Images.{reads_more, more_images}

-- what may become of an image while less is known to be stable
bound : (done : Bool) (change : Change) (less more : Type 0) (reads f g : Folder) → (more → less) → MayBecome done change less reads f g → MayBecome done change more reads f g
bound done (Put name bytes) less more reads f g leads t = t
bound done (Append name bytes) less more reads f g leads t = t
bound done (SetByte name at value) less more reads f g leads t = t
bound done (Cut name len) less more reads f g leads t = t
bound done (Sync name) less more reads f g leads t = t
bound done (Rename from to) less more reads f g leads t = (t.0, λ is stable. t.1 is (leads stable))
bound done (Remove name) less more reads f g leads t = (t.0, λ is stable. t.1 is (leads stable))

not_free : (free : Bool) → (free ≡ true → ⊥) → free ≡ false
not_free false never = refl
not_free true never = absurd (never refl)

-- An image goes one call on; another shows what isn't stable.
module _ (log : List Call) (call : Call) (start reads image other : Folder) (free : Bool) (images : AreImages log start reads image other)
    (why : free ≡ true → (image (name_of call.change) ≢ reads (name_of call.change)) ⊎ (other (name_of call.change) ≢ reads (name_of call.change))) where
  read_next : (next : Folder) → next ≡ effect_if call.done call.change reads → next ≡ reads_after (log ++ call ∷ []) start
  read_next next is = is ∙ (λ k. effect_if call.done call.change (images.read k)) ∙ sym (reads_more log call start)

  none_apart : AllHave (IsImage log start) reads (name_of call.change) → free ≡ true → ⊥
  none_apart all is = ⊎_elim (λ apart. apart (all image images.first)) (λ apart. apart (all other images.second)) (why is)

  image_next : (f g : Folder) → IsImage log start f
      → MayBecome call.done call.change (IsBound free call.change reads f) reads f g ⊎ (g ≡ effect_if call.done call.change reads) → IsImage (log ++ call ∷ []) start g
  image_next f g here (inl torn) =
      let lead : MayLead call reads (IsImage log start) f g =
      bound call.done call.change (IsBound free call.change reads f) (AllHave (IsImage log start) reads (name_of call.change)) reads f g
      (λ all. (not_free free (none_apart all), all f here)) torn in
      more_images log call start (λ h. h ≡ start) g (f, here, subst (λ (r : Folder). MayLead call r (IsImage log start) f g) images.read lead)
  image_next f g here (inr same) = subst (λ (h : Folder). IsImage (log ++ call ∷ []) start h) (sym (read_next g same)) (reads_among (log ++ call ∷ []) start (λ h. h ≡ start) refl)

  pub followed : (next f g : Folder) → next ≡ effect_if call.done call.change reads
      → MayBecome call.done call.change (IsBound free call.change reads image) reads image f ⊎ (f ≡ effect_if call.done call.change reads)
      → MayBecome call.done call.change (IsBound free call.change reads other) reads other g ⊎ (g ≡ effect_if call.done call.change reads)
      → AreImages (log ++ call ∷ []) start next f g
  followed next f g is first second = record {
    read = read_next next is;
    first = image_next image f images.first first;
    second = image_next other g images.second second;
  }

-- an image is kept, or starts over
pub kept_or_over : (fits done : Bool) (change : Change) (stable : Type 0) (reads f mid g : Folder)
    → (fits ≡ true → MayBecome done change stable reads f mid) → (fits ≡ false → effect_if done change reads ≡ reads)
    → (fits ≡ true → g ≡ mid) → (fits ≡ false → g ≡ reads) → MayBecome done change stable reads f g ⊎ (g ≡ effect_if done change reads)
kept_or_over true done change stable reads f mid g torn same kept over = inl (subst (MayBecome done change stable reads f) (sym (kept refl)) (torn refl))
kept_or_over false done change stable reads f mid g torn same kept over = inr (over refl ∙ sym (same refl))
