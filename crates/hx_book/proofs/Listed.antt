-- The words and lengths of inputs, one after another.
use Rattle.std.proofs.Common.{◌≡◌, ◌+◌, ◌<◌, ◌≤◌, ◌∙◌, ◌++◌, ◌∷◌, ℕ, List, [], Option, IfSome, get_or, length, map, set, slice_index_or, take, sym, ap, subst, arith}
use Rattle.std.proofs.Math.ListN.{get_or-map}
use Rattle.std.proofs.lemmas.List.{get_or_default, get_or-set_same, length-map, take_more}
use Rattle.hx_base.specs.declared.refusal.Refusal.{Refusal}
use Rattle.hx_base.specs.declared.refusal.Refusal.TheVariants as refusal
use Rattle.hx_inputs.proofs.Sources.{label_here, tell_length, told_here}
use Rattle.hx_inputs.specs.Sources.{SameSources, Tell}
use Rattle.hx_outside.specs.Faults.{HasFailed}
use Rattle.hx_outside.specs.Sources.{SourceMembers}
use Rattle.hx_book.specs.Books.{IsLengthCause, IsLengthsCause}

module _ {Src : Type 0} (source : SourceMembers Src) (before now : List Src) (same : SameSources source before now) (i : ℕ) (x : Src) (below : i < length now) (is : x ≡ get_or now i x) where
  pub words_next : (words : List (List ℕ)) (word : List ℕ) → words ≡ take i (map source.label before) → word ≡ source.label x → words ++ word ∷ [] ≡ take (i + 1) (map source.label before)
  words_next words word so_far named =
      let c = same.count in
      let within : i < length (map source.label before) = omega (arith, below, c, length-map before source.label) in
      (λ k. so_far k ++ (named ∙ label_here source before now same i x below is) k ∷ []) ∙ sym (take_more (map source.label before) i (source.label x) within)

  pub lens_next : (bytes : List (List ℕ)) (lens : List ℕ) (len : ℕ) → Tell source before bytes → lens ≡ take i (map length bytes) → IfSome (source.told x) (λ b. len ≡ length b) → lens ++ len ∷ [] ≡ take (i + 1) (map length bytes)
  lens_next bytes lens len tell so_far long =
      let c = same.count in
      let within : i < length (map length bytes) = omega (arith, below, c, length-map bytes (length {A = ℕ}), tell_length source before bytes tell) in
      let here : len ≡ length (get_or bytes i []) = subst (λ (o : Option (List ℕ)). IfSome o (λ b. len ≡ length b)) (told_here source before now same bytes i x tell below is) long in
      (λ k. so_far k ++ (here ∙ sym (get_or-map (length {A = ℕ}) bytes i [])) k ∷ []) ∙ sym (take_more (map (length {A = ℕ}) bytes) i (length {A = ℕ} []) within)

  within : i < length before
  within = let c = same.count in omega (arith, below, c)

  x_is : (e : Src) → get_or now i e ≡ x
  x_is e = get_or_default now i e x below ∙ sym is

  risen : (y e : Src) → HasFailed source.faults x y → HasFailed source.faults (slice_index_or before i e) (slice_index_or (set now i y) i e)
  risen y e rose =
      let was : source.faults (get_or before i e) ≤ source.faults x = subst (λ (z : Src). source.faults (get_or before i e) ≤ source.faults z) (x_is e) (same.each i e within).later in
      let now_is : source.faults (get_or (set now i y) i e) ≡ source.faults y = ap source.faults (get_or-set_same now i y e below) in
      omega (arith, was, now_is, rose)

  told_was : (e : Src) → source.told (get_or before i e) ≡ source.told x
  told_was e = sym (same.each i e within).bytes ∙ ap source.told (x_is e)

  -- a refusal of the next input is one of the inputs
  pub lengths_cause : (y : Src) (r : Refusal) → IsLengthCause source i x y r → IsLengthsCause source before (set now i y) r
  lengths_cause y (refusal.InputFault input) (at, rose) =
      subst (λ (k : ℕ). (k < length before) × ((e : Src) → HasFailed source.faults (slice_index_or before k e) (slice_index_or (set now i y) k e))) (sym at) (within, λ e. risen y e rose)
  lengths_cause y (refusal.TooMany what found limit) (a, b, c, long) =
      (a, b, c, (i, within, λ e. subst (λ (o : Option (List ℕ)). IfSome o (λ bytes. length bytes ≡ found)) (sym (told_was e)) long))
  lengths_cause y refusal.Memory cause = absurd cause
  lengths_cause y refusal.Usage cause = absurd cause
  lengths_cause y (refusal.BadInput k r w) cause = absurd cause
  lengths_cause y (refusal.Overfull p k) cause = absurd cause
  lengths_cause y (refusal.TooNarrow l r g) cause = absurd cause
  lengths_cause y refusal.StoreFault cause = absurd cause
  lengths_cause y refusal.SinkFault cause = absurd cause
  lengths_cause y (refusal.NoCatalogue s) cause = absurd cause
  lengths_cause y (refusal.OtherJob p k a) cause = absurd cause
  lengths_cause y (refusal.Damaged s f p) cause = absurd cause
  lengths_cause y (refusal.InputChanged k p a f) cause = absurd cause
  lengths_cause y refusal.NameTaken cause = absurd cause
