-- Sources by their names and by the bytes that they tell.
use Rattle.std.proofs.Common.{◌≡◌, ◌<◌, ◌∷◌, ◌∙◌, ℕ, zero, suc, List, [], All, Option, Some, get_or, length, map, set, sym, ap, arith, refl, subst, inl, inr}
use Rattle.std.proofs.Math.ListN.{get_or-map}
use Rattle.std.proofs.Math.Nat.{le_trans}
use Rattle.std.proofs.lemmas.Bool.{cases_eq}
use Rattle.std.proofs.lemmas.List.{get_or-set_other, get_or-set_same, length-map, length-set}
use Rattle.hx_outside.specs.Sources.{SameSource, SourceMembers}
use Rattle.hx_inputs.specs.Sources.{SameSources, Tell}

-- what holds of all names holds of that of a source
pub of_name : {S : Type 0} (P : List ℕ → Type 0) (label : S → List ℕ) (xs : List S) (i : ℕ) (x : S) → i < length xs → x ≡ get_or xs i x → All P (map label xs) → P (label x)
of_name P label xs i x below is all = subst P (get_or-map label xs i x ∙ ap label (sym is)) (all i (label x) (omega (arith, below, length-map xs label)))

-- as many texts as sources
pub tell_length : {S : Type 0} (source : SourceMembers S) (inputs : List S) (bytes : List (List ℕ)) → Tell source inputs bytes → length bytes ≡ length inputs
tell_length source inputs bytes tell =
    sym (length-map bytes (λ (b : List ℕ). Some b)) ∙ ap (λ (xs : List (Option (List ℕ))). length xs) (sym tell) ∙ length-map inputs source.told

-- the text of a source
tell-at : {S : Type 0} (told : S → Option (List ℕ)) (inputs : List S) (bytes : List (List ℕ)) (i : ℕ) (d : S) → i < length inputs → map told inputs ≡ map (λ (b : List ℕ). Some b) bytes
    → told (get_or inputs i d) ≡ Some (get_or bytes i [])
tell-at told [] bytes i d below tell = absurd (omega (arith, below))
tell-at told (s ∷ more) [] i d below tell = cc tell
tell-at told (s ∷ more) (b ∷ bytes) zero d below tell = cc tell
tell-at told (s ∷ more) (b ∷ bytes) (suc i) d below tell = let rest : map told more ≡ map (λ (b : List ℕ). Some b) bytes = cc tell in tell-at told more bytes i d (omega (arith, below)) rest

module _ {S : Type 0} (source : SourceMembers S) (before now : List S) (same : SameSources source before now) where
  -- what a source tells after some calls, and its name
  pub told_here : (bytes : List (List ℕ)) (i : ℕ) (x : S) → Tell source before bytes → i < length now → x ≡ get_or now i x → source.told x ≡ Some (get_or bytes i [])
  told_here bytes i x tell below is =
      let within : i < length before = omega (arith, below, same.count) in
      ap source.told is ∙ (same.each i x within).bytes ∙ tell-at source.told before bytes i x within tell

  pub label_here : (i : ℕ) (x : S) → i < length now → x ≡ get_or now i x → source.label x ≡ get_or (map source.label before) i (source.label x)
  label_here i x below is =
      let within : i < length before = omega (arith, below, same.count) in
      ap source.label is ∙ (same.each i x within).name ∙ sym (get_or-map source.label before i x)

-- the default is never read within a list
pub get_or_any : {X : Type 0} (xs : List X) (i : ℕ) (d e : X) → i < length xs → get_or xs i d ≡ get_or xs i e
get_or_any [] i d e below = absurd (omega (arith, below))
get_or_any (x ∷ xs) zero d e below = refl
get_or_any (x ∷ xs) (suc i) d e below = get_or_any xs i d e (omega (arith, below))

map-same : {S X : Type 0} (f : S → X) (before now : List S) → length now ≡ length before → ((i : ℕ) (d : S) → i < length before → f (get_or now i d) ≡ f (get_or before i d)) → map f now ≡ map f before
map-same f [] [] h each = refl
map-same f [] (y ∷ ys) h each = absurd (omega (arith, h))
map-same f (x ∷ xs) [] h each = absurd (omega (arith, h))
map-same f (x ∷ xs) (y ∷ ys) h each =
    let first : f y ≡ f x = each 0 y (omega arith) in
    rw first (ap (λ zs. f x ∷ zs) (map-same f xs ys (omega (arith, h)) (λ i d below. each (suc i) d (omega (arith, below)))))

module _ {S : Type 0} (source : SourceMembers S) (before now : List S) (same : SameSources source before now) where
  -- the same names, and the same texts
  pub same_names : map source.label now ≡ map source.label before
  same_names = map-same source.label before now same.count (λ i d below. (same.each i d below).name)

  pub tell_still : (bytes : List (List ℕ)) → Tell source before bytes → Tell source now bytes
  tell_still bytes tell = map-same source.told before now same.count (λ i d below. (same.each i d below).bytes) ∙ tell

  -- one source more was called
  pub same_next : (i : ℕ) (x y : S) → i < length now → x ≡ get_or now i x → SameSource source x y → SameSources source before (set now i y)
  same_next i x y below is called = record {
    count = length-set now i y ∙ same.count;
    each = λ j d within. elim (cases_eq j i) [
      | inl at ↦ rw at (
          let old = same.each i d (omega (arith, below, same.count)) in
          let there : get_or now i d ≡ x = get_or_any now i d x below ∙ sym is in
          let here : get_or (set now i y) i d ≡ y = get_or-set_same now i y d below in record {
            bytes = ap source.told here ∙ called.bytes ∙ ap source.told (sym there) ∙ old.bytes;
            name = ap source.label here ∙ called.name ∙ ap source.label (sym there) ∙ old.name;
            later = rw here (le_trans old.later (rw there called.later));
          })
      | inr off ↦ rw (get_or-set_other now i j y d off) (same.each j d within)
    ];
  }
