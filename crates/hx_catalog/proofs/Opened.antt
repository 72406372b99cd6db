-- What opening finds, and why a catalogue isn't opened.
use Rattle.std.proofs.Common.{◌≡◌, ◌⊎◌, ◌∙◌, ◌+◌, ◌∷◌, [], ℕ, false, List, Option, None, Some, Result, Ok, Err, ap, arith, inl, inr, length, length-append, refl, subst, sym, take}
use Rattle.hx_base.specs.declared.pixel.Pixel.{Pixel}
use Rattle.hx_base.specs.declared.refusal.JobFile.{JobFile}
use Rattle.hx_base.specs.declared.refusal.JobFile.TheVariants as file
use Rattle.hx_base.specs.declared.refusal.Refusal.{Refusal}
use Rattle.hx_base.specs.declared.refusal.Refusal.TheVariants as refusal
use Rattle.hx_base.specs.declared.refusal.SpillRefusal.{SpillRefusal}
use Rattle.hx_base.specs.declared.refusal.SpillRefusal.TheVariants as unread
use Rattle.hx_outside.specs.Folders.{Folder}
use Rattle.hx_catalog.specs.Answers.{AreOthers, IsDamagedAt, IsExact, IsFromOutside, IsListDamage, IsNotOpened, IsOutside, IsPropertiesDamage, IsUnread, Opened, Opens, damaged_file}
use Rattle.hx_catalog.specs.Catalogues.{HasList, HasProperties, HasTexts}
use Rattle.hx_catalog.specs.Files.{list_file, properties_file}
use Rattle.hx_catalog.specs.Lines.{IsFirstBroken, text_of}
use Rattle.hx_catalog.specs.Lists.{AreListLines, IsList, list_lines, list_text}
use Rattle.hx_catalog.specs.Properties.{AreProperties, ArePropertyLines, properties_text, property_lines}
use Rattle.hx_catalog.specs.declared.properties.Properties.{Properties}
use Rattle.hx_catalog.proofs.Listed.{list-kind}
use Rattle.hx_catalog.proofs.Stages.{properties-kind}
use Rattle.hx_catalog.proofs.Texts.{none-broken, one-place, one-value}

-- where the line of the kind begins
pub kind-place : (of : Properties) → 28 + length of.settings.name ≡ length (text_of (take 2 (property_lines of)))
kind-place of = rw (length-append of.settings.name (10 ∷ [])) (omega arith)

-- a file that isn't read is refused for its damage, or for want of memory
pub file-refused : (side : ℕ) (job_file : JobFile) (IsDamage : ℕ → Type 0) (given : SpillRefusal) → IsUnread IsDamage given → IsDamagedAt side job_file IsDamage (damaged_file side job_file given) ⊎ IsOutside (damaged_file side job_file given)
file-refused side job_file IsDamage (unread.Damaged place) damage = inl (place, refl, damage)
file-refused side job_file IsDamage unread.Memory damage = inr (inr refl)

-- properties that aren't read
pub not-opened : (folder : Folder) (name : List ℕ) (side : ℕ) (given : SpillRefusal) → IsUnread (IsPropertiesDamage name (folder (properties_file name))) given
    → IsNotOpened folder name side (damaged_file side file.Properties given) ⊎ IsOutside (damaged_file side file.Properties given)
not-opened folder name side given unread =
    elim (file-refused side file.Properties (IsPropertiesDamage name (folder (properties_file name))) given unread) [ inl damaged ↦ inl (inr (inl damaged)) | inr outside ↦ inr outside ]

-- a list that isn't read, where the properties are
pub list-refused : (folder : Folder) (name : List ℕ) (side : ℕ) (given : Refusal) (properties : Properties) → HasProperties folder name properties
    → IsDamagedAt side file.List (IsListDamage (folder (list_file name))) given ⊎ IsOutside given → IsNotOpened folder name side given ⊎ IsOutside given
list-refused folder name side given properties has (inl damaged) = inl (inr (inr ((properties, has), damaged)))
list-refused folder name side given properties has (inr outside) = inr outside

-- the right answer is exact where there is one alone
pub exact-where-one : {T : Type 0} → (IsRight : Result T Refusal → Type 0) → ((a b : Result T Refusal) → IsRight a → IsRight b → a ≡ b)
    → (answer : Result T Refusal) → IsRight answer ⊎ IsFromOutside answer → IsExact IsRight answer
exact-where-one IsRight one answer only = record {
  only = only;
  always = λ right is. elim only [ inl mine ↦ inl (one answer right mine is) | inr outside ↦ inr outside ];
}

module _ (folder : Folder) (name : List ℕ) (side : ℕ) where
  one-text : (a b : List ℕ) (path : List ℕ) → folder path ≡ Some a → folder path ≡ Some b → a ≡ b
  one-text a b path is_a is_b = cc (is_a, is_b)

  one-properties : (a b : Properties) → HasProperties folder name a → HasProperties folder name b → a ≡ b
  one-properties a b has_a has_b = one-value AreProperties property_lines properties-kind a b has_a.valid has_b.valid (one-text _ _ (properties_file name) has_a.text has_b.text)

  one-list : (a b : List Pixel) → HasList folder name a → HasList folder name b → a ≡ b
  one-list a b has_a has_b = one-value IsList list_lines list-kind a b has_a.valid has_b.valid (one-text _ _ (list_file name) has_a.text has_b.text)

  -- properties that are read aren't damaged
  not-others : (of : Properties) (place : ℕ) → of.settings.name ≡ name → of.margin ≡ false → ¬ (AreOthers name of place)
  not-others of place named kind (inl other) = other.0 named
  not-others of place named kind (inr margin) = cc (kind, margin.1)

  read-sound : (of : Properties) (text : Option (List ℕ)) (place : ℕ) → AreProperties of → of.settings.name ≡ name → of.margin ≡ false → text ≡ Some (properties_text of) → ¬ (IsPropertiesDamage name text place)
  read-sound of None place valid named kind is damage = damage
  read-sound of (Some text) place valid named kind is (inl broken) =
      let same : text ≡ properties_text of = cc is in
      none-broken AreProperties property_lines properties-kind of place valid (subst (λ (t : List ℕ). IsFirstBroken ArePropertyLines t place) same broken)
  read-sound of (Some text) place valid named kind is (inr other) =
      let same : properties_text of ≡ properties_text other.0 = cc (is, other.2) in
      let one : of ≡ other.0 = one-value AreProperties property_lines properties-kind of other.0 valid other.1 same in
      not-others of place named kind (subst (λ (p : Properties). AreOthers name p place) (sym one) other.3)

  properties-sound : (of : Properties) (place : ℕ) → HasProperties folder name of → ¬ (IsPropertiesDamage name (folder (properties_file name)) place)
  properties-sound of place has = read-sound of (folder (properties_file name)) place has.valid has.named has.kind has.text

  list-read : (parts : List Pixel) (text : Option (List ℕ)) (place : ℕ) → IsList parts → text ≡ Some (list_text parts) → ¬ (IsListDamage text place)
  list-read parts None place valid is damage = cc is
  list-read parts (Some text) place valid is broken =
      let same : text ≡ list_text parts = cc is in
      none-broken IsList list_lines list-kind parts place valid (subst (λ (t : List ℕ). IsFirstBroken AreListLines t place) same broken)

  list-sound : (parts : List Pixel) (place : ℕ) → HasList folder name parts → ¬ (IsListDamage (folder (list_file name)) place)
  list-sound parts place has = list-read parts (folder (list_file name)) place has.valid has.text

  one-others : (of : Properties) (a b : ℕ) → AreOthers name of a → AreOthers name of b → a ≡ b
  one-others of a b (inl x) (inl y) = x.1 ∙ sym y.1
  one-others of a b (inl x) (inr y) = absurd (x.0 y.0)
  one-others of a b (inr x) (inl y) = absurd (y.0 x.0)
  one-others of a b (inr x) (inr y) = x.2 ∙ sym y.2

  one-properties-place : (text : Option (List ℕ)) (a b : ℕ) → IsPropertiesDamage name text a → IsPropertiesDamage name text b → a ≡ b
  one-properties-place None a b x y = absurd x
  one-properties-place (Some text) a b (inl x) (inl y) = one-place AreProperties property_lines properties-kind text a b x y
  one-properties-place (Some text) a b (inl x) (inr y) = absurd (none-broken AreProperties property_lines properties-kind y.0 a y.1 (subst (λ (t : List ℕ). IsFirstBroken ArePropertyLines t a) y.2 x))
  one-properties-place (Some text) a b (inr x) (inl y) = absurd (none-broken AreProperties property_lines properties-kind x.0 b x.1 (subst (λ (t : List ℕ). IsFirstBroken ArePropertyLines t b) x.2 y))
  one-properties-place (Some text) a b (inr x) (inr y) =
      let one : x.0 ≡ y.0 = one-value AreProperties property_lines properties-kind x.0 y.0 x.1 y.1 (sym x.2 ∙ y.2) in
      one-others y.0 a b (subst (λ (p : Properties). AreOthers name p a) one x.3) y.3

  one-list-place : (text : Option (List ℕ)) (a b : ℕ) → IsListDamage text a → IsListDamage text b → a ≡ b
  one-list-place None a b x y = x ∙ sym y
  one-list-place (Some text) a b x y = one-place IsList list_lines list-kind text a b x y

  absent-sound : (text : Option (List ℕ)) (place : ℕ) → text ≡ None → ¬ (IsPropertiesDamage name text place)
  absent-sound None place is damage = damage
  absent-sound (Some text) place is damage = cc is

  one-refusal : (a b : Refusal) → IsNotOpened folder name side a → IsNotOpened folder name side b → a ≡ b
  one-refusal a b (inl x) (inl y) = x.0 ∙ sym y.0
  one-refusal a b (inl x) (inr (inl y)) = absurd (absent-sound (folder (properties_file name)) y.0 x.1 y.2)
  one-refusal a b (inl x) (inr (inr y)) = cc (x.1, y.0.1.text)
  one-refusal a b (inr (inl x)) (inl y) = absurd (absent-sound (folder (properties_file name)) x.0 y.1 x.2)
  one-refusal a b (inr (inl x)) (inr (inl y)) = x.1 ∙ ap (refusal.Damaged side file.Properties) (one-properties-place (folder (properties_file name)) x.0 y.0 x.2 y.2) ∙ sym y.1
  one-refusal a b (inr (inl x)) (inr (inr y)) = absurd (properties-sound y.0.0 x.0 y.0.1 x.2)
  one-refusal a b (inr (inr x)) (inl y) = cc (y.1, x.0.1.text)
  one-refusal a b (inr (inr x)) (inr (inl y)) = absurd (properties-sound x.0.0 y.0 x.0.1 y.2)
  one-refusal a b (inr (inr x)) (inr (inr y)) = x.1.1 ∙ ap (refusal.Damaged side file.List) (one-list-place (folder (list_file name)) x.1.0 y.1.0 x.1.2 y.1.2) ∙ sym y.1.1

  opened-sound : (of : Properties) (parts : List Pixel) (given : Refusal) → HasTexts folder name of parts → ¬ (IsNotOpened folder name side given)
  opened-sound of parts given has (inl x) = cc (x.1, has.own.text)
  opened-sound of parts given has (inr (inl x)) = properties-sound of x.0 has.own x.2
  opened-sound of parts given has (inr (inr x)) = list-sound parts x.1.0 has.list x.1.2

  same-opened : (a b : Opened) → a.properties ≡ b.properties → a.parts ≡ b.parts → a.side ≡ b.side → a ≡ b
  same-opened a b p q r = λ k. record { properties = p k; parts = q k; side = r k }

  pub one-opening : (a b : Result Opened Refusal) → Opens folder name side a → Opens folder name side b → a ≡ b
  one-opening (Ok a) (Ok b) x y = ap Ok (same-opened a b (one-properties a.properties b.properties x.1.own y.1.own) (one-list a.parts b.parts x.1.list y.1.list) (x.0 ∙ sym y.0))
  one-opening (Ok a) (Err b) x y = absurd (opened-sound a.properties a.parts b x.1 y)
  one-opening (Err a) (Ok b) x y = absurd (opened-sound b.properties b.parts a y.1 x)
  one-opening (Err a) (Err b) x y = ap Err (one-refusal a b x y)
