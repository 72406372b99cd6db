-- What is read is spelled so.
use Rattle.std.proofs.Common.{◌≡◌, ℕ, zero, suc, ◌+◌, ◌*◌, ◌/◌, ◌%◌, ◌^◌, ◌<◌, ◌≤◌, ℤ, pos, ◌+ℤ◌, List, [], ◌∷◌, ◌++◌, length, take, Bool, true, false, cond, ltb, leb, eqb, ◌&&◌, Option, Some, None, Result, Ok, Err, refl, sym, ap, subst, ◌∙◌, append_assoc, arith, inl, inr, ◌⊎◌, length-append}
use Rattle.std.proofs.lemmas.Bool.{ltb-true, ltb-false, leb-true, eqb-true}
use Rattle.std.proofs.lemmas.Bool.Decides.{nat_tests}
use Rattle.std.proofs.lemmas.List.{take-append-drop, length-take}
use Rattle.std.specs.Prelude.{◌≢◌}
use Rattle.hx_thrift.specs.declared.header.Field.{Field}
use Rattle.hx_thrift.specs.declared.header.ListHead.{ListHead}
use Rattle.hx_thrift.specs.declared.refusal.ThriftRefusal.{ThriftRefusal}
use Rattle.hx_thrift.specs.declared.refusal.ThriftRefusal.TheVariants.{Short, BadType, TooDeep, Overlong}
use Rattle.hx_thrift.specs.Texts.{Text, Read, ◌>>=◌, read_as}
use Rattle.hx_thrift.specs.Kinds.{IsKind, is_kind, is_id, part_kind, max_size, zigzag, unzigzag, max_zigzag}
use Rattle.hx_thrift.specs.Values.{Leaf, number, binary, fixed, Entry, Node, leaf, elements, pairs, entries}
use Rattle.hx_thrift.specs.Reading.{byte_at, bytes_at, groups_at, varint_at, number_at, int_at, binary_at, own_id_at, id_at, field_at, size_at, list_at, elements_at, entries_behind, entries_at, struct_at, sequence_at, pair_at, pairs_at, map_at, leaf_at, container_at, value_at}
use Rattle.hx_thrift.specs.Spelling.{AreGroups, IsVarint, IsNumber, IsInt, IsBinary, IsLeaf, AreAll, IsHeader, AreEntries, IsListHead, IsSequence, IsPair, ArePairs, IsMap, IsNode, IsBare, Spells}
use Rattle.hx_thrift.proofs.Zigzags.{zigzag-unzigzag}

-- what was taken from the front of a text, with the text behind it
pub record Takes {A : Type 0} (spelled : List ℕ → A → Type 0) (text : Text) (y : A × Text) : Type 0 where
  pub front : List ℕ
  pub parts : text.bytes ≡ front ++ y.1.bytes
  pub place : y.1.at ≡ text.at + length front
  pub spelled_so : spelled front y.0

abbrev pub Sound : {A : Type 0} → (List ℕ → A → Type 0) → (Text → Read A) → Type 0
Sound {A = A} spelled read = (text : Text) (y : A × Text) → read text ≡ Ok y → Takes spelled text y

taken_as : {A B : Type 0} (P : List ℕ → A → Type 0) (R : List ℕ → B → Type 0) (text : Text) (x : A × Text) (z : B) → ((front : List ℕ) → P front x.0 → R front z) → Takes P text x → Takes R text (z, x.1)
taken_as P R text x z make taken = record { front = taken.front; parts = taken.parts; place = taken.place; spelled_so = make taken.front taken.spelled_so }

taken_both : {A B C : Type 0} (P : List ℕ → A → Type 0) (Q : List ℕ → B → Type 0) (R : List ℕ → C → Type 0) (text : Text) (x : A × Text) (y : B × Text) (z : C)
    → ((first second : List ℕ) → P first x.0 → Q second y.0 → R (first ++ second) z) → Takes P text x → Takes Q x.1 y → Takes R text (z, y.1)
taken_both P Q R text x y z make first second = record {
  front = first.front ++ second.front;
  parts = first.parts ∙ ap (λ (bytes : List ℕ). first.front ++ bytes) second.parts ∙ sym (append_assoc first.front second.front y.1.bytes);
  place = omega (arith, first.place, second.place, length-append first.front second.front);
  spelled_so = make first.front second.front first.spelled_so second.spelled_so;
}

taken_none : {A : Type 0} (P : List ℕ → A → Type 0) (text : Text) (x : A) → P [] x → Takes P text (x, text)
taken_none P text x spelled_so = record { front = []; parts = refl; place = omega arith; spelled_so = spelled_so }

-- ---- what the parts of a reading answered, where all of it was Ok

step : {A B : Type 0} (read : Result A ThriftRefusal) {next : A → Result B ThriftRefusal} {y : B} → (read >>= next) ≡ Ok y → (x : A) × (read ≡ Ok x) × (next x ≡ Ok y)
step (Ok x) e = (x, refl, e)
step (Err refusal) e = absurd cc

made : {A B : Type 0} (make : A → B) (read : Read A) {y : B × Text} → read_as make read ≡ Ok y → (x : A × Text) × (read ≡ Ok x) × ((make x.0, x.1) ≡ y)
made make (Ok x) e = (x, refl, cc)
made make (Err refusal) e = absurd cc

chosen : {A : Type 0} (b : Bool) {x y z : A} → cond b x y ≡ z → ((b ≡ true) × (x ≡ z)) ⊎ ((b ≡ false) × (y ≡ z))
chosen true e = inl (refl, e)
chosen false e = inr (refl, e)

accepted : {A : Type 0} (b : Bool) (refusal : ThriftRefusal) {x : Read A} {y : A × Text} → cond b x (Err refusal) ≡ Ok y → (b ≡ true) × (x ≡ Ok y)
accepted true refusal e = (refl, e)
accepted false refusal e = absurd cc

abbrev done : {A : Type 0} → A × Text → Read A
done y = Ok y

ok_is : {A : Type 0} {x y : A × Text} → done x ≡ done y → x ≡ y
ok_is e = cc

sound_as : {A B : Type 0} (P : List ℕ → A → Type 0) (R : List ℕ → B → Type 0) (make : A → B) (read : Read A) (text : Text) → ((x : A × Text) → read ≡ Ok x → Takes P text x)
    → ((front : List ℕ) (x : A) → P front x → R front (make x)) → (y : B × Text) → read_as make read ≡ Ok y → Takes R text y
sound_as {B = B} P R make read text sound weaker y e =
    let x = made make read e in
    subst (λ (y : B × Text). Takes R text y) x.2 (taken_as P R text x.0 (make x.0.0) (λ front. weaker front x.0.0) (sound x.0 x.1))

-- ---- bytes

abbrev IsByte : List ℕ → ℕ → Type 0
IsByte bytes byte = bytes ≡ byte ∷ []

byte_taken : (start at : ℕ) (bytes : List ℕ) (y : ℕ × Text) → byte_at start (record { at = at; bytes = bytes }) ≡ Ok y → Takes IsByte (record { at = at; bytes = bytes }) y
byte_taken start at [] y e = absurd cc
byte_taken start at (byte ∷ bytes) y e =
    subst (λ (y : ℕ × Text). Takes IsByte (record { at = at; bytes = byte ∷ bytes }) y) (ok_is e) (record { front = byte ∷ []; parts = refl; place = refl; spelled_so = refl })

sound_byte : (start : ℕ) → Sound IsByte (byte_at start)
sound_byte start text y e = byte_taken start text.at text.bytes y e

abbrev IsBytes : ℕ → List ℕ → List ℕ → Type 0
IsBytes len bytes body = (bytes ≡ body) × (length body ≡ len)

sound_bytes : (start len : ℕ) → Sound (IsBytes len) (bytes_at start len)
sound_bytes start len text y e =
    let a = accepted (leb len (length text.bytes)) (Short start) e in
    let long : len ≤ length text.bytes = leb-true len (length text.bytes) a.0 in
    let size : length (take len text.bytes) ≡ len = omega (arith, length-take len text.bytes) in
    subst (λ (y : List ℕ × Text). Takes (IsBytes len) text y) (ok_is a.1)
    (record { front = take len text.bytes; parts = sym (take-append-drop len text.bytes); place = ap (λ (k : ℕ). text.at + k) (sym size); spelled_so = (refl, size) })

-- ---- numbers

abbrev AtMostGroups : ℕ → List ℕ → ℕ → Type 0
AtMostGroups most bytes n = AreGroups bytes n × (length bytes ≤ most)

sound_groups : (start most : ℕ) → Sound (AtMostGroups most) (groups_at start most)
unfolding groups_at
sound_groups start zero text y e = absurd cc
sound_groups start (suc most) text y e =
    let low = step (byte_at start text) e in
    let byte = sound_byte start text low.0 low.1 in
    elim (chosen (ltb low.0.0 128) low.2) [
      | inl last ↦
          subst (λ (y : ℕ × Text). Takes (AtMostGroups (suc most)) text y) (ok_is last.1)
          (taken_as IsByte (AtMostGroups (suc most)) text low.0 low.0.0 (λ front same. rw same (inl (ltb-true _ _ last.0, refl, refl), omega arith)) byte)
      | inr more ↦
          let high = made (λ (high : ℕ). low.0.0 % 128 + 128 * high) (groups_at start most low.0.1) more.1 in
          subst (λ (y : ℕ × Text). Takes (AtMostGroups (suc most)) text y) high.2
          (taken_both IsByte (AtMostGroups most) (AtMostGroups (suc most)) text low.0 high.0 (low.0.0 % 128 + 128 * high.0.0)
          (λ first second same groups. rw same (inr (ltb-false _ _ more.0, (high.0.0, refl, groups.0)), omega (arith, groups.1))) byte (sound_groups start most low.0.1 high.0 high.1))
    ]

pub sound_varint : Sound IsVarint varint_at
unfolding varint_at
sound_varint text y e =
    let n = step (groups_at text.at 10 text) e in
    let a = accepted (ltb n.0.0 (2 ^ 64)) (Overlong text.at) n.2 in
    let fits : n.0.0 < 2 ^ 64 = ltb-true _ _ a.0 in
    subst (λ (y : ℕ × Text). Takes IsVarint text y) (ok_is a.1)
    (taken_as (AtMostGroups 10) IsVarint text n.0 n.0.0 (λ front groups. record { groups = groups.0; count = groups.1; fits = fits }) (sound_groups text.at 10 text n.0 n.1))

sound_number : (most : ℕ) → Sound (IsNumber most) (number_at most)
unfolding number_at
sound_number most text y e =
    let n = step (varint_at text) e in
    let a = accepted (leb n.0.0 most) (Overlong text.at) n.2 in
    let small : n.0.0 ≤ most = leb-true _ _ a.0 in
    subst (λ (y : ℕ × Text). Takes (IsNumber most) text y) (ok_is a.1)
    (taken_as IsVarint (IsNumber most) text n.0 n.0.0 (λ front varint. (varint, small)) (sound_varint text n.0 n.1))

sound_int : (kind : ℕ) → Sound (IsInt kind) (int_at kind)
unfolding int_at
sound_int kind text y e =
    sound_as (IsNumber (max_zigzag kind)) (IsInt kind) unzigzag (number_at (max_zigzag kind) text) text (sound_number (max_zigzag kind) text)
    (λ front n spelled. subst (λ (m : ℕ). IsNumber (max_zigzag kind) front m) (sym (zigzag-unzigzag n)) spelled) y e

sound_binary : Sound IsBinary binary_at
unfolding binary_at
sound_binary text y e =
    let len = step (number_at max_size text) e in
    taken_both (IsNumber max_size) (IsBytes len.0.0) IsBinary text len.0 y y.0
    (λ first second size same. (first, ap (λ (bytes : List ℕ). first ++ bytes) same.0, subst (λ (k : ℕ). IsNumber max_size first k) (sym same.1) size))
    (sound_number max_size text len.0 len.1) (sound_bytes text.at len.0.0 len.0.1 y len.2)

-- ---- headers

both_true : (a b : Bool) → (a && b) ≡ true → (a ≡ true) × (b ≡ true)
both_true true b e = (refl, e)
both_true false b e = absurd cc

pub kind_is : (kind : ℕ) → is_kind kind ≡ true → IsKind kind
kind_is kind e =
    let both = both_true (leb 1 kind) (leb kind 12) e in
    record { least = leb-true _ _ both.0; greatest = leb-true _ _ both.1 }

part_is_kind : (kind : ℕ) → IsKind kind → IsKind (part_kind kind)
part_is_kind kind is = elim (chosen (leb kind 2) {x = 3} {y = kind} refl) [
  | inl flag ↦ subst IsKind flag.1 (record { least = omega arith; greatest = omega arith })
  | inr other ↦ subst IsKind other.1 is
]

-- the id of a header: a step from the last one, or its own bytes
abbrev HasId : ℤ → ℕ → List ℕ → ℤ → Type 0
HasId last step bytes id = (is_id id ≡ true) × ((0 < step) × (id ≡ last +ℤ pos step) × (bytes ≡ []) ⊎ (step ≡ 0) × IsVarint bytes (zigzag id))

sound_own_id : (last : ℤ) → Sound (HasId last 0) own_id_at
unfolding own_id_at
sound_own_id last text y e =
    let n = step (varint_at text) e in
    let a = accepted (is_id (unzigzag n.0.0)) (Overlong text.at) n.2 in
    subst (λ (y : ℤ × Text). Takes (HasId last 0) text y) (ok_is a.1)
    (taken_as IsVarint (HasId last 0) text n.0 (unzigzag n.0.0) (λ front varint. (a.0, inr (refl, subst (λ (m : ℕ). IsVarint front m) (sym (zigzag-unzigzag n.0.0)) varint))) (sound_varint text n.0 n.1))

sound_id : (start : ℕ) (last : ℤ) (count : ℕ) → Sound (HasId last count) (id_at start last count)
unfolding id_at
sound_id start last count text y e = elim (chosen (eqb count 0) e) [
  | inl own ↦
      let none : count ≡ 0 = eqb-true _ _ own.0 in
      subst (λ (k : ℕ). Takes (HasId last k) text y) (sym none) (sound_own_id last text y own.1)
  | inr stepped ↦
      let some : 0 < count = grind (arith, nat_tests) in
      let a = accepted (is_id (last +ℤ pos count)) (Overlong start) stepped.1 in
      subst (λ (y : ℤ × Text). Takes (HasId last count) text y) (ok_is a.1) (taken_none (HasId last count) text (last +ℤ pos count) (a.0, inl (some, refl, refl)))
]

-- a field's header, or the stop
abbrev IsFieldOrStop : ℤ → List ℕ → Option Field → Type 0
IsFieldOrStop last bytes None = bytes ≡ 0 ∷ []
IsFieldOrStop last bytes (Some field) = IsHeader last bytes field

header_spelled : (last id : ℤ) (first : ℕ) (a b : List ℕ) → is_kind (first % 16) ≡ true → IsByte a first → HasId last (first / 16) b id → IsHeader last (a ++ b) (record { id = id; kind = first % 16 })
header_spelled last id first a b kind same (fits, inl h) = (kind_is _ kind, fits, inl (first / 16, h.0, h.1, rw (same, h.2) (ap (λ (byte : ℕ). byte ∷ []) (omega arith))))
header_spelled last id first a b kind same (fits, inr h) = (kind_is _ kind, fits, inr (b, rw same (ap (λ (byte : ℕ). byte ∷ b) (omega (arith, h.0))), h.1))

pub sound_field : (last : ℤ) → Sound (IsFieldOrStop last) (field_at last)
unfolding field_at
sound_field last text y e =
    let first = step (byte_at text.at text) e in
    let byte = sound_byte text.at text first.0 first.1 in
    elim (chosen (eqb first.0.0 0) first.2) [
      | inl stop ↦
          let zero_is : first.0.0 ≡ 0 = eqb-true _ _ stop.0 in
          subst (λ (y : Option Field × Text). Takes (IsFieldOrStop last) text y) (ok_is stop.1)
          (taken_as IsByte (IsFieldOrStop last) text first.0 None (λ front same. same ∙ ap (λ (byte : ℕ). byte ∷ []) zero_is) byte)
      | inr other ↦
          let kind = accepted (is_kind (first.0.0 % 16)) (BadType text.at) other.1 in
          let field : ℤ → Option Field = λ id. Some (record { id = id; kind = first.0.0 % 16 }) in
          let id = made field (id_at text.at last (first.0.0 / 16) first.0.1) kind.1 in
          subst (λ (y : Option Field × Text). Takes (IsFieldOrStop last) text y) id.2
          (taken_both IsByte (HasId last (first.0.0 / 16)) (IsFieldOrStop last) text first.0 id.0 (field id.0.0)
          (λ a b. header_spelled last id.0.0 first.0.0 a b kind.0) byte (sound_id text.at last (first.0.0 / 16) first.0.1 id.0 id.1))
    ]

abbrev HasSize : ℕ → List ℕ → ℕ → Type 0
HasSize short bytes size = (short ≡ 15) × IsNumber max_size bytes size ⊎ (short ≢ 15) × (size ≡ short) × (bytes ≡ [])

sound_size : (short : ℕ) → Sound (HasSize short) (size_at short)
sound_size short text y e = elim (chosen (eqb short 15) e) [
  | inl long ↦ taken_as (IsNumber max_size) (HasSize short) text y y.0 (λ front number. inl (eqb-true _ _ long.0, number)) (sound_number max_size text y long.1)
  | inr small ↦
      let other : short ≢ 15 = grind (arith, nat_tests) in
      subst (λ (y : ℕ × Text). Takes (HasSize short) text y) (ok_is small.1) (taken_none (HasSize short) text short (inr (other, refl, refl)))
]

list_spelled : (first size : ℕ) (a b : List ℕ) → is_kind (first % 16) ≡ true → IsByte a first → HasSize (first / 16) b size → IsListHead (a ++ b) (record { kind = first % 16; size = size })
list_spelled first size a b kind same (inl h) = (kind_is _ kind, inr (b, rw same (ap (λ (byte : ℕ). byte ∷ b) (omega (arith, h.0))), h.1))
list_spelled first size a b kind same (inr h) = (kind_is _ kind, inl ((λ (is : size ≡ 15). h.0 (sym h.1 ∙ is)), rw (same, h.2) (ap (λ (byte : ℕ). byte ∷ []) (omega (arith, h.1)))))

pub sound_list : Sound IsListHead list_at
unfolding list_at
sound_list text y e =
    let first = step (byte_at text.at text) e in
    let kind = accepted (is_kind (first.0.0 % 16)) (BadType text.at) first.2 in
    let head : ℕ → ListHead = λ size. record { kind = first.0.0 % 16; size = size } in
    let size = made head (size_at (first.0.0 / 16) first.0.1) kind.1 in
    subst (λ (y : ListHead × Text). Takes IsListHead text y) size.2
    (taken_both IsByte (HasSize (first.0.0 / 16)) IsListHead text first.0 size.0 (head size.0.0)
    (λ a b. list_spelled first.0.0 size.0.0 a b kind.0) (sound_byte text.at text first.0 first.1) (sound_size (first.0.0 / 16) first.0.1 size.0 size.1))

-- ---- what has parts: where the parts are spelled, it is

abbrev pub SoundParts : {A : Type 0} → (ℕ → List ℕ → A → Type 0) → (ℕ → Text → Read A) → Type 0
SoundParts spelled read = (kind : ℕ) → IsKind kind → Sound (spelled kind) (read kind)

abbrev AreSoMany : {A : Type 0} → (List ℕ → A → Type 0) → ℕ → List ℕ → List A → Type 0
AreSoMany spelled n bytes xs = AreAll spelled bytes xs × (length xs ≡ n)

sound_elements : {A : Type 0} (spelled : List ℕ → A → Type 0) (read : Text → Read A) (n : ℕ) → Sound spelled read → Sound (AreSoMany spelled n) (elements_at read n)
unfolding elements_at
sound_elements {A = A} spelled read zero sound text y e =
    subst (λ (y : List A × Text). Takes (AreSoMany spelled 0) text y) (ok_is e) (taken_none (AreSoMany spelled 0) text [] (refl, refl))
sound_elements {A = A} spelled read (suc n) sound text y e =
    let first = step (read text) e in
    let cons : List A → List A = λ others. first.0.0 ∷ others in
    let others = made cons (elements_at read n first.0.1) first.2 in
    subst (λ (y : List A × Text). Takes (AreSoMany spelled (suc n)) text y) others.2
    (taken_both spelled (AreSoMany spelled n) (AreSoMany spelled (suc n)) text first.0 others.0 (cons others.0.0)
    (λ a b one more. ((a, b, refl, one, more.0), ap suc more.1)) (sound text first.0 first.1) (sound_elements spelled read n sound first.0.1 others.0 others.1))

-- the value of a field, and the entries behind it
abbrev Follow : {A : Type 0} → (ℕ → List ℕ → A → Type 0) → Field → A → List ℕ → List (Entry A) → Type 0
Follow spelled field value bytes es = (body : List ℕ) × (rest : List ℕ) × (bytes ≡ body ++ rest) × spelled field.kind body value × AreEntries spelled field.id rest es

sound_behind : {A : Type 0} (spelled : ℕ → List ℕ → A → Type 0) (read : ℕ → Text → Read A) (n : ℕ) (last : ℤ) → SoundParts spelled read
    → ((id : ℤ) → Sound (AreEntries spelled id) (entries_at read n id))
    → (text : Text) (header : Option Field) (body : Text) → Takes (IsFieldOrStop last) text (header, body) → (y : List (Entry A) × Text)
    → entries_behind read (entries_at read n) header body ≡ Ok y → Takes (AreEntries spelled last) text y
sound_behind {A = A} spelled read n last sound more text None body header y e =
    subst (λ (y : List (Entry A) × Text). Takes (AreEntries spelled last) text y) (ok_is e)
    (taken_as (IsFieldOrStop last) (AreEntries spelled last) text (None, body) [] (λ front stop. stop) header)
sound_behind {A = A} spelled read n last sound more text (Some field) body header y e =
    let value = step (read field.kind body) e in
    let cons : List (Entry A) → List (Entry A) = λ others. record { id = field.id; kind = field.kind; value = value.0.0 } ∷ others in
    let others = made cons (entries_at read n field.id value.0.1) value.2 in
    let one = sound field.kind header.spelled_so.0 body value.0 value.1 in
    let rest = more field.id value.0.1 others.0 others.1 in
    let both = taken_both (spelled field.kind) (AreEntries spelled field.id) (Follow spelled field value.0.0) body value.0 others.0 others.0.0 (λ a b p q. (a, b, refl, p, q)) one rest in
    subst (λ (y : List (Entry A) × Text). Takes (AreEntries spelled last) text y) others.2
    (taken_both (IsFieldOrStop last) (Follow spelled field value.0.0) (AreEntries spelled last) text (Some field, body) others.0 (cons others.0.0)
    (λ a b p q. (a, q.0, q.1, ap (λ (bytes : List ℕ). a ++ bytes) q.2, p, q.3, q.4)) header both)

sound_entries : {A : Type 0} (spelled : ℕ → List ℕ → A → Type 0) (read : ℕ → Text → Read A) (n : ℕ) (last : ℤ) → SoundParts spelled read → Sound (AreEntries spelled last) (entries_at read n last)
unfolding entries_at
sound_entries spelled read zero last sound text y e = absurd cc
sound_entries spelled read (suc n) last sound text y e =
    let header = step (field_at last text) e in
    sound_behind spelled read n last sound (λ id. sound_entries spelled read n id sound) text header.0.0 header.0.1 (sound_field last text header.0 header.1) y header.2

pub sound_struct : {A : Type 0} (spelled : ℕ → List ℕ → A → Type 0) (read : ℕ → Text → Read A) → SoundParts spelled read → Sound (AreEntries spelled (pos 0)) (struct_at read)
unfolding struct_at
sound_struct spelled read sound text y e = sound_entries spelled read (length text.bytes) (pos 0) sound text y e

sound_sequence : {A : Type 0} (spelled : ℕ → List ℕ → A → Type 0) (read : ℕ → Text → Read A) → SoundParts spelled read → Sound (IsSequence spelled) (sequence_at read)
unfolding sequence_at
sound_sequence {A = A} spelled read sound text y e =
    let head = step (list_at text) e in
    let list = sound_list text head.0 head.1 in
    let part = part_kind head.0.0.kind in
    let with_kind : List A → ℕ × List A = λ xs. (head.0.0.kind, xs) in
    let xs = made with_kind (elements_at (read part) head.0.0.size head.0.1) head.2 in
    subst (λ (y : (ℕ × List A) × Text). Takes (IsSequence spelled) text y) xs.2
    (taken_both IsListHead (AreSoMany (spelled part) head.0.0.size) (IsSequence spelled) text head.0 xs.0 (with_kind xs.0.0)
    (λ a b p q. (a, b, refl, subst (λ (size : ℕ). IsListHead a (record { kind = head.0.0.kind; size = size })) (sym q.1) p, q.0))
    list (sound_elements (spelled part) (read part) head.0.0.size (sound part (part_is_kind head.0.0.kind list.spelled_so.0)) head.0.1 xs.0 xs.1))

sound_pair : {A : Type 0} (spelled : ℕ → List ℕ → A → Type 0) (read : ℕ → Text → Read A) (key value : ℕ) → IsKind key → IsKind value → SoundParts spelled read → Sound (IsPair spelled key value) (pair_at read key value)
unfolding pair_at
sound_pair {A = A} spelled read key value key_is value_is sound text y e =
    let k = step (read (part_kind key) text) e in
    let pair : A → A × A = λ v. (k.0.0, v) in
    let v = made pair (read (part_kind value) k.0.1) k.2 in
    subst (λ (y : (A × A) × Text). Takes (IsPair spelled key value) text y) v.2
    (taken_both (spelled (part_kind key)) (spelled (part_kind value)) (IsPair spelled key value) text k.0 v.0 (pair v.0.0) (λ a b p q. (a, b, refl, p, q))
    (sound (part_kind key) (part_is_kind key key_is) text k.0 k.1) (sound (part_kind value) (part_is_kind value value_is) k.0.1 v.0 v.1))

pairs_spelled : {A : Type 0} (spelled : ℕ → List ℕ → A → Type 0) (n kinds : ℕ) (a b : List ℕ) (xs : List (A × A)) → (n ≡ 0 → ⊥) → IsKind (kinds / 16) → IsKind (kinds % 16)
    → IsByte a kinds → AreSoMany (IsPair spelled (kinds / 16) (kinds % 16)) n b xs → ArePairs spelled (a ++ b) xs
pairs_spelled spelled n kinds a b [] some key value same all = absurd (some (sym all.1))
pairs_spelled spelled n kinds a b (x ∷ xs) some key value same all =
    (kinds / 16, kinds % 16, b, rw same (ap (λ (byte : ℕ). byte ∷ b) (omega arith)), key, value, all.0)

abbrev AreSoManyPairs : {A : Type 0} → (ℕ → List ℕ → A → Type 0) → ℕ → List ℕ → List (A × A) → Type 0
AreSoManyPairs spelled n bytes xs = ArePairs spelled bytes xs × (length xs ≡ n)

sound_pairs : {A : Type 0} (spelled : ℕ → List ℕ → A → Type 0) (read : ℕ → Text → Read A) (n : ℕ) → (n ≡ 0 → ⊥) → SoundParts spelled read → Sound (AreSoManyPairs spelled n) (pairs_at read n)
unfolding pairs_at
sound_pairs {A = A} spelled read n some sound text y e =
    let kinds = step (byte_at text.at text) e in
    let key = kinds.0.0 / 16 in
    let value = kinds.0.0 % 16 in
    let a = accepted (is_kind key && is_kind value) (BadType text.at) kinds.2 in
    let both = both_true (is_kind key) (is_kind value) a.0 in
    let key_is = kind_is key both.0 in
    let value_is = kind_is value both.1 in
    taken_both IsByte (AreSoMany (IsPair spelled key value) n) (AreSoManyPairs spelled n) text kinds.0 y y.0
    (λ one more same all. (pairs_spelled spelled n kinds.0.0 one more y.0 some key_is value_is same all, all.1))
    (sound_byte text.at text kinds.0 kinds.1) (sound_elements (IsPair spelled key value) (pair_at read key value) n (sound_pair spelled read key value key_is value_is sound) kinds.0.1 y a.1)

sound_map : {A : Type 0} (spelled : ℕ → List ℕ → A → Type 0) (read : ℕ → Text → Read A) → SoundParts spelled read → Sound (IsMap spelled) (map_at read)
unfolding map_at
sound_map {A = A} spelled read sound text y e =
    let size = step (number_at max_size text) e in
    let number = sound_number max_size text size.0 size.1 in
    elim (chosen (eqb size.0.0 0) size.2) [
      | inl none ↦
          let zero_is : size.0.0 ≡ 0 = eqb-true _ _ none.0 in
          subst (λ (y : List (A × A) × Text). Takes (IsMap spelled) text y) (ok_is none.1)
          (taken_both (IsNumber max_size) (ArePairs spelled) (IsMap spelled) text size.0 ([], size.0.1) []
          (λ a b p q. (a, b, refl, subst (λ (n : ℕ). IsNumber max_size a n) zero_is p, q)) number (taken_none (ArePairs spelled) size.0.1 [] refl))
      | inr more ↦
          let some : size.0.0 ≡ 0 → ⊥ = grind (arith, nat_tests) in
          taken_both (IsNumber max_size) (AreSoManyPairs spelled size.0.0) (IsMap spelled) text size.0 y y.0
          (λ a b p q. (a, b, refl, subst (λ (n : ℕ). IsNumber max_size a n) (sym q.1) p, q.0)) number (sound_pairs spelled read size.0.0 some sound size.0.1 y more.1)
    ]

-- ---- a value

sound_leaf : (kind : ℕ) → kind < 9 → Sound (IsLeaf kind) (leaf_at kind)
unfolding leaf_at
sound_leaf kind small text y e = elim (chosen (leb kind 2) e) [
  | inl flag ↦
      subst (λ (y : Leaf × Text). Takes (IsLeaf kind) text y) (ok_is flag.1) (taken_none (IsLeaf kind) text (fixed []) (refl, inl (leb-true _ _ flag.0, refl)))
  | inr e ↦ elim (chosen (eqb kind 3) e.1) [
    | inl byte ↦ sound_as (IsBytes 1) (IsLeaf kind) fixed (bytes_at text.at 1 text) text (sound_bytes text.at 1 text) (λ front body same. (same.0, inr (inl (eqb-true _ _ byte.0, same.1)))) y byte.1
    | inr e' ↦ elim (chosen (leb kind 6) e'.1) [
      | inl int ↦
          let least : 4 ≤ kind = grind (arith, nat_tests) in
          sound_as (IsInt kind) (IsLeaf kind) number (int_at kind text) text (sound_int kind text) (λ front z spelled. (least, leb-true _ _ int.0, spelled)) y int.1
      | inr e'' ↦ elim (chosen (eqb kind 7) e''.1) [
        | inl double ↦ sound_as (IsBytes 8) (IsLeaf kind) fixed (bytes_at text.at 8 text) text (sound_bytes text.at 8 text) (λ front body same. (same.0, inr (inr (eqb-true _ _ double.0, same.1)))) y double.1
        | inr other ↦
            let eight : kind ≡ 8 = grind (arith, nat_tests) in
            sound_as IsBinary (IsLeaf kind) binary (binary_at text) text (sound_binary text) (λ front body spelled. (eight, spelled)) y other.1
      ]
    ]
  ]
]

sound_container : {A : Type 0} (spelled : ℕ → List ℕ → A → Type 0) (read : ℕ → Text → Read A) (kind : ℕ) → IsKind kind → 9 ≤ kind → SoundParts spelled read → Sound (IsNode spelled kind) (container_at read kind)
unfolding container_at
sound_container {A = A} spelled read kind is great sound text y e = elim (chosen (eqb kind 12) e) [
  | inl struct ↦
      sound_as (AreEntries spelled (pos 0)) (IsNode spelled kind) entries (struct_at read text) text (sound_struct spelled read sound text) (λ front es spelled_so. (eqb-true _ _ struct.0, spelled_so)) y struct.1
  | inr e ↦ elim (chosen (eqb kind 11) e.1) [
    | inl map ↦ sound_as (IsMap spelled) (IsNode spelled kind) pairs (map_at read text) text (sound_map spelled read sound text) (λ front xs spelled_so. (eqb-true _ _ map.0, spelled_so)) y map.1
    | inr other ↦
        let nine_or_ten : (kind ≡ 9) ⊎ (kind ≡ 10) = grind (arith, nat_tests) in
        let both : ℕ × List A → Node A = λ x. elements x.0 x.1 in
        sound_as (IsSequence spelled) (IsNode spelled kind) both (sequence_at read text) text (sound_sequence spelled read sound text) (λ front x spelled_so. (nine_or_ten, spelled_so)) y other.1
  ]
]

pub sound_value : (levels kind : ℕ) → IsKind kind → Sound (Spells levels kind) (value_at levels kind)
unfolding value_at
sound_value zero kind is text y e =
    let bare = accepted (ltb kind 9) (TooDeep text.at) e in
    sound_as (IsLeaf kind) (IsBare kind) leaf (leaf_at kind text) text (sound_leaf kind (ltb-true _ _ bare.0) text) (λ front x spelled_so. spelled_so) y bare.1
sound_value (suc levels) kind is text y e = elim (chosen (ltb kind 9) e) [
  | inl bare ↦ sound_as (IsLeaf kind) (IsNode (Spells levels) kind) leaf (leaf_at kind text) text (sound_leaf kind (ltb-true _ _ bare.0) text) (λ front x spelled_so. spelled_so) y bare.1
  | inr container ↦ sound_container (Spells levels) (value_at levels) kind is (ltb-false _ _ container.0) (sound_value levels) text y container.1
]
