-- What is spelled so is read, whatever follows it.
use Rattle.std.proofs.Common.{◌≡◌, ℕ, zero, suc, ◌+◌, ◌*◌, ◌/◌, ◌%◌, ◌^◌, ◌<◌, ◌≤◌, ℤ, pos, ◌+ℤ◌, List, [], ◌∷◌, ◌++◌, length, true, false, cond, leb, eqb, Some, None, Ok, refl, append_assoc, arith, inl, inr, length-append}
use Rattle.std.proofs.lemmas.Bool.{lt-ltb, le-ltb, le-leb, lt-leb}
use Rattle.std.proofs.lemmas.Bool.Decides.{nat_tests}
use Rattle.std.proofs.lemmas.List.{take_at, drop_at}
use Rattle.std.specs.Prelude.{◌≢◌}
use Rattle.hx_thrift.specs.declared.header.Field.{Field}
use Rattle.hx_thrift.specs.declared.header.ListHead.{ListHead}
use Rattle.hx_thrift.specs.Texts.{Text, Read, ◌>>=◌, read_as}
use Rattle.hx_thrift.specs.Kinds.{IsKind, is_kind, is_id, part_kind, max_size, zigzag, max_zigzag}
use Rattle.hx_thrift.specs.Values.{Leaf, number, binary, fixed, Entry, leaf, elements, pairs, entries}
use Rattle.hx_thrift.specs.Reading.{bytes_at, groups_at, varint_at, number_at, int_at, binary_at, own_id_at, id_at, field_at, size_at, list_at, elements_at, entries_behind, entries_at, struct_at, sequence_at, pair_at, pairs_at, map_at, leaf_at, container_at, value_at}
use Rattle.hx_thrift.specs.Spelling.{AreGroups, IsVarint, IsNumber, IsInt, IsBinary, IsLeaf, AreAll, IsHeader, AreEntries, IsListHead, IsSequence, IsPair, ArePairs, IsMap, Spells}
use Rattle.hx_thrift.proofs.Zigzags.{unzigzag-zigzag}

abbrev pub text_at : ℕ → List ℕ → Text
text_at at bytes = record { at = at; bytes = bytes }

-- these bytes at the front of any text are read as the value
abbrev pub IsReadAs : {A : Type 0} → (Text → Read A) → List ℕ → A → Type 0
IsReadAs read front x = (at : ℕ) (more : List ℕ) → read (text_at at (front ++ more)) ≡ Ok (x, text_at (at + length front) more)

abbrev pub Complete : {A : Type 0} → (List ℕ → A → Type 0) → (Text → Read A) → Type 0
Complete {A = A} spelled read = (front : List ℕ) (x : A) → spelled front x → IsReadAs read front x

-- one after another
joined : {A B : Type 0} (read : Text → Read A) (next : A × Text → Read B) (first second : List ℕ) (x : A) (y : B) (at : ℕ) (more : List ℕ)
    → IsReadAs read first x → next (x, text_at (at + length first) (second ++ more)) ≡ Ok (y, text_at (at + length first + length second) more)
    → (read (text_at at ((first ++ second) ++ more)) >>= next) ≡ Ok (y, text_at (at + length (first ++ second)) more)
joined read next first second x y at more one other =
    let place : at + length first + length second ≡ at + length (first ++ second) = omega (arith, length-append first second) in
    rw (append_assoc first second more, one at (second ++ more), other, place) refl

-- ---- numbers

groups_read : (start most : ℕ) (front : List ℕ) (n : ℕ) → AreGroups front n → length front ≤ most → IsReadAs (groups_at start most) front n
unfolding groups_at
groups_read start most [] n groups count at more = absurd groups
groups_read start zero (byte ∷ bytes) n groups count at more = absurd (omega arith)
groups_read start (suc most) (byte ∷ bytes) n (inl last) count at more = rw (lt-ltb byte 128 last.0, last.1, last.2) refl
groups_read start (suc most) (byte ∷ bytes) n (inr high) count at more =
    let rest = groups_read start most bytes high.1.0 high.1.2 (omega arith) (at + 1) more in
    let place : at + 1 + length bytes ≡ at + suc (length bytes) = omega arith in
    rw (le-ltb byte 128 high.0, rest, high.1.1, place) refl

pub varint_read : Complete IsVarint varint_at
unfolding varint_at
varint_read front n is at more = rw (groups_read at 10 front n is.groups is.count at more, lt-ltb n (2 ^ 64) is.fits) refl

number_read : (most : ℕ) → Complete (IsNumber most) (number_at most)
unfolding number_at
number_read most front n is at more = rw (varint_read front n is.0 at more, le-leb n most is.1) refl

int_read : (kind : ℕ) → Complete (IsInt kind) (int_at kind)
unfolding int_at
int_read kind front z is at more = rw (number_read (max_zigzag kind) front (zigzag z) is at more, unzigzag-zigzag z) refl

bytes_read : (start len : ℕ) (body : List ℕ) → length body ≡ len → IsReadAs (bytes_at start len) body body
bytes_read start len body size at more =
    let long : leb len (length (body ++ more)) ≡ true = le-leb _ _ (omega (arith, length-append body more)) in
    rw (long, take_at body more len size, drop_at body more len size, size) refl

binary_read : Complete IsBinary binary_at
unfolding binary_at
binary_read front body is at more =
    rw is.1 (joined (number_at max_size) (λ len. bytes_at at len.0 len.1) is.0 body (length body) body at more
    (number_read max_size is.0 (length body) is.2) (bytes_read at (length body) body refl (at + length is.0) more))

-- ---- headers

kind_test : (kind : ℕ) → IsKind kind → is_kind kind ≡ true
kind_test kind is = rw (le-leb 1 kind is.least, le-leb kind 12 is.greatest) refl

stepped_id : (start : ℕ) (last id : ℤ) (step : ℕ) (text : Text) → 0 < step → id ≡ last +ℤ pos step → is_id id ≡ true → id_at start last step text ≡ Ok (id, text)
unfolding id_at
stepped_id start last id step text some is fits =
    let other : eqb step 0 ≡ false = grind (arith, nat_tests) in
    rw (other, ← is, fits) refl

own_id : (start : ℕ) (last id : ℤ) (own : List ℕ) → is_id id ≡ true → IsVarint own (zigzag id) → IsReadAs (id_at start last 0) own id
unfolding id_at own_id_at
own_id start last id own fits is at more = rw (varint_read own (zigzag id) is at more, unzigzag-zigzag id, fits) refl

header_read : (last : ℤ) (first at : ℕ) (field : Field) (tail : List ℕ) (rest : Text) → first % 16 ≡ field.kind → 0 < first → IsKind field.kind
    → id_at at last (first / 16) (text_at (at + 1) tail) ≡ Ok (field.id, rest) → field_at last (text_at at (first ∷ tail)) ≡ Ok (Some field, rest)
unfolding field_at
header_read last first at field tail rest kind some is id =
    let other : eqb first 0 ≡ false = grind (arith, nat_tests) in
    rw (other, kind, kind_test field.kind is, id) refl

field_read : (last : ℤ) (front : List ℕ) (field : Field) → IsHeader last front field → IsReadAs (field_at last) front (Some field)
field_read last front field (is, fits, inl h) at more =
    let least = is.least in
    let greatest = is.greatest in
    let kind : (h.0 * 16 + field.kind) % 16 ≡ field.kind = omega arith in
    let step : (h.0 * 16 + field.kind) / 16 ≡ h.0 = omega arith in
    rw h.3 (header_read last (h.0 * 16 + field.kind) at field more (text_at (at + 1) more) kind (omega arith) is (rw step (stepped_id at last field.id h.0 (text_at (at + 1) more) h.1 h.2 fits)))
field_read last front field (is, fits, inr h) at more =
    let least = is.least in
    let greatest = is.greatest in
    let kind : field.kind % 16 ≡ field.kind = omega arith in
    let step : field.kind / 16 ≡ 0 = omega arith in
    let place : at + 1 + length h.0 ≡ at + suc (length h.0) = omega arith in
    rw h.1 (header_read last field.kind at field (h.0 ++ more) (text_at (at + suc (length h.0)) more) kind (omega arith) is (rw (step, ← place) (own_id at last field.id h.0 fits h.2 (at + 1) more)))

stop_read : (last : ℤ) → IsReadAs (field_at last) (0 ∷ []) None
unfolding field_at
stop_read last at more = refl

short_size : (short : ℕ) (text : Text) → (short ≢ 15) → size_at short text ≡ Ok (short, text)
short_size short text other =
    let no : eqb short 15 ≡ false = grind (arith, nat_tests) in
    rw no refl

list_head_read : (first at : ℕ) (head : ListHead) (tail : List ℕ) (rest : Text) → first % 16 ≡ head.kind → IsKind head.kind
    → size_at (first / 16) (text_at (at + 1) tail) ≡ Ok (head.size, rest) → list_at (text_at at (first ∷ tail)) ≡ Ok (head, rest)
unfolding list_at
list_head_read first at head tail rest kind is size = rw (kind, kind_test head.kind is, size) refl

list_read : Complete IsListHead list_at
list_read front head (is, inl h) at more =
    let greatest = is.greatest in
    let kind : (head.size * 16 + head.kind) % 16 ≡ head.kind = omega arith in
    let short : (head.size * 16 + head.kind) / 16 ≡ head.size = omega arith in
    rw h.1 (list_head_read (head.size * 16 + head.kind) at head more (text_at (at + 1) more) kind is (rw short (short_size head.size (text_at (at + 1) more) h.0)))
list_read front head (is, inr h) at more =
    let greatest = is.greatest in
    let kind : (15 * 16 + head.kind) % 16 ≡ head.kind = omega arith in
    let long : (15 * 16 + head.kind) / 16 ≡ 15 = omega arith in
    let place : at + 1 + length h.0 ≡ at + suc (length h.0) = omega arith in
    rw h.1 (list_head_read (15 * 16 + head.kind) at head (h.0 ++ more) (text_at (at + suc (length h.0)) more) kind is (rw (long, ← place) (number_read max_size h.0 head.size h.2 (at + 1) more)))

-- ---- what has parts

abbrev pub CompleteParts : {A : Type 0} → (ℕ → List ℕ → A → Type 0) → (ℕ → Text → Read A) → Type 0
CompleteParts spelled read = (kind : ℕ) → Complete (spelled kind) (read kind)

elements_read : {A : Type 0} (spelled : List ℕ → A → Type 0) (read : Text → Read A) → Complete spelled read
    → (xs : List A) (front : List ℕ) → AreAll spelled front xs → IsReadAs (elements_at read (length xs)) front xs
unfolding elements_at
elements_read spelled read complete [] front all at more =
    let place : at + 0 ≡ at = omega arith in
    rw (all, place) refl
elements_read spelled read complete (x ∷ xs) front all at more =
    let others = elements_read spelled read complete xs all.1 all.4 (at + length all.0) more in
    rw all.2 (joined read (λ first. read_as (λ others. first.0 ∷ others) (elements_at read (length xs) first.1)) all.0 all.1 x (x ∷ xs) at more (complete all.0 x all.3) (rw others refl))

some_header : (last : ℤ) (front : List ℕ) (field : Field) → IsHeader last front field → 0 < length front
some_header last front field (is, fits, inl h) = rw h.3 (omega arith)
some_header last front field (is, fits, inr h) = rw h.1 (omega arith)

-- there are fewer entries than bytes
count_bound : {A : Type 0} (spelled : ℕ → List ℕ → A → Type 0) (last : ℤ) (es : List (Entry A)) (front : List ℕ) → AreEntries spelled last front es → length es < length front
count_bound spelled last [] front stop = rw stop (omega arith)
count_bound spelled last (e ∷ es) front all =
    let rest = count_bound spelled e.id es all.2 all.6 in
    let some = some_header last all.0 (record { id = e.id; kind = e.kind }) all.4 in
    rw all.3 (omega (arith, length-append all.0 (all.1 ++ all.2), length-append all.1 all.2))

entries_read : {A : Type 0} (spelled : ℕ → List ℕ → A → Type 0) (read : ℕ → Text → Read A) → CompleteParts spelled read
    → (n : ℕ) (last : ℤ) (es : List (Entry A)) (front : List ℕ) → AreEntries spelled last front es → length es < n → IsReadAs (entries_at read n last) front es
unfolding entries_at
entries_read spelled read complete zero last es front all count at more = absurd (omega arith)
entries_read spelled read complete (suc n) last [] front stop count at more = rw (stop, stop_read last at more) refl
entries_read {A = A} spelled read complete (suc n) last (e ∷ es) front all count at more =
    let field : Field = record { id = e.id; kind = e.kind } in
    let others = entries_read spelled read complete n e.id es all.2 all.6 (omega arith) (at + length all.0 + length all.1) more in
    let behind = joined (read e.kind) (λ value. read_as (λ others. record { id = e.id; kind = e.kind; value = value.0 } ∷ others) (entries_at read n e.id value.1)) all.1 all.2 e.value (e ∷ es) (at + length all.0) more
    (complete e.kind all.1 e.value all.5) (rw others refl) in
    let place : at + length all.0 + length (all.1 ++ all.2) ≡ at + length all.0 + length all.1 + length all.2 = omega (arith, length-append all.1 all.2) in
    rw all.3 (joined (field_at last) (λ header. entries_behind read (entries_at read n) header.0 header.1) all.0 (all.1 ++ all.2) (Some field) (e ∷ es) at more (field_read last all.0 field all.4) behind)

struct_read : {A : Type 0} (spelled : ℕ → List ℕ → A → Type 0) (read : ℕ → Text → Read A) → CompleteParts spelled read → Complete (AreEntries spelled (pos 0)) (struct_at read)
unfolding struct_at
struct_read spelled read complete front es all at more =
    entries_read spelled read complete (length (front ++ more)) (pos 0) es front all (omega (arith, count_bound spelled (pos 0) es front all, length-append front more)) at more

sequence_read : {A : Type 0} (spelled : ℕ → List ℕ → A → Type 0) (read : ℕ → Text → Read A) → CompleteParts spelled read → Complete (IsSequence spelled) (sequence_at read)
unfolding sequence_at
sequence_read spelled read complete front x all at more =
    let head : ListHead = record { kind = x.0; size = length x.1 } in
    let part = part_kind x.0 in
    let parts = elements_read (spelled part) (read part) (complete part) x.1 all.1 all.4 (at + length all.0) more in
    rw all.2 (joined list_at (λ head. read_as (λ xs. (head.0.kind, xs)) (elements_at (read (part_kind head.0.kind)) head.0.size head.1)) all.0 all.1 head x at more (list_read all.0 head all.3) (rw parts refl))

pair_read : {A : Type 0} (spelled : ℕ → List ℕ → A → Type 0) (read : ℕ → Text → Read A) (key value : ℕ) → CompleteParts spelled read → Complete (IsPair spelled key value) (pair_at read key value)
unfolding pair_at
pair_read spelled read key value complete front x all at more =
    let second = complete (part_kind value) all.1 x.1 all.4 (at + length all.0) more in
    rw all.2 (joined (read (part_kind key)) (λ k. read_as (λ v. (k.0, v)) (read (part_kind value) k.1)) all.0 all.1 x.0 x at more (complete (part_kind key) all.0 x.0 all.3) (rw second refl))

pairs_read : {A : Type 0} (spelled : ℕ → List ℕ → A → Type 0) (read : ℕ → Text → Read A) → CompleteParts spelled read
    → (x : A × A) (xs : List (A × A)) (front : List ℕ) → ArePairs spelled front (x ∷ xs) → IsReadAs (pairs_at read (suc (length xs))) front (x ∷ xs)
unfolding pairs_at
pairs_read spelled read complete x xs front all at more =
    let key = all.0 in
    let value = all.1 in
    let least = all.5.least in
    let greatest = all.5.greatest in
    let upper : (key * 16 + value) / 16 ≡ key = omega arith in
    let lower : (key * 16 + value) % 16 ≡ value = omega arith in
    let parts = elements_read (IsPair spelled key value) (pair_at read key value) (pair_read spelled read key value complete) (x ∷ xs) all.2 all.6 (at + 1) more in
    let place : at + 1 + length all.2 ≡ at + suc (length all.2) = omega arith in
    rw (all.3, upper, lower, kind_test key all.4, kind_test value all.5, parts, place) refl

map_read : {A : Type 0} (spelled : ℕ → List ℕ → A → Type 0) (read : ℕ → Text → Read A) → CompleteParts spelled read → Complete (IsMap spelled) (map_at read)
unfolding map_at
map_read {A = A} spelled read complete front [] all at more =
    let pairs_or_none = λ (size : ℕ × Text). cond (eqb size.0 0) (Ok ([], size.1)) (pairs_at read size.0 size.1) in
    let place : at + length all.0 + 0 ≡ at + length all.0 = omega arith in
    rw (all.2, all.4) (joined (number_at max_size) pairs_or_none all.0 [] 0 [] at more (number_read max_size all.0 0 all.3) (rw place refl))
map_read spelled read complete front (x ∷ xs) all at more =
    let some : eqb (suc (length xs)) 0 ≡ false = grind (arith, nat_tests) in
    let pairs_or_none = λ (size : ℕ × Text). cond (eqb size.0 0) (Ok ([], size.1)) (pairs_at read size.0 size.1) in
    let parts = pairs_read spelled read complete x xs all.1 all.4 (at + length all.0) more in
    rw all.2 (joined (number_at max_size) pairs_or_none all.0 all.1 (suc (length xs)) (x ∷ xs) at more (number_read max_size all.0 (suc (length xs)) all.3) (rw some parts))

-- ---- a value

leaf_read : (kind : ℕ) → Complete (IsLeaf kind) (leaf_at kind)
unfolding leaf_at
leaf_read kind front (number z) is at more =
    let low : leb kind 2 ≡ false = lt-leb _ _ (omega (arith, is.0)) in
    let other : eqb kind 3 ≡ false = grind (arith, nat_tests, is.0) in
    rw (low, other, le-leb kind 6 is.1, int_read kind front z is.2 at more) refl
leaf_read kind front (binary body) is at more = rw (is.0, binary_read front body is.1 at more) refl
leaf_read kind front (fixed []) (same, inl flag) at more =
    let place : at + 0 ≡ at = omega arith in
    rw (le-leb kind 2 flag.0, same, place) refl
leaf_read kind front (fixed (byte ∷ body)) (same, inl flag) at more = absurd (omega (arith, flag.1))
leaf_read kind front (fixed body) (same, inr (inl byte)) at more = rw (byte.0, same, bytes_read at 1 body byte.1 at more) refl
leaf_read kind front (fixed body) (same, inr (inr double)) at more = rw (double.0, same, bytes_read at 8 body double.1 at more) refl

leaf_kind : (kind : ℕ) (front : List ℕ) (x : Leaf) → IsLeaf kind front x → kind < 9
leaf_kind kind front (number z) is = omega (arith, is.1)
leaf_kind kind front (binary body) is = omega (arith, is.0)
leaf_kind kind front (fixed body) (same, inl flag) = omega (arith, flag.0)
leaf_kind kind front (fixed body) (same, inr (inl byte)) = omega (arith, byte.0)
leaf_kind kind front (fixed body) (same, inr (inr double)) = omega (arith, double.0)

pub value_read : (levels kind : ℕ) → Complete (Spells levels kind) (value_at levels kind)
unfolding value_at container_at
value_read zero kind front (leaf x) is at more = rw (lt-ltb kind 9 (leaf_kind kind front x is), leaf_read kind front x is at more) refl
value_read zero kind front (elements part xs) is at more = absurd is
value_read zero kind front (pairs xs) is at more = absurd is
value_read zero kind front (entries es) is at more = absurd is
value_read (suc levels) kind front (leaf x) is at more = rw (lt-ltb kind 9 (leaf_kind kind front x is), leaf_read kind front x is at more) refl
value_read (suc levels) kind front (elements part xs) (inl nine, is) at more = rw (nine, sequence_read (Spells levels) (value_at levels) (value_read levels) front (part, xs) is at more) refl
value_read (suc levels) kind front (elements part xs) (inr ten, is) at more = rw (ten, sequence_read (Spells levels) (value_at levels) (value_read levels) front (part, xs) is at more) refl
value_read (suc levels) kind front (pairs xs) is at more = rw (is.0, map_read (Spells levels) (value_at levels) (value_read levels) front xs is.1 at more) refl
value_read (suc levels) kind front (entries es) is at more = rw (is.0, struct_read (Spells levels) (value_at levels) (value_read levels) front es is.1 at more) refl
