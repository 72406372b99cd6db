-- What is written spells what it is written for.
use Rattle.std.proofs.Common.{◌≡◌, ℕ, zero, suc, ◌+◌, ◌*◌, ◌/◌, ◌%◌, ◌^◌, ◌<◌, ◌≤◌, ℤ, pos, negsuc, ◌+ℤ◌, List, [], ◌∷◌, length, true, leb, eqb, refl, sym, ap, inl, inr, arith}
use Rattle.std.specs.Prelude.{◌≢◌, ◌&&◌}
use Rattle.std.proofs.lemmas.Bool.{cases_lt, cases_Bool, lt-ltb, le-ltb}
use Rattle.std.proofs.lemmas.Bool.Decides.{nat_tests}
use Rattle.std.proofs.Math.Nat.{pow-suc, div-lt_iff_lt-mul}
use Rattle.hx_thrift.specs.declared.header.Field.{Field}
use Rattle.hx_thrift.specs.declared.header.ListHead.{ListHead}
use Rattle.hx_thrift.specs.Kinds.{IsKind, is_kind, is_id, part_kind, max_size, zigzag, max_zigzag}
use Rattle.hx_thrift.specs.Values.{Leaf, number, binary, fixed, Entry, leaf, elements, pairs, entries, Value}
use Rattle.hx_thrift.specs.Spelling.{AreGroups, IsVarint, IsHeader, IsListHead, IsBinary, IsLeaf, AreAll, AreEntries, Spells}
use Rattle.hx_thrift.specs.Writing.{groups, varint, step, header, list_head, counted, written_leaf, written_all, written_entries, written, SuitsLeaf, SuitAll, SuitEntries, Suits}

-- ---- numbers

groups_spelled : (most n : ℕ) → n < 128 ^ suc most → AreGroups (groups most n) n
unfolding groups
groups_spelled zero n fits =
    let same : n % 128 ≡ n = omega arith in
    inl (omega arith, sym same, refl)
groups_spelled (suc most) n fits = elim (cases_lt n 128) [
  | inl small ↦ rw (lt-ltb n 128 small) (inl (small, refl, refl))
  | inr great ↦
      let below : n < 128 ^ suc most * 128 = rw (pow-suc 128 (suc most)) at fits in
      let high : n / 128 < 128 ^ suc most = (div-lt_iff_lt-mul {k = 128} {x = n} {y = 128 ^ suc most} (omega arith)).1 below in
      rw (le-ltb n 128 great) (inr (omega arith, (n / 128, omega arith, groups_spelled most (n / 128) high)))
]

pub groups_count : (most n : ℕ) → length (groups most n) ≤ most + 1
unfolding groups
groups_count zero n = omega arith
groups_count (suc most) n = elim (cases_lt n 128) [
  | inl small ↦ rw (lt-ltb n 128 small) (omega arith)
  | inr great ↦ rw (le-ltb n 128 great) (omega (arith, groups_count most (n / 128)))
]

pub varint_spelled : (n : ℕ) → n < 2 ^ 64 → IsVarint (varint n) n
varint_spelled n fits = record { groups = groups_spelled 9 n (omega (arith, fits)); count = groups_count 9 n; fits = fits }

pub shortest : (most n : ℕ) (bytes : List ℕ) → AreGroups bytes n → length (groups most n) ≤ length bytes
unfolding groups
shortest most n [] are = absurd are
shortest zero n (byte ∷ bytes) are = omega arith
shortest (suc most) n (byte ∷ bytes) are = elim (cases_lt n 128) [
  | inl small ↦ rw (lt-ltb n 128 small) (omega arith)
  | inr great ↦ rw (le-ltb n 128 great) (elim are [
    | inl one ↦ absurd (omega (arith, one.0, one.1, great))
    | inr more ↦
        let high : n / 128 ≡ more.1.0 = omega (arith, more.1.1) in
        rw high (omega (arith, shortest most more.1.0 bytes more.1.2))
  ])
]

-- ---- headers

pub kind_is : (kind : ℕ) → is_kind kind ≡ true → IsKind kind
kind_is kind is = record { least = grind (arith, nat_tests); greatest = grind (arith, nat_tests) }

id_fits : (id : ℤ) → is_id id ≡ true → zigzag id < 2 ^ 64
id_fits (pos n) is =
    let small : n ≤ 32767 = grind (arith, nat_tests) in
    omega (arith, small)
id_fits (negsuc n) is = absurd cc

stepped : (last id : ℤ) → 1 ≤ step last id → id ≡ last +ℤ pos (step last id)
stepped (pos last) (pos id) some = ap (λ (n : ℕ). pos n) (omega arith)
stepped (pos last) (negsuc id) some = absurd (omega arith)
stepped (negsuc last) id some = absurd (omega arith)

pub header_spelled : (last : ℤ) (field : Field) → IsKind field.kind → is_id field.id ≡ true → IsHeader last (header last field.id field.kind) field
header_spelled last field is fits =
    let n = step last field.id in
    elim (cases_Bool (leb 1 n && leb n 15)) [
      | inl short ↦
          let some : 1 ≤ n = grind (arith, nat_tests) in
          rw short (is, fits, inl (n, some, stepped last field.id some, refl))
      | inr long ↦ rw long (is, fits, inr (varint (zigzag field.id), refl, varint_spelled (zigzag field.id) (id_fits field.id fits)))
    ]

pub list_spelled : (head : ListHead) → IsKind head.kind → head.size ≤ max_size → IsListHead (list_head head.kind head.size) head
list_spelled head is fits = elim (cases_Bool (leb head.size 14)) [
  | inl short ↦
      let small : head.size ≤ 14 = grind (arith, nat_tests) in
      let other : head.size ≢ 15 = omega arith in
      rw short (is, inl (other, refl))
  | inr long ↦ rw long (is, inr (varint head.size, refl, (varint_spelled head.size (omega (arith, fits)), fits)))
]

pub binary_spelled : (bytes : List ℕ) → length bytes ≤ max_size → IsBinary (counted bytes) bytes
binary_spelled bytes fits = (varint (length bytes), refl, (varint_spelled (length bytes) (omega (arith, fits)), fits))

-- ---- values

max_below : (kind : ℕ) → max_zigzag kind < 2 ^ 64
max_below kind = elim (cases_Bool (eqb kind 4)) [
  | inl i16 ↦ rw i16 (omega arith)
  | inr other ↦ elim (cases_Bool (eqb kind 5)) [
    | inl i32 ↦ rw (other, i32) (omega arith)
    | inr i64 ↦ rw (other, i64) (omega arith)
  ]
]

leaf_spelled : (kind : ℕ) (x : Leaf) → SuitsLeaf kind x → IsLeaf kind (written_leaf x) x
leaf_spelled kind (number z) suits = (suits.0, suits.1, (varint_spelled (zigzag z) (omega (arith, max_below kind, suits.2)), suits.2))
leaf_spelled kind (binary body) suits = (suits.0, binary_spelled body suits.1)
leaf_spelled kind (fixed body) suits = (refl, suits)

all_spelled : {A : Type 0} (spelled : List ℕ → A → Type 0) (write : A → List ℕ) (suits : A → Type 0) → ((x : A) → suits x → spelled (write x) x)
    → (xs : List A) → SuitAll suits xs → AreAll spelled (written_all write xs) xs
all_spelled spelled write suits each [] all = refl
all_spelled spelled write suits each (x ∷ xs) all = (write x, written_all write xs, refl, each x all.0, all_spelled spelled write suits each xs all.1)

entries_spelled : {A : Type 0} (spelled : ℕ → List ℕ → A → Type 0) (write : A → List ℕ) (suits : ℕ → A → Type 0) → ((kind : ℕ) (x : A) → suits kind x → spelled kind (write x) x)
    → (last : ℤ) (es : List (Entry A)) → SuitEntries suits es → AreEntries spelled last (written_entries write last es) es
entries_spelled spelled write suits each last [] all = refl
entries_spelled spelled write suits each last (e ∷ es) all = (
  header last e.id e.kind,
  write e.value,
  written_entries write e.id es,
  refl,
  header_spelled last (record { id = e.id; kind = e.kind }) (kind_is e.kind all.0) all.1,
  each e.kind e.value all.2,
  entries_spelled spelled write suits each e.id es all.3,
)

pub value_spelled : (levels kind : ℕ) (value : Value levels) → Suits levels kind value → Spells levels kind (written levels value) value
value_spelled zero kind (leaf x) suits = leaf_spelled kind x suits
value_spelled zero kind (elements part xs) suits = absurd suits
value_spelled zero kind (pairs xs) suits = absurd suits
value_spelled zero kind (entries es) suits = absurd suits
value_spelled (suc levels) kind (leaf x) suits = leaf_spelled kind x suits
value_spelled (suc levels) kind (elements part xs) suits = (
  inl suits.0,
  (
    list_head part (length xs),
    written_all (written levels) xs,
    refl,
    list_spelled (record { kind = part; size = length xs }) (kind_is part suits.1) suits.2,
    all_spelled (Spells levels (part_kind part)) (written levels) (Suits levels (part_kind part)) (value_spelled levels (part_kind part)) xs suits.3,
  ),
)
value_spelled (suc levels) kind (pairs xs) suits = absurd suits
value_spelled (suc levels) kind (entries es) suits = (suits.0, entries_spelled (Spells levels) (written levels) (Suits levels) (value_spelled levels) (pos 0) es suits.1)
