-- How long the bytes of a page's header and of a footer can be.
use Rattle.std.proofs.Common.{◌≡◌, ℕ, suc, ◌+◌, ◌*◌, ◌^◌, ◌<◌, ◌≤◌, ℤ, pos, List, [], ◌∷◌, ◌++◌, length, map, leb, inl, inr, refl, arith, length-append}
use Rattle.std.specs.Prelude.{◌&&◌, codes}
use Rattle.std.specs.List.{AllByRecursion}
use Rattle.std.proofs.lemmas.Bool.{cases_Bool}
use Rattle.hx_thrift.specs.Kinds.{zigzag}
use Rattle.hx_thrift.specs.Values.{number, binary, leaf, Entry, entries, Value}
use Rattle.hx_thrift.specs.Writing.{groups, varint, step, header, list_head, counted, written_all, written_entries, written}
use Rattle.hx_thrift.proofs.Written.{groups_count}
use Rattle.hx_pqmeta.specs.declared.chunk.Chunk.{Chunk}
use Rattle.hx_pqmeta.specs.declared.page.PageHead.{PageHead}
use Rattle.hx_pqmeta.specs.Enumerations.{rle_encoding}
use Rattle.hx_pqmeta.proofs.WrittenCounts.{count_leaves, count_chunks, count_groups}
use Rattle.hx_pqmeta.specs.Records.{LeafRecord, GroupRecord, FooterRecord}
use Rattle.hx_pqmeta.specs.WrittenFields.{data_page_fields, page_header_fields, leaf_fields, root_fields, meta_data_fields, chunk_fields, chunks_fields, group_fields, footer_fields, or_zero, total_size}
use Rattle.hx_pqmeta.specs.Writing.{data_page_bytes, page_header_bytes, root_bytes, leaf_bytes, meta_data_bytes, chunk_bytes, group_bytes, footer_bytes, IsColumnLeaf, IsColumnFooter}

varint_bound : (n : ℕ) → length (varint n) ≤ 10
varint_bound n = groups_count 9 n

header_bound : (last id : ℤ) (kind : ℕ) → length (header last id kind) ≤ 11
header_bound last id kind = elim (cases_Bool (leb 1 (step last id) && leb (step last id) 15)) [
  | inl short ↦ rw short (omega arith)
  | inr long ↦ rw long (omega (arith, varint_bound (zigzag id)))
]

list_bound : (kind size : ℕ) → length (list_head kind size) ≤ 11
list_bound kind size = elim (cases_Bool (leb size 14)) [
  | inl short ↦ rw short (omega arith)
  | inr long ↦ rw long (omega (arith, varint_bound size))
]

counted_bound : (bytes : List ℕ) → length (counted bytes) ≤ 10 + length bytes
counted_bound bytes = omega (arith, varint_bound (length bytes), length-append (varint (length bytes)) bytes)

all_bound : {A : Type 0} (write : A → List ℕ) (most : ℕ) (xs : List A) → AllByRecursion (λ x. length (write x) ≤ most) xs → length (written_all write xs) ≤ length xs * most
all_bound write most [] all = omega arith
all_bound write most (x ∷ xs) all =
    let others = all_bound write most xs all.1 in
    let one : length (write x) ≤ most = all.0 in
    let whole : length (written_all write (x ∷ xs)) ≡ length (write x) + length (written_all write xs) = length-append (write x) (written_all write xs) in
    let product : suc (length xs) * most ≡ most + length xs * most = grind arith in
    omega (arith, whole, one, others, product)

entries_bound : {A : Type 0} (write : A → List ℕ) (most : ℕ) (last : ℤ) (es : List (Entry A)) → AllByRecursion (λ (e : Entry A). length (write e.value) ≤ most) es
    → length (written_entries write last es) ≤ 1 + length es * (11 + most)
entries_bound write most last [] all = omega arith
entries_bound write most last (e ∷ es) all =
    let others = entries_bound write most e.id es all.1 in
    let one : length (write e.value) ≤ most = all.0 in
    let whole : length (written_entries write last (e ∷ es)) ≡ length (header last e.id e.kind) + (length (write e.value) + length (written_entries write e.id es)) =
    rw (length-append (header last e.id e.kind) (write e.value ++ written_entries write e.id es), length-append (write e.value) (written_entries write e.id es)) refl in
    let product : suc (length es) * (11 + most) ≡ 11 + most + length es * (11 + most) = grind arith in
    omega (arith, whole, one, others, product, header_bound last e.id e.kind)

number_bound : (most : ℕ) (n : ℤ) → 10 ≤ most → length (varint (zigzag n)) ≤ most
number_bound most n room = omega (arith, varint_bound (zigzag n), room)

pub page_header_bound : (head : PageHead) → length (page_header_bytes head) ≤ 385
page_header_bound head =
    let page : length (data_page_bytes head) ≤ 1 + 4 * (11 + 10) =
    entries_bound (written 30) 10 (pos 0) (data_page_fields head)
    (number_bound 10 head.values (omega arith), (number_bound 10 head.encoding (omega arith), (number_bound 10 (or_zero head.levels) (omega arith), (number_bound 10 rle_encoding (omega arith), tt)))) in
    entries_bound (written 31) 85 (pos 0) (page_header_fields head)
    (number_bound 85 head.kind (omega arith), (number_bound 85 head.plain_size (omega arith), (number_bound 85 head.stored_size (omega arith), (page, tt))))

leaf_bound : (l : LeafRecord) → IsColumnLeaf l → length (leaf_bytes l) ≤ 256
leaf_bound l is =
    let name : length (counted l.name) ≤ 74 = omega (arith, counted_bound l.name, is.name) in
    entries_bound (written 29) 74 (pos 0) (leaf_fields l) (number_bound 74 (or_zero l.kind) (omega arith), (number_bound 74 l.repetition (omega arith), (name, tt)))

root_bound : (count : ℤ) → length (root_bytes count) ≤ 256
root_bound count =
    let small : length (written_entries (written 29) (pos 0) (root_fields count)) ≤ 1 + 2 * (11 + 16) = entries_bound (written 29) 16 (pos 0) (root_fields count) (counted_bound (codes "schema"), (number_bound 16 count (omega arith), tt)) in
    omega (arith, small)

leaves_bound : (leaves : List LeafRecord) → AllByRecursion IsColumnLeaf leaves → AllByRecursion (λ x. length (written 30 x) ≤ 256) (map entries (map leaf_fields leaves))
leaves_bound [] all = tt
leaves_bound (l ∷ leaves) all = (leaf_bound l all.0, leaves_bound leaves all.1)

meta_data_bound : (l : LeafRecord) (chunk : Chunk) → IsColumnLeaf l → length (meta_data_bytes l chunk) ≤ 769
meta_data_bound l chunk is =
    let name : length (counted l.name) ≤ 74 = omega (arith, counted_bound l.name, is.name) in
    let path : length (written_all (written 25) (leaf (binary l.name) ∷ [])) ≤ 1 * 74 = all_bound (written 25) 74 (leaf (binary l.name) ∷ []) (name, tt) in
    let paths : length (list_head 8 1 ++ written_all (written 25) (leaf (binary l.name) ∷ [])) ≤ 85 = omega (arith, path, list_bound 8 1, length-append (list_head 8 1) (written_all (written 25) (leaf (binary l.name) ∷ []))) in
    let codes : length (written_all (written 25) (leaf (number (pos 0)) ∷ leaf (number (pos 3)) ∷ [])) ≤ 2 * 10 = all_bound (written 25) 10 (leaf (number (pos 0)) ∷ leaf (number (pos 3)) ∷ []) (varint_bound 0, (varint_bound 6, tt)) in
    let encodings : length (list_head 5 2 ++ written_all (written 25) (leaf (number (pos 0)) ∷ leaf (number (pos 3)) ∷ [])) ≤ 85 = omega (arith, codes, list_bound 5 2, length-append (list_head 5 2) (written_all (written 25) (leaf (number (pos 0)) ∷ leaf (number (pos 3)) ∷ []))) in
    entries_bound (written 26) 85 (pos 0) (meta_data_fields l chunk) (
      number_bound 85 (or_zero l.kind) (omega arith),
      (
        encodings,
        (
          paths,
          (
            number_bound 85 (or_zero chunk.codec) (omega arith),
            (
              number_bound 85 (or_zero chunk.values) (omega arith),
              (
                number_bound 85 (or_zero chunk.plain_size) (omega arith),
                (
                  number_bound 85 (or_zero chunk.stored_size) (omega arith),
                  (
                    number_bound 85 (or_zero chunk.data_page) (omega arith),
                    tt,
                  ),
                ),
              ),
            ),
          ),
        ),
      ),
    )

chunk_bound : (l : LeafRecord) (chunk : Chunk) → IsColumnLeaf l → length (chunk_bytes l chunk) ≤ 1561
chunk_bound l chunk is = entries_bound (written 27) 769 (pos 0) (chunk_fields l chunk) (number_bound 769 (or_zero chunk.data_page) (omega arith), (meta_data_bound l chunk is, tt))

chunks_bound : (leaves : List LeafRecord) (chunks : List Chunk) → AllByRecursion IsColumnLeaf leaves → AllByRecursion (λ x. length (written 28 x) ≤ 1561) (map entries (chunks_fields leaves chunks))
chunks_bound [] chunks all = tt
chunks_bound (l ∷ leaves) [] all = tt
chunks_bound (l ∷ leaves) (chunk ∷ chunks) all = (chunk_bound l chunk all.0, chunks_bound leaves chunks all.1)

group_bound : (leaves : List LeafRecord) (group : GroupRecord) → AllByRecursion IsColumnLeaf leaves → length leaves ≤ 64 → length (group_bytes leaves group) ≤ 300000
group_bound leaves group all few =
    let chunks = map entries (chunks_fields {A = Value 24} leaves group.chunks) in
    let count : length chunks ≤ 64 = omega (arith, count_chunks (Value 24) leaves group.chunks, few) in
    let parts : length (written_all (written 28) chunks) ≤ length chunks * 1561 = all_bound (written 28) 1561 chunks (chunks_bound leaves group.chunks all) in
    let list : length (list_head 12 (length chunks) ++ written_all (written 28) chunks) ≤ 99915 = omega (arith, parts, count, list_bound 12 (length chunks), length-append (list_head 12 (length chunks)) (written_all (written 28) chunks)) in
    let whole : length (group_bytes leaves group) ≤ 1 + 3 * (11 + 99915) =
    entries_bound (written 29) 99915 (pos 0) (group_fields leaves group) (list, (number_bound 99915 (pos (total_size group.chunks)) (omega arith), (number_bound 99915 group.rows (omega arith), tt))) in
    omega (arith, whole)

groups_bound : (leaves : List LeafRecord) (groups : List GroupRecord) → AllByRecursion IsColumnLeaf leaves → length leaves ≤ 64
    → AllByRecursion (λ x. length (written 30 x) ≤ 300000) (map entries (map (group_fields leaves) groups))
groups_bound leaves [] all few = tt
groups_bound leaves (group ∷ groups) all few = (group_bound leaves group all few, groups_bound leaves groups all few)

pub footer_bound : (footer : FooterRecord) → IsColumnFooter footer → length (footer_bytes footer) < 2 ^ 32
footer_bound footer is =
    let schema = map entries (root_fields {A = Value 28} (pos (length footer.leaves)) ∷ map leaf_fields footer.leaves) in
    let schema_count : length schema ≤ 65 = omega (arith, count_leaves footer.leaves, is.most) in
    let elements : length (written_all (written 30) schema) ≤ length schema * 256 = all_bound (written 30) 256 schema (root_bound (pos (length footer.leaves)), leaves_bound footer.leaves is.leaves) in
    let schema_list : length (list_head 12 (length schema) ++ written_all (written 30) schema) ≤ 300011 = omega (arith, elements, schema_count, list_bound 12 (length schema), length-append (list_head 12 (length schema)) (written_all (written 30) schema)) in
    let row_groups = map entries (map (group_fields {A = Value 24} footer.leaves) footer.groups) in
    let each = groups_bound footer.leaves footer.groups is.leaves is.most in
    let group_count : length row_groups ≤ 1 = omega (arith, count_groups footer.leaves footer.groups, is.one) in
    let parts : length (written_all (written 30) row_groups) ≤ length row_groups * 300000 = all_bound (written 30) 300000 row_groups each in
    let group_list : length (list_head 12 (length row_groups) ++ written_all (written 30) row_groups) ≤ 300011 = omega (arith, parts, group_count, list_bound 12 (length row_groups), length-append (list_head 12 (length row_groups)) (written_all (written 30) row_groups)) in
    let whole : length (footer_bytes footer) ≤ 1 + 5 * (11 + 300011) =
    entries_bound (written 31) 300011 (pos 0) (footer_fields footer) (number_bound 300011 (pos 1) (omega arith), (schema_list, (number_bound 300011 footer.rows (omega arith), (group_list, (omega (arith, counted_bound (codes "hats profile 1")), tt))))) in
    omega (arith, whole)
