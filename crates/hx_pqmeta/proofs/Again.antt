-- A footer that is written is read again.
use Rattle.std.proofs.Common.{◌≡◌, ℕ, ◌+◌, ◌≤◌, ℤ, pos, negsuc, ◌≤ℤ◌, List, [], ◌∷◌, ◌++◌, length, map, Bool, true, false, Option, Some, None, Ok, Err, inl, inr, refl, sym, ap, subst, append_assoc, arith}
use Rattle.std.specs.Prelude.{◌⊎◌, IsSome}
use Rattle.std.specs.Int.{w32, to_le_bytes}
use Rattle.std.specs.List.{AllByRecursion, list_any}
use Rattle.std.proofs.lemmas.Bool.Decides.{nat_tests}
use Rattle.std.proofs.lemmas.List.{append-nil}
use Rattle.hx_thrift.specs.Texts.{Text, Read, read_as}
use Rattle.hx_thrift.specs.Values.{elements, Entry, Node, entries, Value}
use Rattle.hx_thrift.specs.Reading.{value_at, struct_at, container_at}
use Rattle.hx_thrift.specs.Spelling.{ReadsWhatIsSpelled}
use Rattle.hx_thrift.specs.Writing.{WritesValues}
use Rattle.hx_pqmeta.specs.declared.chunk.Chunk.{Chunk}
use Rattle.hx_pqmeta.specs.Refusals.{each}
use Rattle.hx_pqmeta.specs.Records.{LeafRecord, GroupRecord, FooterRecord}
use Rattle.hx_pqmeta.specs.Fields.{last, entries_in, structs_of, element_of, chunk_of, row_group_of, file_of}
use Rattle.hx_pqmeta.specs.Footers.{magic, leaf_of, group_of, footer_of, is_nested, are_counts, sound, footer_at, footer_in}
use Rattle.hx_pqmeta.specs.Enumerations.{int32_type, int64_type}
use Rattle.hx_pqmeta.specs.WrittenFields.{leaf_fields, chunk_fields, chunks_fields, group_fields, footer_fields, or_zero}
use Rattle.hx_pqmeta.specs.Writing.{footer_bytes, footer_tail, IsColumnLeaf, IsColumnChunk, IsColumnGroup, IsColumnFooter, ReadsFooters}
use Rattle.hx_pqmeta.proofs.Suiting.{footer_suits}
use Rattle.hx_pqmeta.proofs.Bounds.{footer_bound}
use Rattle.hx_pqmeta.proofs.Framing.{put_together}

some_or_zero : (n : Option ℤ) → IsSome n → Some (or_zero n) ≡ n
some_or_zero None some = absurd cc
some_or_zero (Some n) some = refl

leaf_again : (A : Type 0) (column : LeafRecord) → IsColumnLeaf column → leaf_of (element_of (leaf_fields {A = A} column)) ≡ Ok column
unfolding leaf_of last
leaf_again A column is =
    let kind : Some (or_zero column.kind) ≡ column.kind = by_kind column.kind is.kind in
    rw kind (ap (λ (children : Option ℤ). Ok (record { kind = column.kind; repetition = column.repetition; name = column.name; children = children })) (sym is.children))
  where
    by_kind : (kind : Option ℤ) → (kind ≡ Some int32_type) ⊎ (kind ≡ Some int64_type) → Some (or_zero kind) ≡ kind
    by_kind kind (inl one) = rw one refl
    by_kind kind (inr two) = rw two refl

leaves_again : (A : Type 0) (leaves : List LeafRecord) → AllByRecursion IsColumnLeaf leaves → each leaf_of (map element_of (map entries_in (map entries (map (leaf_fields {A = A}) leaves)))) ≡ Ok leaves
leaves_again A [] all = refl
leaves_again A (column ∷ leaves) all = rw (leaf_again A column all.0, leaves_again A leaves all.1) refl

chunk_again : (A : Type 0) (column : LeafRecord) (rows : ℤ) (chunk : Chunk) → IsColumnChunk rows chunk → chunk_of (chunk_fields {A = A} column chunk) ≡ chunk
unfolding last
chunk_again A column rows chunk is = parts chunk.has_path chunk.has_meta chunk.codec chunk.values chunk.plain_size chunk.stored_size chunk.data_page chunk.dictionary_page
    is.has_path is.has_meta is.codec (rw is.values refl) is.plain_size is.stored_size is.data_page is.dictionary_page
  where
    whole : Bool → Bool → (codec values plain_size stored_size data_page dictionary_page : Option ℤ) → Chunk
    whole has_path has_meta codec values plain_size stored_size data_page dictionary_page = record {
      has_path = has_path;
      has_meta = has_meta;
      codec = codec;
      values = values;
      plain_size = plain_size;
      stored_size = stored_size;
      data_page = data_page;
      dictionary_page = dictionary_page;
    }

    parts : (has_path has_meta : Bool) (codec values plain_size stored_size data_page dictionary_page : Option ℤ)
        → has_path ≡ false → has_meta ≡ true → IsSome codec → IsSome values → IsSome plain_size → IsSome stored_size → IsSome data_page → dictionary_page ≡ None
        → whole false true (Some (or_zero codec)) (Some (or_zero values)) (Some (or_zero plain_size)) (Some (or_zero stored_size)) (Some (or_zero data_page)) None ≡ whole has_path has_meta codec values plain_size stored_size data_page dictionary_page
    parts has_path has_meta codec values plain_size stored_size data_page dictionary_page a b c d e f g h =
        rw (a, b, some_or_zero codec c, some_or_zero values d, some_or_zero plain_size e, some_or_zero stored_size f, some_or_zero data_page g, h) refl

chunks_again : (A : Type 0) (rows : ℤ) (leaves : List LeafRecord) (chunks : List Chunk) → length chunks ≡ length leaves → AllByRecursion (IsColumnChunk rows) chunks → map chunk_of (chunks_fields {A = A} leaves chunks) ≡ chunks
chunks_again A rows [] [] same all = refl
chunks_again A rows [] (chunk ∷ chunks) same all = absurd (omega (arith, same))
chunks_again A rows (column ∷ leaves) [] same all = absurd (omega (arith, same))
chunks_again A rows (column ∷ leaves) (chunk ∷ chunks) same all = rw (chunk_again A column rows chunk all.0, chunks_again A rows leaves chunks (omega (arith, same)) all.1) refl

entries_again : {A : Type 0} (xs : List (List (Entry A))) → map entries_in (map entries xs) ≡ xs
entries_again [] = refl
entries_again (x ∷ xs) = ap (λ (ys : List _). x ∷ ys) (entries_again xs)

structs_again : {A : Type 0} (xs : List (List (Entry A))) → structs_of (elements 12 (map entries xs)) ≡ Some xs
structs_again [] = refl
structs_again (x ∷ xs) = ap (λ (ys : List _). Some (x ∷ ys)) (entries_again xs)

groups_again : (A : Type 0) (leaves : List LeafRecord) (groups : List GroupRecord) → AllByRecursion (IsColumnGroup leaves) groups
    → each group_of (map row_group_of (map (group_fields {A = A} leaves) groups)) ≡ Ok groups
unfolding last group_of
groups_again A leaves [] all = refl
groups_again A leaves (group ∷ groups) all =
    rw (structs_again (chunks_fields {A = A} leaves group.chunks), chunks_again A group.rows leaves group.chunks all.0.count all.0.chunks, groups_again A leaves groups all.1) refl

fields_again : (A : Type 0) (footer : FooterRecord) → IsColumnFooter footer → footer_of footer.start (file_of (footer_fields {A = A} footer)) ≡ Ok footer
unfolding footer_of last
fields_again A footer is =
    rw (leaves_again (Node (Node (Node (Node A)))) footer.leaves is.leaves, structs_again (map (group_fields {A = A} footer.leaves) footer.groups), groups_again A footer.leaves footer.groups is.groups) refl

flat : (leaves : List LeafRecord) → AllByRecursion IsColumnLeaf leaves → list_any is_nested leaves ≡ false
flat [] all = refl
flat (column ∷ leaves) all = rw (all.0.children, all.0.repetition, flat leaves all.1) refl

own_count : (n : ℕ) → are_counts (pos n) (pos n ∷ []) ≡ true
own_count n = grind (arith, nat_tests)

counted_right : (rows : ℤ) (groups : List GroupRecord) → pos 0 ≤ℤ rows → length groups ≤ 1 → (length groups ≡ 0 → rows ≡ pos 0) → AllByRecursion (λ (group : GroupRecord). group.rows ≡ rows) groups
    → are_counts rows (map (λ (group : GroupRecord). group.rows) groups) ≡ true
counted_right rows [] low one none all = rw (none refl) refl
counted_right (pos n) (group ∷ []) low one none all = subst (λ (k : ℤ). are_counts (pos n) (k ∷ []) ≡ true) (sym all.0) (own_count n)
counted_right (negsuc n) (group ∷ []) low one none all = absurd (omega (arith, low))
counted_right rows (group ∷ other ∷ groups) low one none all = absurd (omega (arith, one))

is_sound : (footer : FooterRecord) → IsColumnFooter footer → sound footer ≡ Ok footer
unfolding sound
is_sound footer is = rw (flat footer.leaves is.leaves, counted_right footer.rows footer.groups is.rows is.one is.none is.all) refl

-- ---- the whole

taken : {A : Type 0} → List (Entry A) × Text → Read (Node A) → List (Entry A) × Text
taken other (Ok x) = (entries_in x.0, x.1)
taken other (Err refusal) = other

entries_read : {A : Type 0} (read : Read (List (Entry A))) (es : List (Entry A)) (rest : Text) → read_as entries read ≡ Ok (entries es, rest) → read ≡ Ok (es, rest)
unfolding taken
entries_read {A = A} (Ok x) es rest e = ap (λ (y : List (Entry A) × Text). Ok y) (ap (taken (es, rest)) e)
entries_read (Err refusal) es rest e = absurd cc

pub struct_read : (text : Text) (es : List (Entry (Value 31))) (rest : Text) → value_at 32 12 text ≡ Ok (entries es, rest) → struct_at (value_at 31) text ≡ Ok (es, rest)
unfolding value_at container_at
struct_read text es rest e = entries_read (struct_at (value_at 31) text) es rest e

regrouped : (a b c d : List ℕ) → a ++ ((b ++ c) ++ d) ≡ ((a ++ b) ++ c) ++ d
regrouped a b c d = simp append_assoc

pub footer_again : WritesValues → ReadsWhatIsSpelled → ReadsFooters
unfolding footer_in footer_at
footer_again writes reads footer pages is fits at =
    let bytes = footer_bytes footer in
    let text : Text = record { at = footer.start; bytes = bytes } in
    let rest : Text = record { at = footer.start + length bytes; bytes = [] } in
    let fields = footer_fields {A = Value 24} footer in
    let found = put_together (magic ++ pages ++ footer_tail footer) text pages at (footer_bound footer is) (regrouped (magic ++ pages) bytes (to_le_bytes w32 (length bytes)) magic) in
    let value = (reads 32 12 text (entries fields) rest (record { least = omega arith; greatest = omega arith })).0
    (record { front = bytes; spelled = writes 32 12 (entries fields) (footer_suits footer is fits); parts = sym (append-nil bytes); place = refl }) in
    let struct = struct_read text fields rest value in
    rw (found, struct, fields_again (Value 24) footer is) (is_sound footer is)
