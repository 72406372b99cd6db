-- How many elements the lists have that are written.
use Rattle.std.proofs.Common.{◌≡◌, suc, ◌≤◌, List, [], ◌∷◌, length, map, refl, ap, arith}
use Rattle.hx_thrift.specs.Values.{entries, Value}
use Rattle.hx_pqmeta.specs.declared.chunk.Chunk.{Chunk}
use Rattle.hx_pqmeta.specs.Records.{LeafRecord, GroupRecord}
use Rattle.hx_pqmeta.specs.WrittenFields.{leaf_fields, chunks_fields, group_fields}

pub count_leaves : (leaves : List LeafRecord) → length (map entries (map (leaf_fields {A = Value 28}) leaves)) ≡ length leaves
count_leaves [] = refl
count_leaves (column ∷ leaves) = ap suc (count_leaves leaves)

pub count_groups : (leaves : List LeafRecord) (groups : List GroupRecord) → length (map entries (map (group_fields {A = Value 24} leaves) groups)) ≡ length groups
count_groups leaves [] = refl
count_groups leaves (group ∷ groups) = ap suc (count_groups leaves groups)

-- at most one for each leaf, and one for each where there are as many chunks
pub count_chunks : (A : Type 0) (leaves : List LeafRecord) (chunks : List Chunk) → length (map entries (chunks_fields {A = A} leaves chunks)) ≤ length leaves
count_chunks A [] chunks = omega arith
count_chunks A (column ∷ leaves) [] = omega arith
count_chunks A (column ∷ leaves) (chunk ∷ chunks) = omega (arith, count_chunks A leaves chunks)

pub count_all_chunks : (leaves : List LeafRecord) (chunks : List Chunk) → length chunks ≡ length leaves → length (map entries (chunks_fields {A = Value 24} leaves chunks)) ≡ length leaves
count_all_chunks [] chunks same = refl
count_all_chunks (column ∷ leaves) [] same = absurd (omega (arith, same))
count_all_chunks (column ∷ leaves) (chunk ∷ chunks) same = ap suc (count_all_chunks leaves chunks (omega (arith, same)))
