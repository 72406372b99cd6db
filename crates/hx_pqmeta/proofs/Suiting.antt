-- What is written for a page's header and for a footer is within the ranges of its kinds.
use Rattle.std.proofs.Common.{◌≡◌, ℕ, suc, ◌-◌, ◌^◌, ◌<◌, ◌≤◌, ℤ, pos, negsuc, List, [], ◌∷◌, length, map, Option, Some, inl, inr, refl, arith}
use Rattle.std.specs.Prelude.{◌⊎◌, FitsSigned}
use Rattle.std.specs.List.{AllByRecursion}
use Rattle.std.specs.Int.{w32, w64}
use Rattle.hx_thrift.specs.Kinds.{zigzag}
use Rattle.hx_thrift.specs.Values.{number, entries, Value}
use Rattle.hx_thrift.specs.Writing.{SuitsLeaf, SuitAll, Suits}
use Rattle.hx_pqmeta.specs.declared.chunk.Chunk.{Chunk}
use Rattle.hx_pqmeta.specs.declared.page.PageHead.{PageHead}
use Rattle.hx_pqmeta.specs.Enumerations.{int32_type, int64_type}
use Rattle.hx_pqmeta.specs.Records.{LeafRecord, GroupRecord, FooterRecord}
use Rattle.hx_pqmeta.specs.WrittenFields.{or_zero, page_header_fields, leaf_fields, root_fields, meta_data_fields, chunks_fields, total_size, group_fields, footer_fields}
use Rattle.hx_pqmeta.specs.Writing.{IsDataPage, IsColumnLeaf, IsColumnGroup, IsColumnFooter, ChunkFits, FooterFits}
use Rattle.hx_pqmeta.proofs.WrittenCounts.{count_leaves, count_chunks, count_groups}

zigzag32 : (n : ℤ) → FitsSigned w32 n → zigzag n ≤ 2 ^ 32 - 1
zigzag32 (pos n) fits = omega (arith, fits)
zigzag32 (negsuc n) fits = omega (arith, fits)

zigzag64 : (n : ℤ) → FitsSigned w64 n → zigzag n ≤ 2 ^ 64 - 1
zigzag64 (pos n) fits = omega (arith, fits)
zigzag64 (negsuc n) fits = omega (arith, fits)

pub int32_suits : (n : ℤ) → FitsSigned w32 n → SuitsLeaf 5 (number n)
int32_suits n fits = (omega arith, omega arith, zigzag32 n fits)

pub int64_suits : (n : ℤ) → FitsSigned w64 n → SuitsLeaf 6 (number n)
int64_suits n fits = (omega arith, omega arith, zigzag64 n fits)

pub page_header_suits : (head : PageHead) → IsDataPage head → Suits 32 12 (entries (page_header_fields head))
page_header_suits head is =
    let kind : FitsSigned w32 head.kind = rw is.kind (omega arith) in
    let repetition : FitsSigned w32 (pos 3) = omega arith in (
      refl,
      (
        refl,
        refl,
        int32_suits head.kind kind,
        (
          refl,
          refl,
          int32_suits head.plain_size is.plain_size,
          (
            refl,
            refl,
            int32_suits head.stored_size is.stored_size,
            (
              refl,
              refl,
              (
                refl,
                (
                  refl,
                  refl,
                  int32_suits head.values is.values,
                  (
                    refl,
                    refl,
                    int32_suits head.encoding is.encoding,
                    (
                      refl,
                      refl,
                      int32_suits _ is.level_fits,
                      (
                        refl,
                        refl,
                        int32_suits (pos 3) repetition,
                        tt,
                      ),
                    ),
                  ),
                ),
              ),
              tt,
            ),
          ),
        ),
      ),
    )

-- ---- the footer

small : (n : ℕ) → n < 2 ^ 31 → FitsSigned w32 (pos n)
small n fits = omega (arith, fits)

kind_fits : (column : LeafRecord) → IsColumnLeaf column → FitsSigned w32 (or_zero column.kind)
kind_fits column is = by_kind column.kind is.kind where
  by_kind : (kind : Option ℤ) → (kind ≡ Some int32_type) ⊎ (kind ≡ Some int64_type) → FitsSigned w32 (or_zero kind)
  by_kind kind (inl one) = rw one (small 1 (omega arith))
  by_kind kind (inr two) = rw two (small 2 (omega arith))

leaf_suits : (column : LeafRecord) → IsColumnLeaf column → Suits 30 12 (entries (leaf_fields column))
leaf_suits column is =
    let repetition : FitsSigned w32 column.repetition = rw is.repetition (small 0 (omega arith)) in
    (refl, (refl, refl, int32_suits (or_zero column.kind) (kind_fits column is), (refl, refl, int32_suits column.repetition repetition, (refl, refl, (refl, omega (arith, is.name)), tt))))

leaves_suit : (leaves : List LeafRecord) → AllByRecursion IsColumnLeaf leaves → SuitAll (Suits 30 12) (map entries (map leaf_fields leaves))
leaves_suit [] all = tt
leaves_suit (column ∷ leaves) all = (leaf_suits column all.0, leaves_suit leaves all.1)

root_suits : (count : ℕ) → count ≤ 64 → Suits 30 12 (entries (root_fields (pos count)))
root_suits count few = (refl, (refl, refl, (refl, omega arith), (refl, refl, int32_suits (pos count) (small count (omega (arith, few))), tt)))

meta_data_suits : (column : LeafRecord) (chunk : Chunk) → IsColumnLeaf column → ChunkFits chunk → Suits 27 12 (entries (meta_data_fields column chunk))
meta_data_suits column chunk is fits = (
  refl,
  (
    refl,
    refl,
    int32_suits (or_zero column.kind) (kind_fits column is),
    (
      refl,
      refl,
      (refl, refl, omega arith, (int32_suits (pos 0) (small 0 (omega arith)), (int32_suits (pos 3) (small 3 (omega arith)), tt))),
      (
        refl,
        refl,
        (refl, refl, omega arith, ((refl, omega (arith, is.name)), tt)),
        (
          refl,
          refl,
          int32_suits (or_zero chunk.codec) fits.codec,
          (
            refl,
            refl,
            int64_suits (or_zero chunk.values) fits.values,
            (
              refl,
              refl,
              int64_suits (or_zero chunk.plain_size) fits.plain_size,
              (
                refl,
                refl,
                int64_suits (or_zero chunk.stored_size) fits.stored_size,
                (
                  refl,
                  refl,
                  int64_suits (or_zero chunk.data_page) fits.data_page,
                  tt,
                ),
              ),
            ),
          ),
        ),
      ),
    ),
  ),
)

chunks_suit : (leaves : List LeafRecord) (chunks : List Chunk) → AllByRecursion IsColumnLeaf leaves → AllByRecursion ChunkFits chunks → SuitAll (Suits 28 12) (map entries (chunks_fields leaves chunks))
chunks_suit [] chunks all fit = tt
chunks_suit (column ∷ leaves) [] all fit = tt
chunks_suit (column ∷ leaves) (chunk ∷ chunks) all fit = (
  (refl, (refl, refl, int64_suits (or_zero chunk.data_page) fit.0.data_page, (refl, refl, meta_data_suits column chunk all.0 fit.0, tt))),
  chunks_suit leaves chunks all.1 fit.1,
)

group_suits : (leaves : List LeafRecord) (group : GroupRecord) → AllByRecursion IsColumnLeaf leaves → length leaves ≤ 64 → IsColumnGroup leaves group → AllByRecursion ChunkFits group.chunks → FitsSigned w64 group.rows
    → Suits 30 12 (entries (group_fields leaves group))
group_suits leaves group all few is fit rows =
    let count : length (map entries (chunks_fields {A = Value 24} leaves group.chunks)) ≤ 2 ^ 31 - 1 = omega (arith, count_chunks (Value 24) leaves group.chunks, few) in
    let size : FitsSigned w64 (pos (total_size group.chunks)) = omega (arith, is.size) in
    (refl, (refl, refl, (refl, refl, count, chunks_suit leaves group.chunks all fit), (refl, refl, int64_suits (pos (total_size group.chunks)) size, (refl, refl, int64_suits group.rows rows, tt))))

groups_suit : (leaves : List LeafRecord) (rows : ℤ) (groups : List GroupRecord) → AllByRecursion IsColumnLeaf leaves → length leaves ≤ 64 → AllByRecursion (IsColumnGroup leaves) groups → AllByRecursion (λ (group : GroupRecord). group.rows ≡ rows) groups
    → FitsSigned w64 rows → AllByRecursion (λ (group : GroupRecord). AllByRecursion ChunkFits group.chunks) groups → SuitAll (Suits 30 12) (map entries (map (group_fields leaves) groups))
groups_suit leaves rows [] all few are same fits fit = tt
groups_suit leaves rows (group ∷ groups) all few are same fits fit =
    (group_suits leaves group all few are.0 fit.0 (rw same.0 fits), groups_suit leaves rows groups all few are.1 same.1 fits fit.1)

pub footer_suits : (footer : FooterRecord) → IsColumnFooter footer → FooterFits footer → Suits 32 12 (entries (footer_fields footer))
footer_suits footer is fits =
    let schema_count : suc (length (map entries (map (leaf_fields {A = Value 28}) footer.leaves))) ≤ 2 ^ 31 - 1 = omega (arith, count_leaves footer.leaves, is.most) in
    let group_count : length (map entries (map (group_fields {A = Value 24} footer.leaves) footer.groups)) ≤ 2 ^ 31 - 1 = omega (arith, count_groups footer.leaves footer.groups, is.one) in
    let row_groups = groups_suit footer.leaves footer.rows footer.groups is.leaves is.most is.groups is.all fits.rows fits.chunks in (
      refl,
      (
        refl,
        refl,
        int32_suits (pos 1) (small 1 (omega arith)),
        (
          refl,
          refl,
          (refl, refl, schema_count, (root_suits (length footer.leaves) is.most, leaves_suit footer.leaves is.leaves)),
          (
            refl,
            refl,
            int64_suits footer.rows fits.rows,
            (
              refl,
              refl,
              (refl, refl, group_count, row_groups),
              (
                refl,
                refl,
                (refl, omega arith),
                tt,
              ),
            ),
          ),
        ),
      ),
    )
