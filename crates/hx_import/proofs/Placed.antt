-- A split file has each row of its input, where each row lies in a partition.
use Rattle.std.proofs.Common.{◌≡◌, ◌<◌, ◌==◌, ◌+◌, ◌++◌, ◌∷◌, ◌∙◌, if◌then◌else◌, ℕ, zero, suc, List, [], Some, Ok, All, get_or, length, map, slice_get, Vec, Global, refl, sym, ap, subst, inl, inr, arith}
use Rattle.std.proofs.lemmas.Bool.{cases_Bool}
use Rattle.std.proofs.lemmas.List.{get_or_append_left, length-append}
use Rattle.std.proofs.lemmas.Option.{slice_get-get_or}
use Rattle.hx_align.specs.Plans.{pixels_of}
use Rattle.hx_align.specs.declared.plan.PlanRow.{PlanRow}
use Rattle.hx_base.specs.Contents.{partition_rows}
use Rattle.hx_base.specs.Limits.{FitsLimits}
use Rattle.hx_base.specs.Partitions.{holders_of}
use Rattle.hx_base.specs.declared.pixel.Pixel.{Pixel}
use Rattle.hx_base.specs.declared.row.Row.{Row}
use Rattle.hx_hist.specs.Histograms.{Histogram, total_of}
use Rattle.hx_inputs.specs.Inputs.{AreRows}
use Rattle.hx_rows.specs.Reading.{rows_of}
use Rattle.hx_spill.specs.Splits.{slice, split_in}
use Rattle.hx_spill.specs.Values.{AreSplit}
use Rattle.hx_spill.specs.declared.split.Placed.{Placed}
use Rattle.hx_work.specs.Work.{IsSplit}
use Rattle.hx_book.specs.Books.{JobMembers, job_of}
use Rattle.hx_book.specs.Tasks.{InputData, IsCut, JobData}
use Rattle.hx_book.specs.Values.{AreRowsOf}
use Rattle.hx_import.specs.Given.{AreOfInput, HasAllRows, IsCutFor}
use Rattle.hx_import.proofs.Inputs.{rows_are}
use Rattle.hx_import.proofs.Margined.{EachOnce}
use Rattle.hx_import.proofs.Numbers.{all_counted, any, each_held, sorted_alike}
use Rattle.hx_import.proofs.Totals.{below, below_add, below_list, below_none, below_one, below_same, if_other, if_same}

-- a row more of a partition
slice_row : (part : ℕ) (p : Placed) (ps : List Placed) → length (slice part (p ∷ ps)) ≡ (if p.part == part then 1 else 0) + length (slice part ps)
slice_row part p ps = elim (cases_Bool (p.part == part)) [ inl is ↦ rw is (omega arith) | inr not ↦ rw not (omega arith) ]

-- rows that are placed stand in the partitions' lists
by_part : (n : ℕ) (placed : List Placed) → All (λ p. p.part < n) placed → below (λ k. length (slice k placed)) n ≡ length placed
by_part n [] small = below_none (λ k. 0) n (λ k less. refl)
by_part n (p ∷ ps) small =
    let own : ℕ → ℕ = λ (k : ℕ). if p.part == k then 1 else 0 in
    let one : below own n ≡ 1 = below_one own n p.part (small 0 p (omega arith)) (λ k less other. if_other p.part k 1 (λ e. other (sym e))) ∙ if_same p.part p.part 1 refl in
    let rest = by_part n ps (λ k d less. small (suc k) d (omega (arith, less))) in
    below_same (λ k. length (slice k (p ∷ ps))) (λ k. own k + length (slice k ps)) n (λ k less. slice_row k p ps) ∙ below_add own (λ k. length (slice k ps)) n ∙ omega (arith, one, rest)

all_placed : (parts : List Pixel) (rows : List Row) (placed : List Placed) → AreSplit parts rows placed → All (λ row. length (holders_of row.hp parts) ≡ 1) rows → length placed ≡ length rows
all_placed parts rows placed is once =
    sym (by_part (length parts) placed is.no_other)
    ∙ below_same (λ k. length (slice k placed)) (λ k. length (partition_rows (get_or parts k any) rows)) (length parts)
    (λ k less. ap (length {A = Row}) (is.each k (get_or parts k any) (slice_get-get_or parts k any less)))
    ∙ below_list (λ p. length (partition_rows p rows)) parts any
    ∙ sorted_alike rows parts
    ∙ all_counted rows parts once

module _ (P : Row → Type 0) where
  first_of : (first rest : List Row) → All P (first ++ rest) → All P first
  first_of first rest all = λ k d less. subst P (get_or_append_left first rest d k less) (all k d (omega (arith, less, length-append first rest)))

  rest_of : (first rest : List Row) → All P (first ++ rest) → All P rest
  rest_of [] rest all = all
  rest_of (row ∷ first) rest all = rest_of first rest (λ k d less. all (suc k) d (omega (arith, less)))

  -- what holds of all rows holds of those of an input
  of_input : (inputs : List InputData) (all rows : List Row) (n : ℕ) (input : InputData) → AreRows (map (λ (i : InputData). i.name) inputs) (map (λ (i : InputData). i.bytes) inputs) all
      → slice_get inputs n ≡ Some input → rows_of input.name input.bytes ≡ Ok rows → All P all → All P rows
  of_input [] all rows n input are there read each = cc there
  of_input (i ∷ inputs) all rows zero input (first, rest, here, more, same) there read each =
      let is : i ≡ input = cc there in
      let both : Ok first ≡ Ok rows = sym here ∙ ap (λ (x : InputData). rows_of x.name x.bytes) is ∙ read in
      let own : first ≡ rows = cc both in
      subst (All P) own (first_of first rest (subst (All P) same each))
  of_input (i ∷ inputs) all rows (suc n) input (first, rest, here, more, same) there read each = of_input inputs rest rows n input more there read (rest_of first rest (subst (All P) same each))

-- under the premises a split file has as many rows as its input
pub whole_split : EachOnce → (job : JobData) (all : List Row) (plan : List PlanRow) (number : ℕ) (rows : List Row) (placed : List Placed) → FitsLimits job.settings → IsCut job all plan → AreRowsOf job number rows
    → AreSplit (pixels_of plan) rows placed → length placed ≡ length rows
whole_split once job all plan number rows placed limits cut own is =
    all_placed (pixels_of plan) rows placed is
    (of_input (λ row. length (holders_of row.hp (pixels_of plan)) ≡ 1) job.inputs all rows number own.input cut.read own.there own.read (each_held once job all plan limits cut))

module _ (once : EachOnce) (j : JobMembers) (limits : FitsLimits j.settings) (number : ℕ) (name bytes : List ℕ) (is : AreOfInput j number name bytes) (hist : Histogram) (plan : List PlanRow) (parts : List Pixel)
    (cut : IsCutFor j plan parts) (made : Vec ℕ Global) (split : IsSplit (rows_of name bytes) hist (pixels_of plan) (Ok made)) where
  pub placed_there : (placed : List Placed) × (split_in made.items ≡ Ok placed)
  placed_there = (split.3.placed, split.3.reads)

  -- under the premises as many rows are placed as the map counts
  pub as_counted : j.premises → length placed_there.0 ≡ total_of hist.pairs
  unfolding placed_there
  as_counted p =
      let (all, is_cut) = cut.cut p in
      whole_split once (job_of j) all plan number split.0 split.3.placed limits is_cut (rows_are j number name bytes is split.0 p split.1) split.3.value ∙ sym split.2.total

  -- and where so many are, all are
  pub has_all : length placed_there.0 ≡ total_of hist.pairs → HasAllRows name bytes made.items
  unfolding placed_there
  has_all same = λ rows read.
      let both : Ok split.0 ≡ Ok rows = sym split.1 ∙ read in
      let own : split.0 ≡ rows = cc both in
      (split.3.placed, split.3.reads, same ∙ split.2.total ∙ ap (length {A = Row}) own)
