-- Slices that are gathered, one more each time.
use Rattle.std.proofs.Common.{◌≡◌, ◌+◌, ◌++◌, ◌∷◌, ◌∙◌, ℕ, List, [], Some, Ok, Err, Result, OnOk, slice_get, refl, sym, ap, subst}
use Rattle.std.specs.List.{AllZip, flat_map}
use Rattle.std.proofs.lemmas.Grind.{flat_map-append}
use Rattle.std.proofs.lemmas.List.{append-nil}
use Rattle.std.proofs.lemmas.List.Concat.{flat_map-cons}
use Rattle.hx_align.specs.Plans.{pixels_of}
use Rattle.hx_align.specs.declared.plan.PlanRow.{PlanRow}
use Rattle.hx_base.specs.Contents.{AreMarginRows, partition_rows}
use Rattle.hx_base.specs.Rows.{sorted_rows}
use Rattle.hx_base.specs.declared.pixel.Pixel.{Pixel}
use Rattle.hx_base.specs.declared.refusal.JobFile.TheVariants as file
use Rattle.hx_base.specs.declared.row.Row.{Row}
use Rattle.hx_margin.specs.Slices.{IsSlice}
use Rattle.hx_spill.proofs.Gathered.{gathered_more}
use Rattle.hx_book.specs.Books.{JobMembers, job_of}
use Rattle.hx_book.specs.Tasks.{IsCut, JobData}
use Rattle.hx_book.specs.Values.{OfPart}
use Rattle.hx_book.specs.Slices.{IsSliceOf}
use Rattle.hx_import.specs.Given.{GathersAround, GathersFirst, GathersSlices, IsCutFor}
use Rattle.hx_import.proofs.Cuts.{of_these}
use Rattle.hx_import.proofs.Inputs.{first_next}

-- a pixel's place in a list tells it
pub one_pixel : (parts : List Pixel) (n : ℕ) (a b : Pixel) → slice_get parts n ≡ Some a → slice_get parts n ≡ Some b → a ≡ b
one_pixel parts n a b x y = let e : Some a ≡ Some b = sym x ∙ y in cc e

-- of no input, and of no partition, nothing is gathered
pub none_gathered : (job : JobData) (all : List Row) (plan : List PlanRow) (number : ℕ) (part : Pixel) → IsCut job all plan → slice_get (pixels_of plan) number ≡ Some part → GathersFirst job number 0 []
none_gathered job all plan number part cut there = record { rows = []; are = refl; holds = record { all = all; plan = plan; cut = cut; holds = record { part = part; there = there; holds = refl } } }

pub none_around : (job : JobData) (all : List Row) (plan : List PlanRow) (number : ℕ) (part : Pixel) → IsCut job all plan → slice_get (pixels_of plan) number ≡ Some part → GathersAround job number [] []
none_around job all plan number part cut there = record { all = all; plan = plan; cut = cut; holds = record { part = part; there = there; holds = record { slices = []; are = tt; gathered_are = refl } } }

-- a slice of an input's split file
pub one_gathered : (job : JobData) (number n : ℕ) (gathered there : List Row) → GathersFirst job number n gathered → IsSliceOf job (file.Split n) number there → GathersFirst job number (n + 1) (gathered ++ there)
one_gathered job number n gathered there first v =
    let part = of_these job (λ all plan. OfPart plan number (λ part. sorted_rows gathered ≡ partition_rows part first.rows)) v.all v.plan v.cut first.holds in
    let own = v.holds in
    let rows : there ≡ partition_rows part.part own.own = rw part.there at own.go in record {
      rows = first.rows ++ own.own;
      are = first_next job n first.rows own.own first.are own.are;
      holds = record {
        all = v.all;
        plan = v.plan;
        cut = v.cut;
        holds = record { part = part.part; there = part.there; holds = gathered_more part.part first.rows own.own gathered there part.holds rows };
      };
    }

zip_more : {X Y : Type 0} (R : X → Y → Type 0) (xs : List X) (ys : List Y) (x : X) (y : Y) → AllZip R xs ys → R x y → AllZip R (xs ++ x ∷ []) (ys ++ y ∷ [])
zip_more R [] [] x y all one = (one, tt)
zip_more R [] (b ∷ ys) x y all one = absurd all
zip_more R (a ∷ xs) [] x y all one = absurd all
zip_more R (a ∷ xs) (b ∷ ys) x y (first, rest) one = (first, zip_more R xs ys x y rest one)

flat_more : (slices : List (List Row)) (there : List Row) → flat_map (λ (s : List Row). s) (slices ++ there ∷ []) ≡ flat_map (λ (s : List Row). s) slices ++ there
flat_more slices there = flat_map-append (λ (s : List Row). s) slices (there ∷ []) ∙ ap (λ (xs : List Row). flat_map (λ (s : List Row). s) slices ++ xs) (flat_map-cons (λ (s : List Row). s) there [] ∙ append-nil there)

-- a slice of a partition's margin split file
pub one_around : (job : JobData) (number : ℕ) (numbers : List ℕ) (n : ℕ) (gathered there : List Row) → GathersAround job number numbers gathered → IsSliceOf job (file.MarginSplit n) number there
    → GathersAround job number (numbers ++ n ∷ []) (gathered ++ there)
one_around job number numbers n gathered there first v =
    let m = job.settings.margin_order in
    let part = of_these job (λ all plan. OfPart plan number (λ part. GathersSlices job part (pixels_of plan) all numbers gathered)) v.all v.plan v.cut first in
    let own = v.holds in
    let belong : AreMarginRows part.part m (partition_rows own.part v.all) there = rw part.there at own.holds in
    let next : IsSlice (pixels_of v.plan) part.part m v.all n there = record { holder = own.part; there = own.there; belong = belong } in record {
      all = v.all;
      plan = v.plan;
      cut = v.cut;
      holds = record {
        part = part.part;
        there = part.there;
        holds = record {
          slices = part.holds.slices ++ there ∷ [];
          are = zip_more (λ number slice. IsSlice (pixels_of v.plan) part.part m v.all number slice) numbers part.holds.slices n there part.holds.are next;
          gathered_are = ap (λ (xs : List Row). xs ++ there) part.holds.gathered_are ∙ sym (flat_more part.holds.slices there);
        };
      };
    }

module _ {T E : Type 0} (j : JobMembers) (part : ℕ) where
  pub slice_added : (n : ℕ) (gathered there after : List Row) → (j.premises → GathersFirst (job_of j) part n gathered) → (j.premises → IsSliceOf (job_of j) (file.Split n) part there)
      → (result : Result T E) → OnOk result (after ≡ gathered ++ there) → OnOk result (j.premises → GathersFirst (job_of j) part (n + 1) after)
  slice_added n gathered there after first is (Ok x) same = λ p. subst (GathersFirst (job_of j) part (n + 1)) (sym same) (one_gathered (job_of j) part n gathered there (first p) (is p))
  slice_added n gathered there after first is (Err e) same = tt

  pub around_added : (numbers : List ℕ) (n : ℕ) (gathered there after : List Row) → (j.premises → GathersAround (job_of j) part numbers gathered)
      → (j.premises → IsSliceOf (job_of j) (file.MarginSplit n) part there) → (result : Result T E) → OnOk result (after ≡ gathered ++ there)
      → OnOk result (j.premises → GathersAround (job_of j) part (numbers ++ n ∷ []) after)
  around_added numbers n gathered there after first is (Ok x) same =
      λ p. subst (GathersAround (job_of j) part (numbers ++ n ∷ [])) (sym same) (one_around (job_of j) part numbers n gathered there (first p) (is p))
  around_added numbers n gathered there after first is (Err e) same = tt

-- nothing is gathered at first
module _ (j : JobMembers) (number : ℕ) (part : Pixel) (plan : List PlanRow) (parts : List Pixel) (cut : IsCutFor j plan parts) (there : slice_get parts number ≡ Some part) where
  at_part : slice_get (pixels_of plan) number ≡ Some part
  at_part = subst (λ (ps : List Pixel). slice_get ps number ≡ Some part) cut.pixels there

  pub begun : j.premises → GathersFirst (job_of j) number 0 []
  begun p = let (all, is_cut) = cut.cut p in none_gathered (job_of j) all plan number part is_cut at_part

  pub begun_around : j.premises → GathersAround (job_of j) number [] []
  begun_around p = let (all, is_cut) = cut.cut p in none_around (job_of j) all plan number part is_cut at_part
