-- A job has one list of rows, one plan and one list of partitions, and a folder one list of records.
use Rattle.std.proofs.Common.{◌≡◌, ◌∙◌, ◌++◌, ◌∷◌, ℕ, List, [], Ok, sym, ap, subst}
use Rattle.hx_align.proofs.Carried.{plan_unique}
use Rattle.hx_align.specs.Plans.{pixels_of}
use Rattle.hx_align.specs.declared.plan.PlanRow.{PlanRow}
use Rattle.hx_base.specs.Pixels.{count_in}
use Rattle.hx_base.specs.declared.pixel.Pixel.{Pixel}
use Rattle.hx_base.specs.declared.row.Row.{Row}
use Rattle.hx_inputs.specs.Inputs.{AreRows}
use Rattle.hx_book.specs.Tasks.{AreParts, IsCut, JobData, contents_of, names_of}

pub rows_same : (names contents : List (List ℕ)) (a b : List Row) → AreRows names contents a → AreRows names contents b → a ≡ b
rows_same [] [] a b p q = p ∙ sym q
rows_same [] (c ∷ cs) a b p q = absurd p
rows_same (n ∷ ns) [] a b p q = absurd p
rows_same (n ∷ ns) (c ∷ cs) a b (first, rest, read, more, is) (other, others, also, again, too) =
    let e : first ≡ other = (let o : Ok first ≡ Ok other = sym read ∙ also in cc) in
    is ∙ ap (λ (l : List Row). l ++ rest) e ∙ ap (λ (l : List Row). other ++ l) (rows_same ns cs rest others more again) ∙ sym too

pub cut_rows : (job : JobData) (a b : List Row) (p q : List PlanRow) → IsCut job a p → IsCut job b q → a ≡ b
cut_rows job a b p q h g = rows_same (names_of job) (contents_of job) a b h.read g.read

pub cut_plans : (job : JobData) (a b : List Row) (p q : List PlanRow) → IsCut job a p → IsCut job b q → p ≡ q
cut_plans job a b p q h g =
    let s = job.settings in
    let planned = subst (λ (rows : List Row). IsCut job rows q) (sym (cut_rows job a b p q h g)) g in
    plan_unique (λ pixel. count_in pixel a) s.lowest s.highest s.threshold p q h.planned.partitions planned.planned.partitions

pub parts_same : (job : JobData) (p q : List Pixel) → AreParts job p → AreParts job q → p ≡ q
parts_same job p q h g = h.pixels ∙ ap pixels_of (cut_plans job h.rows g.rows h.plan g.plan h.cut g.cut) ∙ sym g.pixels
