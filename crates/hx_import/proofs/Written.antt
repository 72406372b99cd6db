-- The texts of the lists and of the properties.
use Rattle.std.proofs.Common.{◌≡◌, ◌∙◌, ℕ, List, true, false, IfOk, Result, Ok, Err, Vec, Global, length, ap, sum_by}
use Rattle.hx_align.specs.declared.plan.PlanRow.{PlanRow}
use Rattle.hx_base.specs.declared.pixel.Pixel.{Pixel}
use Rattle.hx_base.specs.declared.refusal.JobFile.TheVariants as file
use Rattle.hx_base.specs.declared.row.Row.{Row}
use Rattle.hx_base.specs.declared.settings.Settings.{Settings}
use Rattle.hx_catalog.specs.Lists.{list_text}
use Rattle.hx_catalog.specs.Properties.{properties_text}
use Rattle.hx_book.specs.Books.{JobMembers, job_of}
use Rattle.hx_book.specs.Values.{IsFileOf}
use Rattle.hx_import.specs.Given.{HasMargins, HasRows, IsCutFor}

module _ (j : JobMembers) (bytes : List ℕ) (plan : List PlanRow) (parts : List Pixel) (cut : IsCutFor j plan parts) (text : bytes ≡ list_text parts) where
  pub listed : j.premises → IsFileOf (job_of j) bytes file.List
  unfolding IsFileOf
  listed p = let (all, is_cut) = cut.cut p in record { all = all; plan = plan; cut = is_cut; holds = text ∙ ap list_text cut.pixels }

  pub margin_listed : j.premises → IsFileOf (job_of j) bytes file.MarginList
  unfolding IsFileOf
  margin_listed p = let (all, is_cut) = cut.cut p in record { all = all; plan = plan; cut = is_cut; holds = text ∙ ap list_text cut.pixels }

module _ (j : JobMembers) (bytes : List ℕ) (settings : Settings) (rows partitions : ℕ) (same : settings ≡ j.settings) where
  pub told : bytes ≡ properties_text (record { settings = settings; margin = false; rows = rows; partitions = partitions }) → HasRows (job_of j) rows partitions → IsFileOf (job_of j) bytes file.Properties
  unfolding IsFileOf
  told text has = record {
    all = has.all;
    plan = has.plan;
    cut = has.cut;
    holds = text
        ∙ ap (λ (s : Settings). properties_text (record { settings = s; margin = false; rows = rows; partitions = partitions })) same
        ∙ ap (λ (n : ℕ). properties_text (record { settings = j.settings; margin = false; rows = n; partitions = partitions })) has.holds.0
        ∙ ap (λ (n : ℕ). properties_text (record { settings = j.settings; margin = false; rows = length has.all; partitions = n })) has.holds.1;
  }

  pub margin_told : bytes ≡ properties_text (record { settings = settings; margin = true; rows = rows; partitions = partitions }) → HasMargins (job_of j) rows partitions → IsFileOf (job_of j) bytes file.MarginProperties
  unfolding IsFileOf
  margin_told text has =
      let (count, margins, are, sum) = has.holds in record {
        all = has.all;
        plan = has.plan;
        cut = has.cut;
        holds = record {
          margins = margins;
          are = are;
          text = text
              ∙ ap (λ (s : Settings). properties_text (record { settings = s; margin = true; rows = rows; partitions = partitions })) same
              ∙ ap (λ (n : ℕ). properties_text (record { settings = j.settings; margin = true; rows = n; partitions = partitions })) sum
              ∙ ap (λ (n : ℕ). properties_text (record { settings = j.settings; margin = true; rows = sum_by (length {A = Row}) margins; partitions = n })) count;
        };
      }

module _ {E : Type 0} (j : JobMembers) (settings : Settings) (rows partitions : ℕ) (same : settings ≡ j.settings) where
  pub text_told : (result : Result (Vec ℕ Global) E) → IfOk result (λ text. text.items ≡ properties_text (record { settings = settings; margin = false; rows = rows; partitions = partitions }))
      → (j.premises → HasRows (job_of j) rows partitions) → IfOk result (λ made. j.premises → IsFileOf (job_of j) made.items file.Properties)
  text_told (Ok made) text has = λ p. told j made.items settings rows partitions same text (has p)
  text_told (Err e) text has = tt

  pub margin_text_told : (result : Result (Vec ℕ Global) E) → IfOk result (λ text. text.items ≡ properties_text (record { settings = settings; margin = true; rows = rows; partitions = partitions }))
      → (j.premises → HasMargins (job_of j) rows partitions) → IfOk result (λ made. j.premises → IsFileOf (job_of j) made.items file.MarginProperties)
  margin_text_told (Ok made) text has = λ p. margin_told j made.items settings rows partitions same text (has p)
  margin_text_told (Err e) text has = tt
