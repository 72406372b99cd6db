-- The job's partitions are apart, and its tasks are numbered.
use Rattle.std.proofs.Common.{◌≡◌, ◌<◌, ◌≤◌, ◌∙◌, ◌^◌, ◌*◌, ◌⊎◌, ℕ, List, Contains, length, sym, ap, subst, inl, inr, ⊎_elim, arith}
use Rattle.std.proofs.lemmas.Bool.{cases_eq, cases_order}
use Rattle.std.proofs.lemmas.Bool.Decides.{nat_tests}
use Rattle.std.proofs.lemmas.List.{length-map}
use Rattle.std.proofs.lemmas.List.Elements.{Contains-get_or}
use Rattle.std.proofs.Math.Nat.{pow-le-pow_right}
use Rattle.hx_align.specs.declared.plan.PlanRow.{PlanRow}
use Rattle.hx_base.specs.Limits.{most_inputs}
use Rattle.hx_base.specs.Pixels.{IsPixel, first_position}
use Rattle.hx_base.specs.declared.pixel.Pixel.{Pixel}
use Rattle.hx_base.specs.declared.task.Task.{Task}
use Rattle.hx_book.specs.Tasks.{AreParts, GoesByParts, IsTask, JobData, count_of, pixel_at, task_path}
use Rattle.hx_book.proofs.Ones.{parts_same}
use Rattle.hx_book.proofs.Paths.{AreSmall, IsNumbered, IsSmall, OfOneList, path_tells}

powers : (k n : ℕ) → k ≤ 29 → n < 12 * 4 ^ k → n < 2 ^ 64
powers k n small less = let most = pow-le-pow_right {n = 4} (omega arith) {i = k} {j = 29} small in omega (arith, less, most)

pixel_small : (pixel : Pixel) → IsPixel pixel → IsSmall pixel
pixel_small pixel is = record { order = let o = is.order in omega (arith, o); number = powers pixel.order pixel.number is.order is.number }

pub parts_few : (job : JobData) (parts : List Pixel) → AreParts job parts → length parts ≤ 100000
parts_few job parts are =
    let few = are.cut.planned.few in
    let e : length parts ≡ length are.plan = ap (length {A = Pixel}) are.pixels ∙ length-map are.plan (λ (row : PlanRow). row.pixel) in
    omega (arith, few, e)

pub parts_small : (job : JobData) (parts : List Pixel) → AreParts job parts → AreSmall parts
parts_small job parts are =
    record {
      each = λ n less. pixel_small (pixel_at parts n) (exists n less);
      apart = λ m n less also same. ⊎_elim (λ e. e) (λ other. absurd (⊎_elim (λ before. lower m n before also same) (λ after. lower n m after less (sym same)) other)) (cases_order m n);
    }
  where
    exists : (n : ℕ) → n < length parts → IsPixel (pixel_at parts n)
    exists n less = ((are.cut.planned.partitions.partitions.exact (pixel_at parts n)).0 (subst (λ (l : List Pixel). Contains l (pixel_at parts n)) are.pixels (Contains-get_or parts n (record { order = 0; number = 0 }) less))).exists

    lower : (m n : ℕ) → m < n → n < length parts → pixel_at parts m ≡ pixel_at parts n → ⊥
    lower m n before less same =
        let order = are.cut.planned.partitions.partitions.ordered m n (record { order = 0; number = 0 }) before (subst (λ (l : List Pixel). n < length l) are.pixels less) in
        let first : first_position (pixel_at parts m) < first_position (pixel_at parts n) = subst (λ (l : List Pixel). first_position (pixel_at l m) < first_position (pixel_at l n)) (sym are.pixels) order in
        let e = ap first_position same in
        omega (arith, first, e)

pub no_parts : (i p k : ℕ) → (k ≡ 4 → ⊥) → (k ≡ 5 → ⊥) → (k ≡ 6 → ⊥) → count_of i p k ≡ count_of i 0 k
no_parts i p k a b c = grind (arith, nat_tests)

pub count_by_parts : (i n k : ℕ) → 4 ≤ k → k ≤ 6 → count_of i n k ≡ n
count_by_parts i n k low high = grind (arith, nat_tests)

pub by_parts : (kind : ℕ) → GoesByParts kind ⊎ ((kind ≡ 4 → ⊥) × (kind ≡ 5 → ⊥) × (kind ≡ 6 → ⊥))
by_parts kind = ⊎_elim (λ e. inl (omega (arith, e), omega (arith, e))) (λ a. ⊎_elim (λ e. inl (omega (arith, e), omega (arith, e))) (λ b. ⊎_elim (λ e. inl (omega (arith, e), omega (arith, e))) (λ c. inr (a, b, c)) (cases_eq kind 6)) (cases_eq kind 5)) (cases_eq kind 4)

module _ (job : JobData) (few : length job.inputs ≤ most_inputs) where
  pub task_numbered : (t : Task) → IsTask job t → IsNumbered t
  task_numbered t is = ⊎_elim
      (λ by. let l = parts_few job is.parts (is.are_parts by) in record { inputs = length job.inputs; partitions = length is.parts; few = omega (arith, few); not_many = omega (arith, l); numbered = is.numbered })
      (λ (a, b, c). record { inputs = length job.inputs; partitions = 0; few = omega (arith, few); not_many = omega arith; numbered = subst (λ (n : ℕ). t.number < n) (no_parts (length job.inputs) (length is.parts) t.kind a b c) is.numbered })
      (by_parts t.kind)

  number_of_part : (t : Task) (p : List Pixel) → IsTask job t → GoesByParts t.kind → AreParts job p → t.number < length p
  number_of_part t p is by are =
      let same : is.parts ≡ p = parts_same job is.parts p (is.are_parts by) are in
      let l : t.number < count_of (length job.inputs) (length p) t.kind = subst (λ (l : List Pixel). t.number < count_of (length job.inputs) (length l) t.kind) same is.numbered in
      subst (λ (n : ℕ). t.number < n) (count_by_parts (length job.inputs) (length p) t.kind by.0 by.1) l

  one_list_of : (t u : Task) (p q : List Pixel) → IsTask job t → (GoesByParts t.kind → AreParts job p) → (GoesByParts u.kind → AreParts job q) → OfOneList t u p q
  one_list_of t u p q is a b = λ same low high.
      let are = a (low, high) in
      (parts_same job p q are (b (omega (arith, same), omega (arith, same))), parts_small job p are, number_of_part t p is (low, high) are)

  -- two tasks with one file are one
  pub one_file : (t u : Task) (p q : List Pixel) → IsTask job t → IsTask job u → (GoesByParts t.kind → AreParts job p) → (GoesByParts u.kind → AreParts job q)
      → task_path job.settings.name p t ≡ task_path job.settings.name q u → t ≡ u
  one_file t u p q is also a b e =
      path_tells job.settings.name p q t u (task_numbered t is) (task_numbered u also) (one_list_of t u p q is a b) (one_list_of u t q p also b a) e
