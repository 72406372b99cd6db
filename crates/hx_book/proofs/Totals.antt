-- How many rows and partitions the records of a finished job tell.
use Rattle.std.proofs.Common.{◌≡◌, ◌<◌, ◌≤◌, ◌==◌, ◌+◌, ◌*◌, ◌^◌, ◌∙◌, ◌++◌, ◌∷◌, if◌then◌else◌, nat_lt, ℕ, zero, suc, List, [], Some, Bool, true, false, All, Contains, filter, get_or, length, map, slice_get, sum_by, take, refl, sym, ap, subst, ⊎_elim, arith}
use Rattle.std.proofs.lemmas.Bool.{cases_Bool, cases_eq, eq-eqb}
use Rattle.std.proofs.lemmas.Bool.Decides.{Decides-eqb, nat_tests}
use Rattle.std.proofs.lemmas.List.{length-map, take_all, take_more}
use Rattle.std.proofs.lemmas.List.Elements.{Contains-append_left, Contains-push}
use Rattle.std.proofs.lemmas.List.Sorted.{length_permutation}
use Rattle.std.proofs.lemmas.List.Sums.{sum_by-cons, sum_by_push}
use Rattle.hx_align.specs.Plans.{pixels_of}
use Rattle.hx_align.specs.declared.plan.PlanRow.{PlanRow}
use Rattle.hx_base.proofs.RowOrder.{rows_exact, rows_total}
use Rattle.hx_base.proofs.Sorting.{permutes}
use Rattle.hx_base.specs.Contents.{AreMarginRows, partition_rows}
use Rattle.hx_base.specs.Limits.{FitsLimits}
use Rattle.hx_base.specs.Pixels.{count_in, pixel_of, rows_in}
use Rattle.hx_base.specs.Partitions.{ArePartitions, NothingOverfull, holders_of}
use Rattle.hx_base.specs.Rows.{row_cmp, sorted_rows}
use Rattle.hx_base.specs.declared.pixel.Pixel.{Pixel}
use Rattle.hx_base.specs.declared.refusal.JobFile.TheVariants as file
use Rattle.hx_base.specs.declared.row.Row.{Row}
use Rattle.hx_base.specs.declared.task.Task.{Task}
use Rattle.hx_journal.specs.declared.record.Record.{Record}
use Rattle.hx_spill.proofs.One.{margin_once}
use Rattle.hx_book.specs.Tasks.{AreParts, Follow, GoesByParts, HasKindsBefore, IsCut, JobData, contents_of, names_of, properties_task, task}
use Rattle.hx_book.specs.Values.{AreMargins, HasRows, IsFileOf, IsMarginFile, IsValue, OfCut, OfPart, count_read, rows_in_file, rows_told}
use Rattle.hx_book.specs.Resumable.{done_of}
use Rattle.hx_book.specs.Books.{AreInTurn, AreNumbers, count_of_kind, of_kind, rows_of_kind}
use Rattle.hx_book.proofs.Finished.{all_read}
use Rattle.hx_book.proofs.Ones.{cut_plans, cut_rows, parts_same}
use Rattle.hx_book.proofs.Parts.{count_by_parts}
use Rattle.hx_book.proofs.Steps.{cons_cases, done_from, done_has, in_turn_from, properties_is}

-- ---- the records of a kind, one number after another

-- the weight of a record of a task, and of one of a kind and of a number below a bound; else 0
abbrev at : (kind number : ℕ) → (Record → ℕ) → Record → ℕ
at kind number g r = if r.task.kind == kind then (if r.task.number == number then g r else 0) else 0

abbrev under : (kind bound : ℕ) → (Record → ℕ) → Record → ℕ
under kind bound g r = if r.task.kind == kind then (if nat_lt r.task.number bound then g r else 0) else 0

step : (k kind m n x : ℕ) → (if k == kind then (if nat_lt m (n + 1) then x else 0) else 0) ≡ (if k == kind then (if nat_lt m n then x else 0) else 0) + (if k == kind then (if m == n then x else 0) else 0)
step k kind m n x = grind (arith, nat_tests)

at_other : (k kind m n x : ℕ) → ((k ≡ kind) → (m ≡ n) → ⊥) → (if k == kind then (if m == n then x else 0) else 0) ≡ 0
at_other k kind m n x other = ⊎_elim (λ e. ⊎_elim (λ f. absurd (other e f)) (λ f. grind (arith, nat_tests)) (cases_eq m n)) (λ e. grind (arith, nat_tests)) (cases_eq k kind)

at_same : (k kind m n x : ℕ) → k ≡ kind → m ≡ n → (if k == kind then (if m == n then x else 0) else 0) ≡ x
at_same k kind m n x e f = grind (arith, nat_tests)

under_none : (k kind m x : ℕ) → (if k == kind then (if nat_lt m 0 then x else 0) else 0) ≡ 0
under_none k kind m x = grind (arith, nat_tests)

under_all : (k kind m n x : ℕ) → k ≡ kind → m < n → (if k == kind then (if nat_lt m n then x else 0) else 0) ≡ x
under_all k kind m n x e f = grind (arith, nat_tests)

under_other : (k kind m n x : ℕ) → (k ≡ kind → ⊥) → (if k == kind then (if nat_lt m n then x else 0) else 0) ≡ 0
under_other k kind m n x e = grind (arith, nat_tests)

module _ (kind : ℕ) (g : Record → ℕ) where
  sum_step : (rs : List Record) (n : ℕ) → sum_by (under kind (n + 1) g) rs ≡ sum_by (under kind n g) rs + sum_by (at kind n g) rs
  sum_step [] n = refl
  sum_step (r ∷ rs) n =
      let a = sum_by-cons (under kind (n + 1) g) r rs in
      let b = sum_by-cons (under kind n g) r rs in
      let c = sum_by-cons (at kind n g) r rs in
      let here = step r.task.kind kind r.task.number n (g r) in
      let rest = sum_step rs n in
      omega (arith, a, b, c, here, rest)

  sum_none : (rs : List Record) → sum_by (under kind 0 g) rs ≡ 0
  sum_none [] = refl
  sum_none (r ∷ rs) =
      let a = sum_by-cons (under kind 0 g) r rs in
      let here = under_none r.task.kind kind r.task.number (g r) in
      let rest = sum_none rs in
      omega (arith, a, here, rest)

  -- all records of the kind have numbers below a bound
  sum_whole : (rs : List Record) (n : ℕ) → ((r : Record) → Contains rs r → r.task.kind ≡ kind → r.task.number < n) → sum_by (under kind n g) rs ≡ sum_by g (of_kind kind rs)
  sum_whole [] n below = refl
  sum_whole (r ∷ rs) n below =
      let a = sum_by-cons (under kind n g) r rs in
      let rest = sum_whole rs n (λ u (k, less, is) e. below u (suc k, omega (arith, less), is) e) in
      ⊎_elim
      (λ (e : r.task.kind ≡ kind).
      let here = under_all r.task.kind kind r.task.number n (g r) e (below r (zero, omega arith, refl) e) in
      let listed : of_kind kind (r ∷ rs) ≡ r ∷ of_kind kind rs = rw (eq-eqb r.task.kind kind e) refl in
      let b = ap (sum_by g) listed ∙ sum_by-cons g r (of_kind kind rs) in
      omega (arith, a, here, rest, b))
      (λ (e : r.task.kind ≡ kind → ⊥).
      let here = under_other r.task.kind kind r.task.number n (g r) e in
      let listed : of_kind kind (r ∷ rs) ≡ of_kind kind rs = ⊎_elim (λ is. absurd (e ((Decides-eqb r.task.kind kind).0 is))) (λ not. rw not refl) (cases_Bool (r.task.kind == kind)) in
      let b = ap (sum_by g) listed in
      omega (arith, a, here, rest, b))
      (cases_eq r.task.kind kind)

module _ (job : JobData) (kind number : ℕ) (g : Record → ℕ) where
  differs : (r : Record) → (r.task ≡ task kind number → ⊥) → at kind number g r ≡ 0
  differs r other = at_other r.task.kind kind r.task.number number (g r) (λ e f. other (λ i. record { kind = e i; number = f i }))

  -- a task that is done isn't recorded again
  sum_again : (done : List Task) (rs : List Record) → Follow job done (done_of rs) → Contains done (task kind number) → sum_by (at kind number g) rs ≡ 0
  sum_again done [] follow has = refl
  sum_again done (r ∷ rs) follow has =
      let a = sum_by-cons (at kind number g) r rs in
      let here = differs r (λ e. follow.0.is_left (subst (Contains done) (sym e) has)) in
      let rest = sum_again (done ++ r.task ∷ []) rs follow.1 (Contains-append_left done (r.task ∷ []) (task kind number) has) in
      omega (arith, a, here, rest)

  -- a task is recorded once
  sum_once : (done : List Task) (rs : List Record) (v : ℕ) → Follow job done (done_of rs) → ((r : Record) → Contains rs r → r.task ≡ task kind number → g r ≡ v) → Contains (done_of rs) (task kind number) → sum_by (at kind number g) rs ≡ v
  sum_once done [] v follow each (k, less, is) = absurd (omega (arith, less))
  sum_once done (r ∷ rs) v follow each has =
      let a = sum_by-cons (at kind number g) r rs in
      let later : (u : Record) → Contains rs u → u.task ≡ task kind number → g u ≡ v = λ u (k, less, is) e. each u (suc k, omega (arith, less), is) e in
      let one : r.task ≡ task kind number → sum_by (at kind number g) (r ∷ rs) ≡ v = λ e.
      (let here = at_same r.task.kind kind r.task.number number (g r) (ap (λ (t : Task). t.kind) e) (ap (λ (t : Task). t.number) e) in
      let value = each r (zero, omega arith, refl) e in
      let rest = sum_again (done ++ r.task ∷ []) rs follow.1 (subst (λ (t : Task). Contains (done ++ r.task ∷ []) t) e (Contains-push done r.task)) in
      omega (arith, a, here, value, rest)) in
      ⊎_elim one
      (λ c. ⊎_elim
      (λ (e : r.task.kind ≡ kind). ⊎_elim
      (λ (f : r.task.number ≡ number). one (λ i. record { kind = e i; number = f i }))
      (λ f. let here = differs r (λ same. f (ap (λ (t : Task). t.number) same)) in let rest = sum_once (done ++ r.task ∷ []) rs v follow.1 later c in omega (arith, a, here, rest))
      (cases_eq r.task.number number))
      (λ f. let here = differs r (λ same. f (ap (λ (t : Task). t.kind) same)) in let rest = sum_once (done ++ r.task ∷ []) rs v follow.1 later c in omega (arith, a, here, rest))
      (cases_eq r.task.kind kind))
      (cons_cases r.task (task kind number) (done_of rs) has)

-- the records' numbers are those of a list
listed_sum : {X : Type 0} (kind : ℕ) (g : Record → ℕ) (rs : List Record) (xs : List X) (f : X → ℕ) (d : X) → ((n : ℕ) → n < length xs → sum_by (at kind n g) rs ≡ f (get_or xs n d))
    → (n : ℕ) → n ≤ length xs → sum_by (under kind n g) rs ≡ sum_by f (take n xs)
listed_sum kind g rs xs f d each zero less = sum_none kind g rs
listed_sum kind g rs xs f d each (suc n) less =
    let so_far = listed_sum kind g rs xs f d each n (omega (arith, less)) in
    let here = each n (omega (arith, less)) in
    let more = sum_step kind g rs n in
    let taken = ap (sum_by f) (take_more xs n d (omega (arith, less))) ∙ sum_by_push f (take n xs) (get_or xs n d) in
    let next : n + 1 ≡ suc n = omega arith in
    subst (λ (m : ℕ). sum_by (under kind m g) rs ≡ sum_by f (take m xs)) next (omega (arith, so_far, here, more, taken))

-- ---- the values of a job's tasks

length_sorted : (rows : List Row) → length (sorted_rows rows) ≡ length rows
length_sorted rows = length_permutation rows (sorted_rows rows) (permutes row_cmp rows_total rows_exact rows)

fewer : (p : Row → Bool) (rows : List Row) → length (filter p rows) ≤ length rows
fewer p [] = omega arith
fewer p (r ∷ rows) = let rest = fewer p rows in ⊎_elim (λ e. rw e (omega (arith, rest))) (λ e. rw e (omega (arith, rest))) (cases_Bool (p r))

got : {X Y : Type 0} (f : X → Y) (xs : List X) (n : ℕ) (d : X) → n < length xs → slice_get (map f xs) n ≡ Some (f (get_or xs n d))
got f [] n d less = absurd (omega (arith, less))
got f (x ∷ xs) zero d less = refl
got f (x ∷ xs) (suc n) d less = got f xs n d (omega (arith, less))

-- each row is counted by its one partition
counts_of_one : (r : Row) (rows : List Row) (pixels : List Pixel) → sum_by (λ (p : Pixel). count_in p (r ∷ rows)) pixels ≡ length (holders_of r.hp pixels) + sum_by (λ (p : Pixel). count_in p rows) pixels
counts_of_one r rows [] = refl
counts_of_one r rows (p ∷ ps) =
    let a = sum_by-cons (λ (q : Pixel). count_in q (r ∷ rows)) p ps in
    let b = sum_by-cons (λ (q : Pixel). count_in q rows) p ps in
    let rest = counts_of_one r rows ps in
    ⊎_elim
    (λ (e : (pixel_of p.order r.hp == p.number) ≡ true).
    let c : count_in p (r ∷ rows) ≡ suc (count_in p rows) = rw e refl in
    let h : length (holders_of r.hp (p ∷ ps)) ≡ suc (length (holders_of r.hp ps)) = rw e refl in
    omega (arith, a, b, c, h, rest))
    (λ (e : (pixel_of p.order r.hp == p.number) ≡ false).
    let c : count_in p (r ∷ rows) ≡ count_in p rows = rw e refl in
    let h : length (holders_of r.hp (p ∷ ps)) ≡ length (holders_of r.hp ps) = rw e refl in
    omega (arith, a, b, c, h, rest))
    (cases_Bool (pixel_of p.order r.hp == p.number))

sum_of_none : (pixels : List Pixel) → sum_by (λ (p : Pixel). count_in p []) pixels ≡ 0
sum_of_none [] = refl
sum_of_none (p ∷ ps) = let a = sum_by-cons (λ (q : Pixel). count_in q []) p ps in let rest = sum_of_none ps in omega (arith, a, rest)

counts_of_all : (rows : List Row) (pixels : List Pixel) → All (λ (r : Row). length (holders_of r.hp pixels) ≡ 1) rows → sum_by (λ (p : Pixel). count_in p rows) pixels ≡ length rows
counts_of_all [] pixels once = sum_of_none pixels
counts_of_all (r ∷ rows) pixels once =
    let one = counts_of_one r rows pixels in
    let here : length (holders_of r.hp pixels) ≡ 1 = once 0 r (omega arith) in
    let rest = counts_of_all rows pixels (λ k d less. once (suc k) d (omega (arith, less))) in
    omega (arith, one, here, rest)

plan_counts : (count : Pixel → ℕ) (plan : List PlanRow) → All (λ (row : PlanRow). row.count ≡ count row.pixel) plan → sum_by (λ (row : PlanRow). row.count) plan ≡ sum_by count (pixels_of plan)
plan_counts count [] is = refl
plan_counts count (row ∷ plan) is =
    let a = sum_by-cons (λ (x : PlanRow). x.count) row plan in
    let b = sum_by-cons count row.pixel (pixels_of plan) in
    let here : row.count ≡ count row.pixel = is 0 row (omega arith) in
    let rest = plan_counts count plan (λ k d less. is (suc k) d (omega (arith, less))) in
    omega (arith, a, b, here, rest)

plan_bound : (plan : List PlanRow) → ((n : ℕ) (d : PlanRow) → n < length plan → (get_or plan n d).count ≤ 1000000) → sum_by (λ (row : PlanRow). row.count) plan ≤ 1000000 * length plan
plan_bound [] most = omega arith
plan_bound (row ∷ plan) most =
    let a = sum_by-cons (λ (x : PlanRow). x.count) row plan in
    let here : row.count ≤ 1000000 = most 0 row (omega arith) in
    let rest = plan_bound plan (λ n d less. most (suc n) d (omega (arith, less))) in
    omega (arith, a, here, rest)

-- a margin has some of all rows
margin_few : (pixel : Pixel) (margin_order : ℕ) (all margin : List Row) → AreMarginRows pixel margin_order all margin → length margin ≤ length all
margin_few pixel margin_order all margin are =
    let a = ap (length {A = Row}) are.listed in
    let b = length_sorted (filter are.test all) in
    let c = fewer are.test all in
    omega (arith, a, b, c)

margins_bound : (margin_order : ℕ) (all : List Row) (plan : List PlanRow) (margins : List (List Row)) → length all ≤ 100000000000 → AreMargins margin_order all plan margins
    → (sum_by length margins ≤ 100000000000 * length plan) × (length margins ≡ length plan)
margins_bound margin_order all [] [] few are = (omega arith, refl)
margins_bound margin_order all [] (m ∷ ms) few are = absurd are
margins_bound margin_order all (row ∷ plan) [] few are = absurd are
margins_bound margin_order all (row ∷ plan) (m ∷ ms) few (is, more) =
    let rest = margins_bound margin_order all plan ms few more in
    let r0 = rest.0 in
    let r1 = rest.1 in
    let here = margin_few row.pixel margin_order all m is in
    let a = sum_by-cons (length {A = Row}) m ms in
    (omega (arith, a, here, few, r0), omega (arith, r1))

margins_at : (margin_order : ℕ) (all : List Row) (plan : List PlanRow) (margins : List (List Row)) (n : ℕ) (d : PlanRow) → AreMargins margin_order all plan margins → n < length plan
    → AreMarginRows (get_or plan n d).pixel margin_order all (get_or margins n [])
margins_at margin_order all [] margins n d are less = absurd (omega (arith, less))
margins_at margin_order all (row ∷ plan) [] n d are less = absurd are
margins_at margin_order all (row ∷ plan) (m ∷ ms) zero d (is, more) less = is
margins_at margin_order all (row ∷ plan) (m ∷ ms) (suc n) d (is, more) less = margins_at margin_order all plan ms n d more (omega (arith, less))

-- ---- the records of a job whose tasks are all recorded
module _ (job : JobData) (all : List Row) (plan : List PlanRow) (cut : IsCut job all plan) (limits : FitsLimits job.settings) (records : List Record) (turn : AreInTurn job records)
    (whole : HasKindsBefore job (done_of records) 9)
    (once : All (λ (r : Row). length (holders_of r.hp (pixels_of plan)) ≡ 1) all) where
  are : AreParts job (pixels_of plan)
  are = record { rows = all; plan = plan; cut = cut; pixels = refl }

  counted : length (pixels_of plan) ≡ length plan
  counted = length-map plan (λ (row : PlanRow). row.pixel)

  of_these : (P : List Row → List PlanRow → Type 0) → OfCut job P → P all plan
  of_these P v =
      let rows = cut_rows job v.all all v.plan plan v.cut cut in
      let plans = cut_plans job v.all all v.plan plan v.cut cut in
      subst (λ (p : List PlanRow). P all p) plans (subst (λ (r : List Row). P r v.plan) rows v.holds)

  some_row : PlanRow
  some_row = record { pixel = record { order = 0; number = 0 }; count = 0 }

  one_part : (n : ℕ) (part : Pixel) → n < length plan → slice_get (pixels_of plan) n ≡ Some part → part ≡ (get_or plan n some_row).pixel
  one_part n part less there = let e : Some part ≡ Some (get_or plan n some_row).pixel = sym there ∙ got (λ (row : PlanRow). row.pixel) plan n some_row less in cc e

  -- a partition's task is one of the job's, and its number is below
  part_task : (kind n : ℕ) → 4 ≤ kind → kind ≤ 6 → n < length plan → Contains (done_of records) (task kind n)
  part_task kind n low high less = whole kind (omega (arith, low)) (omega (arith, high)) n (record {
    parts = pixels_of plan;
    are_parts = λ by. are;
    numbered = subst (λ (m : ℕ). n < m) (sym (count_by_parts (length job.inputs) (length (pixels_of plan)) kind low high)) (omega (arith, less, counted));
  })

  number_below : (kind : ℕ) → 4 ≤ kind → kind ≤ 6 → (r : Record) → Contains records r → r.task.kind ≡ kind → r.task.number < length plan
  number_below kind low high r among e =
      let is = (in_turn_from job [] (done_of records) r.task turn.follow (done_has records r among)).0 in
      let by : GoesByParts r.task.kind = (omega (arith, low, e), omega (arith, high, e)) in
      let same : length is.parts ≡ length plan = ap (length {A = Pixel}) (parts_same job is.parts (pixels_of plan) (is.are_parts by) are) ∙ counted in
      let l = is.numbered in
      let c = count_by_parts (length job.inputs) (length is.parts) r.task.kind by.0 by.1 in
      omega (arith, l, c, same)

  -- the rows of a partition's record, and of its margin's
  part_rows : (n : ℕ) → n < length plan → (r : Record) → Contains records r → r.task ≡ task 4 n → r.rows ≡ (get_or plan n some_row).count
  unfolding IsFileOf rows_in_file
  part_rows n less r among e =
      let has = turn.numbers r among in
      by has.bytes (subst (λ (t : Task). IsValue job t has.bytes) e has.value) (has.number ∙ ap (λ (t : Task). rows_told t has.bytes) e)
    where
      by : (bytes : List ℕ) → IsFileOf job bytes (file.Part n) → r.rows ≡ rows_in_file bytes (file.Part n) → r.rows ≡ (get_or plan n some_row).count
      by bytes v told =
          let here = of_these (λ rows p. OfPart p n (λ part. HasRows (partition_rows part rows) bytes)) v in
          let read = told ∙ ap (count_read (length {A = Row})) here.holds.read in
          let sorted = length_sorted (rows_in here.part all) in
          let part = ap (λ (p : Pixel). count_in p all) (one_part n here.part less here.there) in
          let count = cut.planned.partitions.counts n some_row less in
          omega (arith, read, sorted, part, count)

  margin_rows : (margins : List (List Row)) → AreMargins job.settings.margin_order all plan margins → (n : ℕ) → n < length plan → (r : Record) → Contains records r → r.task ≡ task 6 n → r.rows ≡ length (get_or margins n [])
  unfolding IsFileOf rows_in_file
  margin_rows margins margins_are n less r among e =
      let has = turn.numbers r among in
      by has.bytes (subst (λ (t : Task). IsValue job t has.bytes) e has.value) (has.number ∙ ap (λ (t : Task). rows_told t has.bytes) e)
    where
      by : (bytes : List ℕ) → IsFileOf job bytes (file.Margin n) → r.rows ≡ rows_in_file bytes (file.Margin n) → r.rows ≡ length (get_or margins n [])
      by bytes v told =
          let here = of_these (λ rows p. OfPart p n (IsMarginFile job rows bytes)) v in
          let found = here.holds in
          let read = told ∙ ap (count_read (length {A = Row})) found.file.read in
          let own = subst (λ (p : Pixel). AreMarginRows p job.settings.margin_order all found.margin) (one_part n here.part less here.there) found.are in
          read ∙ ap (length {A = Row}) (margin_once (get_or plan n some_row).pixel job.settings.margin_order all found.margin (get_or margins n []) own (margins_at job.settings.margin_order all plan margins n some_row margins_are less))

  few : length plan ≤ 100000
  few = let f = cut.planned.few in omega (arith, f)

  all_rows : sum_by (λ (row : PlanRow). row.count) plan ≡ length all
  all_rows = plan_counts (λ (p : Pixel). count_in p all) plan cut.planned.partitions.counts ∙ counts_of_all all (pixels_of plan) once

  all_few : length all ≤ 100000000000
  all_few =
      let bound = plan_bound plan (λ n d less.
      let count : (get_or plan n d).count ≡ count_in (get_or plan n d).pixel all = cut.planned.partitions.counts n d less in
      let there : Contains (pixels_of plan) (get_or plan n d).pixel = (n, omega (arith, less, counted), at_n n d less) in
      let most = ((cut.planned.partitions.partitions.exact (get_or plan n d).pixel).0 there).most in
      let top = limits.threshold_most in
      omega (arith, count, most, top)) in
      let f = few in
      omega (arith, bound, f, all_rows)
    where
      at_n : (n : ℕ) (d : PlanRow) → n < length plan → get_or (pixels_of plan) n (get_or plan n d).pixel ≡ (get_or plan n d).pixel
      at_n n d less = got_or plan n d less
        where
          got_or : (xs : List PlanRow) (n : ℕ) (d : PlanRow) → n < length xs → get_or (pixels_of xs) n (get_or xs n d).pixel ≡ (get_or xs n d).pixel
          got_or [] n d less = absurd (omega (arith, less))
          got_or (x ∷ xs) zero d less = refl
          got_or (x ∷ xs) (suc n) d less = got_or xs n d (omega (arith, less))

  -- so many rows, partitions and rows of margins are told
  pub rows_told_all : rows_of_kind 4 records ≡ length all
  rows_told_all =
      let listed = listed_sum 4 (λ (r : Record). r.rows) records plan (λ (row : PlanRow). row.count) some_row
      (λ n less. sum_once job 4 n (λ (r : Record). r.rows) [] records (get_or plan n some_row).count turn.follow (part_rows n less) (part_task 4 n (omega arith) (omega arith) less))
      (length plan) (omega arith) in
      let whole_sum = sum_whole 4 (λ (r : Record). r.rows) records (length plan) (number_below 4 (omega arith) (omega arith)) in
      let taken = ap (sum_by (λ (row : PlanRow). row.count)) (take_all (length plan) plan (omega arith)) in
      let a = all_rows in
      let f = all_few in
      omega (arith, listed, whole_sum, taken, a, f)

  sum_ones : (rs : List Record) → sum_by (λ (r : Record). 1) rs ≡ length rs
  sum_ones [] = refl
  sum_ones (r ∷ rs) = let a = sum_by-cons (λ (x : Record). 1) r rs in let rest = sum_ones rs in omega (arith, a, rest)

  sum_each : (xs : List PlanRow) → sum_by (λ (row : PlanRow). 1) xs ≡ length xs
  sum_each [] = refl
  sum_each (x ∷ xs) = let a = sum_by-cons (λ (row : PlanRow). 1) x xs in let rest = sum_each xs in omega (arith, a, rest)

  pub partitions_told : count_of_kind 4 records ≡ length plan
  partitions_told =
      let listed = listed_sum 4 (λ (r : Record). 1) records plan (λ (row : PlanRow). 1) some_row
      (λ n less. sum_once job 4 n (λ (r : Record). 1) [] records 1 turn.follow (λ r among e. refl) (part_task 4 n (omega arith) (omega arith) less))
      (length plan) (omega arith) in
      let whole_sum = sum_whole 4 (λ (r : Record). 1) records (length plan) (number_below 4 (omega arith) (omega arith)) in
      let taken = ap (sum_by (λ (row : PlanRow). 1)) (take_all (length plan) plan (omega arith)) in
      let ones = sum_ones (of_kind 4 records) in
      let each = sum_each plan in
      let f = few in
      omega (arith, listed, whole_sum, taken, ones, each, f)

  pub margin_told : (margins : List (List Row)) → AreMargins job.settings.margin_order all plan margins → rows_of_kind 6 records ≡ sum_by length margins
  margin_told margins margins_are =
      let bound = margins_bound job.settings.margin_order all plan margins all_few margins_are in
      let long = bound.1 in
      let most = bound.0 in
      let listed = listed_sum 6 (λ (r : Record). r.rows) records margins (length {A = Row}) []
      (λ n less. sum_once job 6 n (λ (r : Record). r.rows) [] records (length (get_or margins n [])) turn.follow (margin_rows margins margins_are n (omega (arith, less, long))) (part_task 6 n (omega arith) (omega arith) (omega (arith, less, long))))
      (length margins) (omega arith) in
      let whole_sum = sum_whole 6 (λ (r : Record). r.rows) records (length margins) (λ r among e. let l = number_below 6 (omega arith) (omega arith) r among e in omega (arith, l, long)) in
      let taken = ap (sum_by (length {A = Row})) (take_all (length margins) margins (omega arith)) in
      let f = few in
      omega (arith, listed, whole_sum, taken, most, f)

abbrev pub EachOnce : Type 0
EachOnce = (rows : List Row) (lowest highest threshold : ℕ) (pixels : List Pixel) → All (λ (row : Row). row.hp < 12 * 4 ^ 29) rows → lowest ≤ highest → highest ≤ 29
    → NothingOverfull (λ pixel. count_in pixel rows) highest threshold → ArePartitions (λ pixel. count_in pixel rows) lowest highest threshold pixels
    → All (λ (row : Row). length (holders_of row.hp pixels) ≡ 1) rows

pub numbers_told : EachOnce → (job : JobData) (records : List Record) → FitsLimits job.settings → AreInTurn job records → HasKindsBefore job (done_of records) 9
    → AreNumbers job (rows_of_kind 4 records) (count_of_kind 4 records) (rows_of_kind 6 records)
unfolding IsFileOf
numbers_told each_once job records limits turn whole =
    let (r, among, same) = done_from records properties_task (whole 8 (omega arith) (omega arith) 0 (properties_is job)) in
    let has = turn.numbers r among in
    of_value has.bytes (subst (λ (t : Task). IsValue job t has.bytes) same has.value)
  where
    of_value : (bytes : List ℕ) → IsFileOf job bytes file.Properties → AreNumbers job (rows_of_kind 4 records) (count_of_kind 4 records) (rows_of_kind 6 records)
    of_value bytes v =
        let good = (all_read (names_of job) (contents_of job) v.all v.cut.read).good in
        let lowest = limits.lowest in
        let highest = limits.highest in
        let once = each_once v.all job.settings.lowest job.settings.highest job.settings.threshold (pixels_of v.plan) (λ k d less. (good k d less).pixel) lowest (omega (arith, highest)) v.cut.planned.fits v.cut.planned.partitions.partitions in
        record {
          all = v.all;
          plan = v.plan;
          cut = v.cut;
          rows_are = rows_told_all job v.all v.plan v.cut limits records turn whole once;
          partitions_are = partitions_told job v.all v.plan v.cut limits records turn whole once;
          margin_is = margin_told job v.all v.plan v.cut limits records turn whole once;
        }
