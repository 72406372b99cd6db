-- Rows of a plan that come by ascending pixels.
use Rattle.std.proofs.Common.{◌≡◌, ◌∙◌, ◌+◌, ◌*◌, ◌^◌, ◌<◌, ◌≤◌, ◌∷◌, ◌++◌, ◌&&◌, ◌==◌, [], ℕ, List, Bool, true, Ok, length, map, refl, sym, ap, arith, append_assoc, get_or, nat_le, nat_lt}
use Rattle.std.specs.List.{All, AllPairs, flat_map, list_all}
use Rattle.std.specs.Prelude.{codes}
use Rattle.byteorder.specs.Endian.{little_bytes, little_number}
use Rattle.std.proofs.Math.Nat.{pow-le-pow_right}
use Rattle.std.proofs.Math.Path.{fun_ext}
use Rattle.std.proofs.lemmas.Bool.{le-leb, leb-true, lt-ltb}
use Rattle.std.proofs.lemmas.List.{append-nil, length-append, map-append}
use Rattle.std.proofs.lemmas.List.Elements.{All-append}
use Rattle.std.proofs.lemmas.List.Folds.{list_all-map}
use Rattle.std.proofs.lemmas.List.Quantifiers.{all_pairs_push}
use Rattle.std.proofs.lemmas.List.Sums.{AllPass-from_list_all, list_all-from_AllPass}
use Rattle.hx_base.specs.Limits.{highest_order, most_in_partition, most_partitions}
use Rattle.hx_base.specs.Pixels.{IsPixel, end_position, first_position}
use Rattle.hx_base.specs.declared.pixel.Pixel.{Pixel}
use Rattle.hx_align.specs.Plans.{IsPlanRow, pixels_of}
use Rattle.hx_align.specs.declared.plan.PlanRow.{PlanRow}
use Rattle.hx_spill.specs.Items.{each, mark}
use Rattle.hx_spill.specs.Plans.{bytes_of_plan, bytes_of_row, head_of_plan, place_of_row, plan_in, row_at, row_behind}
use Rattle.hx_spill.proofs.Each.{each-length, ends-more}
use Rattle.hx_spill.proofs.Written.{all_at, all_before, both, each-there, entry_there, item_there, number_there, place_there}

-- what comes behind some rows is what begins where the last of them ends
pub same_row : (n least at : ℕ) (bytes : List ℕ) (rows : List PlanRow) → each n (row_behind bytes) ≡ Ok rows → at ≡ place_of_row n
    → ((p : ℕ) → list_all (λ other. nat_le (end_position other.pixel) p) rows ≡ nat_le least p) → row_behind bytes rows ≡ row_at (λ p. nat_le least p) at bytes
same_row n least at bytes rows read place below =
    let number = each-length (row_behind bytes) n rows read in
    let here : place_of_row (length rows) ≡ at = omega (arith, number, place) in
    ap (λ (keeps : ℕ → Bool). row_at keeps (place_of_row (length rows)) bytes) (fun_ext below) ∙ ap (λ (p : ℕ). row_at (λ q. nat_le least q) p bytes) here

pub next_below : (rows : List PlanRow) (row : PlanRow) (least : ℕ) → least ≤ end_position row.pixel → ((p : ℕ) → list_all (λ other. nat_le (end_position other.pixel) p) rows ≡ nat_le least p)
    → (p : ℕ) → list_all (λ other. nat_le (end_position other.pixel) p) (rows ++ row ∷ []) ≡ nat_le (end_position row.pixel) p
next_below rows row least le below = ends-more (λ (other : PlanRow) p. nat_le (end_position other.pixel) p) (λ other. end_position other.pixel) (λ x p. refl) rows row least le below

pub next_ascends : (rows : List PlanRow) (row : PlanRow) (least : ℕ) → least ≤ first_position row.pixel → ((p : ℕ) → list_all (λ other. nat_le (end_position other.pixel) p) rows ≡ nat_le least p)
    → AllPairs (λ a b. end_position a ≤ first_position b) (pixels_of rows) → AllPairs (λ a b. end_position a ≤ first_position b) (pixels_of (rows ++ row ∷ []))
next_ascends rows row least le below ascend =
    let test = λ (pixel : Pixel). nat_le (end_position pixel) (first_position row.pixel) in
    let all : list_all test (pixels_of rows) ≡ true = list_all-map test (λ (r : PlanRow). r.pixel) rows ∙ below (first_position row.pixel) ∙ le-leb least (first_position row.pixel) le in
    let behind : (k : ℕ) (d : Pixel) → k < length (pixels_of rows) → end_position (get_or (pixels_of rows) k d) ≤ first_position row.pixel = λ k d within. leb-true _ _ (AllPass-from_list_all test (pixels_of rows) all k d within) in
    rw (map-append (λ (r : PlanRow). r.pixel) rows (row ∷ [])) (all_pairs_push (λ a b. end_position a ≤ first_position b) (pixels_of rows) row.pixel ascend behind)

pub next_all : {X : Type 0} (P : X → Type 0) (xs : List X) (x : X) → P x → All P xs → All P (xs ++ x ∷ [])
next_all P xs x is all = All-append P xs (x ∷ []) all (λ k d within. let first : k ≡ 0 = omega (arith, within) in rw first is)

pub next_each : {X Y : Type 0} (P : Y → Type 0) (f : X → Y) (xs : List X) (x : X) → P (f x) → All P (map f xs) → All P (map f (xs ++ x ∷ []))
next_each P f xs x is all = rw (map-append f xs (x ∷ [])) (next_all P (map f xs) (f x) is all)

length-row : (row : PlanRow) → length (bytes_of_row row) ≡ 20
length-row row = refl

row_there : (keeps : ℕ → Bool) (place : ℕ) (front rest bytes : List ℕ) (row : PlanRow) → bytes ≡ front ++ (bytes_of_row row ++ rest) → place ≡ length front
    → IsPixel row.pixel → IsPlanRow row → keeps (first_position row.pixel) ≡ true → row_at keeps place bytes ≡ Ok row
unfolding row_at
row_there keeps place front rest bytes row is at exists fits keep =
    let order = little_bytes 4 row.pixel.order in
    let pixel = little_bytes 8 row.pixel.number in
    let count = little_bytes 8 row.count in
    let bound : 4 ^ row.pixel.order ≤ 4 ^ 29 = pow-le-pow_right {n = 4} (omega arith) {i = row.pixel.order} {j = 29} exists.order in
    let first : bytes ≡ front ++ (order ++ (pixel ++ (count ++ rest))) = is in
    let second : bytes ≡ (front ++ order) ++ (pixel ++ (count ++ rest)) = first ∙ sym (append_assoc front order (pixel ++ (count ++ rest))) in
    let third : bytes ≡ (front ++ order ++ pixel) ++ (count ++ rest) = second ∙ sym (append_assoc (front ++ order) pixel (count ++ rest)) in
    let four = length-append front order in
    let eight = length-append (front ++ order) pixel in
    let low : row.pixel.order ≤ 20 = fits.order in
    let most : row.count ≤ 1000000 = fits.most in
    rw (
      number_there 4 row.pixel.order place (λ k. nat_le k highest_order) front (pixel ++ (count ++ rest)) bytes first at (omega (arith, low)) (le-leb _ _ low),
      number_there 8 row.pixel.number (place + 4) (λ p. nat_lt p (12 * 4 ^ row.pixel.order) && keeps (first_position (record { order = row.pixel.order; number = p }))) (front ++ order) (count ++ rest) bytes
          second (omega (arith, at, four)) (omega (arith, bound, exists.number)) (both _ _ (lt-ltb _ _ exists.number) keep),
      number_there 8 row.count (place + 12) (λ n. nat_le 1 n && nat_le n most_in_partition) (front ++ order ++ pixel) rest bytes third (omega (arith, at, four, eight)) (omega (arith, most)) (both _ _ (le-leb _ _ fits.least) (le-leb _ _ most)),
    )
    refl

rows_there : (head bytes : List ℕ) (rows : List PlanRow) → All IsPixel (pixels_of rows) → All IsPlanRow rows → AllPairs (λ a b. end_position a ≤ first_position b) (pixels_of rows) → length head ≡ 12
    → bytes ≡ head ++ flat_map bytes_of_row rows → each (length rows) (row_behind bytes) ≡ Ok rows
rows_there head bytes rows exist fit ascend long at =
    each-there (row_behind bytes) rows (λ before row after split.
    let here = ap (λ (rs : List PlanRow). head ++ flat_map bytes_of_row rs) split in
    let stands : bytes ≡ (head ++ flat_map bytes_of_row before) ++ (bytes_of_row row ++ (flat_map bytes_of_row after ++ [])) = at ∙ here ∙ sym (append-nil _) ∙ entry_there bytes_of_row head before row after [] in
    let place : place_of_row (length before) ≡ length (head ++ flat_map bytes_of_row before) = omega (arith, place_there bytes_of_row 20 length-row head before, long) in
    let pixels : pixels_of rows ≡ pixels_of before ++ row.pixel ∷ pixels_of after = ap pixels_of split ∙ map-append (λ (r : PlanRow). r.pixel) before (row ∷ after) in
    let below = all_before (λ a b. end_position a ≤ first_position b) (pixels_of rows) (pixels_of before) row.pixel (pixels_of after) pixels ascend in
    let test = λ (pixel : Pixel). nat_le (end_position pixel) (first_position row.pixel) in
    let all : list_all (λ other. nat_le (end_position other.pixel) (first_position row.pixel)) before ≡ true =
    sym (list_all-map test (λ (r : PlanRow). r.pixel) before) ∙ list_all-from_AllPass test (pixels_of before) (λ k d within. le-leb _ _ (below k d within)) in
    row_there (λ p. list_all (λ other. nat_le (end_position other.pixel) p) before) (place_of_row (length before)) _ _ bytes row stands place
    (all_at IsPixel (pixels_of rows) (pixels_of before) row.pixel (pixels_of after) pixels exist) (all_at IsPlanRow rows before row after split fit) all)

-- a plan reads back
pub plan_there : (rows : List PlanRow) → All IsPixel (pixels_of rows) → All IsPlanRow rows → AllPairs (λ a b. end_position a ≤ first_position b) (pixels_of rows) → length rows ≤ most_partitions → plan_in (bytes_of_plan rows) ≡ Ok rows
unfolding plan_in
plan_there rows exist fit ascend few =
    let word = codes "HXP1" in
    let n = little_bytes 8 (length rows) in
    let bytes = bytes_of_plan rows in
    let entries = flat_map bytes_of_row rows in
    let size : length (head_of_plan rows) ≡ 12 = refl in
    let ends : nat_le (length bytes) (place_of_row (length rows)) ≡ true = le-leb _ _ (omega (arith, size, place_there bytes_of_row 20 length-row (head_of_plan rows) rows)) in
    let marked : mark word bytes ≡ Ok (little_number 4 word) = item_there 4 (little_number 4) (λ found. found == little_number 4 word) (little_number 4 word) 0 [] word (n ++ entries) bytes refl refl refl refl refl in
    rw (
      marked,
      number_there 8 (length rows) 4 (λ k. nat_le k most_partitions) word entries bytes refl refl (omega (arith, few)) (le-leb _ _ few),
      rows_there (head_of_plan rows) bytes rows exist fit ascend size refl,
      ends,
    )
    refl
