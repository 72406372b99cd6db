-- Pairs that come by ascending pixels.
use Rattle.std.proofs.Common.{◌≡◌, ◌∙◌, ◌+◌, ◌*◌, ◌^◌, ◌<◌, ◌≤◌, ◌∷◌, ◌++◌, ◌==◌, [], ℕ, List, length, sym, ap, arith, refl, append_assoc, ◌&&◌, nat_le, nat_lt, Bool, true, Option, Some, None, Ok}
use Rattle.std.specs.List.{All, flat_map, list_all}
use Rattle.std.specs.Prelude.{codes}
use Rattle.byteorder.specs.Endian.{little_bytes, little_number}
use Rattle.hx_base.specs.Limits.{most_rows}
use Rattle.std.proofs.lemmas.List.{append-nil, length-append}
use Rattle.std.specs.Prelude.{IsSome}
use Rattle.std.proofs.Math.Nat.{pow-le-pow_right}
use Rattle.std.proofs.Math.Path.{fun_ext}
use Rattle.std.proofs.lemmas.Bool.{eq-eqb, le-leb, lt-ltb, ltb-true}
use Rattle.std.proofs.lemmas.List.Sums.{AllPass-from_list_all, get_or-le-sum_by, list_all-from_AllPass}
use Rattle.std.proofs.lemmas.Bool.Decides.{nat_tests}
use Rattle.hx_hist.specs.Histograms.{Histogram, IsHistogram, total_of}
use Rattle.hx_spill.specs.Items.{each, mark}
use Rattle.hx_spill.specs.Maps.{AreCounted, bytes_of_map, bytes_of_pair, head_of_map, map_in, pair_at, pair_behind, place_of_pair}
use Rattle.hx_spill.proofs.Each.{each-length, ends-more}
use Rattle.hx_spill.proofs.Written.{all_at, all_before, both, each-there, entry_there, length-little, item_there, number_there, place_there}
use Rattle.hx_hist.specs.declared.hist.Pair.{Pair}

-- what comes behind some pairs is what begins at their greatest pixel's next
pub same_entry : (order n least at : ℕ) (bytes : List ℕ) (pairs : List Pair) → each n (pair_behind order bytes) ≡ Ok pairs → at ≡ place_of_pair n
    → ((p : ℕ) → list_all (λ other. nat_lt other.pixel p) pairs ≡ nat_le least p) → pair_behind order bytes pairs ≡ pair_at order (λ p. nat_le least p) at bytes
same_entry order n least at bytes pairs read place below =
    let number = each-length (pair_behind order bytes) n pairs read in
    let here : place_of_pair (length pairs) ≡ at = omega (arith, number, place) in
    ap (λ (keeps : ℕ → Bool). pair_at order keeps (place_of_pair (length pairs)) bytes) (fun_ext below) ∙ ap (λ (p : ℕ). pair_at order (λ q. nat_le least q) p bytes) here

above : (pairs : List Pair) (pixel : ℕ) → list_all (λ other. nat_lt other.pixel pixel) pairs ≡ true → All (λ other. other.pixel < pixel) pairs
above pairs pixel all = λ k d within. ltb-true _ _ (AllPass-from_list_all (λ other. nat_lt other.pixel pixel) pairs all k d within)

-- pairs that are kept are all pairs
pub kept_below : (rows least pixel : ℕ) (pairs kept : List Pair) (left : Option ℕ) → AreCounted rows pairs left kept → ((p : ℕ) → list_all (λ other. nat_lt other.pixel p) pairs ≡ nat_le least p)
    → least ≤ pixel → IsSome left → All (λ other. other.pixel < pixel) kept
kept_below rows least pixel pairs kept (Some left) counted below le some = rw counted.0 (above pairs pixel (below pixel ∙ le-leb least pixel le))
kept_below rows least pixel pairs kept None counted below le some = cc some

pub next_below : (pairs : List Pair) (pair : Pair) (least : ℕ) → least ≤ pair.pixel → ((p : ℕ) → list_all (λ other. nat_lt other.pixel p) pairs ≡ nat_le least p)
    → (p : ℕ) → list_all (λ other. nat_lt other.pixel p) (pairs ++ pair ∷ []) ≡ nat_le (pair.pixel + 1) p
next_below pairs pair least le below = ends-more (λ other p. nat_lt other.pixel p) (λ other. other.pixel + 1) (λ x p. grind (arith, nat_tests)) pairs pair least (omega arith) below

length-pair : (pair : Pair) → length (bytes_of_pair pair) ≡ 16
length-pair pair = length-append (little_bytes 8 pair.pixel) (little_bytes 8 pair.count) ∙ omega (arith, length-little 8 pair.pixel, length-little 8 pair.count)

pair_there : (order : ℕ) (keeps : ℕ → Bool) (place : ℕ) (front rest bytes : List ℕ) (pair : Pair) → bytes ≡ front ++ (bytes_of_pair pair ++ rest) → place ≡ length front
    → pair.pixel < 12 * 4 ^ order → keeps pair.pixel ≡ true → 0 < pair.count → pair.pixel < 2 ^ 64 → pair.count < 2 ^ 64 → pair_at order keeps place bytes ≡ Ok pair
unfolding pair_at
pair_there order keeps place front rest bytes pair is at within keep some pixel_fits count_fits =
    let pixel = little_bytes 8 pair.pixel in
    let count = little_bytes 8 pair.count in
    let first : bytes ≡ front ++ (pixel ++ (count ++ rest)) = is ∙ ap (λ (ys : List ℕ). front ++ ys) (append_assoc pixel count rest) in
    let second : bytes ≡ (front ++ pixel) ++ (count ++ rest) = first ∙ sym (append_assoc front pixel (count ++ rest)) in
    let next : place + 8 ≡ length (front ++ pixel) = omega (arith, at, length-append front pixel, length-little 8 pair.pixel) in
    rw (
      number_there 8 pair.pixel place (λ p. nat_lt p (12 * 4 ^ order) && keeps p) front (count ++ rest) bytes first at pixel_fits (both _ _ (lt-ltb _ _ within) keep),
      number_there 8 pair.count (place + 8) (λ n. nat_lt 0 n) (front ++ pixel) rest bytes second next count_fits (lt-ltb 0 pair.count some),
    )
    refl

pairs_there : (order : ℕ) (head bytes : List ℕ) (pairs : List Pair) → order ≤ 29 → IsHistogram order pairs → total_of pairs < 2 ^ 64 → length head ≡ 24 → bytes ≡ head ++ flat_map bytes_of_pair pairs
    → each (length pairs) (pair_behind order bytes) ≡ Ok pairs
pairs_there order head bytes pairs low is total long at =
    each-there (pair_behind order bytes) pairs (λ before pair after split.
    let here = ap (λ (ps : List Pair). head ++ flat_map bytes_of_pair ps) split in
    let stands : bytes ≡ (head ++ flat_map bytes_of_pair before) ++ (bytes_of_pair pair ++ (flat_map bytes_of_pair after ++ [])) = at ∙ here ∙ sym (append-nil _) ∙ entry_there bytes_of_pair head before pair after [] in
    let place : place_of_pair (length before) ≡ length (head ++ flat_map bytes_of_pair before) = omega (arith, place_there bytes_of_pair 16 length-pair head before, long) in
    let below = all_before (λ a b. a.pixel < b.pixel) pairs before pair after split is.ascending in
    let all : list_all (λ other. nat_lt other.pixel pair.pixel) before ≡ true = list_all-from_AllPass _ before (λ k d within. lt-ltb _ _ (below k d within)) in
    let within = all_at (λ x. x.pixel < 12 * 4 ^ order) pairs before pair after split is.range in
    let count : pair.count ≤ total_of pairs = all_at (λ x. x.count ≤ total_of pairs) pairs before pair after split (λ k d lt. get_or-le-sum_by (λ (x : Pair). x.count) pairs k d lt) in
    let bound : 4 ^ order ≤ 4 ^ 29 = pow-le-pow_right {n = 4} (omega arith) {i = order} {j = 29} low in
    pair_there order (λ p. list_all (λ other. nat_lt other.pixel p) before) (place_of_pair (length before)) _ _ bytes pair stands place within all
    (all_at (λ x. 0 < x.count) pairs before pair after split is.counted) (omega (arith, within, bound)) (omega (arith, count, total)))

-- a map reads back
pub map_there : (hist : Histogram) → hist.order ≤ 29 → IsHistogram hist.order hist.pairs → total_of hist.pairs ≤ most_rows → length hist.pairs < 2 ^ 64 → map_in (bytes_of_map hist) ≡ Ok hist
unfolding map_in
map_there hist low is total long =
    let word = codes "HXM1" in
    let order = little_bytes 4 hist.order in
    let rows = little_bytes 8 (total_of hist.pairs) in
    let n = little_bytes 8 (length hist.pairs) in
    let pairs = flat_map bytes_of_pair hist.pairs in
    let bytes = bytes_of_map hist in
    let size : length (head_of_map hist) ≡ 24 = refl in
    let ends : nat_le (length bytes) (place_of_pair (length hist.pairs)) ≡ true = le-leb _ _ (omega (arith, size, place_there bytes_of_pair 16 length-pair (head_of_map hist) hist.pairs)) in
    let marked : mark word bytes ≡ Ok (little_number 4 word) = item_there 4 (little_number 4) (λ found. found == little_number 4 word) (little_number 4 word) 0 [] word (order ++ (rows ++ (n ++ pairs))) bytes refl refl refl refl refl in
    rw (
      marked,
      number_there 4 hist.order 4 (λ k. nat_le k 29) word (rows ++ (n ++ pairs)) bytes refl refl (omega (arith, low)) (le-leb _ _ low),
      number_there 8 (total_of hist.pairs) 8 (λ k. nat_le k most_rows) (word ++ order) (n ++ pairs) bytes refl refl (omega (arith, total)) (le-leb _ _ total),
      number_there 8 (length hist.pairs) 16 (λ _. true) (word ++ order ++ rows) pairs bytes refl refl long refl,
      pairs_there hist.order (head_of_map hist) bytes hist.pairs low is (omega (arith, total)) size refl,
      ends,
      eq-eqb (total_of hist.pairs) (total_of hist.pairs) refl,
    )
    refl
