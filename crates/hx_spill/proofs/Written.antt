-- What was written is there: numbers and entries at their places.
use Rattle.std.proofs.Common.{◌≡◌, ◌∙◌, ◌+◌, ◌*◌, ◌^◌, ◌<◌, ◌∷◌, ◌++◌, ◌&&◌, [], ℕ, List, Bool, true, false, Ok, length, drop, refl, sym, ap, arith, append_assoc, nat_lt}
use Rattle.std.specs.List.{All, AllPairs, flat_map}
use Rattle.std.proofs.Math.Seq.{drop-append_seam, get_or-append_seam}
use Rattle.std.proofs.lemmas.Bool.{le-ltb}
use Rattle.std.proofs.lemmas.Grind.{flat_map-append}
use Rattle.std.proofs.lemmas.List.{append-nil, get_or_append_left, length-append}
use Rattle.std.proofs.lemmas.List.Concat.{flat_map-cons}
use Rattle.byteorder.specs.Endian.{little_bytes, little_number}
use Rattle.byteorder.specs.Numbers.{length-bytes_low_first, little_number-reads_back}
use Rattle.hx_spill.specs.Items.{Read, each, item, number}
use Rattle.hx_spill.proofs.Each.{each-more, each-none}

pub both : (a b : Bool) → a ≡ true → b ≡ true → (a && b) ≡ true
both a b ha hb = rw (ha, hb) refl

pub length-little : (w n : ℕ) → length (little_bytes w n) ≡ w
length-little w n = length-bytes_low_first 0 w n

-- an item whose value is known behind some bytes
pub item_there : {X : Type 0} (width : ℕ) (value : List ℕ → X) (keeps : X → Bool) (x : X) (place : ℕ) (front text rest bytes : List ℕ)
    → bytes ≡ front ++ (text ++ rest) → place ≡ length front → length text ≡ width → value (text ++ rest) ≡ x → keeps x ≡ true → item width value keeps place bytes ≡ Ok x
item_there width value keeps x place front text rest bytes is at long reads keep =
    let size : length bytes ≡ length front + (width + length rest) = ap length is ∙ length-append front (text ++ rest) ∙ ap (λ n. length front + n) (length-append text rest ∙ ap (λ n. n + length rest) long) in
    let enough : nat_lt (length bytes) (place + width) ≡ false = le-ltb (length bytes) (place + width) (omega (arith, size, at)) in
    let here : value (drop place bytes) ≡ x = ap (λ n. value (drop n bytes)) at ∙ ap (λ (bs : List ℕ). value (drop (length front) bs)) is ∙ ap value (drop-append_seam front (text ++ rest)) ∙ reads in
    rw (enough, here, keep) refl

pub number_there : (w n place : ℕ) (keeps : ℕ → Bool) (front rest bytes : List ℕ) → bytes ≡ front ++ (little_bytes w n ++ rest) → place ≡ length front → n < 256 ^ w → keeps n ≡ true
    → number w keeps place bytes ≡ Ok n
number_there w n place keeps front rest bytes is at fits keep =
    item_there w (little_number w) keeps n place front (little_bytes w n) rest bytes is at (length-little w n) (little_number-reads_back w n rest fits) keep

module _ {X : Type 0} (entry : List X → Read X) where
  from : (xs done todo : List X) → ((before : List X) (x : X) (after : List X) → xs ≡ before ++ x ∷ after → entry before ≡ Ok x) → xs ≡ done ++ todo
      → each (length done) entry ≡ Ok done → each (length xs) entry ≡ Ok xs
  from xs done [] there is read = let same : xs ≡ done = is ∙ append-nil done in rw same read
  from xs done (x ∷ todo) there is read =
      let longer : length (done ++ x ∷ []) ≡ length done + 1 = length-append done (x ∷ []) in
      from xs (done ++ x ∷ []) todo there (is ∙ sym (append_assoc done (x ∷ []) todo)) (rw longer (each-more entry (length done) done x read (there done x todo is)))

  -- entries that are there are read
  pub each-there : (xs : List X) → ((before : List X) (x : X) (after : List X) → xs ≡ before ++ x ∷ after → entry before ≡ Ok x) → each (length xs) entry ≡ Ok xs
  each-there xs there = from xs [] xs there refl (each-none entry)

module _ {X : Type 0} (bytes_of : X → List ℕ) (width : ℕ) (wide : (x : X) → length (bytes_of x) ≡ width) where
  pub length-entries : (xs : List X) → length (flat_map bytes_of xs) ≡ width * length xs
  length-entries [] = omega arith
  length-entries (x ∷ xs) = ap length (flat_map-cons bytes_of x xs) ∙ length-append (bytes_of x) (flat_map bytes_of xs) ∙ omega (arith, wide x, length-entries xs)

  -- where an entry stands
  pub place_there : (head : List ℕ) (before : List X) → length (head ++ flat_map bytes_of before) ≡ length head + width * length before
  place_there head before = length-append head (flat_map bytes_of before) ∙ ap (λ n. length head + n) (length-entries before)

pub entry_there : {X : Type 0} (bytes_of : X → List ℕ) (head : List ℕ) (before : List X) (x : X) (after : List X) (rest : List ℕ)
    → (head ++ flat_map bytes_of (before ++ x ∷ after)) ++ rest ≡ (head ++ flat_map bytes_of before) ++ (bytes_of x ++ (flat_map bytes_of after ++ rest))
entry_there bytes_of head before x after rest =
    ap (λ (ys : List ℕ). (head ++ ys) ++ rest) (flat_map-append bytes_of before (x ∷ after) ∙ ap (λ (ys : List ℕ). flat_map bytes_of before ++ ys) (flat_map-cons bytes_of x after))
    ∙ ap (λ (ys : List ℕ). ys ++ rest) (sym (append_assoc head (flat_map bytes_of before) (bytes_of x ++ flat_map bytes_of after)))
    ∙ append_assoc (head ++ flat_map bytes_of before) (bytes_of x ++ flat_map bytes_of after) rest
    ∙ ap (λ (ys : List ℕ). (head ++ flat_map bytes_of before) ++ ys) (append_assoc (bytes_of x) (flat_map bytes_of after) rest)

-- what holds between each element and each later one holds of those before one
pub all_before : {X : Type 0} (R : X → X → Type 0) (xs before : List X) (x : X) (after : List X) → xs ≡ before ++ x ∷ after → AllPairs R xs → All (λ other. R other x) before
all_before R xs before x after is pairs k d within =
    let all : AllPairs R (before ++ x ∷ after) = rw is at pairs in
    let long : length before < length (before ++ x ∷ after) = omega (arith, length-append before (x ∷ after)) in
    rw (get_or_append_left before (x ∷ after) d k within, get_or-append_seam before x after d) at (all k (length before) d within long)

-- and what holds of each holds of it
pub all_at : {X : Type 0} (P : X → Type 0) (xs before : List X) (x : X) (after : List X) → xs ≡ before ++ x ∷ after → All P xs → P x
all_at P xs before x after is each =
    let all : All P (before ++ x ∷ after) = rw is at each in
    let long : length before < length (before ++ x ∷ after) = omega (arith, length-append before (x ∷ after)) in
    rw (get_or-append_seam before x after x) at (all (length before) x long)
