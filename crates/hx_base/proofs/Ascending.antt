-- Lists that ascend by a key, and an element put into one at the index of its key.
use Rattle.std.proofs.Common.{◌≡◌, ◌≢◌, ◌∙◌, ◌+◌, ◌-◌, ◌<◌, ◌≤◌, ℕ, List, length, get_or, ap, arith, inl, inr}
use Rattle.std.specs.List.{AllPairs, AllWithin, insert}
use Rattle.std.specs.List.Sorted.{IsNonDecreasingBy}
use Rattle.std.proofs.lemmas.Bool.{cases_eq, cases_order}
use Rattle.std.proofs.lemmas.List.Edits.{length-insert, get_or-insert_below, get_or-insert_at, get_or-insert_above}

-- where an element of a key may go in: the keys before the index are below it, and those from there on are above
pub record IsIndexFor {X : Type 0} (f : X → ℕ) (key i : ℕ) (xs : List X) : Type 0 where
  pub within : i ≤ length xs
  pub before : AllWithin (λ x. f x < key) xs 0 i
  pub after : AllWithin (λ x. key < f x) xs i (length xs)

module _ {X : Type 0} (f : X → ℕ) where
  abbrev pub Ascends : List X → Type 0
  Ascends xs = AllPairs (λ a b. f a < f b) xs

  -- keys that ascend do not descend
  pub ascends_is_nondecreasing : (xs : List X) → Ascends xs → IsNonDecreasingBy f xs
  ascends_is_nondecreasing xs up = λ i j d le within.
      elim (cases_eq i j) [
        | inl h ↦ rw h (omega arith)
        | inr h ↦ omega (arith, up i j d (omega arith) within)
      ]

  -- from an index on where the first key is another one, no key is below it only if all are above
  pub strictly_above : (key i : ℕ) (xs : List X) → Ascends xs → AllWithin (λ x. key ≤ f x) xs i (length xs) → ((d : X) → i < length xs → f (get_or xs i d) ≢ key) → AllWithin (λ x. key < f x) xs i (length xs)
  strictly_above key i xs up after other = λ k d lo hi.
      let least = after i d (omega arith) (omega arith) in
      let off = other d (omega arith) in
      elim (cases_eq k i) [
        | inl at ↦ rw at (let more : key < f (get_or xs i d) = omega arith in more)
        | inr past ↦ omega (arith, up i k d (omega arith) hi)
      ]

  -- the index of the first key that is not below, where it is another one or the end
  pub is_index_for : (key i : ℕ) (xs : List X) → Ascends xs → i ≤ length xs → AllWithin (λ x. f x < key) xs 0 i → AllWithin (λ x. key ≤ f x) xs i (length xs) → ((d : X) → i < length xs → f (get_or xs i d) ≢ key) → IsIndexFor f key i xs
  is_index_for key i xs up within before after other = record {
    within = within;
    before = before;
    after = strictly_above key i xs up after other;
  }

  behind : (xs : List X) (i : ℕ) (y d : X) (k : ℕ) → i < k → i ≤ length xs → get_or (insert xs i y) k d ≡ get_or xs (k - 1) d
  behind xs i y d k past within =
      let e : k ≡ k - 1 + 1 = omega arith in
      ap (λ j. get_or (insert xs i y) j d) e ∙ get_or-insert_above xs i y d (k - 1) (omega arith) within

  -- an ascending list stays so when an element is put in at the index of its key
  pub ascends-insert : (y : X) (i : ℕ) (xs : List X) → IsIndexFor f (f y) i xs → Ascends xs → Ascends (insert xs i y)
  ascends-insert y i xs here up = λ k m d lo hi.
      let longer = length-insert xs i y here.within in
      elim (cases_order k i) [
        | inl at ↦ rw (at, get_or-insert_at xs i y d here.within, behind xs i y d m (omega arith) here.within) (here.after (m - 1) d (omega arith) (omega arith))
        | inr (inl low) ↦
            elim (cases_order m i) [
              | inl at ↦ rw (at, get_or-insert_below xs i y d k low here.within, get_or-insert_at xs i y d here.within) (here.before k d (omega arith) low)
              | inr (inl low2) ↦ rw (get_or-insert_below xs i y d k low here.within, get_or-insert_below xs i y d m low2 here.within) (up k m d lo (omega arith))
              | inr (inr high) ↦ rw (get_or-insert_below xs i y d k low here.within, behind xs i y d m high here.within) (up k (m - 1) d (omega arith) (omega arith))
            ]
        | inr (inr high) ↦ rw (behind xs i y d k high here.within, behind xs i y d m (omega arith) here.within) (up (k - 1) (m - 1) d (omega arith) (omega arith))
      ]
