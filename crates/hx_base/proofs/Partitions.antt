-- Partitions: no two share a position, each row is in one, and what a list of them rests on.
use Rattle.std.proofs.Common.{◌≡◌, ◌∙◌, ◌+◌, ◌-◌, ◌*◌, ◌/◌, ◌^◌, ◌<◌, ◌≤◌, ◌==◌, ◌∷◌, [], ℕ, List, Bool, zero, suc, length, refl, sym, ap, arith, inl, inr, ◌⊎◌, get_or, subst}
use Rattle.std.specs.List.{AllPairs, Contains}
use Rattle.std.proofs.lemmas.Bool.{cases_eq, cases_lt, cases_order, eq-eqb, ne_eqb}
use Rattle.std.proofs.lemmas.List.Elements.{All-contains_itself}
use Rattle.std.proofs.lemmas.Nat.{pow-add}
use Rattle.std.proofs.Math.Nat.{div-div-eq-div-mul}
use Rattle.hx_base.specs.declared.pixel.Pixel.{Pixel}
use Rattle.hx_base.specs.Pixels.{IsPixel, LiesIn, HoldsPosition, AreDisjoint, AreDisjointInOrder, first_position, pixel_of}
use Rattle.hx_base.specs.Partitions.{ArePartitions, IsPartition, IsOverfull, IsFirstOverfull, NothingOverfull, holders_of, parent}
use Rattle.hx_base.proofs.Powers.{parent_below, pixel_below}

-- ancestors of ancestors
pub up_again : (n j k position : ℕ) → k ≤ j → j ≤ n → position / 4 ^ (n - j) / 4 ^ (j - k) ≡ position / 4 ^ (n - k)
up_again n j k position kj jn =
    let e : n - j + (j - k) ≡ n - k = omega arith in
    div-div-eq-div-mul position (4 ^ (n - j)) (4 ^ (j - k)) ∙ ap (λ (d : ℕ). position / d) (sym (pow-add 4 (n - j) (j - k)) ∙ ap (λ (m : ℕ). 4 ^ m) e)

pub parent_up : (j k number : ℕ) → k < j → number / 4 / 4 ^ (j - 1 - k) ≡ number / 4 ^ (j - k)
parent_up j k number lt =
    let e : 1 + (j - 1 - k) ≡ j - k = omega arith in
    div-div-eq-div-mul number (4 ^ 1) (4 ^ (j - 1 - k)) ∙ ap (λ (d : ℕ). number / d) (sym (pow-add 4 1 (j - 1 - k)) ∙ ap (λ (m : ℕ). 4 ^ m) e)

pub parent_exists : (pixel : Pixel) → 0 < pixel.order → IsPixel pixel → IsPixel (parent pixel)
parent_exists pixel some h = record {
  order = omega (arith, h.order);
  number =
      let e : pixel.order - (pixel.order - 1) ≡ 1 = omega arith in
      let below = parent_below pixel.number pixel.order (pixel.order - 1) (omega arith) h.number in
      subst (λ (m : ℕ). pixel.number / 4 ^ m < 12 * 4 ^ (pixel.order - 1)) e below;
}

-- what a pixel holds, each pixel holds that it lies in
pub holds_outer : (inner outer : Pixel) (position : ℕ) → inner.order ≤ 29 → LiesIn inner outer → HoldsPosition inner position → HoldsPosition outer position
unfolding pixel_of
holds_outer inner outer position within lies holds =
    sym (up_again 29 inner.order outer.order position lies.order within) ∙ ap (λ (n : ℕ). n / 4 ^ (inner.order - outer.order)) holds ∙ lies.number

-- of two pixels of different orders that hold a position, the finer one's parent lies in the other
pub lies_in_holder : (outer inner : Pixel) (position : ℕ) → outer.order < inner.order → inner.order ≤ 29 → HoldsPosition outer position → HoldsPosition inner position → LiesIn (parent inner) outer
unfolding pixel_of
lies_in_holder outer inner position lt within holds_outer holds_inner = record {
  order = omega arith;
  number =
      parent_up inner.order outer.order inner.number lt
      ∙ ap (λ (n : ℕ). n / 4 ^ (inner.order - outer.order)) (sym holds_inner)
      ∙ up_again 29 inner.order outer.order position (omega arith) within ∙ holds_outer;
}

-- a pixel has as many rows as each one that lies in it, or more
pub record IsMonotone (highest : ℕ) (count : Pixel → ℕ) : Type 0 where
  pub grows : (inner outer : Pixel) → IsPixel inner → inner.order ≤ highest → LiesIn inner outer → count inner ≤ count outer

module _ (count : Pixel → ℕ) (lowest highest threshold : ℕ) (grows : IsMonotone highest count) where
  below_a_partition : (outer inner : Pixel) (position : ℕ) → IsPartition count lowest highest threshold outer → IsPartition count lowest highest threshold inner → outer.order < inner.order
      → HoldsPosition outer position → HoldsPosition inner position → ⊥
  below_a_partition outer inner position a b lt holds_outer holds_inner =
      elim b.largest [
        | inl least ↦ absurd (omega (arith, a.not_lower, least))
        | inr more ↦
            let lies = lies_in_holder outer inner position lt b.exists.order holds_outer holds_inner in
            let fewer = grows.grows (parent inner) outer (parent_exists inner (omega arith) b.exists) (omega (arith, b.not_higher)) lies in
            absurd (omega (arith, fewer, more, a.most))
      ]

  pub two_partitions : (a b : Pixel) → IsPartition count lowest highest threshold a → IsPartition count lowest highest threshold b → first_position a < first_position b → AreDisjoint a b
  two_partitions a b is_a is_b lt = λ position holds_a holds_b.
      elim (cases_order a.order b.order) [
        | inl same ↦
            let numbers : a.number ≡ b.number = sym holds_a ∙ ap (λ (k : ℕ). pixel_of k position) same ∙ holds_b in
            let places : first_position a ≡ first_position b = rw (same, numbers) refl in
            absurd (omega (arith, lt, places))
        | inr (inl less) ↦ below_a_partition a b position is_a is_b less holds_a holds_b
        | inr (inr more) ↦ below_a_partition b a position is_b is_a more holds_b holds_a
      ]

  pub partitions_disjoint : (pixels : List Pixel) → ArePartitions count lowest highest threshold pixels → AreDisjointInOrder pixels
  partitions_disjoint pixels h =
      let each = λ (k : ℕ) (d : Pixel) (within : k < length pixels). (h.exact (get_or pixels k d)).0 (All-contains_itself pixels k d within) in
      record {
        each = λ k d within. (each k d within).exists;
        disjoint = λ i j d lt within. two_partitions (get_or pixels i d) (get_or pixels j d) (each i d (omega arith)) (each j d within) (h.ordered i j d lt within);
        ordered = h.ordered;
      }

-- a position in pixels that all have rows, none of them overfull, is in a partition
module _ (count : Pixel → ℕ) (lowest highest threshold position : ℕ) (orders : lowest ≤ highest) (within : highest ≤ 29) (below : position < 12 * 4 ^ 29)
    (some : (pixel : Pixel) → HoldsPosition pixel position → 1 ≤ count pixel) (fits : NothingOverfull count highest threshold) where
  abbrev at : ℕ → Pixel
  at k = record { order = k; number = pixel_of k position }

  there_is : (k : ℕ) → k ≤ 29 → IsPixel (at k)
  there_is k h = record { order = h; number = pixel_below k position h below }

  parent_at : (k : ℕ) → k < highest → parent (at (k + 1)) ≡ at k
  unfolding pixel_of
  parent_at k lt =
      let e : k + 1 - 1 ≡ k = omega arith in
      let up = up_again 29 (k + 1) k position (omega arith) (omega arith) in
      let one : k + 1 - k ≡ 1 = omega arith in
      let quarter : position / 4 ^ (29 - (k + 1)) / 4 ≡ position / 4 ^ (29 - k) = subst (λ (m : ℕ). position / 4 ^ (29 - (k + 1)) / 4 ^ m ≡ position / 4 ^ (29 - k)) one up in
      rw (e, quarter) refl

  abbrev Found : Type 0
  Found = (pixel : Pixel) × IsPartition count lowest highest threshold pixel × HoldsPosition pixel position

  is_partition : (k : ℕ) → lowest ≤ k → k ≤ highest → count (at k) ≤ threshold → ((k ≡ lowest) ⊎ (threshold < count (parent (at k)))) → Found
  is_partition k low high most largest = (at k, record { exists = there_is k (omega arith); not_lower = low; not_higher = high; some = some (at k) refl; most = most; largest = largest }, refl)

  find_from : (d k : ℕ) → k + d ≡ highest → lowest ≤ k → ((k ≡ lowest) ⊎ (threshold < count (parent (at k)))) → Found
  find_from zero k e low largest =
      elim (cases_lt threshold (count (at k))) [
        | inl more ↦
            let top : k ≡ highest = omega arith in
            absurd (fits (pixel_of highest position) (record { exists = pixel_below highest position within below; more = subst (λ (j : ℕ). threshold < count (at j)) top more }))
        | inr most ↦ is_partition k low (omega arith) most largest
      ]
  find_from (suc d) k e low largest =
      elim (cases_lt threshold (count (at k))) [
        | inl more ↦ find_from d (k + 1) (omega arith) (omega arith) (inr (subst (λ (p : Pixel). threshold < count p) (sym (parent_at k (omega arith))) more))
        | inr most ↦ is_partition k low (omega arith) most largest
      ]

  pub in_a_partition : (pixel : Pixel) × IsPartition count lowest highest threshold pixel × HoldsPosition pixel position
  in_a_partition = find_from (highest - lowest) lowest (omega arith) (omega arith) (inl refl)

-- of disjoint pixels one at most holds a position
abbrev holds : ℕ → Pixel → Bool
holds position pixel = pixel_of pixel.order position == pixel.number

no_holders : (position : ℕ) (pixels : List Pixel) → ((k : ℕ) (d : Pixel) → k < length pixels → ¬ (HoldsPosition (get_or pixels k d) position)) → holders_of position pixels ≡ []
no_holders position [] none = refl
no_holders position (p ∷ ps) none =
    rw (ne_eqb (pixel_of p.order position) p.number (none 0 p (omega arith))) (no_holders position ps (λ k d lt. none (suc k) d (omega (arith, lt))))

tail_pairs : (R : Pixel → Pixel → Type 0) (p : Pixel) (ps : List Pixel) → AllPairs R (p ∷ ps) → AllPairs R ps
tail_pairs R p ps h = λ i j d lt within. h (suc i) (suc j) d (omega arith) (omega (arith, within))

one_holder : (position : ℕ) (pixels : List Pixel) (k : ℕ) (pixel : Pixel) → AllPairs AreDisjoint pixels → k < length pixels → get_or pixels k pixel ≡ pixel → HoldsPosition pixel position
    → length (holders_of position pixels) ≡ 1
one_holder position [] k pixel apart within is holds = absurd (omega (arith, within))
one_holder position (p ∷ ps) zero pixel apart within is holds =
    let here : HoldsPosition p position = subst (λ (q : Pixel). HoldsPosition q position) (sym is) holds in
    let rest = no_holders position ps (λ j d lt other. apart 0 (suc j) d (omega arith) (omega (arith, lt)) position here other) in
    rw (eq-eqb (pixel_of p.order position) p.number here, rest) refl
one_holder position (p ∷ ps) (suc k) pixel apart within is holds =
    let later : HoldsPosition (get_or ps k pixel) position = subst (λ (q : Pixel). HoldsPosition q position) (sym is) holds in
    let not_here = λ (here : HoldsPosition p position). apart 0 (suc k) pixel (omega arith) within position here later in
    rw (ne_eqb (pixel_of p.order position) p.number not_here) (one_holder position ps k pixel (tail_pairs AreDisjoint p ps apart) (omega (arith, within)) is holds)

pub holders_one : (position : ℕ) (pixels : List Pixel) (pixel : Pixel) → AllPairs AreDisjoint pixels → Contains pixels pixel → HoldsPosition pixel position → length (holders_of position pixels) ≡ 1
holders_one position pixels pixel apart member holds = one_holder position pixels member.0 pixel apart member.1 member.2 holds

-- two lists in strict order that have the same members are one
module _ {X : Type 0} (f : X → ℕ) where
  abbrev Up : List X → Type 0
  Up xs = AllPairs (λ a b. f a < f b) xs

  abbrev Within : List X → List X → Type 0
  Within xs ys = (z : X) → Contains xs z → Contains ys z

  up_tail : (x : X) (xs : List X) → Up (x ∷ xs) → Up xs
  up_tail x xs h = λ i j d lt within. h (suc i) (suc j) d (omega arith) (omega (arith, within))

  up_head : (x z : X) (xs : List X) (k : ℕ) → Up (x ∷ xs) → k < length xs → get_or xs k z ≡ z → f x < f z
  up_head x z xs k h within is = subst (λ (w : X). f x < f w) is (h 0 (suc k) z (omega arith) (omega (arith, within)))

  first_or_later : (y z : X) (ys : List X) (k : ℕ) → Up (y ∷ ys) → k < length (y ∷ ys) → get_or (y ∷ ys) k z ≡ z → (y ≡ z) ⊎ (f y < f z)
  first_or_later y z ys zero h within is = inl is
  first_or_later y z ys (suc k) h within is = inr (up_head y z ys k h (omega (arith, within)) is)

  in_rest : (y z : X) (ys : List X) (k : ℕ) → f y < f z → k < length (y ∷ ys) → get_or (y ∷ ys) k z ≡ z → Contains ys z
  in_rest y z ys zero lt within is = absurd (let same : f y ≡ f z = ap f is in omega arith)
  in_rest y z ys (suc k) lt within is = (k, omega (arith, within), is)

  within_tails : (x y : X) (xs ys : List X) → x ≡ y → Up (x ∷ xs) → Within (x ∷ xs) (y ∷ ys) → Within xs ys
  within_tails x y xs ys e up sub = λ z h.
      let there = sub z (suc h.0, omega (arith, h.1), h.2) in
      in_rest y z ys there.0 (subst (λ (w : X). f w < f z) e (up_head x z xs h.0 up h.1 h.2)) there.1 there.2

  same_heads : (x y : X) (xs ys : List X) → Up (x ∷ xs) → Up (y ∷ ys) → Within (x ∷ xs) (y ∷ ys) → Within (y ∷ ys) (x ∷ xs) → x ≡ y
  same_heads x y xs ys up_x up_y sub sup =
      let in_ys = sub x (0, omega arith, refl) in
      let in_xs = sup y (0, omega arith, refl) in
      elim (first_or_later y x ys in_ys.0 up_y in_ys.1 in_ys.2) [
        | inl e ↦ sym e
        | inr less ↦ elim (first_or_later x y xs in_xs.0 up_x in_xs.1 in_xs.2) [ inl e ↦ e | inr more ↦ absurd (omega arith) ]
      ]

  pub same_members : (xs ys : List X) → Up xs → Up ys → Within xs ys → Within ys xs → xs ≡ ys
  same_members [] [] up_x up_y sub sup = refl
  same_members [] (y ∷ ys) up_x up_y sub sup = let h = sup y (0, omega arith, refl) in absurd (omega (arith, h.1))
  same_members (x ∷ xs) [] up_x up_y sub sup = let h = sub x (0, omega arith, refl) in absurd (omega (arith, h.1))
  same_members (x ∷ xs) (y ∷ ys) up_x up_y sub sup =
      let e = same_heads x y xs ys up_x up_y sub sup in
      let rest = same_members xs ys (up_tail x xs up_x) (up_tail y ys up_y) (within_tails x y xs ys e up_x sub) (within_tails y x ys xs (sym e) up_y sup) in
      rw (e, rest) refl

-- there is one list of all partitions at most
pub partitions_unique : (count : Pixel → ℕ) (lowest highest threshold : ℕ) (pixels others : List Pixel) → ArePartitions count lowest highest threshold pixels → ArePartitions count lowest highest threshold others → pixels ≡ others
partitions_unique count lowest highest threshold pixels others h g =
    same_members first_position pixels others h.ordered g.ordered (λ z m. (g.exact z).1 ((h.exact z).0 m)) (λ z m. (h.exact z).1 ((g.exact z).0 m))

-- counts that agree on the pixels that there are, up to the highest order
pub record Agree (highest : ℕ) (count other : Pixel → ℕ) : Type 0 where
  pub same : (pixel : Pixel) → IsPixel pixel → pixel.order ≤ highest → count pixel ≡ other pixel

pub agree_sym : (highest : ℕ) (count other : Pixel → ℕ) → Agree highest count other → Agree highest other count
agree_sym highest count other h = record { same = λ pixel exists within. sym (h.same pixel exists within) }

parent_or_first : (pixel : Pixel) → IsPixel pixel → IsPixel (parent pixel)
parent_or_first pixel h =
    elim (cases_eq pixel.order 0) [
      | inl first ↦
          let same : pixel.order - 1 ≡ pixel.order = omega arith in
          record { order = omega (arith, h.order); number = rw same (let n = h.number in omega (arith, n)) }
      | inr some ↦ parent_exists pixel (omega arith) h
    ]

module _ (count other : Pixel → ℕ) (lowest highest threshold : ℕ) (agree : Agree highest count other) where
  partition_over : (pixel : Pixel) → IsPartition count lowest highest threshold pixel → IsPartition other lowest highest threshold pixel
  partition_over pixel h =
      let same = agree.same pixel h.exists h.not_higher in
      let above = agree.same (parent pixel) (parent_or_first pixel h.exists) (omega (arith, h.not_higher)) in
      record {
        exists = h.exists;
        not_lower = h.not_lower;
        not_higher = h.not_higher;
        some = omega (arith, same, h.some);
        most = omega (arith, same, h.most);
        largest = elim h.largest [ inl least ↦ inl least | inr more ↦ inr (omega (arith, above, more)) ];
      }

  overfull_over : highest ≤ 29 → (number : ℕ) → IsOverfull count highest threshold number → IsOverfull other highest threshold number
  overfull_over within number h =
      let same = agree.same (record { order = highest; number = number }) (record { order = within; number = h.exists }) (omega arith) in
      record { exists = h.exists; more = omega (arith, same, h.more) }

-- so they have the same partitions, and the same overfull pixels
module _ (count other : Pixel → ℕ) (lowest highest threshold : ℕ) (agree : Agree highest count other) where
  pub partitions_over : (pixels : List Pixel) → ArePartitions count lowest highest threshold pixels → ArePartitions other lowest highest threshold pixels
  partitions_over pixels h = record {
    exact = λ pixel. (
      λ m. partition_over count other lowest highest threshold agree pixel ((h.exact pixel).0 m),
      λ p. (h.exact pixel).1 (partition_over other count lowest highest threshold (agree_sym highest count other agree) pixel p),
    );
    ordered = h.ordered;
  }

  pub nothing_overfull_over : highest ≤ 29 → NothingOverfull count highest threshold → NothingOverfull other highest threshold
  nothing_overfull_over within h = λ number p. h number (overfull_over other count lowest highest threshold (agree_sym highest count other agree) within number p)

  pub first_overfull_over : highest ≤ 29 → (number : ℕ) → IsFirstOverfull count highest threshold number → IsFirstOverfull other highest threshold number
  first_overfull_over within number h = record {
    overfull = overfull_over count other lowest highest threshold agree within number h.overfull;
    first = λ lower lt p. h.first lower lt (overfull_over other count lowest highest threshold (agree_sym highest count other agree) within lower p);
  }
