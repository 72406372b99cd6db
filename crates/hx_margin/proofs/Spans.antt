-- The partitions around one, gathered from the spans of its neighbours, each once.
use Rattle.std.proofs.Common.{◌≡◌, ◌+◌, ◌-◌, ◌*◌, ◌^◌, [], ◌∷◌, ◌++◌, ◌<◌, ◌≤◌, ◌⊎◌, ◌↔◌, ℕ, List, Some, length, get_or, max, refl, sym, ap, subst, arith, inl, inr}
use Rattle.std.specs.List.{All, AllPairs, Contains, slice_get, slice_index}
use Rattle.std.proofs.lemmas.Bool.{cases_eq, cases_lt}
use Rattle.std.proofs.lemmas.List.Elements.{All-contains, All-push, All-weaker, Contains-append_left, Contains-get_or, Contains-push, Contains-push_cases}
use Rattle.std.proofs.lemmas.List.Quantifiers.{all_pairs_push}
use Rattle.std.proofs.lemmas.Nat.{mul-le}
use Rattle.std.proofs.lemmas.Option.{slice_get-get_or}
use Rattle.hx_base.specs.declared.pixel.Pixel.{Pixel}
use Rattle.hx_base.specs.Pixels.{first_position}
use Rattle.hx_base.specs.Touching.{Touch}
use Rattle.hx_ptree.specs.Searches.{IsSpan, Overlaps}
use Rattle.hx_nest.proofs.Interleaved.{number_below}
use Rattle.hx_margin.specs.Around.{AreAround}
use Rattle.hx_margin.specs.Beside.{margin_pixel}
use Rattle.hx_margin.specs.Steps.{AddsRange}
use Rattle.hx_margin.proofs.Looking.{at_edge}

-- the partition of a number overlaps a pixel
pub record OverlapsAt (parts : List Pixel) (pixel : Pixel) (number : ℕ) : Type 0 where
  pub other : Pixel
  pub there : slice_get parts number ≡ Some other
  pub overlaps : Overlaps other pixel

-- the end of the span of one of the first neighbours
pub record IsEnd (parts : List Pixel) (order : ℕ) (around : List ℕ) (count next : ℕ) : Type 0 where
  pub j : ℕ
  pub first : ℕ
  pub size : ℕ
  pub before : j < count
  pub span : IsSpan parts (margin_pixel order (slice_index around j)) first size
  pub end : next ≡ first + size

-- what was gathered from the first so many neighbours, all of it below a number
pub record AreReached (parts : List Pixel) (order : ℕ) (around : List ℕ) (count next : ℕ) (numbers : List ℕ) : Type 0 where
  pub members : (number : ℕ) → Contains numbers number ↔ ((j : ℕ) × (j < count) × OverlapsAt parts (margin_pixel order (slice_index around j)) number)
  pub below : All (λ n. n < next) numbers
  pub ascending : AllPairs (λ a b. a < b) numbers
  pub reached : (next ≡ 0) ⊎ IsEnd parts order around count next

-- the numbers from one to before another are added to a list
pub record AreAddedTo (from end now : ℕ) (before after : List ℕ) : Type 0 where
  pub members : (number : ℕ) → Contains after number ↔ (Contains before number ⊎ ((from ≤ number) × (number < now)))
  pub below : All (λ n. n < from) before → All (λ n. n < now) after
  pub ascending : All (λ n. n < from) before → AllPairs (λ a b. a < b) before → AllPairs (λ a b. a < b) after
  pub at_once : end < from → now ≡ from

pub one_added : (from end now : ℕ) (before old : List ℕ) → from ≤ now → now < end → AreAddedTo from end now before old → AreAddedTo from end (now + 1) before (old ++ now ∷ [])
one_added from end now before old le lt h = record {
  members = λ number. (
    λ has. elim (Contains-push_cases old now number has) [
      | inl had ↦ elim ((h.members number).0 had) [
        | inl first ↦ inl first
        | inr range ↦ inr (range.0, omega (arith, range.1))
      ]
      | inr same ↦ inr (omega (arith, le, same), omega (arith, same))
    ],
    λ has. elim has [
      | inl first ↦ Contains-append_left old (now ∷ []) number ((h.members number).1 (inl first))
      | inr range ↦ elim (cases_eq number now) [
        | inl same ↦ subst (λ (n : ℕ). Contains (old ++ now ∷ []) n) (sym same) (Contains-push old now)
        | inr other ↦ Contains-append_left old (now ∷ []) number ((h.members number).1 (inr (range.0, omega (arith, range.1, other))))
      ]
    ],
  );
  below = λ low. All-push (λ (n : ℕ). n < now + 1) old now (All-weaker (λ (n : ℕ). n < now) (λ (n : ℕ). n < now + 1) (λ n l. omega (arith, l)) old (h.below low)) (omega arith);
  ascending = λ low up. all_pairs_push (λ (a : ℕ) (b : ℕ). a < b) old now (h.ascending low up) (λ k d l. h.below low k d l);
  at_once = λ none. absurd (omega (arith, none, le, lt));
}

pub all_added : (from end now : ℕ) (before after : List ℕ) → end ≤ now → (from ≤ end → now ≤ end) → AreAddedTo from end now before after → AddsRange from end before after
all_added from end now before after past fits h = record {
  members = λ number. (
    λ has. elim ((h.members number).0 has) [
      | inl first ↦ inl first
      | inr range ↦ inr (
        range.0,
        elim (cases_lt end from) [
          | inl none ↦ absurd (let at = h.at_once none in omega (arith, at, range.0, range.1))
          | inr some ↦ let le = fits some in omega (arith, le, range.1)
        ],
      )
    ],
    λ has. elim has [
      | inl first ↦ (h.members number).1 (inl first)
      | inr range ↦ (h.members number).1 (inr (range.0, omega (arith, range.1, past)))
    ],
  );
  ascending = h.ascending;
}

-- a pixel that touches one exists
pub touched_exists : (k p q : ℕ) → Touch k p q → q < 12 * 4 ^ k
touched_exists k p q touch = let c = touch.shared.2 in number_below k q c.0 c.1 c.2 c.5

pub none_reached : (parts : List Pixel) (order : ℕ) (around numbers : List ℕ) → numbers ≡ [] → AreReached parts order around 0 0 numbers
none_reached parts order around numbers none = record {
  members = λ number. (λ h. absurd (let lt = h.1 in let size = ap length none in omega (arith, lt, size)), λ h. absurd (omega (arith, h.1)));
  below = λ k d lt. absurd (let size = ap length none in omega (arith, lt, size));
  ascending = λ i j d lt within. absurd (let size = ap length none in omega (arith, within, size));
  reached = inl refl;
}

-- the spans of pixels whose first positions ascend begin one after another or together
spans_ascend : (parts : List Pixel) (a b : Pixel) (fa ca fb cb : ℕ) → IsSpan parts a fa ca → IsSpan parts b fb cb → first_position a ≤ first_position b → fa ≤ fb
spans_ascend parts a b fa ca fb cb sa sb le =
    elim (cases_lt fb fa) [
      | inl lt ↦
          let inside : fb < length parts = omega (arith, sa.within, lt) in
          let part = get_or parts fb a in
          let at : slice_get parts fb ≡ Some (get_or parts fb a) = slice_get-get_or parts fb a inside in
          let ended = (sa.before fb part at).0 lt in
          let begun = (sb.before fb part at).1 (omega (arith, ended, le)) in
          absurd (omega (arith, begun))
      | inr le ↦ le
    ]

module _ (parts : List Pixel) (order : ℕ) (around : List ℕ) (ascends : AllPairs (λ a b. a < b) around) (i : ℕ) (inside : i < length around) (first size : ℕ) (span : IsSpan parts (margin_pixel order (slice_index around i)) first size) where
  -- a number in the span, by its partition
  in_span : (number : ℕ) → first ≤ number → number < first + size → OverlapsAt parts (margin_pixel order (slice_index around i)) number
  in_span number from to =
      let within : number < length parts = omega (arith, to, span.within) in
      let d : Pixel = record { order = 0; number = 0 } in
      let at = slice_get-get_or parts number d within in
      record { other = get_or parts number d; there = at; overlaps = (span.overlapping number (get_or parts number d) at).0 (from, to) }

  earlier : (j : ℕ) → j < i → first_position (margin_pixel order (slice_index around j)) ≤ first_position (margin_pixel order (slice_index around i))
  earlier j lt = let up = ascends j i 0 lt inside in mul-le (slice_index around j) (4 ^ (29 - order)) (slice_index around i) (4 ^ (29 - order)) (omega (arith, up)) (omega arith)

  -- what a span has below the ends of those before it, these have
  had_before : (next number : ℕ) (old : List ℕ) → AreReached parts order around i next old → (other : Pixel) → slice_get parts number ≡ Some other → first ≤ number → number < next → Contains old number
  had_before next number old before other there from low =
      elim before.reached [
        | inl zero' ↦ absurd (omega (arith, zero', low))
        | inr end ↦
            let le = spans_ascend parts (margin_pixel order (slice_index around end.j)) (margin_pixel order (slice_index around i)) end.first end.size first size end.span span (earlier end.j end.before) in
            (before.members number).1
            (end.j, end.before, record { other = other; there = there; overlaps = (end.span.overlapping number other there).0 (omega (arith, le, from), omega (arith, low, end.end)) })
      ]

  pub one_reached : (next from end next' : ℕ) (old new : List ℕ) → AreReached parts order around i next old → from ≡ max next first → end ≡ first + size → next' ≡ max next end → AddsRange from end old new
      → AreReached parts order around (i + 1) next' new
  one_reached next from end next' old new before from_is end_is next_is adds = record {
    members = λ number. (
      λ h. elim ((adds.members number).0 h) [
        | inl had ↦ let found = (before.members number).0 had in (found.0, omega (arith, found.1), found.2)
        | inr range ↦ (i, omega arith, in_span number (omega (arith, from_is, range.0)) (omega (arith, end_is, range.1)))
      ],
      λ h. (adds.members number).1 (elim (cases_eq h.0 i) [
        | inl last ↦
            let at : OverlapsAt parts (margin_pixel order (slice_index around i)) number = subst (λ (j : ℕ). OverlapsAt parts (margin_pixel order (slice_index around j)) number) last h.2 in
            let range = (span.overlapping number at.other at.there).1 at.overlaps in
            elim (cases_lt number next) [
              | inl low ↦ inl (had_before next number old before at.other at.there range.0 low)
              | inr high ↦ inr (omega (arith, from_is, high, range.0), omega (arith, end_is, range.1))
            ]
        | inr other ↦ inl ((before.members number).1 (h.0, omega (arith, h.1, other), h.2))
      ]),
    );
    below = λ k d lt. elim ((adds.members (get_or new k d)).0 (Contains-get_or new k d lt)) [
      | inl had ↦ let low = All-contains (λ (n : ℕ). n < next) old (get_or new k d) before.below had in omega (arith, low, next_is)
      | inr range ↦ omega (arith, range.1, next_is)
    ];
    ascending = adds.ascending (All-weaker (λ (n : ℕ). n < next) (λ (n : ℕ). n < from) (λ n low. omega (arith, low, from_is)) old before.below) before.ascending;
    reached = elim (cases_lt next end) [
      | inl up ↦ inr (record { j = i; first = first; size = size; before = omega arith; span = span; end = omega (arith, next_is, up, end_is) })
      | inr down ↦ elim before.reached [
        | inl zero' ↦ inl (omega (arith, zero', next_is, down))
        | inr last ↦ inr (record { j = last.j; first = last.first; size = last.size; before = omega (arith, last.before); span = last.span; end = omega (arith, last.end, next_is, down) })
      ]
    ];
  }

pub all_reached : (parts : List Pixel) (part : Pixel) (around numbers : List ℕ) (count next : ℕ) → ((q : ℕ) → Contains around q ↔ Touch part.order part.number q) → length around ≤ count → count ≤ length around
    → AreReached parts part.order around count next numbers → AreAround parts part numbers
all_reached parts part around numbers count next touching all within found = record {
  members = λ number. (
    λ h.
        let at = (found.members number).0 h in
        record {
          other = at.2.other;
          there = at.2.there;
          around = record { neighbour = slice_index around at.0; touches = (touching (slice_index around at.0)).0 (Contains-get_or around at.0 0 (omega (arith, at.1, within))); overlaps = at.2.overlaps };
        },
    λ h.
        let among = (touching h.around.neighbour).1 h.around.touches in
        let same = at_edge around h.around.neighbour among in
        (found.members number).1 (
          among.0,
          omega (arith, among.1, all),
          record { other = h.other; there = h.there; overlaps = subst (λ (n : ℕ). Overlaps h.other (margin_pixel part.order n)) (sym same) h.around.overlaps },
        ),
  );
  ascending = found.ascending;
}
