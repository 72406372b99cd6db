-- Whether a row is in a margin is decided, so each list has exactly one list of a partition's margin.
use Rattle.std.proofs.Common.{◌≡◌, ◌∙◌, ◌-◌, ◌*◌, ◌/◌, ◌^◌, ◌<◌, ◌↔◌, ℕ, List, Bool, true, false, zero, suc, filter, refl, sym, ap, subst, arith, inl, inr, IsTrue}
use Rattle.std.proofs.lemmas.Bool.{cases_eq, cases_lt}
use Rattle.std.proofs.lemmas.List.Elements.{filter_agree}
use Rattle.hx_base.specs.declared.pixel.Pixel.{Pixel}
use Rattle.hx_base.specs.declared.row.Row.{Row}
use Rattle.hx_base.specs.Contents.{AreMarginRows, IsInMargin, TellsMargin}
use Rattle.hx_base.specs.Pixels.{LiesIn, pixel_of}
use Rattle.hx_base.specs.Rows.{sorted_rows}
use Rattle.hx_base.specs.Touching.{Touch}
use Rattle.hx_nest.proofs.Decided.{Decided, both_decided, touch_decided}
use Rattle.hx_nest.proofs.Interleaved.{number_below}

-- a claim on some number below a bound
abbrev Below : ℕ → (ℕ → Type 0) → Type 0
Below n P = (i : ℕ) × (i < n) × P i

some_below : (P : ℕ → Type 0) → ((i : ℕ) → Decided (P i)) → (n : ℕ) → Decided (Below n P)
some_below P d zero = inr (λ h. omega (arith, h.1))
some_below P d (suc n) =
    elim (some_below P d n) [
      | inl h ↦ inl (h.0, omega (arith, h.1), h.2)
      | inr none ↦ elim (d n) [
        | inl here ↦ inl (n, omega arith, here)
        | inr off ↦ inr (λ h. last P n none off h.0 h.1 h.2)
      ]
    ]
  where
    last : (P : ℕ → Type 0) (n : ℕ) → ¬ (Below n P) → ¬ (P n) → (i : ℕ) → i < suc n → P i → ⊥
    last P n none off i lt h =
        elim (cases_eq i n) [
          | inl same ↦ off (subst P same h)
          | inr other ↦ none (i, omega (arith, lt, other), h)
        ]

lies_decided : (inner outer : Pixel) → Decided (LiesIn inner outer)
lies_decided inner outer =
    elim (cases_lt inner.order outer.order) [
      | inl above ↦ inr (λ h. let le = h.order in omega (arith, above, le))
      | inr fine ↦ elim (cases_eq (inner.number / 4 ^ (inner.order - outer.order)) outer.number) [
        | inl same ↦ inl (record { order = fine; number = same })
        | inr other ↦ inr (λ h. other h.number)
      ]
    ]

-- the edge that a row's pixel touches
abbrev Edge : Pixel → ℕ → ℕ → ℕ → Type 0
Edge part m at edge = LiesIn (record { order = m; number = edge }) part × Touch m at edge

pub margin_decided : (part : Pixel) (m : ℕ) (row : Row) → Decided (IsInMargin part m row)
margin_decided part m row =
    let at = pixel_of m row.hp in
    elim (cases_eq (pixel_of part.order row.hp) part.number) [
      | inl inside ↦ inr (λ h. h.outside inside)
      | inr out ↦ elim (some_below (Edge part m at) (λ edge. both_decided _ _ (lies_decided (record { order = m; number = edge }) part) (touch_decided m at edge)) (12 * 4 ^ m)) [
        | inl h ↦ inl (record { outside = out; edge = h.0; inside = h.2.0; touches = h.2.1 })
        | inr none ↦ inr (λ h. let there = h.touches.shared.2 in none (h.edge, number_below m h.edge there.0 there.1 there.2 there.5, (h.inside, h.touches)))
      ]
    ]

-- the answer of a decision
answer : (P : Type 0) → Decided P → Bool
answer P (inl p) = true
answer P (inr p) = false

answer_tells : (P : Type 0) (d : Decided P) → IsTrue (answer P d) ↔ P
unfolding answer
answer_tells P (inl p) = (λ e. p, λ h. refl)
answer_tells P (inr p) = (λ e. absurd (let no' : false ≡ true = e in cc), λ h. absurd (p h))

pub margin_test : Pixel → ℕ → Row → Bool
margin_test part m row = answer (IsInMargin part m row) (margin_decided part m row)

pub margin_tells : (part : Pixel) (m : ℕ) → TellsMargin part m (margin_test part m)
unfolding margin_test
margin_tells part m = λ row. answer_tells (IsInMargin part m row) (margin_decided part m row)

-- tests that tell the same keep the same
pub same_filters : (part : Pixel) (m : ℕ) (f g : Row → Bool) → TellsMargin part m f → TellsMargin part m g → (rows : List Row) → filter f rows ≡ filter g rows
same_filters part m f g tf tg rows = filter_agree f g (λ row. agree (f row) (g row) (λ e. (tg row).1 ((tf row).0 e)) (λ e. (tf row).1 ((tg row).0 e))) rows
  where
    agree : (a b : Bool) → (a ≡ true → b ≡ true) → (b ≡ true → a ≡ true) → a ≡ b
    agree true b there back = sym (there refl)
    agree false true there back = back refl
    agree false false there back = refl

pub some_margin : (part : Pixel) (m : ℕ) (rows : List Row) → (margin : List Row) × AreMarginRows part m rows margin
some_margin part m rows = (sorted_rows (filter (margin_test part m) rows), record { test = margin_test part m; tells = margin_tells part m; listed = refl })

pub one_margin : (part : Pixel) (m : ℕ) (rows a b : List Row) → AreMarginRows part m rows a → AreMarginRows part m rows b → a ≡ b
one_margin part m rows a b ha hb = ha.listed ∙ ap sorted_rows (same_filters part m ha.test hb.test ha.tells hb.tells rows) ∙ sym hb.listed
