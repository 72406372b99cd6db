-- Which lines break no rule.
use Rattle.std.proofs.Common.{◌≡◌, ◌∙◌, ◌++◌, ◌∷◌, ◌<◌, ◌≤◌, ◌⊎◌, ◌↔◌, [], ℕ, List, codes, map, take, drop, get_or, ap, arith, inl, inr, refl, append-nil, take-append-drop}
use Rattle.std.proofs.lemmas.Fmt.{decimal_injective}
use Rattle.std.specs.Fmt.{decimal}
use Rattle.hx_base.specs.Limits.{highest_margin_order, highest_order}
use Rattle.hx_base.specs.declared.pixel.Pixel.{Pixel}
use Rattle.hx_catalog.specs.Lines.{NoneBroken, field}
use Rattle.hx_catalog.specs.Lists.{AreListLines, header, pixel_line}
use Rattle.hx_catalog.specs.Properties.{AreProperties, ArePropertyLines, HaveLines, property_lines}
use Rattle.hx_catalog.specs.declared.properties.Properties.{Properties}
use Rattle.hx_catalog.proofs.Listed.{front-list, no-pixels}
use Rattle.hx_catalog.proofs.Stages.{fits-parts, read5, read6, read8}

-- the front of lines of pixels is the lines of the front
lines-front : (lines more : List (List ℕ)) (pixels : List Pixel) → lines ++ more ≡ map pixel_line pixels → (xs : List Pixel) × (ys : List Pixel) × (pixels ≡ xs ++ ys) × (lines ≡ map pixel_line xs)
lines-front [] more pixels h = ([], pixels, refl, refl)
lines-front (line ∷ lines) more [] h = absurd (cc h)
lines-front (line ∷ lines) more (pixel ∷ pixels) h =
    let behind = lines-front lines more pixels (cc h) in
    let first : line ≡ pixel_line pixel = cc h in
    (pixel ∷ behind.0, behind.1, cc behind.2, cc (first, behind.3))

pub unbroken-list : (lines : List (List ℕ)) → NoneBroken AreListLines lines ↔ ((lines ≡ []) ⊎ AreListLines lines)
unbroken-list lines = (to lines, from lines)
  where
    to : (lines : List (List ℕ)) → NoneBroken AreListLines lines → (lines ≡ []) ⊎ AreListLines lines
    to [] sound = inl refl
    to (line ∷ lines) sound =
        let front = lines-front lines sound.0 sound.1.0 (cc sound.1.2) in
        let first : line ≡ header = cc sound.1.2 in
        inr (front.0, front-list front.0 front.1 (rw front.2 at sound.1.1), cc (first, front.3))

    from : (lines : List (List ℕ)) → (lines ≡ []) ⊎ AreListLines lines → NoneBroken AreListLines lines
    from lines h = elim h [ inl none ↦ rw none (header ∷ [], ([], no-pixels, refl)) | inr all ↦ ([], (all.0, all.1, append-nil lines ∙ all.2)) ]

module _ (of : Properties) (words : HaveLines of) where
  -- the numbers of the same lines
  same-lowest : (other : Properties) → AreProperties other → field (codes "lowest") (decimal of.settings.lowest) ≡ field (codes "lowest") (decimal other.settings.lowest) → of.settings.lowest ≡ other.settings.lowest
  same-lowest other fits h = decimal_injective of.settings.lowest other.settings.lowest words.lowest (omega (arith, fits.limits)) (cc h)

  same-highest : (other : Properties) → AreProperties other → field (codes "highest") (decimal of.settings.highest) ≡ field (codes "highest") (decimal other.settings.highest) → of.settings.highest ≡ other.settings.highest
  same-highest other fits h = decimal_injective of.settings.highest other.settings.highest words.highest (omega (arith, fits.limits)) (cc h)

  same-threshold : (other : Properties) → AreProperties other → field (codes "threshold") (decimal of.settings.threshold) ≡ field (codes "threshold") (decimal other.settings.threshold) → of.settings.threshold ≡ other.settings.threshold
  same-threshold other fits h = decimal_injective of.settings.threshold other.settings.threshold words.threshold (omega (arith, fits.limits)) (cc h)

  same-margin : (other : Properties) → AreProperties other → field (codes "margin_order") (decimal of.settings.margin_order) ≡ field (codes "margin_order") (decimal other.settings.margin_order) → of.settings.margin_order ≡ other.settings.margin_order
  same-margin other fits h = decimal_injective of.settings.margin_order other.settings.margin_order words.margin_order (omega (arith, fits.limits)) (cc h)

  pub unbroken-lowest : NoneBroken ArePropertyLines (take 5 (property_lines of)) ↔ (of.settings.lowest ≤ highest_order)
  unbroken-lowest = (
    λ sound.
        let other = sound.1.0 in
        let fits = sound.1.1 in
        let lowest = same-lowest other fits (ap (λ (lines : List (List ℕ)). get_or lines 4 []) sound.1.2) in
        omega (arith, lowest, fits.limits),
    λ low.
        let read = read5 of.settings.name of.margin of.rows of.settings.lowest in (
          drop 5 (property_lines read),
          (
            read,
            fits-parts of.settings.name of.margin of.rows of.settings.lowest 20 1 24 0 words.name words.rows low (omega arith) (omega arith, omega arith) (omega arith, omega arith) (omega arith),
            take-append-drop 5 (property_lines read),
          ),
        ),
  )

  pub unbroken-highest : NoneBroken ArePropertyLines (take 6 (property_lines of)) ↔ ((of.settings.lowest ≤ of.settings.highest) × (of.settings.highest ≤ highest_order))
  unbroken-highest = (
    λ sound.
        let other = sound.1.0 in
        let fits = sound.1.1 in
        let lowest = same-lowest other fits (ap (λ (lines : List (List ℕ)). get_or lines 4 []) sound.1.2) in
        let highest = same-highest other fits (ap (λ (lines : List (List ℕ)). get_or lines 5 []) sound.1.2) in
        (omega (arith, lowest, highest, fits.limits), omega (arith, highest, fits.limits)),
    λ range.
        let read = read6 of.settings.name of.margin of.rows of.settings.lowest of.settings.highest in (
          drop 6 (property_lines read),
          (
            read,
            fits-parts of.settings.name of.margin of.rows of.settings.lowest of.settings.highest 1 24 0 words.name words.rows range.0 range.1 (omega arith, omega arith) (omega (arith, range), omega arith) (omega arith),
            take-append-drop 6 (property_lines read),
          ),
        ),
  )

  pub unbroken-margin : NoneBroken ArePropertyLines (take 7 (property_lines of)) → NoneBroken ArePropertyLines (take 8 (property_lines of)) ↔ ((of.settings.highest < of.settings.margin_order) × (of.settings.margin_order ≤ highest_margin_order))
  unbroken-margin before = (
    λ sound.
        let other = sound.1.0 in
        let fits = sound.1.1 in
        let highest = same-highest other fits (ap (λ (lines : List (List ℕ)). get_or lines 5 []) sound.1.2) in
        let margin = same-margin other fits (ap (λ (lines : List (List ℕ)). get_or lines 7 []) sound.1.2) in
        (omega (arith, highest, margin, fits.limits), omega (arith, margin, fits.limits)),
    λ range.
        let other = before.1.0 in
        let fits = before.1.1 in
        let lowest = same-lowest other fits (ap (λ (lines : List (List ℕ)). get_or lines 4 []) before.1.2) in
        let highest = same-highest other fits (ap (λ (lines : List (List ℕ)). get_or lines 5 []) before.1.2) in
        let threshold = same-threshold other fits (ap (λ (lines : List (List ℕ)). get_or lines 6 []) before.1.2) in
        let read = read8 of.settings.name of.margin of.rows of.settings.lowest of.settings.highest of.settings.threshold of.settings.margin_order in (
          drop 8 (property_lines read),
          (
            read,
            fits-parts of.settings.name of.margin of.rows of.settings.lowest of.settings.highest of.settings.threshold of.settings.margin_order 0 words.name words.rows
                (omega (arith, lowest, highest, fits.limits)) (omega (arith, highest, fits.limits)) (omega (arith, threshold, fits.limits), omega (arith, threshold, fits.limits)) range (omega arith),
            take-append-drop 8 (property_lines read),
          ),
        ),
  )
