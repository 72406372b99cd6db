-- Entries as they are made, one for each run of a part's rows.
use Rattle.std.proofs.Common.{◌≡◌, ◌∙◌, ◌+◌, ◌-◌, ◌<◌, ◌≤◌, ◌∷◌, ◌++◌, [], ℕ, List, length, map, refl, sym, ap, arith, get_or, take, drop, append_assoc}
use Rattle.std.specs.List.{All, AllByRecursion}
use Rattle.std.proofs.lemmas.List.{append-nil, get_or-drop, get_or-take, length-append, length-drop, length-map, length-take}
use Rattle.std.proofs.lemmas.List.Elements.{recursion_from_All}
use Rattle.std.proofs.Math.Seq.{take-add}
use Rattle.hx_base.specs.declared.row.Row.{Row}
use Rattle.hx_spill.specs.Splits.{Tell, placed_at}
use Rattle.hx_spill.specs.declared.split.Placed.{Placed}
use Rattle.hx_spill.specs.declared.split.head.Entry.{Entry}

pub tell-more : (first : ℕ) (entries : List Entry) (placed : List Placed) (entry : Entry) (rows : List Row) → Tell first entries placed → entry.first ≡ first + length placed → 0 < entry.rows → length rows ≡ entry.rows
    → Tell first (entries ++ entry ∷ []) (placed ++ map (placed_at entry.part) rows)
tell-more first [] placed entry rows tell at some long =
    (omega (arith, at, ap length tell), some, rows, [], ap (λ (ps : List Placed). ps ++ map (placed_at entry.part) rows) tell ∙ sym (append-nil _), long, refl)
tell-more first (e ∷ entries) placed entry rows tell at some long =
    let size : length placed ≡ e.rows + length tell.3 = ap length tell.4 ∙ length-append (map (placed_at e.part) tell.2) tell.3 ∙ omega (arith, length-map tell.2 (placed_at e.part), tell.5) in (
      tell.0,
      tell.1,
      tell.2,
      tell.3 ++ map (placed_at entry.part) rows,
      ap (λ (ps : List Placed). ps ++ map (placed_at entry.part) rows) tell.4 ∙ append_assoc (map (placed_at e.part) tell.2) tell.3 (map (placed_at entry.part) rows),
      tell.5,
      tell-more (first + e.rows) entries tell.3 entry rows tell.6 (omega (arith, at, size)) some long,
    )

of_one_part : (part : ℕ) (placed : List Placed) → AllByRecursion (λ p. p.part ≡ part) placed → placed ≡ map (placed_at part) (map (λ p. p.row) placed)
of_one_part part [] all = refl
of_one_part part (p ∷ placed) all =
    let here : p ≡ placed_at part p.row = ap (λ (k : ℕ). placed_at k p.row) all.0 in
    ap (λ (q : Placed). q ∷ placed) here ∙ ap (λ (ps : List Placed). placed_at part p.row ∷ ps) (of_one_part part placed all.1)

-- the rows from one index to another, which are of one part
abbrev pub run : ℕ → ℕ → List Placed → List Row
run first end placed = map (λ p. p.row) (take (end - first) (drop first placed))

pub length-run : (first end : ℕ) (placed : List Placed) → first ≤ end → end ≤ length placed → length (run first end placed) ≡ end - first
length-run first end placed le within = length-map (take (end - first) (drop first placed)) (λ (p : Placed). p.row) ∙ omega (arith, length-take (end - first) (drop first placed), length-drop first placed)

pub run_is : (part first end : ℕ) (placed : List Placed) → first ≤ end → end ≤ length placed → ((k : ℕ) (d : Placed) → first ≤ k → k < end → (get_or placed k d).part ≡ part)
    → take end placed ≡ take first placed ++ map (placed_at part) (run first end placed)
run_is part first end placed le within same =
    let sum : first + (end - first) ≡ end = omega arith in
    let size = length-take (end - first) (drop first placed) in
    let all : All (λ p. p.part ≡ part) (take (end - first) (drop first placed)) = λ k d lt.
    let below : k < end - first = omega (arith, size, lt) in
    rw (get_or-take (end - first) (drop first placed) k d below, get_or-drop first placed k d) (same (first + k) d (omega arith) (omega arith)) in
    ap (λ (n : ℕ). take n placed) (sym sum) ∙ take-add first (end - first) placed
    ∙ ap (λ (ps : List Placed). take first placed ++ ps) (of_one_part part (take (end - first) (drop first placed)) (recursion_from_All (λ p. p.part ≡ part) (take (end - first) (drop first placed)) all))
