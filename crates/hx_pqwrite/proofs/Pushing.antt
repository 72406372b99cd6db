-- Pages as a loop adds them.
use Rattle.std.proofs.Common.{◌≡◌, ℕ, ℤ, suc, ◌+◌, min, List, ◌++◌, length, take, drop, map, inl, inr, sym, ap, subst, ◌∙◌, arith, append_assoc, ◌<◌, ◌^◌}
use Rattle.std.specs.List.{All}
use Rattle.std.proofs.lemmas.Bool.{cases_lt}
use Rattle.std.proofs.lemmas.List.{append-nil, get_or-drop, length-drop, take_min, take-map, drop-map}
use Rattle.std.proofs.Math.ListN.{drop_of_length-le}
use Rattle.std.proofs.Math.Seq.{drop-length}
use Rattle.hx_base.specs.Columns.{value_in}
use Rattle.hx_base.specs.declared.columns.Column.{Column}
use Rattle.hx_base.specs.declared.row.Row.{Row}
use Rattle.hx_pqwrite.specs.Files.{page_rows, page, pages}

drop_min : {A : Type 0} (n : ℕ) (xs : List A) → drop (min n (length xs)) xs ≡ drop n xs
drop_min n xs = elim (cases_lt n (length xs)) [
  | inl less ↦
      let e : min n (length xs) ≡ n = omega arith in
      ap (λ (k : ℕ). drop k xs) e
  | inr past ↦
      let e : min n (length xs) ≡ length xs = omega arith in
      ap (λ (k : ℕ). drop k xs) e ∙ (drop-length xs ∙ sym (drop_of_length-le xs past))
]

pub next_page : (c : Column) (count left cut : ℕ) (rest now later : List Row) (before new whole : List ℕ) → count ≡ suc left → cut ≡ min page_rows (length rest) → now ≡ take cut rest → later ≡ drop cut rest
    → new ≡ before ++ page (map (value_in c) now) → before ++ pages count (map (value_in c) rest) ≡ whole → new ++ pages left (map (value_in c) later) ≡ whole
unfolding pages
next_page c count left cut rest now later before new whole count_is cut_is now_is later_is pushed so_far =
    let values = map (value_in c) in
    let first : values now ≡ take page_rows (values rest) =
    ap values (now_is ∙ (ap (λ (k : ℕ). take k rest) cut_is ∙ take_min page_rows rest)) ∙ sym (take-map (value_in c) page_rows rest) in
    let others : values later ≡ drop page_rows (values rest) = ap values (later_is ∙ (ap (λ (k : ℕ). drop k rest) cut_is ∙ drop_min page_rows rest)) ∙ sym (drop-map (value_in c) page_rows rest) in
    ap (λ (xs : List ℕ). xs ++ pages left (values later)) pushed
    ∙ (append_assoc before (page (values now)) (pages left (values later))
    ∙ (ap (λ (xs : List ℤ). before ++ (page xs ++ pages left (values later))) first
    ∙ (ap (λ (xs : List ℤ). before ++ (page (take page_rows (values rest)) ++ pages left xs)) others
    ∙ (ap (λ (k : ℕ). before ++ pages k (values rest)) (sym count_is) ∙ so_far))))

pub last_page : (c : Column) (count : ℕ) (rest : List Row) (now whole : List ℕ) → count ≡ 0 → now ++ pages count (map (value_in c) rest) ≡ whole → now ≡ whole
unfolding pages
last_page c count rest now whole none so_far =
    let all : now ++ pages 0 (map (value_in c) rest) ≡ whole = rw none at so_far in
    sym (append-nil now) ∙ all

pub still_good : (cut : ℕ) (rest later : List Row) → later ≡ drop cut rest → All (λ (row : Row). row.hp < 2 ^ 63) rest → All (λ (row : Row). row.hp < 2 ^ 63) later
still_good cut rest later later_is good = subst (λ (rows : List Row). All (λ (row : Row). row.hp < 2 ^ 63) rows) (sym later_is)
    (λ k d within. subst (λ (row : Row). row.hp < 2 ^ 63) (sym (get_or-drop cut rest k d)) (good (cut + k) d (omega (arith, within, length-drop cut rest))))
