use Rattle.std.proofs.Common.{rules, ◌≡◌, ◌∙◌, ◌++◌, ◌∷◌, [], List, Vec, Global, ap, map, subst, sym}
use Rattle.std.proofs.lemmas.List.{append-nil, append_assoc, nil_from_length}
use Rattle.hx_base.specs.Rows.{sorted_rows}
use Rattle.hx_base.specs.declared.row.Row.{Row}
use Rattle.hx_work.specs.Sorting.{AreByPixel}
use Rattle.hx_work.proofs.ByPixel.{all_done, none_before, pixel_done}
use Rattle.hx_work.proofs.sorting.sorted_by_pixel.Goals as goal

-- what stays of the pixels' lists is told by those before and those to come
AreOf : List Row → List (Vec Row Global) → Type 0
AreOf rows lists = AreByPixel rows (map (λ list. list.items) lists)

pub loop-list-init : goal.loop-list-init
loop-list-init c = (c.in_ok-sorted.ensures.items ∙ sym (ap sorted_rows (none_before c.args.rows.now)), search rules)

pub loop-list-preserved : goal.loop-list-preserved
unfolding AreOf
loop-list-preserved c =
    let next : c.loop-list.list-iterator.rest.items ≡ c.in-Some.list ∷ c.next.new.self.rest.items = search rules in
    let here = subst (λ (rest : List (Vec Row Global)). AreOf c.args.rows.now (c.loop-list.yielded ++ rest)) next c.loop-list.invariant.1 in
    let sorted : c.deref.result.now ≡ sorted_rows c.in-Some.list.items = search rules in (
      c.in_ok-extend_from_slice.ensures.items ∙ ap (λ (rows : List Row). c.loop-list.sorted.items ++ rows) sorted ∙ pixel_done (λ list. list.items) c.args.rows.now c.loop-list.yielded c.next.new.self.rest.items c.in-Some.list c.loop-list.sorted.items c.loop-list.invariant.0 here,
      subst (AreOf c.args.rows.now) (sym (append_assoc c.loop-list.yielded (c.in-Some.list ∷ []) c.next.new.self.rest.items)) here,
    )

pub returns : goal.returns
unfolding AreOf
returns c =
    let end = nil_from_length c.loop-list.list-iterator.rest.items (sym c.loop-list.list-iterator.rest.ok.0 ∙ c.in-None.ensures.steps.0) in
    let whole = subst (λ (rest : List (Vec Row Global)). AreOf c.args.rows.now (c.loop-list.yielded ++ rest)) end c.loop-list.invariant.1 in
    all_done (λ list. list.items) c.args.rows.now c.loop-list.yielded c.loop-list.sorted.items c.requires c.loop-list.invariant.0 (subst (AreOf c.args.rows.now) (append-nil c.loop-list.yielded) whole)
