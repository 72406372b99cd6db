use Rattle.std.proofs.Common.{◌≡◌, ◌∙◌, ◌+◌, ◌-◌, ◌*◌, ◌^◌, ◌<◌, ℕ, List, length, get_or, refl, sym, ap, subst, arith}
use Rattle.std.specs.List.{All}
use Rattle.std.proofs.lemmas.Bool.{false≢true}
use Rattle.std.proofs.lemmas.List.Elements.{All-contains}
use Rattle.std.proofs.lemmas.Option.{get_or_from_slice_get, slice_get_within}
use Rattle.hx_base.specs.Pixels.{IsPixel, pixel_of}
use Rattle.hx_base.specs.declared.pixel.Pixel.{Pixel}
use Rattle.hx_cover.specs.Collected.{EndsWith}
use Rattle.hx_cover.specs.CoverBoxes.{IsSound}
use Rattle.hx_cover.specs.Tested.{IsCoverBox}
use Rattle.hx_cover.specs.declared.bounds.CoverBox.{CoverBox}
use Rattle.hx_cover.proofs.Adding.{pushed_boxes, pushed_cover, pushed_up_to, set_boxes, set_cover, set_up_to}
use Rattle.hx_cover.proofs.collecting.add_row.Goals as goal

-- the row's own box is that of its pixel
own_pixel : (one order hp : ℕ) (pixel : Pixel) → one ≡ pixel.number → pixel ≡ record { order = order; number = pixel_of order hp } → one ≡ pixel_of order hp
own_pixel one order hp pixel e f = e ∙ ap (λ (p : Pixel). p.number) f

exists : (one order hp : ℕ) (pixel : Pixel) → one ≡ pixel_of order hp → pixel ≡ record { order = order; number = pixel_of order hp } → IsPixel pixel → one < 12 * 4 ^ order
exists one order hp pixel is e h = let there : IsPixel (record { order = order; number = pixel_of order hp }) = subst IsPixel e h in rw is (there.number)

ends : (old seen : List CoverBox) (one number : ℕ) → seen ≡ old → one ≡ number → EndsWith old one → EndsWith seen number
ends old seen one number e f h = subst (λ (xs : List CoverBox). EndsWith xs number) (sym e) (subst (λ (n : ℕ). EndsWith old n) f h)

last_same : (old : List CoverBox) (one n : ℕ) (last : CoverBox) → EndsWith old one → n ≡ length old - 1 → last ≡ get_or old n last → last.pixel ≡ one
last_same old one n last h is at =
    let it : last ≡ h.last = at ∙ ap (λ (i : ℕ). get_or old i last) is ∙ get_or_from_slice_get old (length old - 1) h.last last h.there in
    ap (λ (b : CoverBox). b.pixel) it ∙ h.same

at_end : (old : List CoverBox) (one n : ℕ) → EndsWith old one → n ≡ length old - 1 → n + 1 ≡ length old
at_end old one n h is = let within = slice_get_within old (length old - 1) h.last h.there in omega (arith, within, is)

is_at : (c : goal.In_ok-push) → c.box_of_row-one.result.pixel ≡ pixel_of c.args.order c.args.row.now.hp
is_at c = own_pixel _ _ _ c.holding-pixel.result c.box_of_row-one.ensures.pixel c.holding-pixel.ensures.value

off : (c : goal.In_ok-push) → EndsWith c.args.boxes.now.items c.box_of_row-one.result.pixel → ⊥
off c h = false≢true (sym c.if-ends_with.false ∙ c.ends_with.ensures.1 (ends _ c.deref.result.now _ c.holding-pixel.result.number c.deref.ensures.value c.box_of_row-one.ensures.pixel h))

pub returns-in_ok-push-clause-boxes : goal.returns-in_ok-push-clause-boxes
returns-in_ok-push-clause-boxes c =
    let one = c.box_of_row-one in
    rw c.in_ok-push.ensures.items
    (pushed_cover c.args.order c.args.boxes.now.items c.args.row.now one.result (is_at c) one.ensures.seen c.requires.behind c.requires.boxes (off c) one.ensures.sound
    (exists _ _ c.args.row.now.hp c.holding-pixel.result (is_at c) c.holding-pixel.ensures.value c.holding-pixel.ensures.exists))

pub returns-in_ok-push-clause-behind : goal.returns-in_ok-push-clause-behind
returns-in_ok-push-clause-behind c =
    let one = c.box_of_row-one in
    rw c.in_ok-push.ensures.items (pushed_up_to c.args.order c.args.boxes.now.items c.args.row.now one.result (is_at c) one.ensures.seen c.requires.behind c.requires.boxes (off c))

pub returns-in_ok-push-clause-added : goal.returns-in_ok-push-clause-added
returns-in_ok-push-clause-added c =
    let one = c.box_of_row-one in
    rw c.in_ok-push.ensures.items (pushed_boxes c.args.order c.args.boxes.now.items c.args.row.now one.result (is_at c) one.ensures.seen c.requires.behind c.requires.boxes (off c))

-- the last box grows
at_last : (c : goal.After-boxes-1) → EndsWith c.args.boxes.now.items c.box_of_row-one.result.pixel
at_last c = ends c.deref.result.now _ c.holding-pixel.result.number _ (sym c.deref.ensures.value) (sym c.box_of_row-one.ensures.pixel) (c.ends_with.ensures.0 c.if-ends_with.true)

is_last : (c : goal.After-boxes-1) → c.box_of_row-one.result.pixel ≡ pixel_of c.args.order c.args.row.now.hp
is_last c = own_pixel _ _ _ c.holding-pixel.result c.box_of_row-one.ensures.pixel c.holding-pixel.ensures.value

index_is : (c : goal.After-boxes-1) → c.len-index.result - 1 ≡ length c.args.boxes.now.items - 1
index_is c = let size = c.len-index.ensures in let len = c.deref.ensures.len in let same = ap length c.deref.ensures.value in omega (arith, size, len, same)

pub returns-then-ends_with-clause-boxes : goal.returns-then-ends_with-clause-boxes
returns-then-ends_with-clause-boxes c =
    let old = c.args.boxes.now.items in
    let one = c.box_of_row-one in
    let last = c.index_mut-last.result.now in
    let value = c.index_mut-last.ensures.value in
    set_cover c.args.order old c.args.row.now one.result (is_last c) one.ensures.seen c.requires.behind c.requires.boxes last c.joined.result (c.len-index.result - 1)
    (at_end old _ _ (at_last c) (index_is c)) (sym value) (last_same old _ _ last (at_last c) (index_is c) value) c.joined.ensures.pixel c.joined.ensures.joined c.joined.ensures.sound

pub returns-then-ends_with-clause-behind : goal.returns-then-ends_with-clause-behind
returns-then-ends_with-clause-behind c =
    let old = c.args.boxes.now.items in
    let one = c.box_of_row-one in
    let last = c.index_mut-last.result.now in
    let value = c.index_mut-last.ensures.value in
    set_up_to c.args.order old c.args.row.now one.result (is_last c) one.ensures.seen c.requires.behind c.requires.boxes last c.joined.result (c.len-index.result - 1)
    (at_end old _ _ (at_last c) (index_is c)) (sym value) (last_same old _ _ last (at_last c) (index_is c) value) c.joined.ensures.pixel c.joined.ensures.joined

pub returns-then-ends_with-clause-added : goal.returns-then-ends_with-clause-added
returns-then-ends_with-clause-added c =
    let old = c.args.boxes.now.items in
    let one = c.box_of_row-one in
    let last = c.index_mut-last.result.now in
    let value = c.index_mut-last.ensures.value in
    set_boxes c.args.order old c.args.row.now one.result (is_last c) one.ensures.seen c.requires.behind c.requires.boxes last c.joined.result (c.len-index.result - 1)
    (at_end old _ _ (at_last c) (index_is c)) (sym value) (last_same old _ _ last (at_last c) (index_is c) value) c.joined.ensures.pixel c.joined.ensures.joined

last_sound : (old : List CoverBox) (order one n : ℕ) (last : CoverBox) → All (IsCoverBox order) old → EndsWith old one → n ≡ length old - 1 → last ≡ get_or old n last → IsSound last
last_sound old order one n last each h is at =
    let end = at_end old one n h is in
    let its = All-contains (IsCoverBox order) old last each (n, omega (arith, end), sym at) in
    its.sound

pub joined-requires-clause-a : goal.joined-requires-clause-a
joined-requires-clause-a c =
    let old = c.args.boxes.now.items in
    let size = c.len-index.ensures in
    let len = c.deref.ensures.len in
    let same = ap length c.deref.ensures.value in
    let end = ends c.deref.result.now _ c.holding-pixel.result.number c.holding-pixel.result.number (sym c.deref.ensures.value) refl (c.ends_with.ensures.0 c.if-ends_with.true) in
    last_sound old c.args.order c.holding-pixel.result.number (c.len-index.result - 1) c.index_mut-last.result.now c.requires.boxes.each end (omega (arith, size, len, same)) c.index_mut-last.ensures.value
