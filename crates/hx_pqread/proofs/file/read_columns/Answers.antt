use Rattle.std.proofs.Common.{◌≡◌, ◌+◌, ◌++◌, ◌∷◌, [], Ok, map, drop, string_bytes, get_or, refl, sym, ap, ◌∙◌, arith}
use Rattle.std.proofs.lemmas.List.{at_drop_more}
use Rattle.hx_pqread.specs.Columns.{column_at, columns_at, least_absent}
use Rattle.hx_pqread.proofs.Joins.{with_columns, next_column, one_column, pushed, ok_is}
use Rattle.hx_pqread.proofs.file.read_columns.Goals as goal

pub loop-i-preserved : goal.loop-i-preserved
loop-i-preserved c =
    let front = c.loop-i.invariant.0 in
    let kept = c.in_ok-kept.ensures in
    let values = kept.0 in
    let footer = c.args.footer.now in
    let file = c.args.file.now in
    let i = c.loop-i.i in
    let number : i ≡ c.in_ok-column_of.field-0 = ok_is i c.in_ok-column_of.field-0 (Ok i) (Ok c.in_ok-column_of.field-0) refl refl c.in_ok-column_of.ensures in
    let name : c.as_bytes.result.now ≡ string_bytes (get_or c.args.names.now i c.index-names-i.result) = c.as_bytes.ensures.value ∙ ap string_bytes c.index-names-i.is in
    let read : column_at footer file i (string_bytes (get_or c.args.names.now i c.index-names-i.result)) ≡ Ok values = rw (← name, number) kept.1 in
    let row : c.lesser-absent.result ≡ least_absent (front ++ values ∷ []) =
    rw (one_column front values) (c.lesser-absent.ensures ∙ rw (c.loop-i.invariant.2, kept.2.absent) refl) in
    let lists = pushed c.loop-i.lists.items c.push.new.self.items c.in_ok-kept.kept.numbers (λ list. list.items) front values c.in_ok-push.ensures.items c.loop-i.invariant.1 kept.2.numbers in
    let first = at_drop_more (λ xs. with_columns front (columns_at footer file i (map string_bytes xs))) c.args.names.now i c.index-names-i.result (omega arith) in
    let next = next_column footer file i (string_bytes (get_or c.args.names.now i c.index-names-i.result)) (map string_bytes (drop (i + 1) c.args.names.now)) front values read in
    (front ++ values ∷ [], lists, row, sym next ∙ (sym first ∙ c.loop-i.invariant.3))
