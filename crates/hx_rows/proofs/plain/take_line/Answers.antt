use Rattle.std.proofs.Common.{[], Bor, List, Some, ℕ, ◌+◌, ◌-◌, ◌<◌, ◌≡◌, ◌∙◌, ap, arith, drop, length, map, refl, sym, take}
use Rattle.csv.specs.Machine.{next_record}
use Rattle.csv.specs.Reading.{default_config}
use Rattle.csv.specs.declared.parser.State.TheVariants as st
use Rattle.hx_rows.proofs.Lines.{begins-at, comma-at, end-at, fields-push, line-at}
use Rattle.hx_rows.proofs.plain.take_line.Goals as goal

pub fields-init : goal.fields-init
fields-init c = record {
  high = omega (arith, c.requires);
  read = rw c.clear.ensures.items (begins-at c.args.text.now c.args.at (omega (arith, c.if-at-text.false)) c.if-text-at-eq10.false c.if-text-at-eq13.false);
}

pub fields-preserved : goal.fields-preserved
fields-preserved c =
    let text = c.args.text.now in
    let from = c.fields.from in
    let end = c.run_end-end.result in
    let now = λ (field : Bor (List ℕ)). field.now in
    let fields = c.fields.fields.items in
    let high : end < length text = omega (arith, c.run_end-end.ensures.end, c.if-end-text.false) in
    let field = comma-at text from end (map now fields) c.run_end-end.ensures.start high c.run_end-end.ensures.run c.in-44.is in
    record {
      high = omega (arith, high);
      read = rw c.in-Ok.ensures.items (c.fields.invariant.read ∙ field
          ∙ ap (λ fields. next_record default_config st.StartField fields [] (drop (end + 1) text)) (sym (fields-push fields _ (take (end - from) (drop from text)) refl)));
    }

pub returns-in-10-clause-record : goal.returns-in-10-clause-record
returns-in-10-clause-record c =
    let text = c.args.text.now in
    let from = c.fields.from in
    let end = c.run_end-end.result in
    let now = λ (field : Bor (List ℕ)). field.now in
    let fields = c.fields.fields.items in
    let high : end < length text = omega (arith, c.run_end-end.ensures.end, c.if-end-text.false) in
    let line = line-at text from end (map now fields) c.run_end-end.ensures.start high c.run_end-end.ensures.run c.in-10.is in
    rw c.in-Ok.ensures.items (c.fields.invariant.read ∙ line
    ∙ ap (λ fields. Some (fields, st.StartRecord, drop (end + 1) text)) (sym (fields-push fields _ (take (end - from) (drop from text)) refl)))

pub returns-then-end-text-clause-record : goal.returns-then-end-text-clause-record
returns-then-end-text-clause-record c =
    let text = c.args.text.now in
    let from = c.fields.from in
    let end = c.run_end-end.result in
    let now = λ (field : Bor (List ℕ)). field.now in
    let fields = c.fields.fields.items in
    let is : end ≡ length text = omega (arith, c.if-end-text.true) in
    let line = end-at text from end (map now fields) (omega (arith, is, c.fields-test.true)) is c.run_end-end.ensures.run in
    rw c.in-Ok.ensures.items (c.fields.invariant.read ∙ line
    ∙ ap (λ fields. Some (fields, st.StartRecord, drop end text)) (sym (fields-push fields _ (take (end - from) (drop from text)) refl)))
