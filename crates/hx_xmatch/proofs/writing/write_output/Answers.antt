use Rattle.std.proofs.Common.{◌≡◌, ◌∙◌, ℕ, List, Err, Some, ap, inl, inr, ⊎_elim, rules, subst, sym}
use Rattle.hx_outside.specs.Disk.{Passes}
use Rattle.hx_outside.specs.Folders.{SameBut}
use Rattle.hx_outside.proofs.Runs.{stands}
use Rattle.hx_publish.specs.Publishing.{HasInEach, Publishes}
use Rattle.hx_xmatch.specs.Output.{output_file, temporary_file}
use Rattle.hx_xmatch.proofs.Composed.{but_refl, but_then_published, but_twice, failed_since, on_err}
use Rattle.hx_xmatch.proofs.OutputNames.{names_apart}
use Rattle.hx_xmatch.proofs.writing.write_output.Goals as goal

pub returns-in_err-tmp-clause-whole : goal.returns-in_err-tmp-clause-whole
returns-in_err-tmp-clause-whole g c tells = inl (stands g.S.Store.disk _ (SameBut (temporary_file c.args.output.now)) tells (but_refl (temporary_file c.args.output.now)))

pub returns-in_err-tmp-clause-before : goal.returns-in_err-tmp-clause-before
returns-in_err-tmp-clause-before g c tells = on_err _ _ (inl (stands g.S.Store.disk _ (SameBut (temporary_file c.args.output.now)) tells (but_refl (temporary_file c.args.output.now))))

pub returns-in_err-name-clause-whole : goal.returns-in_err-name-clause-whole
returns-in_err-name-clause-whole g c tells = inl (stands g.S.Store.disk _ (SameBut (temporary_file c.args.output.now)) tells (but_refl (temporary_file c.args.output.now)))

pub returns-in_err-name-clause-before : goal.returns-in_err-name-clause-before
returns-in_err-name-clause-before g c tells = on_err _ _ (inl (stands g.S.Store.disk _ (SameBut (temporary_file c.args.output.now)) tells (but_refl (temporary_file c.args.output.now))))

pub returns-in_err-counts-clause-whole : goal.returns-in_err-counts-clause-whole
returns-in_err-counts-clause-whole g c tells =
    let is : c.as_str.result.now ≡ temporary_file c.args.output.now = search rules in
    inl (subst (λ (n : List ℕ). Passes g.S.Store.disk c.args.store.now c.write_lines.new.store (SameBut n)) is (c.write_lines.ensures.passes tells))

pub returns-in_err-counts-clause-before : goal.returns-in_err-counts-clause-before
returns-in_err-counts-clause-before g c tells =
    let is : c.as_str.result.now ≡ temporary_file c.args.output.now = search rules in
    on_err _ _ (inl (subst (λ (n : List ℕ). Passes g.S.Store.disk c.args.store.now c.write_lines.new.store (SameBut n)) is (c.write_lines.ensures.passes tells)))

pub returns-in_err-finish-clause-whole : goal.returns-in_err-finish-clause-whole
returns-in_err-finish-clause-whole g c tells =
    let d = g.S.Store.disk in
    let output = c.args.output.now in
    let tmp : c.as_str.result.now ≡ temporary_file output = search rules in
    let tmp_too : c.as_str-2.result.now ≡ temporary_file output = search rules in
    let name : c.as_str-3.result.now ≡ output_file output = search rules in
    let run = subst (λ (n : List ℕ). Passes d c.args.store.now c.write_lines.new.store (SameBut n)) tmp (c.write_lines.ensures.passes tells) in
    let (text, is, of) = c.in_ok-counts.ensures.written tells in
    let there : d.reads c.write_lines.new.store c.as_str-2.result.now ≡ Some text = subst (λ (n : List ℕ). d.reads c.write_lines.new.store n ≡ Some text) (tmp ∙ sym tmp_too) is in
    let last = subst (λ (n : List ℕ). Passes d c.write_lines.new.store c.finish.new.store (Publishes (temporary_file output) n text)) name
    (subst (λ (n : List ℕ). Passes d c.write_lines.new.store c.finish.new.store (Publishes n c.as_str-3.result.now text)) tmp_too (c.finish.ensures.passes run.told text there)) in
    inr (text, (_, _, of), but_then_published d _ tells _ _ (temporary_file output) (output_file output) text (names_apart output) run last)

pub returns-in_err-finish-clause-before : goal.returns-in_err-finish-clause-before
returns-in_err-finish-clause-before g c tells =
    let d = g.S.Store.disk in
    let output = c.args.output.now in
    let tmp : c.as_str.result.now ≡ temporary_file output = search rules in
    let tmp_too : c.as_str-2.result.now ≡ temporary_file output = search rules in
    let run = subst (λ (n : List ℕ). Passes d c.args.store.now c.write_lines.new.store (SameBut n)) tmp (c.write_lines.ensures.passes tells) in
    on_err _ _ (⊎_elim
    (λ fault. inr (failed_since d.faults _ _ _ c.write_lines.ensures.cause.later (c.in_err-finish.ensures.cause.failed (ap Err fault))))
    (λ memory. inl (but_twice d _ tells _ _ (temporary_file output) run
    (subst (λ (n : List ℕ). Passes d c.write_lines.new.store c.finish.new.store (SameBut n)) tmp_too (c.in_err-finish.ensures.memory run.told (ap Err memory)))))
    c.in_err-finish.ensures.kinds)

pub returns-clause-whole : goal.returns-clause-whole
returns-clause-whole g c tells =
    let d = g.S.Store.disk in
    let output = c.args.output.now in
    let tmp : c.as_str.result.now ≡ temporary_file output = search rules in
    let tmp_too : c.as_str-2.result.now ≡ temporary_file output = search rules in
    let name : c.as_str-3.result.now ≡ output_file output = search rules in
    let run = subst (λ (n : List ℕ). Passes d c.args.store.now c.write_lines.new.store (SameBut n)) tmp (c.write_lines.ensures.passes tells) in
    let (text, is, of) = c.in_ok-counts.ensures.written tells in
    let there : d.reads c.write_lines.new.store c.as_str-2.result.now ≡ Some text = subst (λ (n : List ℕ). d.reads c.write_lines.new.store n ≡ Some text) (tmp ∙ sym tmp_too) is in
    let last = subst (λ (n : List ℕ). Passes d c.write_lines.new.store c.finish.new.store (Publishes (temporary_file output) n text)) name
    (subst (λ (n : List ℕ). Passes d c.write_lines.new.store c.finish.new.store (Publishes n c.as_str-3.result.now text)) tmp_too (c.finish.ensures.passes run.told text there)) in
    inr (text, (_, _, of), but_then_published d _ tells _ _ (temporary_file output) (output_file output) text (names_apart output) run last)

pub returns-clause-written : goal.returns-clause-written
returns-clause-written g c tells =
    let d = g.S.Store.disk in
    let output = c.args.output.now in
    let tmp : c.as_str.result.now ≡ temporary_file output = search rules in
    let tmp_too : c.as_str-2.result.now ≡ temporary_file output = search rules in
    let name : c.as_str-3.result.now ≡ output_file output = search rules in
    let run = c.write_lines.ensures.passes tells in
    let (text, is, of) = c.in_ok-counts.ensures.written tells in
    let there : d.reads c.write_lines.new.store c.as_str-2.result.now ≡ Some text = subst (λ (n : List ℕ). d.reads c.write_lines.new.store n ≡ Some text) (tmp ∙ sym tmp_too) is in
    (text, subst (λ (n : List ℕ). HasInEach d c.finish.new.store n text) name (c.in_ok-finish.ensures.done run.told text there), of)
