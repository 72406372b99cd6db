use Rattle.std.proofs.Common.{String, Global, List, None, arith, map, rules, string_bytes, ℕ, ◌≡◌, refl}
use Rattle.std.proofs.lemmas.List.{drop-map, take_rest}
use Rattle.hx_words.specs.Options.{plan_options}
use Rattle.hx_words.proofs.OptionWords.{files_end, further_of, kept_range}
use Rattle.hx_words.proofs.Requests.{plan_line, plan_requested}
use Rattle.hx_words.proofs.request.plan.Goals as goal

abbrev text : String Global → List ℕ
text word = string_bytes word

pub returns-in_err-options : goal.returns-in_err-options
returns-in_err-options c =
    let words = map text c.args.line.now in
    let is : c.from_residual.result ≡ None = search rules in
    rw is (λ lowest highest threshold files line. c.in_err-options.ensures line.options files (further_of plan_options c.none.result c.none.ensures words line.options files (cc line.form) line.sound (files_end files line.inputs)))

pub returns-then-not-are_files : goal.returns-then-not-are_files
returns-then-not-are_files c = λ lowest highest threshold files line.
    let words = c.args.line.now in
    let count = c.in_ok-options.count in
    let read = plan_line c.none.result c.none.ensures (map text words) c.in_ok-options.options count c.in_ok-options.ensures lowest highest threshold files line in
    cc (c.if-not-are_files.ensures.1 (rw (take_rest words count) (rw (drop-map text count words) at (rw read.0 at line.inputs))))

pub plan_of-requires : goal.plan_of-requires
plan_of-requires c = kept_range plan_options c.none.result c.none.ensures (map text c.args.line.now) c.in_ok-options.options c.in_ok-options.count c.in_ok-options.ensures

pub returns-in_err-action : goal.returns-in_err-action
returns-in_err-action c =
    let words = map text c.args.line.now in
    let is : c.from_residual-in_err-action.result ≡ None = search rules in
    rw is (λ lowest highest threshold files line.
    let read = plan_line c.none.result c.none.ensures words c.in_ok-options.options c.in_ok-options.count c.in_ok-options.ensures lowest highest threshold files line in
    omega (arith, read.1, c.in_err-action.ensures))

pub returns : goal.returns
returns c =
    let words = c.args.line.now in
    let count = c.in_ok-options.count in
    let action = c.in_ok-action.ensures in
    let files = c.if-not-are_files.ensures in
    plan_requested c.none.result c.none.ensures (map text words) c.in_ok-options.options count c.in_ok-options.ensures c.in_ok-action.action action.1 action.0 (rw (drop-map text count words) (rw (take_rest words count) at files.0 refl))
