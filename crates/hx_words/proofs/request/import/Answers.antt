use Rattle.std.proofs.Common.{String, Global, List, None, map, rules, string_bytes, ℕ, ◌≡◌, ◌∷◌, refl}
use Rattle.std.proofs.lemmas.List.{drop-map, take_rest}
use Rattle.hx_words.specs.Options.{import_options}
use Rattle.hx_words.proofs.OptionWords.{further_of, kept_range, name_ends}
use Rattle.hx_words.proofs.Requests.{import_line, import_requested}
use Rattle.hx_words.proofs.request.import.Goals as goal

abbrev text : String Global → List ℕ
text word = string_bytes word

pub returns-in_err-options : goal.returns-in_err-options
returns-in_err-options c =
    let words = map text c.args.line.now in
    let is : c.from_residual.result ≡ None = search rules in
    rw is (λ lowest highest threshold margin_order name files line. c.in_err-options.ensures line.options (name ∷ files)
    (further_of import_options c.none.result c.none.ensures words line.options (name ∷ files) (cc line.form) line.sound (name_ends name files line.named)))

pub returns-then-not-are_name_and_files : goal.returns-then-not-are_name_and_files
returns-then-not-are_name_and_files c = λ lowest highest threshold margin_order name files line.
    let words = c.args.line.now in
    let count = c.in_ok-options.count in
    let read = import_line c.none.result c.none.ensures (map text words) c.in_ok-options.options count c.in_ok-options.ensures lowest highest threshold margin_order name files line in
    cc (c.if-not-are_name_and_files.ensures.1 (rw (take_rest words count) (rw (drop-map text count words) at read.0)))

pub import_of-requires : goal.import_of-requires
import_of-requires c = kept_range import_options c.none.result c.none.ensures (map text c.args.line.now) c.in_ok-options.options c.in_ok-options.count c.in_ok-options.ensures

pub returns-in_err-action : goal.returns-in_err-action
returns-in_err-action c =
    let words = map text c.args.line.now in
    let is : c.from_residual-in_err-action.result ≡ None = search rules in
    rw is (λ lowest highest threshold margin_order name files line.
    let read = import_line c.none.result c.none.ensures words c.in_ok-options.options c.in_ok-options.count c.in_ok-options.ensures lowest highest threshold margin_order name files line in
    c.in_err-action.ensures read.1 read.2)

pub returns : goal.returns
returns c =
    let words = c.args.line.now in
    let count = c.in_ok-options.count in
    let action = c.in_ok-action.ensures in
    let files = c.if-not-are_name_and_files.ensures in
    import_requested c.none.result c.none.ensures (map text words) c.in_ok-options.options count c.in_ok-options.ensures c.in_ok-action.action action.2 action.0 action.1 (rw (drop-map text count words) (rw (take_rest words count) at files.0 refl))
