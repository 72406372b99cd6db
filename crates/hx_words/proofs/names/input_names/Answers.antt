use Rattle.std.proofs.Common.{◌≡◌, ◌∙◌, List, drop, map, string_bytes, ℕ, String, Vec, Global, sym, subst}
use Rattle.std.proofs.lemmas.List.{drop-map, take_rest}
use Rattle.std.proofs.lemmas.Result.{IfOk-weaker}
use Rattle.hx_words.proofs.Requests.{files_named}
use Rattle.hx_words.specs.Words.{AreInputNames}
use Rattle.hx_words.proofs.names.input_names.Goals as goal

pub returns-in-Some : goal.returns-in-Some
returns-in-Some c =
    let words = map string_bytes c.args.words.now in
    let Copies : Vec (String Global) Global → Type 0 = λ names. map string_bytes names.items ≡ map string_bytes (drop c.in-Some.request.files c.args.words.now) in
    let Named : List (List ℕ) → Type 0 = AreInputNames words in
    IfOk-weaker c.copied.result Copies (λ names. Named (map string_bytes names.items))
    (λ names same. subst Named (drop-map string_bytes c.in-Some.request.files c.args.words.now ∙ sym same) (files_named words c.in-Some.request c.in-Some.ensures))
    (rw (take_rest c.args.words.now c.in-Some.request.files) at c.copied.ensures)
