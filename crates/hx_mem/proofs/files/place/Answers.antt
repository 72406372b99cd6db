use Rattle.std.proofs.Common.{◌≡◌, ◌∙◌, ◌++◌, ◌∷◌, [], List, length, None, ap, subst, sym, refl, rules}
use Rattle.hx_mem.specs.declared.files.File.{File}
use Rattle.hx_mem.specs.Files.{IsNowhere, IsAt, folder_of}
use Rattle.hx_mem.proofs.Entries.{at_within, at_end, folder_push}
use Rattle.hx_mem.proofs.files.place.Goals as goal

pub returns-clause-found : goal.returns-clause-found
returns-clause-found c =
    let files = c.args.files.now.items in
    let name = c.args.name.now in
    let none : IsNowhere files name = search rules in
    let new : File = record { name = c.in_ok-copied.field-0; bytes = None } in
    let is : new.name ≡ name = search rules in
    let len : length files ≡ c.len-at.result = search rules in
    subst (λ (l : List File). IsAt l c.len-at.result name) (sym c.in_ok-push.ensures.items) (subst (λ n. IsAt (files ++ new ∷ []) n name) len (at_end files new name none is))

pub returns-clause-within : goal.returns-clause-within
returns-clause-within c = at_within c.push.new.self.items c.len-at.result c.args.name.now (returns-clause-found c)

pub returns-clause-same : goal.returns-clause-same
returns-clause-same c =
    let new : File = record { name = c.in_ok-copied.field-0; bytes = None } in
    ap folder_of c.in_ok-push.ensures.items ∙ folder_push c.args.files.now.items new refl

pub returns-in-Some-clause-within : goal.returns-in-Some-clause-within
returns-in-Some-clause-within c =
    let here : IsAt c.args.files.now.items c.in-Some.at c.args.name.now = search rules in
    at_within c.args.files.now.items c.in-Some.at c.args.name.now here
