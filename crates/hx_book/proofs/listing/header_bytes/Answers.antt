use Rattle.std.proofs.Common.{◌≡◌, ℕ, List, length, map, subst}
use Rattle.hx_journal.specs.Headers.{header_of, heading_of}
use Rattle.hx_book.proofs.listing.header_bytes.Goals as goal

pub returns-clause-header : goal.returns-clause-header
returns-clause-header g c = λ (bytes : List (List ℕ)). λ tell.
    let w = c.in_ok-words.ensures.words in
    let l = c.in_ok-words.ensures.lens bytes tell in
    let words : c.deref.result.now ≡ map g.Src.Source.source.label c.args.inputs.now.items = cc (w, c.deref.ensures.value) in
    let lens : c.deref-2.result.now ≡ map (length {A = ℕ}) bytes = cc (l, c.deref-2.ensures.value) in
    subst (λ (x : List ℕ). c.in_ok-header.header.items ≡ header_of (heading_of c.args.settings.now x (map g.Src.Source.source.label c.args.inputs.now.items))) lens
    (subst (λ (x : List (List ℕ)). c.in_ok-header.header.items ≡ header_of (heading_of c.args.settings.now c.deref-2.result.now x)) words c.in_ok-header.ensures.text)
