use Rattle.std.proofs.Common.{◌≡◌, ◌+◌, ◌++◌, ◌∷◌, ◌∙◌, [], ℕ, List, length, take, get_or, ap, sym, arith, rules}
use Rattle.std.proofs.lemmas.List.{take_more}
use Rattle.std.specs.Str.{bytes_eq}
use Rattle.hx_mem.specs.Stores.{count_of}
use Rattle.hx_mem.proofs.Counting.{counted_one, counted_none}
use Rattle.hx_mem.proofs.store.MemStore.reads_of.Goals as goal
use Rattle.hx_mem.proofs.store.MemStore.reads_of.Goals.{then-eq, else-eq}

pub loop-at-preserved : goal.loop-at-preserved
loop-at-preserved c =
    let names : List (List ℕ) = c.args.self.now.looked in
    let name : List ℕ = c.args.name.now in
    let x : List ℕ = c.index.result.now in
    let before : List (List ℕ) = take c.loop-at.at names in
    let read : x ≡ get_or names c.loop-at.at x = search rules in
    let long : length names ≡ c.len-at-end.result = search rules in
    let more : take (c.loop-at.at + 1) names ≡ before ++ x ∷ [] = take_more names c.loop-at.at x (omega (arith, long)) ∙ ap (λ (y : List ℕ). before ++ y ∷ []) (sym read) in
    let test : c.eq.result ≡ bytes_eq x name = c.eq.ensures ∙ (λ k. bytes_eq (c.as_slice.ensures k) (c.as_bytes.ensures.value k)) in
    elim c.if-eq.branch [
      | then-eq w ↦ record {
        count =
            let one : count_of name (take (c.loop-at.at + 1) names) ≡ count_of name before + 1 = ap (count_of name) more ∙ counted_one name before x (sym test ∙ w.if-eq.true) in
            omega (arith, one, w.count-is, c.loop-at.invariant.count);
        few = omega (arith, w.count-is, c.loop-at.invariant.few);
      }
      | else-eq w ↦ record {
        count =
            let none : count_of name (take (c.loop-at.at + 1) names) ≡ count_of name before = ap (count_of name) more ∙ counted_none name before x (sym test ∙ w.if-eq.false) in
            omega (arith, none, w.count-is, c.loop-at.invariant.count);
        few = omega (arith, w.count-is, c.loop-at.invariant.few);
      }
    ]
