use Rattle.std.proofs.Common.{rules, ◌≡◌, ℕ, ℤ, List, Bor, false, refl, ap, ◌∙◌}
use Rattle.hx_thrift.specs.Values.{number, binary, leaf}
use Rattle.hx_pqmeta.specs.Records.{ElementFields}
use Rattle.hx_pqmeta.specs.Fields.{element_of, is_entry}
use Rattle.hx_pqmeta.proofs.Entries.{last_more, adds_some}
use Rattle.hx_pqmeta.proofs.schema.SchemaElementStruct.read_entry.Goals as goal

pub returns-in_ok-self-inside-in-1-eq5 : goal.returns-in_ok-self-inside-in-1-eq5
returns-in_ok-self-inside-in-1-eq5 c =
    adds_some 29 1 5 (λ (n : ℤ). leaf (number n)) element_of _ _ c.args.field (search rules) refl c.in-1-eq5.is-0 c.in-1-eq5.is-1 (c.in_ok-self-inside-in-1-eq5.ensures 28) (λ x is es so_far.
    let before = c.self.view_is ∙ so_far in
    rw (is, ap (λ (s : ElementFields). s.repetition) before, ap (λ (s : ElementFields). s.name) before, ap (λ (s : ElementFields). s.children) before) (simp last_more))

pub returns-in_ok-self-inside-in-3-eq5 : goal.returns-in_ok-self-inside-in-3-eq5
returns-in_ok-self-inside-in-3-eq5 c =
    adds_some 29 3 5 (λ (n : ℤ). leaf (number n)) element_of _ _ c.args.field (search rules) refl c.in-3-eq5.is-0 c.in-3-eq5.is-1 (c.in_ok-self-inside-in-3-eq5.ensures 28) (λ x is es so_far.
    let before = c.self.view_is ∙ so_far in
    rw (is, ap (λ (s : ElementFields). s.kind) before, ap (λ (s : ElementFields). s.name) before, ap (λ (s : ElementFields). s.children) before) (simp last_more))

pub returns-in_ok-self-inside-in-4-eq8 : goal.returns-in_ok-self-inside-in-4-eq8
returns-in_ok-self-inside-in-4-eq8 c =
    adds_some 29 4 8 (λ (b : Bor (List ℕ)). leaf (binary b.now)) element_of _ _ c.args.field (search rules) refl c.in-4-eq8.is-0 c.in-4-eq8.is-1 (c.in_ok-self-inside-in-4-eq8.ensures 28) (λ x is es so_far.
    let before = c.self.view_is ∙ so_far in
    rw (is, ap (λ (s : ElementFields). s.kind) before, ap (λ (s : ElementFields). s.repetition) before, ap (λ (s : ElementFields). s.children) before) (simp last_more))

pub returns-in_ok-self-inside-in-5-eq5 : goal.returns-in_ok-self-inside-in-5-eq5
returns-in_ok-self-inside-in-5-eq5 c =
    adds_some 29 5 5 (λ (n : ℤ). leaf (number n)) element_of _ _ c.args.field (search rules) refl c.in-5-eq5.is-0 c.in-5-eq5.is-1 (c.in_ok-self-inside-in-5-eq5.ensures 28) (λ x is es so_far.
    let before = c.self.view_is ∙ so_far in
    rw (is, ap (λ (s : ElementFields). s.kind) before, ap (λ (s : ElementFields). s.repetition) before, ap (λ (s : ElementFields). s.name) before) (simp last_more))

pub returns-in_ok-pass-in_default : goal.returns-in_ok-pass-in_default
returns-in_ok-pass-in_default c =
    let kind : is_entry 1 5 c.args.field.id c.args.field.kind ≡ false = search rules in
    let repetition : is_entry 3 5 c.args.field.id c.args.field.kind ≡ false = search rules in
    let name : is_entry 4 8 c.args.field.id c.args.field.kind ≡ false = search rules in
    let children : is_entry 5 5 c.args.field.id c.args.field.kind ≡ false = search rules in
    let passed = c.in_ok-pass-in_default.ensures 29 c.requires.depth in
    (passed.0, passed.1, λ es so_far. rw so_far (simp (last_more, kind, repetition, name, children)))
