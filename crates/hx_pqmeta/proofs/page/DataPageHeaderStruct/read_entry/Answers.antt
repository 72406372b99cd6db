use Rattle.std.proofs.Common.{rules, ◌≡◌, ℤ, false, refl}
use Rattle.hx_thrift.specs.Values.{number, leaf}
use Rattle.hx_pqmeta.specs.Fields.{data_page_header_of, is_entry}
use Rattle.hx_pqmeta.proofs.Entries.{last_more, adds_some}
use Rattle.hx_pqmeta.proofs.page.DataPageHeaderStruct.read_entry.Goals as goal

pub returns-in_ok-self-in-1-eq5 : goal.returns-in_ok-self-in-1-eq5
returns-in_ok-self-in-1-eq5 c =
    adds_some 30 1 5 (λ (n : ℤ). leaf (number n)) data_page_header_of _ _ c.args.field (search rules) refl c.in-1-eq5.is-0 c.in-1-eq5.is-1 (c.in_ok-self-in-1-eq5.ensures 29) (λ n is es so_far. rw (is, so_far) (simp last_more))

pub returns-in_ok-self-in-2-eq5 : goal.returns-in_ok-self-in-2-eq5
returns-in_ok-self-in-2-eq5 c =
    adds_some 30 2 5 (λ (n : ℤ). leaf (number n)) data_page_header_of _ _ c.args.field (search rules) refl c.in-2-eq5.is-0 c.in-2-eq5.is-1 (c.in_ok-self-in-2-eq5.ensures 29) (λ n is es so_far. rw (is, so_far) (simp last_more))

pub returns-in_ok-self-in-3-eq5 : goal.returns-in_ok-self-in-3-eq5
returns-in_ok-self-in-3-eq5 c =
    adds_some 30 3 5 (λ (n : ℤ). leaf (number n)) data_page_header_of _ _ c.args.field (search rules) refl c.in-3-eq5.is-0 c.in-3-eq5.is-1 (c.in_ok-self-in-3-eq5.ensures 29) (λ n is es so_far. rw (is, so_far) (simp last_more))

pub returns-in_ok-pass-in_default : goal.returns-in_ok-pass-in_default
returns-in_ok-pass-in_default c =
    let values : is_entry 1 5 c.args.field.id c.args.field.kind ≡ false = search rules in
    let encoding : is_entry 2 5 c.args.field.id c.args.field.kind ≡ false = search rules in
    let levels : is_entry 3 5 c.args.field.id c.args.field.kind ≡ false = search rules in
    let passed = c.in_ok-pass-in_default.ensures 30 c.requires.depth in
    (passed.0, passed.1, λ es so_far. rw so_far (simp (last_more, values, encoding, levels)))
