use Rattle.std.proofs.Common.{rules, ◌≡◌, ℤ, false, refl}
use Rattle.hx_thrift.specs.Values.{number, leaf}
use Rattle.hx_pqmeta.specs.Fields.{page_header_of, is_entry}
use Rattle.hx_pqmeta.proofs.Entries.{last_more, adds, adds_some}
use Rattle.hx_pqmeta.proofs.page.PageHeaderStruct.read_entry.Goals as goal

pub returns-in_ok-self-in-1-eq5 : goal.returns-in_ok-self-in-1-eq5
returns-in_ok-self-in-1-eq5 c =
    adds_some 31 1 5 (λ (n : ℤ). leaf (number n)) page_header_of _ _ c.args.field (search rules) refl c.in-1-eq5.is-0 c.in-1-eq5.is-1 (c.in_ok-self-in-1-eq5.ensures 30) (λ x is es so_far. rw (is, so_far) (simp last_more))

pub returns-in_ok-self-in-2-eq5 : goal.returns-in_ok-self-in-2-eq5
returns-in_ok-self-in-2-eq5 c =
    adds_some 31 2 5 (λ (n : ℤ). leaf (number n)) page_header_of _ _ c.args.field (search rules) refl c.in-2-eq5.is-0 c.in-2-eq5.is-1 (c.in_ok-self-in-2-eq5.ensures 30) (λ x is es so_far. rw (is, so_far) (simp last_more))

pub returns-in_ok-self-in-3-eq5 : goal.returns-in_ok-self-in-3-eq5
returns-in_ok-self-in-3-eq5 c =
    adds_some 31 3 5 (λ (n : ℤ). leaf (number n)) page_header_of _ _ c.args.field (search rules) refl c.in-3-eq5.is-0 c.in-3-eq5.is-1 (c.in_ok-self-in-3-eq5.ensures 30) (λ x is es so_far. rw (is, so_far) (simp last_more))

pub returns-in_ok-read_struct-in-5-eq12 : goal.returns-in_ok-read_struct-in-5-eq12
returns-in_ok-read_struct-in-5-eq12 c =
    let inner = c.in_ok-read_struct-in-5-eq12.ensures in
    adds 31 5 12 page_header_of _ _ c.args.field (search rules) refl c.in-5-eq12.is-0 c.in-5-eq12.is-1 (inner.0, inner.1, λ es so_far. rw (so_far, inner.2.1, inner.2.2) (simp last_more))

pub returns-in_ok-pass-in_default : goal.returns-in_ok-pass-in_default
returns-in_ok-pass-in_default c =
    let kind : is_entry 1 5 c.args.field.id c.args.field.kind ≡ false = search rules in
    let plain_size : is_entry 2 5 c.args.field.id c.args.field.kind ≡ false = search rules in
    let stored_size : is_entry 3 5 c.args.field.id c.args.field.kind ≡ false = search rules in
    let data_page : is_entry 5 12 c.args.field.id c.args.field.kind ≡ false = search rules in
    let passed = c.in_ok-pass-in_default.ensures 31 c.requires.depth in
    (passed.0, passed.1, λ es so_far. rw so_far (simp (last_more, kind, plain_size, stored_size, data_page)))
