use Rattle.std.proofs.Common.{rules, ◌≡◌, ℤ, false, refl}
use Rattle.hx_thrift.specs.Values.{number, leaf}
use Rattle.hx_pqmeta.specs.Fields.{meta_data_of, is_entry}
use Rattle.hx_pqmeta.proofs.Entries.{last_more, adds_some}
use Rattle.hx_pqmeta.proofs.chunk.ColumnMetaDataStruct.read_entry.Goals as goal

pub returns-in_ok-self-in-4-eq5 : goal.returns-in_ok-self-in-4-eq5
returns-in_ok-self-in-4-eq5 c =
    adds_some 26 4 5 (λ (n : ℤ). leaf (number n)) meta_data_of _ _ c.args.field (search rules) refl c.in-4-eq5.is-0 c.in-4-eq5.is-1 (c.in_ok-self-in-4-eq5.ensures 25) (λ x is es so_far. rw (is, so_far) (simp last_more))

pub returns-in_ok-self-in-5-eq6 : goal.returns-in_ok-self-in-5-eq6
returns-in_ok-self-in-5-eq6 c =
    adds_some 26 5 6 (λ (n : ℤ). leaf (number n)) meta_data_of _ _ c.args.field (search rules) refl c.in-5-eq6.is-0 c.in-5-eq6.is-1 (c.in_ok-self-in-5-eq6.ensures 25) (λ x is es so_far. rw (is, so_far) (simp last_more))

pub returns-in_ok-self-in-6-eq6 : goal.returns-in_ok-self-in-6-eq6
returns-in_ok-self-in-6-eq6 c =
    adds_some 26 6 6 (λ (n : ℤ). leaf (number n)) meta_data_of _ _ c.args.field (search rules) refl c.in-6-eq6.is-0 c.in-6-eq6.is-1 (c.in_ok-self-in-6-eq6.ensures 25) (λ x is es so_far. rw (is, so_far) (simp last_more))

pub returns-in_ok-self-in-7-eq6 : goal.returns-in_ok-self-in-7-eq6
returns-in_ok-self-in-7-eq6 c =
    adds_some 26 7 6 (λ (n : ℤ). leaf (number n)) meta_data_of _ _ c.args.field (search rules) refl c.in-7-eq6.is-0 c.in-7-eq6.is-1 (c.in_ok-self-in-7-eq6.ensures 25) (λ x is es so_far. rw (is, so_far) (simp last_more))

pub returns-in_ok-self-in-9-eq6 : goal.returns-in_ok-self-in-9-eq6
returns-in_ok-self-in-9-eq6 c =
    adds_some 26 9 6 (λ (n : ℤ). leaf (number n)) meta_data_of _ _ c.args.field (search rules) refl c.in-9-eq6.is-0 c.in-9-eq6.is-1 (c.in_ok-self-in-9-eq6.ensures 25) (λ x is es so_far. rw (is, so_far) (simp last_more))

pub returns-in_ok-self-in-11-eq6 : goal.returns-in_ok-self-in-11-eq6
returns-in_ok-self-in-11-eq6 c =
    adds_some 26 11 6 (λ (n : ℤ). leaf (number n)) meta_data_of _ _ c.args.field (search rules) refl c.in-11-eq6.is-0 c.in-11-eq6.is-1 (c.in_ok-self-in-11-eq6.ensures 25) (λ x is es so_far. rw (is, so_far) (simp last_more))

pub returns-in_ok-pass-in_default : goal.returns-in_ok-pass-in_default
returns-in_ok-pass-in_default c =
    let codec : is_entry 4 5 c.args.field.id c.args.field.kind ≡ false = search rules in
    let values : is_entry 5 6 c.args.field.id c.args.field.kind ≡ false = search rules in
    let plain_size : is_entry 6 6 c.args.field.id c.args.field.kind ≡ false = search rules in
    let stored_size : is_entry 7 6 c.args.field.id c.args.field.kind ≡ false = search rules in
    let data_page : is_entry 9 6 c.args.field.id c.args.field.kind ≡ false = search rules in
    let dictionary_page : is_entry 11 6 c.args.field.id c.args.field.kind ≡ false = search rules in
    let passed = c.in_ok-pass-in_default.ensures 26 c.requires.depth in
    (passed.0, passed.1, λ es so_far. rw so_far (simp (last_more, codec, values, plain_size, stored_size, data_page, dictionary_page)))
