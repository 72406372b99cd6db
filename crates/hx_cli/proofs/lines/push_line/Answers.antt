use Rattle.std.proofs.Common.{◌≡◌, ◌∙◌, ◌-◌, ◌+◌, ◌++◌, ◌≤◌, ℕ, List, length, drop, take, arith, rules, decimal, ap}
use Rattle.std.proofs.lemmas.Fmt.{length-decimal-le}
use Rattle.std.proofs.lemmas.List.{length-set, take_rest}
use Rattle.hx_cli.proofs.HistText.{line_written}
use Rattle.hx_cli.proofs.lines.push_line.Goals as goal

pub write_digits-comma-requires : goal.write_digits-comma-requires
write_digits-comma-requires c = search (rules, length-decimal-le 20)

pub overflow_sub-comma : goal.overflow_sub-comma
overflow_sub-comma c = let short : length (decimal c.args.pair.count) ≤ 20 = search (rules, length-decimal-le 20) in omega arith

pub write_digits-start-requires : goal.write_digits-start-requires
write_digits-start-requires c =
    let first : length (decimal c.args.pair.count) ≤ 20 = search (rules, length-decimal-le 20) in
    let second : length (decimal c.args.pair.pixel) ≤ 20 = search (rules, length-decimal-le 20) in
    let long : length c.write_digits-comma.new.buf ≡ 42 = c.write_digits-comma.auto.buf in
    (omega arith, simp length-set (omega arith))

pub returns : goal.returns
returns c =
    let short : length (decimal c.args.pair.count) ≤ 20 = search (rules, length-decimal-le 20) in
    let first = c.write_digits-comma in
    let second = c.write_digits-start in
    let at : first.result - 1 + 1 ≡ first.result = omega arith in
    let long : length first.new.buf ≡ 42 = first.auto.buf in
    let whole : length second.new.buf ≡ 42 = second.auto.buf ∙ length-set first.new.buf (first.result - 1) 44 ∙ long in
    let line = line_written (decimal c.args.pair.pixel) (decimal c.args.pair.count) first.new.buf second.new.buf (first.result - 1) second.result (omega arith) (rw at first.ensures.written) second.ensures.written in
    let all = take_rest second.new.buf second.result in
    let rest : take (42 - second.result) (drop second.result second.new.buf) ≡ drop second.result second.new.buf = rw whole at all in
    c.in_ok-extend_from_slice.ensures.items ∙ ap (λ (t : List ℕ). c.args.text.now.items ++ t) (rest ∙ line)
