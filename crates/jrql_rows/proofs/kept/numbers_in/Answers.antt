use Rattle.std.proofs.Common.{◌≡◌, ◌∙◌, ◌<◌, ◌≤◌, ◌+◌, ◌*◌, ◌-◌, [], drop, take, length, sym, ap, arith}
use Rattle.std.proofs.lemmas.List.{get_or_past}
use Rattle.jrql_rows.specs.KeptValues.{cut_rows}
use Rattle.jrql_rows.proofs.RowNumbers.{cut_at, cut_length}
use Rattle.jrql_rows.proofs.kept.numbers_in.Goals as goal

pub returns-then-row-rows : goal.returns-then-row-rows
returns-then-row-rows c =
    let start = c.args.row * c.args.width in
    let wide : start + c.args.width - start ≡ c.args.width = omega arith in
    let l : c.args.row < c.args.rows = omega arith in
    ap (λ n. take n (drop start c.args.numbers.now)) wide ∙ sym (cut_at c.args.width c.args.rows c.args.numbers.now c.args.row l)

pub returns-else-row-rows : goal.returns-else-row-rows
returns-else-row-rows c =
    let long = cut_length c.args.width c.args.rows c.args.numbers.now in
    let past : length (cut_rows c.args.width c.args.rows c.args.numbers.now) ≤ c.args.row = omega (arith, long) in
    sym (get_or_past (cut_rows c.args.width c.args.rows c.args.numbers.now) c.args.row [] past)
