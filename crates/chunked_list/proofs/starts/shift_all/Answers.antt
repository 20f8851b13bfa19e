use Rattle.std.proofs.Common.{◌∙◌, ℕ, ◌+◌, ◌-◌, ap, get_or}
use Rattle.chunked_list.proofs.Starting.{left_as_it_was, one_changed}
use Rattle.chunked_list.proofs.starts.shift_all.Goals as goal

pub loop-number-preserved : goal.loop-number-preserved
loop-number-preserved c =
    let f : ℕ → ℕ = λ n. n - c.args.less + c.args.more in
    let list = c.args.numbers.now in
    let i = c.loop-number.number-index in
    let same = ap (λ ns. get_or ns i 0) c.loop-number.invariant ∙ left_as_it_was f list i 0 c.loop-number-test.true in
    one_changed f list c.loop-number.numbers i (f (get_or c.loop-number.numbers i 0)) c.loop-number-test.true c.loop-number.invariant (ap f same)
