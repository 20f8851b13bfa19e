use Rattle.std.proofs.Common.{◌≡◌, ◌+◌, ◌-◌, ◌++◌, map, take, drop}
use Rattle.chunked_list.proofs.starts.shift_all.Given as goal

abbrev pub invariant-loop-number : goal.invariant-loop-number
invariant-loop-number l = l.numbers ≡ map (λ n. n - l.less + l.more) (take l.number-index l.fn.numbers) ++ drop l.number-index l.fn.numbers
