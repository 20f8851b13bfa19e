-- What the mask of two blocks tells.
use Rattle.std.proofs.Common.{take, drop, arith}
use Rattle.std.proofs.lemmas.Simd.{length-chunk}
use Rattle.text_rules.proofs.Blocks.{none_differs, first_differs}
use Rattle.text_rules.proofs.compare.common_lanes.Goals as goal

pub returns-then-unequal-eq0 : goal.returns-then-unequal-eq0
returns-then-unequal-eq0 c =
    let a = length-chunk c.args.place 16 c.args.a.now c.requires.first in
    let b = length-chunk c.args.place 16 c.args.b.now c.requires.second in
    none_differs (take 16 (drop c.args.place c.args.a.now)) (take 16 (drop c.args.place c.args.b.now)) 16 a b (omega arith) c.if-unequal-eq0.true

pub returns-else-unequal-eq0 : goal.returns-else-unequal-eq0
returns-else-unequal-eq0 c =
    let a = length-chunk c.args.place 16 c.args.a.now c.requires.first in
    let b = length-chunk c.args.place 16 c.args.b.now c.requires.second in
    let some = c.if-unequal-eq0.false in
    first_differs (take 16 (drop c.args.place c.args.a.now)) (take 16 (drop c.args.place c.args.b.now)) 16 a b (omega arith) (omega arith)
