-- Blocks are passed until one differs, or until the last.
use Rattle.std.proofs.Common.{◌-◌, arith}
use Rattle.text_rules.proofs.Blocks.{common_within, common_passed, common_found, common_last}
use Rattle.text_rules.proofs.compare.common_len.Goals as goal

pub loop-passed-init : goal.loop-passed-init
loop-passed-init c = omega arith

pub returns-then-more-lt-LANES : goal.returns-then-more-lt-LANES
returns-then-more-lt-LANES c =
    let few = c.if-more-lt-LANES.true in
    let is = c.common_lanes-more.ensures in
    let found = common_found 16 c.loop-passed.passed c.args.a.now c.args.b.now c.loop-passed.invariant (omega arith) in
    omega arith

pub loop-passed-preserved : goal.loop-passed-preserved
loop-passed-preserved c =
    let many = c.if-more-lt-LANES.false in
    let is = c.common_lanes-more.ensures in
    common_passed 16 c.loop-passed.passed c.args.a.now c.args.b.now c.loop-passed.invariant (omega arith)

pub overflow_add-result-2 : goal.overflow_add-result-2
overflow_add-result-2 c =
    let past = c.loop-passed-test.false in
    let within = c.loop-passed.invariant in
    let is = c.common_lanes.ensures in
    let last = common_last 16 (c.min-shorter.result - 16) c.args.a.now c.args.b.now (omega arith) (omega arith) in
    let small = common_within c.args.a.now c.args.b.now in
    record { fits = omega arith }

pub returns : goal.returns
returns c =
    let past = c.loop-passed-test.false in
    let within = c.loop-passed.invariant in
    let is = c.common_lanes.ensures in
    let last = common_last 16 (c.min-shorter.result - 16) c.args.a.now c.args.b.now (omega arith) (omega arith) in
    omega arith
