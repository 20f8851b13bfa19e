use Rattle.std.proofs.Common.{List, ℕ, arith, rules}
use Rattle.schedule_replies.proofs.RepliesShown.{ranges_shown, still_in_front, still_stands}
use Rattle.schedule_replies.proofs.replies.push_ranges.Goals as goal

pub returns-clause-ok : goal.returns-clause-ok
returns-clause-ok c =
    ranges_shown c.args.out.now.items c.extend_from_slice.new.self.items c.loop-range.out.items c.push.new.self.items c.args.word.now c.args.ranges.now c.loop-range.range-index
    (omega (arith, c.loop-range-test.false)) (search rules) c.loop-range.invariant (search rules)

pub returns-in_err-push_range-clause-err : goal.returns-in_err-push_range-clause-err
returns-in_err-push_range-clause-err c =
    let begun : List ℕ = c.extend_from_slice.new.self.items in
    still_in_front c.from_residual-in_err-push_range.result c.args.out.now.items c.args.word.now begun c.push_range.new.out.items (search rules)
    (still_stands begun _ c.loop-range.out.items c.push_range.new.out.items c.loop-range.invariant c.in_err-push_range.ensures.err)
