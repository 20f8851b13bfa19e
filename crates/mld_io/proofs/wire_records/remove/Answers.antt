-- The list is filtered.
use Rattle.std.proofs.Common.{rules, ap, arith, length, ◌≡◌, ◌==◌, not, filter}
use Rattle.std.proofs.lemmas.Fn.{filter_same}
use Rattle.mld_io.proofs.OpenOnes.{any_without, fewer_without}
use Rattle.mld_io.proofs.wire_records.remove.Goals as goal

pub returns-clause-listed : goal.returns-clause-listed
returns-clause-listed c =
    let kept : c.retain.new.self.items ≡ filter (λ x. not (x == c.args.on)) c.args.listed.now.items =
    filter_same _ (λ x. not (x == c.args.on)) _ (λ x b f k. search rules) _ _ c.retain.ensures.filtered in
    λ conn. rw kept (any_without c.args.on conn c.args.listed.now.items)

pub returns-clause-fewer : goal.returns-clause-fewer
returns-clause-fewer c = λ there.
    let kept : c.retain.new.self.items ≡ filter (λ x. not (x == c.args.on)) c.args.listed.now.items =
    filter_same _ (λ x. not (x == c.args.on)) _ (λ x b f k. search rules) _ _ c.retain.ensures.filtered in
    omega (arith, ap length kept, fewer_without c.args.on c.args.listed.now.items there)
