use Rattle.std.proofs.Common.{◌≡◌, ◌∙◌, ◌≤◌, List, Option, ℕ, length, take, sym, subst, take_all, arith}
use Rattle.jrql_rows.specs.KeptValues.{AddsRow}
use Rattle.jrql_rows.proofs.Keeping.{adds_more, adds_nothing}
use Rattle.jrql_rows.proofs.kept.add_row.Goals as goal

pub loop-variable-init : goal.loop-variable-init
loop-variable-init c =
    let room = c.in_ok-reserve.ensures.ok in
    record { adds = adds_nothing c.args.row.now.graph c.args.row.now.row c.reserve.new.self.items; room = omega (arith, room) }

pub loop-variable-preserved : goal.loop-variable-preserved
loop-variable-preserved c =
    let row = c.args.row.now in
    let len = c.push_reserved.ensures.len in
    let capacity = c.push_reserved.ensures.capacity in
    let room = c.loop-variable.invariant.room in
    record {
      adds = adds_more row.graph c.args.columns.now row.row c.reserve.new.self.items c.loop-variable.numbers.items c.push_reserved.new.self.items c.number.result c.loop-variable.variable-index 0
          c.loop-variable-test.true c.loop-variable.invariant.adds c.push_reserved.ensures.items c.number.ensures.value;
      room = omega (arith, len, capacity, room);
    }

pub returns-clause-ok : goal.returns-clause-ok
returns-clause-ok c =
    let row = c.args.row.now in
    let l : length c.args.columns.now ≤ c.loop-variable.variable-index = omega arith in
    subst (λ (z : List ℕ). AddsRow row.graph z row.row c.args.numbers.now.items c.loop-variable.numbers.items) (take_all c.loop-variable.variable-index c.args.columns.now l)
    (subst (λ (z : List (Option ℕ)). AddsRow row.graph (take c.loop-variable.variable-index c.args.columns.now) row.row z c.loop-variable.numbers.items) c.reserve.ensures.items
    c.loop-variable.invariant.adds)
