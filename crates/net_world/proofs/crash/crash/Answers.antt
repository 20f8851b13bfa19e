use Rattle.std.proofs.Common.{ℕ, IsTrue, arith, refl, subst}
use Rattle.std.specs.Result.{result_err}
use Rattle.world_commands.specs.States.{HasState}
use Rattle.world_commands.proofs.Places.{place_read}
use Rattle.net_world.proofs.CrashLemmas.{ran_of, ran_done, ran_faults, ran_keeps, unarmed_done, mid_left}
use Rattle.net_world.proofs.LeftFronts.{task_leaves, ran_leaves}
use Rattle.net_world.proofs.DeviceLemmas.{unarmed_uses, ran_uses}
use Rattle.net_world.proofs.crash.crash.Goals as goal

pub returns-then-not-is_armed-clause-done : goal.returns-then-not-is_armed-clause-done
returns-then-not-is_armed-clause-done g c =
    let clones = c.args.parts.now.clones.items in
    let number = c.number_of-number.result in
    let state = c.index.result.now in
    let at = place_read clones number c.from.result state state c.from.ensures (omega (arith, c.requires.number, c.number_of-number.ensures)) c.index.ensures refl in
    unarmed_done g.B.Banks.log c.args.call c.args.leave c.args.task.now c.args.parts.now c.do_task.new.parts state c.do_task.result c.unarmed.result c.unarmed.ensures
    (subst (λ (k : ℕ). HasState clones k state) c.number_of-number.ensures at)
    (λ armed. absurd (cc (c.is_armed.ensures.1 armed, c.if-not-is_armed.true))) c.do_task.ensures.done

pub do_task-done-requires-clause-left : goal.do_task-done-requires-clause-left
do_task-done-requires-clause-left g c = λ κs outlives.
    mid_left g.B.Banks.log g.B.Banks.meter c.args.call c.args.leave c.number_of-number.result c.args.parts.now _ refl c.arm_at.ensures c.requires.left

pub returns-clause-keeps : goal.returns-clause-keeps
returns-clause-keeps g c =
    let clones = c.args.parts.now.clones.items in
    let number = c.number_of-number.result in
    let state = c.index.result.now in
    let at = place_read clones number c.from.result state state c.from.ensures (omega (arith, c.requires.number, c.number_of-number.ensures)) c.index.ensures refl in
    let is_armed : IsTrue c.is_armed.result = cc c.if-not-is_armed.false in
    let ran = ran_of g.B.Banks.log g.B.Banks.meter c.args.call c.args.leave c.args.task.now c.args.parts.now (record c.args.parts.now { clones = c.arm_at.new.clones }) c.do_task-done.new.parts (record c.do_task-done.new.parts { clones = c.cut_power-is_caught.new.clones }) c.do_task-done.result
    (IsTrue c.cut_power-is_caught.result) number state c.number_of-number.ensures refl c.arm_at.ensures at (c.is_armed.ensures.0 is_armed) c.do_task-done.ensures.keeps
    c.do_task-done.ensures.left c.do_task-done.ensures.unsent c.do_task-done.ensures.done c.do_task-done.ensures.faults c.cut_power-is_caught.ensures refl in
    ran_keeps g.B.Banks.log g.B.Banks.meter g.met.B.CrashBanks.tells c.args.call c.args.leave c.args.task.now c.args.parts.now (record c.args.parts.now { clones = c.arm_at.new.clones }) c.do_task-done.new.parts (record c.do_task-done.new.parts { clones = c.cut_power-is_caught.new.clones }) c.do_task-done.result
    (IsTrue c.cut_power-is_caught.result) ran c.requires.unarmed

pub returns-clause-done : goal.returns-clause-done
returns-clause-done g c =
    let clones = c.args.parts.now.clones.items in
    let number = c.number_of-number.result in
    let state = c.index.result.now in
    let at = place_read clones number c.from.result state state c.from.ensures (omega (arith, c.requires.number, c.number_of-number.ensures)) c.index.ensures refl in
    let is_armed : IsTrue c.is_armed.result = cc c.if-not-is_armed.false in
    let ran = ran_of g.B.Banks.log g.B.Banks.meter c.args.call c.args.leave c.args.task.now c.args.parts.now (record c.args.parts.now { clones = c.arm_at.new.clones }) c.do_task-done.new.parts (record c.do_task-done.new.parts { clones = c.cut_power-is_caught.new.clones }) c.do_task-done.result
    (IsTrue c.cut_power-is_caught.result) number state c.number_of-number.ensures refl c.arm_at.ensures at (c.is_armed.ensures.0 is_armed) c.do_task-done.ensures.keeps
    c.do_task-done.ensures.left c.do_task-done.ensures.unsent c.do_task-done.ensures.done c.do_task-done.ensures.faults c.cut_power-is_caught.ensures refl in
    ran_done g.B.Banks.log g.B.Banks.meter g.met.B.CrashBanks.tells c.args.call c.args.leave c.args.task.now c.args.parts.now (record c.args.parts.now { clones = c.arm_at.new.clones }) c.do_task-done.new.parts (record c.do_task-done.new.parts { clones = c.cut_power-is_caught.new.clones }) c.do_task-done.result
    (IsTrue c.cut_power-is_caught.result) ran c.requires.unarmed c.ended.result c.requires.form c.ended.ensures

pub returns-clause-faults : goal.returns-clause-faults
returns-clause-faults g c =
    let clones = c.args.parts.now.clones.items in
    let number = c.number_of-number.result in
    let state = c.index.result.now in
    let at = place_read clones number c.from.result state state c.from.ensures (omega (arith, c.requires.number, c.number_of-number.ensures)) c.index.ensures refl in
    let is_armed : IsTrue c.is_armed.result = cc c.if-not-is_armed.false in
    let ran = ran_of g.B.Banks.log g.B.Banks.meter c.args.call c.args.leave c.args.task.now c.args.parts.now (record c.args.parts.now { clones = c.arm_at.new.clones }) c.do_task-done.new.parts (record c.do_task-done.new.parts { clones = c.cut_power-is_caught.new.clones }) c.do_task-done.result
    (IsTrue c.cut_power-is_caught.result) number state c.number_of-number.ensures refl c.arm_at.ensures at (c.is_armed.ensures.0 is_armed) c.do_task-done.ensures.keeps
    c.do_task-done.ensures.left c.do_task-done.ensures.unsent c.do_task-done.ensures.done c.do_task-done.ensures.faults c.cut_power-is_caught.ensures refl in
    ran_faults g.B.Banks.log g.B.Banks.meter g.met.B.CrashBanks.tells c.args.call c.args.leave c.args.task.now c.args.parts.now (record c.args.parts.now { clones = c.arm_at.new.clones }) c.do_task-done.new.parts (record c.do_task-done.new.parts { clones = c.cut_power-is_caught.new.clones }) c.do_task-done.result
    (IsTrue c.cut_power-is_caught.result) ran c.requires.unarmed c.ended.result c.ended.ensures

pub returns-then-not-is_armed-clause-left : goal.returns-then-not-is_armed-clause-left
returns-then-not-is_armed-clause-left g c =
    task_leaves g.B.Banks.log g.B.Banks.meter c.args.parts.now c.do_task.new.parts c.args.task.now (result_err c.do_task.result) c.do_task.ensures.left

pub returns-clause-left : goal.returns-clause-left
returns-clause-left g c =
    let clones = c.args.parts.now.clones.items in
    let number = c.number_of-number.result in
    let state = c.index.result.now in
    let at = place_read clones number c.from.result state state c.from.ensures (omega (arith, c.requires.number, c.number_of-number.ensures)) c.index.ensures refl in
    let is_armed : IsTrue c.is_armed.result = cc c.if-not-is_armed.false in
    let ran = ran_of g.B.Banks.log g.B.Banks.meter c.args.call c.args.leave c.args.task.now c.args.parts.now (record c.args.parts.now { clones = c.arm_at.new.clones }) c.do_task-done.new.parts (record c.do_task-done.new.parts { clones = c.cut_power-is_caught.new.clones }) c.do_task-done.result
    (IsTrue c.cut_power-is_caught.result) number state c.number_of-number.ensures refl c.arm_at.ensures at (c.is_armed.ensures.0 is_armed) c.do_task-done.ensures.keeps
    c.do_task-done.ensures.left c.do_task-done.ensures.unsent c.do_task-done.ensures.done c.do_task-done.ensures.faults c.cut_power-is_caught.ensures refl in
    ran_leaves g.B.Banks.log g.B.Banks.meter g.met.B.CrashBanks.tells c.args.call c.args.leave c.args.task.now c.args.parts.now (record c.args.parts.now { clones = c.arm_at.new.clones })
    c.do_task-done.new.parts (record c.do_task-done.new.parts { clones = c.cut_power-is_caught.new.clones }) c.do_task-done.result (IsTrue c.cut_power-is_caught.result) ran

pub returns-then-not-is_armed-clause-device : goal.returns-then-not-is_armed-clause-device
returns-then-not-is_armed-clause-device g c =
    let clones = c.args.parts.now.clones.items in
    let number = c.number_of-number.result in
    let state = c.index.result.now in
    let at = place_read clones number c.from.result state state c.from.ensures (omega (arith, c.requires.number, c.number_of-number.ensures)) c.index.ensures refl in
    unarmed_uses g.B.Banks.log g.B.Banks.meter c.args.parts.now c.do_task.new.parts c.args.call c.args.leave c.args.task.now state c.do_task.result c.unarmed.result c.unarmed.ensures
    (subst (λ (k : ℕ). HasState clones k state) c.number_of-number.ensures at)
    (λ armed. absurd (cc (c.is_armed.ensures.1 armed, c.if-not-is_armed.true))) c.do_task.ensures.left

pub returns-clause-device : goal.returns-clause-device
returns-clause-device g c =
    let clones = c.args.parts.now.clones.items in
    let number = c.number_of-number.result in
    let state = c.index.result.now in
    let at = place_read clones number c.from.result state state c.from.ensures (omega (arith, c.requires.number, c.number_of-number.ensures)) c.index.ensures refl in
    let is_armed : IsTrue c.is_armed.result = cc c.if-not-is_armed.false in
    let ran = ran_of g.B.Banks.log g.B.Banks.meter c.args.call c.args.leave c.args.task.now c.args.parts.now (record c.args.parts.now { clones = c.arm_at.new.clones }) c.do_task-done.new.parts (record c.do_task-done.new.parts { clones = c.cut_power-is_caught.new.clones }) c.do_task-done.result
    (IsTrue c.cut_power-is_caught.result) number state c.number_of-number.ensures refl c.arm_at.ensures at (c.is_armed.ensures.0 is_armed) c.do_task-done.ensures.keeps
    c.do_task-done.ensures.left c.do_task-done.ensures.unsent c.do_task-done.ensures.done c.do_task-done.ensures.faults c.cut_power-is_caught.ensures refl in
    ran_uses g.B.Banks.log g.B.Banks.meter g.met.B.CrashBanks.tells c.args.call c.args.leave c.args.task.now c.args.parts.now (record c.args.parts.now { clones = c.arm_at.new.clones }) c.do_task-done.new.parts (record c.do_task-done.new.parts { clones = c.cut_power-is_caught.new.clones }) c.do_task-done.result
    (IsTrue c.cut_power-is_caught.result) ran c.requires.unarmed c.ended.result c.ended.ensures
