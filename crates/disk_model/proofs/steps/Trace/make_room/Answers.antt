-- Room for more changes no step.
use Rattle.std.proofs.Common.{List, ℕ, reverse, ap, ◌∙◌, arith}
use Rattle.disk_model.specs.declared.steps.Mark.{Mark}
use Rattle.disk_model.specs.StepMarks.{steps_of_marks}
use Rattle.disk_model.specs.DeviceSteps.{DeviceStep, TraceValue}
use Rattle.disk_model.proofs.MarkLaws.{steps_front}
use Rattle.disk_model.proofs.steps.Trace.make_room.Goals as goal

pub returns-clause-steps : goal.returns-clause-steps
returns-clause-steps c =
    let s = c.self.inside in
    let i = c.self.invariant in
    let grows = c.grow.ensures.grows in
    ap (λ (ms : List Mark). reverse (steps_of_marks ms c.grow.new.bytes.items)) c.in_ok-reserve.ensures.items
    ∙ ap (λ (l : List ℕ). reverse (steps_of_marks s.marks.items l)) grows.now_is
    ∙ ap (λ (l : List DeviceStep). reverse l) (steps_front s.marks.items s.pieces.items grows.more (omega (arith, i.used_is, i.in_pieces)))
    ∙ ap (λ (v : TraceValue). v.steps) c.self.view_is
