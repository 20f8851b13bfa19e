-- A revival adds its mark, and no piece.
use Rattle.std.proofs.Common.{◌≡◌, List, ◌+◌, ◌∷◌, reverse, refl, ap, ◌∙◌, arith}
use Rattle.disk_model.specs.declared.steps.Mark.{Mark}
use Rattle.disk_model.specs.declared.steps.Mark.TheVariants as mark
use Rattle.disk_model.specs.StepMarks.{steps_of_marks, pieces_size}
use Rattle.disk_model.specs.DeviceSteps as step
use Rattle.disk_model.specs.DeviceSteps.{TraceValue}
use Rattle.disk_model.proofs.MarkLaws.{newest_more, size_more}
use Rattle.disk_model.proofs.steps.Trace.cut.Goals as goal

pub invariant_of-self : goal.invariant_of-self
invariant_of-self c =
    let i = c.self.invariant in
    let more : pieces_size c.push_reserved.new.self.items ≡ pieces_size c.self.inside.marks.items + 0 =
    ap pieces_size c.push_reserved.ensures.items ∙ size_more c.self.inside.marks.items (mark.Cut c.args.leave) in
    record { used_is = omega (arith, more, i.used_is); in_pieces = i.in_pieces }

pub returns-clause-steps : goal.returns-clause-steps
returns-clause-steps c =
    let s = c.self.inside in
    let i = c.self.invariant in
    ap (λ (ms : List Mark). reverse (steps_of_marks ms s.pieces.items)) c.push_reserved.ensures.items
    ∙ newest_more s.marks.items (mark.Cut c.args.leave) (step.Cut c.args.leave) s.used s.pieces.items i.used_is (omega (arith, i.in_pieces)) (λ more. refl)
    ∙ ap (λ (v : TraceValue). step.Cut c.args.leave ∷ v.steps) c.self.view_is
