-- A sync adds its step, and no piece.
use Rattle.std.proofs.Common.{List, ◌∷◌, [], reverse, ap, ◌∙◌}
use Rattle.std.proofs.lemmas.List.{reverse-append}
use Rattle.disk_model.specs.StepMarks.{steps_of_marks}
use Rattle.disk_model.specs.DeviceSteps as step
use Rattle.disk_model.specs.DeviceSteps.{DeviceStep, TraceValue}
use Rattle.disk_model.proofs.steps.Trace.synced.Goals as goal

pub invariant_of-self : goal.invariant_of-self
invariant_of-self c =
    let i = c.self.invariant in
    record { used_is = c.add_sync.ensures.size ∙ i.used_is; in_pieces = i.in_pieces }

pub returns-clause-steps : goal.returns-clause-steps
returns-clause-steps c =
    let s = c.self.inside in
    ap (λ (l : List DeviceStep). reverse l) (c.add_sync.ensures.steps s.pieces.items)
    ∙ reverse-append (steps_of_marks s.marks.items s.pieces.items) (step.Synced c.args.side ∷ [])
    ∙ ap (λ (v : TraceValue). step.Synced c.args.side ∷ v.steps) c.self.view_is
