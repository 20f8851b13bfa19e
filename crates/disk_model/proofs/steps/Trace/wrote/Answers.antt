-- A write puts its piece behind the others, and its mark.
use Rattle.std.proofs.Common.{List, ℕ, ◌+◌, ◌++◌, ◌∷◌, [], length, reverse, ap, ◌∙◌, arith}
use Rattle.disk_model.specs.declared.steps.Mark.{Mark}
use Rattle.disk_model.specs.declared.steps.Mark.TheVariants as mark
use Rattle.disk_model.specs.StepMarks.{steps_of_marks, pieces_size}
use Rattle.disk_model.specs.DeviceSteps as step
use Rattle.disk_model.specs.DeviceSteps.{TraceValue}
use Rattle.disk_model.proofs.MarkLaws.{newest_wrote, size_more}
use Rattle.disk_model.proofs.steps.Trace.wrote.Goals as goal

pub invariant_of-self : goal.invariant_of-self
invariant_of-self c =
    let s = c.self.inside in
    let i = c.self.invariant in
    let next = mark.Wrote c.args.side c.args.at (length c.args.piece.now) in
    record {
      used_is = ap pieces_size c.push_reserved.ensures.items ∙ size_more s.marks.items next ∙ ap (λ (k : ℕ). k + (length c.args.piece.now + 0)) i.used_is ∙ omega arith;
      in_pieces = omega (arith, c.put.ensures.len, c.requires.spare, i.in_pieces, ap (λ (v : TraceValue). v.spare) c.self.view_is);
    }

pub returns-clause-steps : goal.returns-clause-steps
returns-clause-steps c =
    let s = c.self.inside in
    let i = c.self.invariant in
    let piece = c.args.piece.now in
    let next = mark.Wrote c.args.side c.args.at (length piece) in
    ap (λ (ms : List Mark). reverse (steps_of_marks ms c.put.new.bytes.items)) c.push_reserved.ensures.items
    ∙ ap (λ (l : List ℕ). reverse (steps_of_marks (s.marks.items ++ next ∷ []) l)) c.put.ensures.written
    ∙ newest_wrote s.marks.items c.args.side c.args.at s.used piece s.pieces.items i.used_is (omega (arith, c.requires.spare, i.in_pieces, ap (λ (v : TraceValue). v.spare) c.self.view_is))
    ∙ ap (λ (v : TraceValue). step.Wrote c.args.side c.args.at piece ∷ v.steps) c.self.view_is
