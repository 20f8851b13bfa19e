-- A sync behind a write of its side goes into the mark of that write, and any other has a mark of its own.
use Rattle.std.proofs.Common.{◌≡◌, ℕ, ◌+◌, List, [], ◌∷◌, ◌++◌, sym, ap, ◌∙◌, arith}
use Rattle.disk_model.specs.declared.steps.Mark.{Mark}
use Rattle.disk_model.specs.declared.steps.Mark.TheVariants as mark
use Rattle.disk_model.specs.DeviceSteps as step
use Rattle.disk_model.specs.StepMarks.{steps_of_marks, pieces_size}
use Rattle.disk_model.proofs.MarkLaws.{steps_through, steps_synced, size_more}
use Rattle.disk_model.proofs.steps.add_sync.Goals as goal

pub returns-in-Some-synced_through-clause-steps : goal.returns-in-Some-synced_through-clause-steps
returns-in-Some-synced_through-clause-steps c = λ bytes.
    ap (λ (ms : List Mark). steps_of_marks ms bytes) c.push_reserved-in-Some-synced_through.ensures.items
    ∙ steps_through c.pop.new.self.items c.in-Some.last c.in-Some-synced_through.both c.args.side bytes c.in-Some-synced_through.ensures.steps
    ∙ ap (λ (ms : List Mark). steps_of_marks ms bytes ++ step.Synced c.args.side ∷ []) (sym c.in-Some.ensures.items)

pub returns-in-Some-synced_through-clause-size : goal.returns-in-Some-synced_through-clause-size
returns-in-Some-synced_through-clause-size c =
    let front = c.pop.new.self.items in
    ap pieces_size c.push_reserved-in-Some-synced_through.ensures.items
    ∙ size_more front c.in-Some-synced_through.both
    ∙ ap (λ (k : ℕ). pieces_size front + k) c.in-Some-synced_through.ensures.size
    ∙ sym (ap pieces_size c.in-Some.ensures.items ∙ size_more front c.in-Some.last)

pub returns-in-None-clause-steps : goal.returns-in-None-clause-steps
returns-in-None-clause-steps c = λ bytes.
    ap (λ (ms : List Mark). steps_of_marks ms bytes) c.push_reserved-in-None-2.ensures.items
    ∙ steps_synced c.push_reserved-in-None.new.self.items c.args.side bytes
    ∙ ap (λ (ms : List Mark). steps_of_marks ms bytes ++ step.Synced c.args.side ∷ []) (c.push_reserved-in-None.ensures.items ∙ sym c.in-Some.ensures.items)

pub returns-in-None-clause-size : goal.returns-in-None-clause-size
returns-in-None-clause-size c =
    let marks = c.push_reserved-in-None.new.self.items in
    let same : marks ≡ c.args.marks.now.items = c.push_reserved-in-None.ensures.items ∙ sym c.in-Some.ensures.items in
    let more : pieces_size c.push_reserved-in-None-2.new.self.items ≡ pieces_size marks + 0 =
    ap pieces_size c.push_reserved-in-None-2.ensures.items ∙ size_more marks (mark.Synced c.args.side) in
    omega (arith, more, ap pieces_size same)
