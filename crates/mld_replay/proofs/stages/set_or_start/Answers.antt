use Rattle.std.proofs.Common.{◌∙◌, ◌++◌, ◌∷◌, ap, List, ℕ, arith, refl}
use Rattle.mld_model.specs.Reply.{PropertySet}
use Rattle.schedule_text.specs.schedule_model.ReplyText.{reply_text}
use Rattle.mld_replay.proofs.StageLemmas.{property_set, property_steps}
use Rattle.std.proofs.lemmas.Result.{err_from_is_err_and}
use Rattle.mld_replay.specs.Stages.{banks_of_stage}
use Rattle.mld_replay.proofs.StoppedLemmas.{want_unfailed, stops_still}
use Rattle.mld_replay.specs.declared.stops.LineStop.TheVariants as stops
use Rattle.mld_replay.proofs.stages.set_or_start.Goals as goal

pub returns-then-is_set-clause-ok : goal.returns-then-is_set-clause-ok
returns-then-is_set-clause-ok g c =
    property_set g.B.Banks.log c.args.line.now c.push_property_set.new.out.items c.args.stage.now c.set_property.new.stage (c.in_ok-is_set.ensures.set c.if-is_set.true)
    (c.in_ok-push_property_set.ensures.ok ∙ ap (λ (t : List ℕ). t ++ reply_text PropertySet) c.requires.empty)

pub returns-then-is_set-clause-steps : goal.returns-then-is_set-clause-steps
returns-then-is_set-clause-steps g c =
    let none = property_steps c.args.line.now c.args.stage.now c.set_property.new.stage (c.in_ok-is_set.ensures.set c.if-is_set.true) in
    omega (arith, none)

pub returns-in_err-is_set-clause-left : goal.returns-in_err-is_set-clause-left
returns-in_err-is_set-clause-left g c =
    let p = err_from_is_err_and c.from_residual.result c.from_residual.ensures.1 in
    rw (p.1, p.2) (λ rest. stops_still g.B.Banks.log c.args.stage.now (banks_of_stage c.set_property.new.stage) _ _ (want_unfailed _ c.in_err-is_set.ensures.err) c.set_property.ensures.banks)

pub returns-in_err-push_property_set-clause-left : goal.returns-in_err-push_property_set-clause-left
returns-in_err-push_property_set-clause-left g c =
    let p = err_from_is_err_and c.from_residual-in_err-push_property_set.result c.from_residual-in_err-push_property_set.ensures.1 in
    rw (p.1, p.2) (λ rest. stops_still g.B.Banks.log c.args.stage.now (banks_of_stage c.set_property.new.stage) (c.args.line.now ∷ rest) stops.NoMemory (want_unfailed stops.NoMemory refl) c.set_property.ensures.banks)
