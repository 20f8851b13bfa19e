use Rattle.std.proofs.Common.{arith, ap, subst, sym, ◌∙◌}
use Rattle.std.specs.Result.{result_err}
use Rattle.rdf_terms.specs.declared.terms.Triple.{Triple}
use Rattle.jrql_ast.specs.InForm.{IsPlanInForm}
use Rattle.jrql_ast.specs.Templates.{insertion_of}
use Rattle.crash_laws.proofs.of_schedule_model.PlanLaws.{insertion_in_form}
use Rattle.jrql_ast.specs.declared.plans.UpdatePlan.{UpdatePlan}
use Rattle.world_commands.specs.Doings.{doing_update}
use Rattle.world_commands.specs.LeftBanks.{LeavesAt}
use Rattle.world_commands.proofs.ChangeLemmas.{add_done}
use Rattle.world_commands.proofs.LeftLemmas.{left_there, memory_uncalled}
use Rattle.world_commands.proofs.changes.add.Goals as goal

pub update-requires : goal.update-requires
update-requires g c = record {
  left = c.requires.left;
  number = c.requires.number;
  form = subst IsPlanInForm (sym (c.in_ok-plan.ensures ∙ ap (λ (t : Triple). insertion_of t) c.in_ok-share.ensures)) (insertion_in_form c.args.triple.now);
}

pub returns : goal.returns
returns g c = record {
  keeps = c.update.ensures.keeps;
  done = add_done g.B.Banks.log c.args.parts.now c.update.new.parts c.args.number c.args.triple.now c.in_ok-plan.plan c.update.result
      (c.in_ok-plan.ensures ∙ ap (λ (t : Triple). insertion_of t) c.in_ok-share.ensures) c.update.ensures.done;
  faults = c.update.ensures.faults;
  left = subst (λ (plan : UpdatePlan). LeavesAt g.B.Banks.log g.B.Banks.meter (doing_update plan) (result_err c.update.result) c.args.number c.args.parts.now.clones.items c.update.new.parts.clones.items)
      (c.in_ok-plan.ensures ∙ ap (λ (t : Triple). insertion_of t) c.in_ok-share.ensures) c.update.ensures.left;
  unsent = c.update.ensures.unsent;
}

pub returns-in_err-share-clause-left : goal.returns-in_err-share-clause-left
returns-in_err-share-clause-left g c =
    left_there g.B.Banks.log g.B.Banks.meter (doing_update (insertion_of c.args.triple.now)) (result_err c.from_residual.result) c.args.parts.now.clones.items c.args.number (omega (arith, c.requires.number))
    (memory_uncalled (doing_update (insertion_of c.args.triple.now)) c.from_residual.result c.from_residual.ensures.1)

pub returns-in_err-plan-clause-left : goal.returns-in_err-plan-clause-left
returns-in_err-plan-clause-left g c =
    left_there g.B.Banks.log g.B.Banks.meter (doing_update (insertion_of c.args.triple.now)) (result_err c.from_residual-in_err-plan.result) c.args.parts.now.clones.items c.args.number (omega (arith, c.requires.number))
    (memory_uncalled (doing_update (insertion_of c.args.triple.now)) c.from_residual-in_err-plan.result c.from_residual-in_err-plan.ensures.1)
