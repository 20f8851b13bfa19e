-- What is read of the text of an update is a plan in form.
use Rattle.std.specs.Prelude.{◌≡◌, ℕ, List, Result, Ok}
use Rattle.jrql_ast.specs.InForm.{IsPlanInForm}
use Rattle.jrql_ast.specs.declared.plans.UpdatePlan.{UpdatePlan}
use Rattle.jsonld_context.specs.declared.faults.JsonFault.{JsonFault}
use Rattle.jrql_update.proofs.of_jsonld_subjects.KeptNames.{followed_is}
use Rattle.jrql_update.specs.jrql_patterns.QueryReading.{json_of}
use Rattle.jrql_update.specs.UpdateReading.{update_said, update_read}
use Rattle.jrql_update.proofs.KeptUpdates.{ok_in_form}

pub update_in_form : (domain text : List ℕ) (plan : UpdatePlan) → ◌≡◌ {A = Result UpdatePlan JsonFault} (update_read domain text) (Ok plan) → IsPlanInForm plan
unfolding update_read
update_in_form domain text plan reads =
    followed_is (IsPlanInForm plan) (json_of text) (update_said domain) plan reads (λ value found said. ok_in_form domain value (Ok plan) said)
