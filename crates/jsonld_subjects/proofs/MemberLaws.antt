-- Members and values that are read one by one.
use Rattle.std.proofs.Common.{◌≡◌, ℕ, List, sym, ap, ◌∙◌}
use Rattle.serde_json.specs.Data.{Data, Members, member}
use Rattle.jsonld_context.specs.Context.{ContextValue}
use Rattle.jsonld_context.specs.Telling.{IsToldBy}
use Rattle.jsonld_context.specs.declared.faults.JsonFault.{JsonFault}
use Rattle.jsonld_values.specs.Literals.{followed_by}
use Rattle.jsonld_subjects.specs.MemberReading.{read_member}
use Rattle.jsonld_subjects.specs.SubjectReading.{OpenSubject, read_members}
use Rattle.jsonld_subjects.specs.declared.places.Place.{Place}

-- the fault of the first of the members that are left is that of all
pub fault_of_first : (context : ContextValue) (place : Place) (all rest : Members) (begun so_far : OpenSubject) (key : List ℕ) (value : Data) (fault : JsonFault)
    → read_members context place (member key value rest) so_far ≡ read_members context place all begun
    → IsToldBy (read_member context place key value so_far) fault → IsToldBy (read_members context place all begun) fault
fault_of_first context place all rest begun so_far key value fault same told =
    λ named. sym same ∙ ap (λ r. followed_by r (read_members context place rest)) (told named)
