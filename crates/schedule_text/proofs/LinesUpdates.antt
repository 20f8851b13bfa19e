-- Updates, a part at a time.
use Rattle.std.proofs.Common.{◌≡◌, ◌≢◌, ◌↔◌, ℕ, ◌<◌, List, ◌∷◌, ◌++◌, codes, refl, sym, ◌∙◌, subst, ap, drop}
use Rattle.std.specs.Fmt.{decimal}
use Rattle.jrql_ast.specs.declared.plans.UpdatePlan.{UpdatePlan}
use Rattle.mld_model.specs.World.{clone_count}
use Rattle.schedule_model.specs.Characters.{space}
use Rattle.schedule_model.specs.declared.Command.{Command}
use Rattle.schedule_model.specs.declared.Command.TheVariants.{Add, Remove, Update, Deliver, Show, Query, Compare, Join, Ask, Compact, Truncate, Stop, Open, Crash}
use Rattle.schedule_model.specs.Schedule.{SpellsPlain}
use Rattle.schedule_model.proofs.LackingLaws.{Lacks, apart}
use Rattle.schedule_text.specs.ReadLines.{IsUpdateText, IsUpdateRest}
use Rattle.schedule_text.proofs.LinesText.{has_space}
use Rattle.schedule_text.proofs.LinesNumbers.{small, number_first}

-- ---- what follows the first word

update_there : (domain line rest : List ℕ) → line ≡ codes "update " ++ rest → (command : Command) → IsUpdateRest domain rest command → SpellsPlain domain line command
update_there domain line rest e command h =
    subst (λ (k : Command). SpellsPlain domain line k) (sym h.2) (h.3.text, e ∙ ap (λ (r : List ℕ). codes "update " ++ r) h.3.whole, h.3.clone, h.3.said)

update_back : (domain line rest : List ℕ) → line ≡ codes "update " ++ rest → (command : Command) → SpellsPlain domain line command → IsUpdateRest domain rest command
update_back domain line rest e (Update number plan) h =
    (number, plan, refl, record { text = h.0; whole = ap (drop 7) (sym e ∙ h.1); clone = h.2; said = h.3 })
update_back domain line rest e (Query number read) h = absurd (apart e h.1 refl)
update_back domain line rest e (Add number triple) h = absurd (apart e h.1 refl)
update_back domain line rest e (Remove number triple) h = absurd (apart e h.1 refl)
update_back domain line rest e (Deliver message number) h = absurd (apart e h.0 refl)
update_back domain line rest e (Show number) h = absurd (apart e h.0 refl)
update_back domain line rest e (Compare number other) h = absurd (apart e h.0 refl)
update_back domain line rest e (Join number) h = absurd (apart e h.0 refl)
update_back domain line rest e (Ask number) h = absurd (apart e h.0 refl)
update_back domain line rest e (Compact number) h = absurd (apart e h.0 refl)
update_back domain line rest e (Truncate number keep) h = absurd (apart e h.0 refl)
update_back domain line rest e (Stop number) h = absurd (apart e h.0 refl)
update_back domain line rest e (Open number) h = absurd (apart e h.0 refl)
update_back domain line rest e (Crash call leave task) h = absurd h

pub update_behind : (domain line rest : List ℕ) → line ≡ codes "update " ++ rest → (command : Command) → IsUpdateRest domain rest command ↔ SpellsPlain domain line command
update_behind domain line rest e command = (update_there domain line rest e command, update_back domain line rest e command)

-- ---- the parts of an update

pub no_update_split : (domain rest : List ℕ) → Lacks space rest → (command : Command) → ¬ IsUpdateRest domain rest command
no_update_split domain rest lacks command h = has_space rest (decimal h.0) h.3.text lacks h.3.whole

pub no_update_number : (domain rest front behind : List ℕ) → rest ≡ front ++ space ∷ behind → Lacks space front
    → ((number : ℕ) → number < clone_count → front ≢ decimal number) → (command : Command) → ¬ IsUpdateRest domain rest command
no_update_number domain rest front behind e lacks none command h =
    none h.0 h.3.clone (number_first rest front behind h.3.text h.0 lacks e (small h.3.clone) h.3.whole).0

pub no_update_text : (domain rest front behind : List ℕ) → rest ≡ front ++ space ∷ behind → Lacks space front
    → ((plan : UpdatePlan) → ¬ IsUpdateText domain behind plan) → (command : Command) → ¬ IsUpdateRest domain rest command
no_update_text domain rest front behind e lacks none command h =
    none h.1 (subst (λ (t : List ℕ). IsUpdateText domain t h.1) (sym (number_first rest front behind h.3.text h.0 lacks e (small h.3.clone) h.3.whole).1) h.3.said)
