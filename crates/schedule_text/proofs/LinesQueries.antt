-- Queries, a part at a time.
use Rattle.std.proofs.Common.{◌≡◌, ◌≢◌, ◌↔◌, ℕ, ◌<◌, List, ◌∷◌, ◌++◌, codes, Option, Some, None, MatchOption, IfOk, refl, sym, ◌∙◌, subst, ap, drop}
use Rattle.std.specs.Fmt.{decimal}
use Rattle.std.specs.declared.result.Result.{Result}
use Rattle.std.specs.declared.result.Result.TheVariants.{Ok, Err}
use Rattle.schedule_model.specs.jrql_patterns.declared.queries.ReadQuery.{ReadQuery}
use Rattle.mld_model.specs.World.{clone_count}
use Rattle.schedule_model.specs.Characters.{space}
use Rattle.schedule_model.specs.declared.Command.{Command}
use Rattle.schedule_model.specs.declared.Command.TheVariants.{Add, Remove, Update, Deliver, Show, Query, Compare, Join, Ask, Compact, Truncate, Stop, Open, Crash}
use Rattle.schedule_model.specs.Schedule.{SpellsAnywhere, SpellsPlain}
use Rattle.schedule_model.specs.Step.{IsCommandInForm}
use Rattle.schedule_model.proofs.LackingLaws.{Lacks, apart}
use Rattle.schedule_text.specs.ReadLines.{IsQueryText, IsQueryRest, IsFoundInForm}
use Rattle.schedule_text.proofs.LinesText.{has_space}
use Rattle.schedule_text.proofs.LinesNumbers.{small, number_first}

-- ---- what follows the first word

query_there : (domain line rest : List ℕ) → line ≡ codes "query " ++ rest → (command : Command) → IsQueryRest domain rest command → SpellsPlain domain line command
query_there domain line rest e command h =
    subst (λ (k : Command). SpellsPlain domain line k) (sym h.2) (h.3.text, e ∙ ap (λ (r : List ℕ). codes "query " ++ r) h.3.whole, h.3.clone, h.3.said)

query_back : (domain line rest : List ℕ) → line ≡ codes "query " ++ rest → (command : Command) → SpellsPlain domain line command → IsQueryRest domain rest command
query_back domain line rest e (Query number read) h =
    (number, read, refl, record { text = h.0; whole = ap (drop 6) (sym e ∙ h.1); clone = h.2; said = h.3 })
query_back domain line rest e (Add number triple) h = absurd (apart e h.1 refl)
query_back domain line rest e (Remove number triple) h = absurd (apart e h.1 refl)
query_back domain line rest e (Update number plan) h = absurd (apart e h.1 refl)
query_back domain line rest e (Deliver message number) h = absurd (apart e h.0 refl)
query_back domain line rest e (Show number) h = absurd (apart e h.0 refl)
query_back domain line rest e (Compare number other) h = absurd (apart e h.0 refl)
query_back domain line rest e (Join number) h = absurd (apart e h.0 refl)
query_back domain line rest e (Ask number) h = absurd (apart e h.0 refl)
query_back domain line rest e (Compact number) h = absurd (apart e h.0 refl)
query_back domain line rest e (Truncate number keep) h = absurd (apart e h.0 refl)
query_back domain line rest e (Stop number) h = absurd (apart e h.0 refl)
query_back domain line rest e (Open number) h = absurd (apart e h.0 refl)
query_back domain line rest e (Crash call leave task) h = absurd h

pub query_behind : (domain line rest : List ℕ) → line ≡ codes "query " ++ rest → (command : Command) → IsQueryRest domain rest command ↔ SpellsPlain domain line command
query_behind domain line rest e command = (query_there domain line rest e command, query_back domain line rest e command)

-- a line that is neither a query nor an update spells what it spells in any domain
pub elsewhere : (domain line : List ℕ) → ((rest : List ℕ) → line ≢ codes "query " ++ rest) → ((rest : List ℕ) → line ≢ codes "update " ++ rest) → (command : Command)
    → SpellsAnywhere line command ↔ SpellsPlain domain line command
elsewhere domain line none nor (Query number read) = (λ h. absurd h, λ h. absurd (none (decimal number ++ space ∷ h.0) h.1))
elsewhere domain line none nor (Update number plan) = (λ h. absurd h, λ h. absurd (nor (decimal number ++ space ∷ h.0) h.1))
elsewhere domain line none nor (Add number triple) = (λ h. h, λ h. h)
elsewhere domain line none nor (Remove number triple) = (λ h. h, λ h. h)
elsewhere domain line none nor (Deliver message number) = (λ h. h, λ h. h)
elsewhere domain line none nor (Show number) = (λ h. h, λ h. h)
elsewhere domain line none nor (Compare number other) = (λ h. h, λ h. h)
elsewhere domain line none nor (Join number) = (λ h. h, λ h. h)
elsewhere domain line none nor (Ask number) = (λ h. h, λ h. h)
elsewhere domain line none nor (Compact number) = (λ h. h, λ h. h)
elsewhere domain line none nor (Truncate number keep) = (λ h. h, λ h. h)
elsewhere domain line none nor (Stop number) = (λ h. h, λ h. h)
elsewhere domain line none nor (Open number) = (λ h. h, λ h. h)
elsewhere domain line none nor (Crash call leave task) = (λ h. h, λ h. h)

-- and has nothing that could be out of form
plain_form : (line : List ℕ) (command : Command) → SpellsAnywhere line command → IsCommandInForm command
plain_form line (Query number read) h = absurd h
plain_form line (Update number plan) h = absurd h
plain_form line (Add number triple) h = tt
plain_form line (Remove number triple) h = tt
plain_form line (Deliver message number) h = tt
plain_form line (Show number) h = tt
plain_form line (Compare number other) h = tt
plain_form line (Join number) h = tt
plain_form line (Ask number) h = tt
plain_form line (Compact number) h = tt
plain_form line (Truncate number keep) h = tt
plain_form line (Stop number) h = tt
plain_form line (Open number) h = tt
plain_form line (Crash call leave task) h = absurd h

pub plain_in_form : {E : Type 0} (line : List ℕ) (result : Result (Option Command) E)
    → IfOk result (λ found. MatchOption found ((command : Command) → ¬ SpellsAnywhere line command) (λ command. SpellsAnywhere line command)) → IfOk result IsFoundInForm
plain_in_form line (Ok None) h = tt
plain_in_form line (Ok (Some command)) h = plain_form line command h
plain_in_form line (Err error) h = tt

-- ---- the parts of a query

pub no_query_split : (domain rest : List ℕ) → Lacks space rest → (command : Command) → ¬ IsQueryRest domain rest command
no_query_split domain rest lacks command h = has_space rest (decimal h.0) h.3.text lacks h.3.whole

pub no_query_number : (domain rest front behind : List ℕ) → rest ≡ front ++ space ∷ behind → Lacks space front
    → ((number : ℕ) → number < clone_count → front ≢ decimal number) → (command : Command) → ¬ IsQueryRest domain rest command
no_query_number domain rest front behind e lacks none command h =
    none h.0 h.3.clone (number_first rest front behind h.3.text h.0 lacks e (small h.3.clone) h.3.whole).0

pub no_query_text : (domain rest front behind : List ℕ) → rest ≡ front ++ space ∷ behind → Lacks space front
    → ((read : ReadQuery) → ¬ IsQueryText domain behind read) → (command : Command) → ¬ IsQueryRest domain rest command
no_query_text domain rest front behind e lacks none command h =
    none h.1 (subst (λ (t : List ℕ). IsQueryText domain t h.1) (sym (number_first rest front behind h.3.text h.0 lacks e (small h.3.clone) h.3.whole).1) h.3.said)
