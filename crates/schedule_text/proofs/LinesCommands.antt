-- Commands, a part at a time.
use Rattle.std.proofs.Common.{◌≡◌, ◌≢◌, ◌↔◌, ℕ, ◌<◌, ◌^◌, List, ◌∷◌, ◌++◌, codes, Option, Some, None, MatchOption, IfOk, refl, sym, ◌∙◌, subst, ap, drop}
use Rattle.std.specs.Fmt.{decimal}
use Rattle.std.specs.declared.result.Result.{Result}
use Rattle.std.specs.declared.result.Result.TheVariants.{Ok, Err}
use Rattle.rdf_terms.specs.Grammar.{IsTripleWithin}
use Rattle.rdf_terms.specs.Building.{RefusesTriple}
use Rattle.rdf_terms.proofs.Complete.{one_spelled}
use Rattle.rdf_terms.specs.declared.terms.Triple.{Triple}
use Rattle.rdf_terms.specs.declared.faults.TripleFault.{TripleFault}
use Rattle.rdf_terms.specs.declared.faults.TripleFault.TheVariants.{NotTriple, TooLong, NoMemory}
use Rattle.schedule_model.specs.Characters.{space}
use Rattle.mld_model.specs.World.{clone_count}
use Rattle.schedule_model.specs.declared.Command.{Command}
use Rattle.schedule_model.specs.declared.Command.TheVariants.{Add, Remove, Update, Deliver, Show, Query, Compare, Join, Ask, Compact, Truncate, Stop, Open, Crash}
use Rattle.schedule_model.proofs.LackingLaws.{Lacks, apart}
use Rattle.schedule_model.specs.Schedule.{SpellsAnywhere}
use Rattle.schedule_text.specs.ReadLines.{IsTripleText, IsCloneAndTriple, IsAddRest, IsRemoveRest, IsDeliverRest, IsShowRest, IsCompareRest, IsJoinRest, IsAskRest, IsCompactRest, IsTruncateRest, IsStopRest, IsOpenRest}
use Rattle.schedule_text.proofs.LinesText.{has_space}
use Rattle.schedule_text.proofs.LinesNumbers.{small, number_first}

-- ---- what follows the first word

-- what is read of what follows it is what is read of the line
pub read_behind : {E : Type 0} (P Q : Command → Type 0) (result : Result (Option Command) E) → ((command : Command) → P command ↔ Q command)
    → IfOk result (λ found. MatchOption found ((command : Command) → ¬ P command) P) → IfOk result (λ found. MatchOption found ((command : Command) → ¬ Q command) Q)
read_behind P Q (Ok None) same h = λ command q. h command ((same command).1 q)
read_behind P Q (Ok (Some command)) same h = (same command).0 h
read_behind P Q (Err e) same h = h

-- and where reading needs no memory
pub found_behind : (P Q : Command → Type 0) (found : Option Command) → ((command : Command) → P command ↔ Q command)
    → MatchOption found ((command : Command) → ¬ P command) P → MatchOption found ((command : Command) → ¬ Q command) Q
found_behind P Q None same h = λ command q. h command ((same command).1 q)
found_behind P Q (Some command) same h = (same command).0 h

add_there : (line rest : List ℕ) → line ≡ codes "add " ++ rest → (command : Command) → IsAddRest rest command → SpellsAnywhere line command
add_there line rest e command h =
    subst (λ (k : Command). SpellsAnywhere line k) (sym h.2) (h.3.text, e ∙ ap (λ (r : List ℕ). codes "add " ++ r) h.3.whole, h.3.clone, h.3.spelled.bytes, h.3.spelled.spelled, h.3.spelled.within)

add_back : (line rest : List ℕ) → line ≡ codes "add " ++ rest → (command : Command) → SpellsAnywhere line command → IsAddRest rest command
add_back line rest e (Add number triple) h =
    (number, triple, refl, record { text = h.0; whole = ap (drop 4) (sym e ∙ h.1); clone = h.2; spelled = record { bytes = h.3; spelled = h.4; within = h.5 } })
add_back line rest e (Remove number triple) h = absurd (apart e h.1 refl)
add_back line rest e (Deliver message number) h = absurd (apart e h.0 refl)
add_back line rest e (Show number) h = absurd (apart e h.0 refl)
add_back line rest e (Query number read) h = absurd h
add_back line rest e (Update number plan) h = absurd h
add_back line rest e (Compare number other) h = absurd (apart e h.0 refl)
add_back line rest e (Join number) h = absurd (apart e h.0 refl)
add_back line rest e (Ask number) h = absurd (apart (ap (drop 1) e) (ap (drop 1) h.0) refl)
add_back line rest e (Compact number) h = absurd (apart e h.0 refl)
add_back line rest e (Truncate number keep) h = absurd (apart e h.0 refl)
add_back line rest e (Stop number) h = absurd (apart e h.0 refl)
add_back line rest e (Open number) h = absurd (apart e h.0 refl)
add_back line rest e (Crash call leave task) h = absurd h

pub add_behind : (line rest : List ℕ) → line ≡ codes "add " ++ rest → (command : Command) → IsAddRest rest command ↔ SpellsAnywhere line command
add_behind line rest e command = (add_there line rest e command, add_back line rest e command)

remove_there : (line rest : List ℕ) → line ≡ codes "remove " ++ rest → (command : Command) → IsRemoveRest rest command → SpellsAnywhere line command
remove_there line rest e command h =
    subst (λ (k : Command). SpellsAnywhere line k) (sym h.2) (h.3.text, e ∙ ap (λ (r : List ℕ). codes "remove " ++ r) h.3.whole, h.3.clone, h.3.spelled.bytes, h.3.spelled.spelled, h.3.spelled.within)

remove_back : (line rest : List ℕ) → line ≡ codes "remove " ++ rest → (command : Command) → SpellsAnywhere line command → IsRemoveRest rest command
remove_back line rest e (Add number triple) h = absurd (apart e h.1 refl)
remove_back line rest e (Remove number triple) h =
    (number, triple, refl, record { text = h.0; whole = ap (drop 7) (sym e ∙ h.1); clone = h.2; spelled = record { bytes = h.3; spelled = h.4; within = h.5 } })
remove_back line rest e (Deliver message number) h = absurd (apart e h.0 refl)
remove_back line rest e (Show number) h = absurd (apart e h.0 refl)
remove_back line rest e (Query number read) h = absurd h
remove_back line rest e (Update number plan) h = absurd h
remove_back line rest e (Compare number other) h = absurd (apart e h.0 refl)
remove_back line rest e (Join number) h = absurd (apart e h.0 refl)
remove_back line rest e (Ask number) h = absurd (apart e h.0 refl)
remove_back line rest e (Compact number) h = absurd (apart e h.0 refl)
remove_back line rest e (Truncate number keep) h = absurd (apart e h.0 refl)
remove_back line rest e (Stop number) h = absurd (apart e h.0 refl)
remove_back line rest e (Open number) h = absurd (apart e h.0 refl)
remove_back line rest e (Crash call leave task) h = absurd h

pub remove_behind : (line rest : List ℕ) → line ≡ codes "remove " ++ rest → (command : Command) → IsRemoveRest rest command ↔ SpellsAnywhere line command
remove_behind line rest e command = (remove_there line rest e command, remove_back line rest e command)

deliver_there : (line rest : List ℕ) → line ≡ codes "deliver " ++ rest → (command : Command) → IsDeliverRest rest command → SpellsAnywhere line command
deliver_there line rest e command h =
    subst (λ (k : Command). SpellsAnywhere line k) (sym h.2) (e ∙ ap (λ (r : List ℕ). codes "deliver " ++ r) h.3, h.4, h.5)

deliver_back : (line rest : List ℕ) → line ≡ codes "deliver " ++ rest → (command : Command) → SpellsAnywhere line command → IsDeliverRest rest command
deliver_back line rest e (Add number triple) h = absurd (apart e h.1 refl)
deliver_back line rest e (Remove number triple) h = absurd (apart e h.1 refl)
deliver_back line rest e (Deliver message number) h = (message, number, refl, ap (drop 8) (sym e ∙ h.0), h.1, h.2)
deliver_back line rest e (Show number) h = absurd (apart e h.0 refl)
deliver_back line rest e (Query number read) h = absurd h
deliver_back line rest e (Update number plan) h = absurd h
deliver_back line rest e (Compare number other) h = absurd (apart e h.0 refl)
deliver_back line rest e (Join number) h = absurd (apart e h.0 refl)
deliver_back line rest e (Ask number) h = absurd (apart e h.0 refl)
deliver_back line rest e (Compact number) h = absurd (apart e h.0 refl)
deliver_back line rest e (Truncate number keep) h = absurd (apart e h.0 refl)
deliver_back line rest e (Stop number) h = absurd (apart e h.0 refl)
deliver_back line rest e (Open number) h = absurd (apart e h.0 refl)
deliver_back line rest e (Crash call leave task) h = absurd h

pub deliver_behind : (line rest : List ℕ) → line ≡ codes "deliver " ++ rest → (command : Command) → IsDeliverRest rest command ↔ SpellsAnywhere line command
deliver_behind line rest e command = (deliver_there line rest e command, deliver_back line rest e command)

show_there : (line rest : List ℕ) → line ≡ codes "show " ++ rest → (command : Command) → IsShowRest rest command → SpellsAnywhere line command
show_there line rest e command h =
    subst (λ (k : Command). SpellsAnywhere line k) (sym h.1) (e ∙ ap (λ (r : List ℕ). codes "show " ++ r) h.2, h.3)

show_back : (line rest : List ℕ) → line ≡ codes "show " ++ rest → (command : Command) → SpellsAnywhere line command → IsShowRest rest command
show_back line rest e (Add number triple) h = absurd (apart e h.1 refl)
show_back line rest e (Remove number triple) h = absurd (apart e h.1 refl)
show_back line rest e (Deliver message number) h = absurd (apart e h.0 refl)
show_back line rest e (Show number) h = (number, refl, ap (drop 5) (sym e ∙ h.0), h.1)
show_back line rest e (Query number read) h = absurd h
show_back line rest e (Update number plan) h = absurd h
show_back line rest e (Compare number other) h = absurd (apart e h.0 refl)
show_back line rest e (Join number) h = absurd (apart e h.0 refl)
show_back line rest e (Ask number) h = absurd (apart e h.0 refl)
show_back line rest e (Compact number) h = absurd (apart e h.0 refl)
show_back line rest e (Truncate number keep) h = absurd (apart e h.0 refl)
show_back line rest e (Stop number) h = absurd (apart (ap (drop 1) e) (ap (drop 1) h.0) refl)
show_back line rest e (Open number) h = absurd (apart e h.0 refl)
show_back line rest e (Crash call leave task) h = absurd h

pub show_behind : (line rest : List ℕ) → line ≡ codes "show " ++ rest → (command : Command) → IsShowRest rest command ↔ SpellsAnywhere line command
show_behind line rest e command = (show_there line rest e command, show_back line rest e command)

compare_there : (line rest : List ℕ) → line ≡ codes "compare " ++ rest → (command : Command) → IsCompareRest rest command → SpellsAnywhere line command
compare_there line rest e command h =
    subst (λ (k : Command). SpellsAnywhere line k) (sym h.2) (e ∙ ap (λ (r : List ℕ). codes "compare " ++ r) h.3, h.4, h.5)

compare_back : (line rest : List ℕ) → line ≡ codes "compare " ++ rest → (command : Command) → SpellsAnywhere line command → IsCompareRest rest command
compare_back line rest e (Add number triple) h = absurd (apart e h.1 refl)
compare_back line rest e (Remove number triple) h = absurd (apart e h.1 refl)
compare_back line rest e (Deliver message number) h = absurd (apart e h.0 refl)
compare_back line rest e (Show number) h = absurd (apart e h.0 refl)
compare_back line rest e (Query number read) h = absurd h
compare_back line rest e (Update number plan) h = absurd h
compare_back line rest e (Compare number other) h = (number, other, refl, ap (drop 8) (sym e ∙ h.0), h.1, h.2)
compare_back line rest e (Join number) h = absurd (apart e h.0 refl)
compare_back line rest e (Ask number) h = absurd (apart e h.0 refl)
compare_back line rest e (Compact number) h = absurd (apart (ap (drop 5) e) (ap (drop 5) h.0) refl)
compare_back line rest e (Truncate number keep) h = absurd (apart e h.0 refl)
compare_back line rest e (Stop number) h = absurd (apart e h.0 refl)
compare_back line rest e (Open number) h = absurd (apart e h.0 refl)
compare_back line rest e (Crash call leave task) h = absurd h

pub compare_behind : (line rest : List ℕ) → line ≡ codes "compare " ++ rest → (command : Command) → IsCompareRest rest command ↔ SpellsAnywhere line command
compare_behind line rest e command = (compare_there line rest e command, compare_back line rest e command)

join_there : (line rest : List ℕ) → line ≡ codes "join " ++ rest → (command : Command) → IsJoinRest rest command → SpellsAnywhere line command
join_there line rest e command h =
    subst (λ (k : Command). SpellsAnywhere line k) (sym h.1) (e ∙ ap (λ (r : List ℕ). codes "join " ++ r) h.2, h.3)

join_back : (line rest : List ℕ) → line ≡ codes "join " ++ rest → (command : Command) → SpellsAnywhere line command → IsJoinRest rest command
join_back line rest e (Add number triple) h = absurd (apart e h.1 refl)
join_back line rest e (Remove number triple) h = absurd (apart e h.1 refl)
join_back line rest e (Deliver message number) h = absurd (apart e h.0 refl)
join_back line rest e (Show number) h = absurd (apart e h.0 refl)
join_back line rest e (Query number read) h = absurd h
join_back line rest e (Update number plan) h = absurd h
join_back line rest e (Compare number other) h = absurd (apart e h.0 refl)
join_back line rest e (Join number) h = (number, refl, ap (drop 5) (sym e ∙ h.0), h.1)
join_back line rest e (Ask number) h = absurd (apart e h.0 refl)
join_back line rest e (Compact number) h = absurd (apart e h.0 refl)
join_back line rest e (Truncate number keep) h = absurd (apart e h.0 refl)
join_back line rest e (Stop number) h = absurd (apart e h.0 refl)
join_back line rest e (Open number) h = absurd (apart e h.0 refl)
join_back line rest e (Crash call leave task) h = absurd h

pub join_behind : (line rest : List ℕ) → line ≡ codes "join " ++ rest → (command : Command) → IsJoinRest rest command ↔ SpellsAnywhere line command
join_behind line rest e command = (join_there line rest e command, join_back line rest e command)

ask_there : (line rest : List ℕ) → line ≡ codes "ask " ++ rest → (command : Command) → IsAskRest rest command → SpellsAnywhere line command
ask_there line rest e command h =
    subst (λ (k : Command). SpellsAnywhere line k) (sym h.1) (e ∙ ap (λ (r : List ℕ). codes "ask " ++ r) h.2, h.3)

ask_back : (line rest : List ℕ) → line ≡ codes "ask " ++ rest → (command : Command) → SpellsAnywhere line command → IsAskRest rest command
ask_back line rest e (Add number triple) h = absurd (apart (ap (drop 1) e) (ap (drop 1) h.1) refl)
ask_back line rest e (Remove number triple) h = absurd (apart e h.1 refl)
ask_back line rest e (Deliver message number) h = absurd (apart e h.0 refl)
ask_back line rest e (Show number) h = absurd (apart e h.0 refl)
ask_back line rest e (Query number read) h = absurd h
ask_back line rest e (Update number plan) h = absurd h
ask_back line rest e (Compare number other) h = absurd (apart e h.0 refl)
ask_back line rest e (Join number) h = absurd (apart e h.0 refl)
ask_back line rest e (Ask number) h = (number, refl, ap (drop 4) (sym e ∙ h.0), h.1)
ask_back line rest e (Compact number) h = absurd (apart e h.0 refl)
ask_back line rest e (Truncate number keep) h = absurd (apart e h.0 refl)
ask_back line rest e (Stop number) h = absurd (apart e h.0 refl)
ask_back line rest e (Open number) h = absurd (apart e h.0 refl)
ask_back line rest e (Crash call leave task) h = absurd h

pub ask_behind : (line rest : List ℕ) → line ≡ codes "ask " ++ rest → (command : Command) → IsAskRest rest command ↔ SpellsAnywhere line command
ask_behind line rest e command = (ask_there line rest e command, ask_back line rest e command)

compact_there : (line rest : List ℕ) → line ≡ codes "compact " ++ rest → (command : Command) → IsCompactRest rest command → SpellsAnywhere line command
compact_there line rest e command h =
    subst (λ (k : Command). SpellsAnywhere line k) (sym h.1) (e ∙ ap (λ (r : List ℕ). codes "compact " ++ r) h.2, h.3)

compact_back : (line rest : List ℕ) → line ≡ codes "compact " ++ rest → (command : Command) → SpellsAnywhere line command → IsCompactRest rest command
compact_back line rest e (Add number triple) h = absurd (apart e h.1 refl)
compact_back line rest e (Remove number triple) h = absurd (apart e h.1 refl)
compact_back line rest e (Deliver message number) h = absurd (apart e h.0 refl)
compact_back line rest e (Show number) h = absurd (apart e h.0 refl)
compact_back line rest e (Query number read) h = absurd h
compact_back line rest e (Update number plan) h = absurd h
compact_back line rest e (Compare number other) h = absurd (apart (ap (drop 5) e) (ap (drop 5) h.0) refl)
compact_back line rest e (Join number) h = absurd (apart e h.0 refl)
compact_back line rest e (Ask number) h = absurd (apart e h.0 refl)
compact_back line rest e (Compact number) h = (number, refl, ap (drop 8) (sym e ∙ h.0), h.1)
compact_back line rest e (Truncate number keep) h = absurd (apart e h.0 refl)
compact_back line rest e (Stop number) h = absurd (apart e h.0 refl)
compact_back line rest e (Open number) h = absurd (apart e h.0 refl)
compact_back line rest e (Crash call leave task) h = absurd h

pub compact_behind : (line rest : List ℕ) → line ≡ codes "compact " ++ rest → (command : Command) → IsCompactRest rest command ↔ SpellsAnywhere line command
compact_behind line rest e command = (compact_there line rest e command, compact_back line rest e command)

truncate_there : (line rest : List ℕ) → line ≡ codes "truncate " ++ rest → (command : Command) → IsTruncateRest rest command → SpellsAnywhere line command
truncate_there line rest e command h =
    subst (λ (k : Command). SpellsAnywhere line k) (sym h.2) (e ∙ ap (λ (r : List ℕ). codes "truncate " ++ r) h.3, h.4, h.5)

truncate_back : (line rest : List ℕ) → line ≡ codes "truncate " ++ rest → (command : Command) → SpellsAnywhere line command → IsTruncateRest rest command
truncate_back line rest e (Add number triple) h = absurd (apart e h.1 refl)
truncate_back line rest e (Remove number triple) h = absurd (apart e h.1 refl)
truncate_back line rest e (Deliver message number) h = absurd (apart e h.0 refl)
truncate_back line rest e (Show number) h = absurd (apart e h.0 refl)
truncate_back line rest e (Query number read) h = absurd h
truncate_back line rest e (Update number plan) h = absurd h
truncate_back line rest e (Compare number other) h = absurd (apart e h.0 refl)
truncate_back line rest e (Join number) h = absurd (apart e h.0 refl)
truncate_back line rest e (Ask number) h = absurd (apart e h.0 refl)
truncate_back line rest e (Compact number) h = absurd (apart e h.0 refl)
truncate_back line rest e (Truncate number keep) h = (number, keep, refl, ap (drop 9) (sym e ∙ h.0), h.1, h.2)
truncate_back line rest e (Stop number) h = absurd (apart e h.0 refl)
truncate_back line rest e (Open number) h = absurd (apart e h.0 refl)
truncate_back line rest e (Crash call leave task) h = absurd h

pub truncate_behind : (line rest : List ℕ) → line ≡ codes "truncate " ++ rest → (command : Command) → IsTruncateRest rest command ↔ SpellsAnywhere line command
truncate_behind line rest e command = (truncate_there line rest e command, truncate_back line rest e command)

stop_there : (line rest : List ℕ) → line ≡ codes "stop " ++ rest → (command : Command) → IsStopRest rest command → SpellsAnywhere line command
stop_there line rest e command h =
    subst (λ (k : Command). SpellsAnywhere line k) (sym h.1) (e ∙ ap (λ (r : List ℕ). codes "stop " ++ r) h.2, h.3)

stop_back : (line rest : List ℕ) → line ≡ codes "stop " ++ rest → (command : Command) → SpellsAnywhere line command → IsStopRest rest command
stop_back line rest e (Add number triple) h = absurd (apart e h.1 refl)
stop_back line rest e (Remove number triple) h = absurd (apart e h.1 refl)
stop_back line rest e (Deliver message number) h = absurd (apart e h.0 refl)
stop_back line rest e (Show number) h = absurd (apart (ap (drop 1) e) (ap (drop 1) h.0) refl)
stop_back line rest e (Query number read) h = absurd h
stop_back line rest e (Update number plan) h = absurd h
stop_back line rest e (Compare number other) h = absurd (apart e h.0 refl)
stop_back line rest e (Join number) h = absurd (apart e h.0 refl)
stop_back line rest e (Ask number) h = absurd (apart e h.0 refl)
stop_back line rest e (Compact number) h = absurd (apart e h.0 refl)
stop_back line rest e (Truncate number keep) h = absurd (apart e h.0 refl)
stop_back line rest e (Stop number) h = (number, refl, ap (drop 5) (sym e ∙ h.0), h.1)
stop_back line rest e (Open number) h = absurd (apart e h.0 refl)
stop_back line rest e (Crash call leave task) h = absurd h

pub stop_behind : (line rest : List ℕ) → line ≡ codes "stop " ++ rest → (command : Command) → IsStopRest rest command ↔ SpellsAnywhere line command
stop_behind line rest e command = (stop_there line rest e command, stop_back line rest e command)

open_there : (line rest : List ℕ) → line ≡ codes "open " ++ rest → (command : Command) → IsOpenRest rest command → SpellsAnywhere line command
open_there line rest e command h =
    subst (λ (k : Command). SpellsAnywhere line k) (sym h.1) (e ∙ ap (λ (r : List ℕ). codes "open " ++ r) h.2, h.3)

open_back : (line rest : List ℕ) → line ≡ codes "open " ++ rest → (command : Command) → SpellsAnywhere line command → IsOpenRest rest command
open_back line rest e (Add number triple) h = absurd (apart e h.1 refl)
open_back line rest e (Remove number triple) h = absurd (apart e h.1 refl)
open_back line rest e (Deliver message number) h = absurd (apart e h.0 refl)
open_back line rest e (Show number) h = absurd (apart e h.0 refl)
open_back line rest e (Query number read) h = absurd h
open_back line rest e (Update number plan) h = absurd h
open_back line rest e (Compare number other) h = absurd (apart e h.0 refl)
open_back line rest e (Join number) h = absurd (apart e h.0 refl)
open_back line rest e (Ask number) h = absurd (apart e h.0 refl)
open_back line rest e (Compact number) h = absurd (apart e h.0 refl)
open_back line rest e (Truncate number keep) h = absurd (apart e h.0 refl)
open_back line rest e (Stop number) h = absurd (apart e h.0 refl)
open_back line rest e (Open number) h = (number, refl, ap (drop 5) (sym e ∙ h.0), h.1)
open_back line rest e (Crash call leave task) h = absurd h

pub open_behind : (line rest : List ℕ) → line ≡ codes "open " ++ rest → (command : Command) → IsOpenRest rest command ↔ SpellsAnywhere line command
open_behind line rest e command = (open_there line rest e command, open_back line rest e command)

-- ---- the parts of a command

pub no_triple_split : (rest : List ℕ) → Lacks space rest → (number : ℕ) (triple : Triple) → ¬ IsCloneAndTriple rest number triple
no_triple_split rest lacks number triple h = has_space rest (decimal number) h.text lacks h.whole

pub no_triple_number : (rest front behind : List ℕ) → rest ≡ front ++ space ∷ behind → Lacks space front → ((number : ℕ) → number < clone_count → front ≢ decimal number)
    → (number : ℕ) (triple : Triple) → ¬ IsCloneAndTriple rest number triple
no_triple_number rest front behind e lacks none number triple h = none number h.clone (number_first rest front behind h.text number lacks e (small h.clone) h.whole).0

pub no_triple_text : (rest front behind : List ℕ) → rest ≡ front ++ space ∷ behind → Lacks space front → ((triple : Triple) → ¬ IsTripleText behind triple)
    → (number : ℕ) (triple : Triple) → ¬ IsCloneAndTriple rest number triple
no_triple_text rest front behind e lacks none number triple h =
    none triple (subst (λ (t : List ℕ). IsTripleText t triple) (sym (number_first rest front behind h.text number lacks e (small h.clone) h.whole).1) h.spelled)

pub no_add : (rest : List ℕ) → ((number : ℕ) (triple : Triple) → ¬ IsCloneAndTriple rest number triple) → (command : Command) → ¬ IsAddRest rest command
no_add rest none command h = none h.0 h.1 h.3

pub no_remove : (rest : List ℕ) → ((number : ℕ) (triple : Triple) → ¬ IsCloneAndTriple rest number triple) → (command : Command) → ¬ IsRemoveRest rest command
no_remove rest none command h = none h.0 h.1 h.3

pub no_deliver_split : (rest : List ℕ) → Lacks space rest → (command : Command) → ¬ IsDeliverRest rest command
no_deliver_split rest lacks command h = has_space rest (decimal h.0) (decimal h.1) lacks h.3

pub no_deliver_message : (rest front behind : List ℕ) → rest ≡ front ++ space ∷ behind → Lacks space front → ((number : ℕ) → number < 2 ^ 64 → front ≢ decimal number)
    → (command : Command) → ¬ IsDeliverRest rest command
no_deliver_message rest front behind e lacks none command h = none h.0 h.4 (number_first rest front behind (decimal h.1) h.0 lacks e h.4 h.3).0

pub no_deliver_number : (rest front behind : List ℕ) → rest ≡ front ++ space ∷ behind → Lacks space front → ((number : ℕ) → number < clone_count → behind ≢ decimal number)
    → (command : Command) → ¬ IsDeliverRest rest command
no_deliver_number rest front behind e lacks none command h = none h.1 h.5 (number_first rest front behind (decimal h.1) h.0 lacks e h.4 h.3).1

pub no_compare_split : (rest : List ℕ) → Lacks space rest → (command : Command) → ¬ IsCompareRest rest command
no_compare_split rest lacks command h = has_space rest (decimal h.0) (decimal h.1) lacks h.3

pub no_compare_number : (rest front behind : List ℕ) → rest ≡ front ++ space ∷ behind → Lacks space front → ((number : ℕ) → number < clone_count → front ≢ decimal number)
    → (command : Command) → ¬ IsCompareRest rest command
no_compare_number rest front behind e lacks none command h = none h.0 h.4 (number_first rest front behind (decimal h.1) h.0 lacks e (small h.4) h.3).0

pub no_compare_other : (rest front behind : List ℕ) → rest ≡ front ++ space ∷ behind → Lacks space front → ((number : ℕ) → number < clone_count → behind ≢ decimal number)
    → (command : Command) → ¬ IsCompareRest rest command
no_compare_other rest front behind e lacks none command h = none h.1 h.5 (number_first rest front behind (decimal h.1) h.0 lacks e (small h.4) h.3).1

pub no_truncate_split : (rest : List ℕ) → Lacks space rest → (command : Command) → ¬ IsTruncateRest rest command
no_truncate_split rest lacks command h = has_space rest (decimal h.0) (decimal h.1) lacks h.3

pub no_truncate_number : (rest front behind : List ℕ) → rest ≡ front ++ space ∷ behind → Lacks space front → ((number : ℕ) → number < clone_count → front ≢ decimal number)
    → (command : Command) → ¬ IsTruncateRest rest command
no_truncate_number rest front behind e lacks none command h = none h.0 h.4 (number_first rest front behind (decimal h.1) h.0 lacks e (small h.4) h.3).0

pub no_truncate_keep : (rest front behind : List ℕ) → rest ≡ front ++ space ∷ behind → Lacks space front → ((number : ℕ) → number < 2 ^ 64 → behind ≢ decimal number)
    → (command : Command) → ¬ IsTruncateRest rest command
no_truncate_keep rest front behind e lacks none command h = none h.1 h.5 (number_first rest front behind (decimal h.1) h.0 lacks e (small h.4) h.3).1

-- ---- triples

-- a fault of the triple, want of memory aside
pub no_triple : (text : List ℕ) (fault : TripleFault) → RefusesTriple text fault → fault ≢ NoMemory → (triple : Triple) → ¬ IsTripleText text triple
no_triple text (NotTriple place) h other triple t = h.unspelled triple t.spelled
no_triple text TooLong h other triple t = h.2 (subst (λ (u : Triple). IsTripleWithin u) (one_spelled text triple h.0 t.spelled h.1) t.within)
no_triple text NoMemory h other triple t = other refl
