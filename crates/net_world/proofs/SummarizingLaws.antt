-- Clones are told of one by one, and used up.
use Rattle.std.proofs.Common.{◌≡◌, List, [], ◌∷◌, ◌++◌, Option, Some, None, Result, Ok, Err, IfOk, OnOk, sym, ◌∙◌, ap, subst, map}
use Rattle.std.proofs.lemmas.List.{append_assoc, append-nil}
use Rattle.std.specs.declared.alloc.AllocError.{AllocError}
use Rattle.mld_io.specs.Disk.{Log}
use Rattle.clone_core.specs.Banked.{BankedClone, KeepsClone}
use Rattle.mld_model.specs.StandsFor.{RunningClone}
use Rattle.mld_model.specs.declared.CloneState.TheVariants as states
use Rattle.net_world.specs.declared.summaries.CloneSummary.{CloneSummary}
use Rattle.world_commands.specs.WorldBanks.{BankedState, in_memory, banks_of_state}
use Rattle.world_commands.specs.WorldEnds.{KeepsState}
use Rattle.net_world.specs.WorldSummary.{Summarizes, SummarizesAll, TellsNext}

-- whatever is told of the clones that are left, behind what was told so far it tells of all
abbrev pub TellsSoFar : List RunningClone → List CloneSummary → List RunningClone → Type 0
TellsSoFar left summaries all = (more : List CloneSummary) → SummarizesAll left more → SummarizesAll all (summaries ++ more)

-- one more clone is told of
pub told_more : {B : Type 0} (all : List RunningClone) (rest left : List (BankedState B)) (clone : BankedState B) (before after : List CloneSummary)
    → rest ≡ clone ∷ left → TellsNext (in_memory clone) before after → TellsSoFar (map in_memory rest) before all → TellsSoFar (map in_memory left) after all
told_more {B = B} all rest left clone before after first next so_far more tells =
    let these : SummarizesAll (map in_memory rest) (next.summary ∷ more) =
    subst (λ (cs : List (BankedState B)). SummarizesAll (map in_memory cs) (next.summary ∷ more)) (sym first) (next.told, tells) in
    subst (λ (ss : List CloneSummary). SummarizesAll all ss)
    (sym (ap (λ (ss : List CloneSummary). ss ++ more) next.grows ∙ append_assoc before (next.summary ∷ []) more))
    (so_far (next.summary ∷ more) these)

-- and its banks are put behind the others
pub banks_more : {B : Type 0} (all rest left : List (BankedState B)) (clone : BankedState B) (before after : List B)
    → rest ≡ clone ∷ left → after ≡ before ++ banks_of_state clone ∷ [] → before ++ map banks_of_state rest ≡ map banks_of_state all
    → after ++ map banks_of_state left ≡ map banks_of_state all
banks_more {B = B} all rest left clone before after first next so_far =
    ap (λ (l : List B). l ++ map banks_of_state left) next
    ∙ append_assoc before (banks_of_state clone ∷ []) (map banks_of_state left)
    ∙ ap (λ (l : List (BankedState B)). before ++ map banks_of_state l) (sym first)
    ∙ so_far

-- the banks of all clones
pub banks_all : {B : Type 0} (all left : List (BankedState B)) (banks : List B) → left ≡ [] → banks ++ map banks_of_state left ≡ map banks_of_state all → banks ≡ map banks_of_state all
banks_all {B = B} all left banks none so_far = sym (append-nil banks) ∙ ap (λ (l : List (BankedState B)). banks ++ map banks_of_state l) (sym none) ∙ so_far

-- all clones are told of
pub told_all : {B : Type 0} (all : List RunningClone) (left : List (BankedState B)) (summaries : List CloneSummary) → left ≡ [] → TellsSoFar (map in_memory left) summaries all
    → SummarizesAll all summaries
told_all {B = B} all left summaries none so_far =
    subst (λ (ss : List CloneSummary). SummarizesAll all ss) (append-nil summaries)
    (so_far [] (subst (λ (cs : List (BankedState B)). SummarizesAll (map in_memory cs) []) (sym none) tt))

-- what the banks of a live clone keep that was told of
pub live_keeps : {B : Type 0} (log : B → Option Log) (result : Result (CloneSummary × B) AllocError) (clone : BankedClone B)
    → IfOk result (λ (told : CloneSummary × B). told.1 ≡ clone.banks)
    → (clone.closed ≡ None → IfOk result (λ (told : CloneSummary × B). (now : Log) → log told.1 ≡ Some now → KeepsClone clone.local clone.generation now))
    → OnOk result (KeepsState log (states.Live clone))
live_keeps log (Err error) clone banks kept = tt
live_keeps log (Ok told) clone banks kept = λ opened now is. kept opened now (ap log banks ∙ is)
