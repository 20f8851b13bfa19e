-- The turns that were taken, whatever the banks tell.
use Rattle.std.proofs.Common.{◌≡◌, ℕ, ◌+◌, ◌≤◌, false, List, [], ◌∷◌, ◌++◌, refl, sym, ◌∙◌, arith, subst, Option, None, Some, length-append}
use Rattle.std.proofs.lemmas.Fmt.{decimal_injective}
use Rattle.std.specs.Prelude.{option_map, unwrap_or, codes}
use Rattle.clap.specs.Words.{matches_of, first_of}
use Rattle.mld_io.specs.declared.events.Event.{Event}
use Rattle.mld_io.specs.declared.events.WireCall.TheVariants.{Took}
use Rattle.mld_io.specs.declared.faults.IoFault.{IoFault}
use Rattle.mld_io.specs.declared.faults.IoFault.TheVariants as io
use Rattle.mld_io.specs.Disk.{Log}
use Rattle.mld_io.specs.Wires.{WireLog}
use Rattle.node_core.specs.clone_parts.KeptSteps.{KeptStep}
use Rattle.node_core.specs.declared.states.NodeState.{NodeState}
use Rattle.node_core.specs.NodeStates as states
use Rattle.node_core.specs.Nodes.{BankedNode, node_value}
use Rattle.node_core.specs.node_model.declared.connections.Sent.{Sent}
use Rattle.node_core.specs.node_model.Events.{NodeValue, NodeStep, log_after}
use Rattle.node_run.specs.declared.faults.NodeWordsFault.{NodeWordsFault}
use Rattle.node_run.specs.declared.faults.NodeWordsFault.TheVariants as words_faults
use Rattle.node_run.specs.declared.node.NodeWords.{NodeWords}
use Rattle.node_run.specs.declared.stops.NodeStop.{NodeStop}
use Rattle.node_run.specs.declared.stops.NodeStop.TheVariants as stops
use Rattle.node_run.specs.ServiceStatuses.{stop_of_wire, stop_of_words, IsAtFirst}
use Rattle.node_run.specs.ServiceTurns.{KeepsTurns, HasTaken, HasServed}
use Rattle.node_run.specs.ServiceUnderWay.{Sends, StopsTurn}
use Rattle.node_run.specs.Start.{fresh_node}
use Rattle.node_run.specs.Words.{AreWords, node_app, node_name}
use Rattle.node_run.specs.WordSpelling.{AreTurns}
use Rattle.node_run.proofs.LogLaws.{logged_then}
use Rattle.node_run.proofs.WayLemmas.{logged_first, runs_more}

-- ---- the words say one number of turns

one_turns : (given : Option (List ℕ)) (a b : ℕ) → AreTurns given a → AreTurns given b → a ≡ b
one_turns None a b x y = x ∙ sym y
one_turns (Some text) a b x y = decimal_injective a b x.most y.most (sym x.written ∙ y.written)

pub same_turns : (texts : List (List ℕ)) (a b : NodeWords) → AreWords texts a → AreWords texts b → a.turns ≡ b.turns
same_turns texts a b x y = one_turns (first_of (codes "turns") (matches_of node_app (node_name ∷ texts))) a.turns b.turns x.read.turns y.read.turns

-- so many of one are so many of any
pub keeps_of_words : (fault : Option NodeStop) (taken : ℕ) (texts : List (List ℕ)) (a b : NodeWords) → AreWords texts a → AreWords texts b
    → KeepsTurns fault taken a.turns → KeepsTurns fault taken b.turns
keeps_of_words fault taken texts a b x y keeps = subst (λ (n : ℕ). KeepsTurns fault taken n) (same_turns texts a b x y) keeps

-- ---- events that were taken

-- none is yet
pub taken_first : {B : Type 0} (state : NodeState B) (node : BankedNode B) (before : Option WireLog)
    → node ≡ record { state = state; connections = []; halted = false } → HasTaken (node_value node) 0 before before
taken_first {B = B} state node before is =
    let P : BankedNode B → Type 0 = λ n. HasTaken (node_value n) 0 before before in
    let none : P (record { state = state; connections = []; halted = false }) = record {
      keeper = states.keeper_of state;
      events = [];
      counted = refl;
      steps = [];
      after = unwrap_or before [];
      runs = (refl, refl, refl);
      logged = logged_first before;
    } in
    subst P (sym is) none

-- one more is
pub taken_more : (node next : NodeValue) (taken : ℕ) (before now taking after : Option WireLog) (event : Event) (sent : List Sent) (steps : List KeptStep)
    → HasTaken node taken before now → node.halted ≡ false → taking ≡ option_map (λ l. Took event ∷ l) now → NodeStep node event sent steps next
    → Sends sent taking after → HasTaken next (taken + 1) before after
taken_more node next taken before now taking after event sent steps so going took does sends = record {
  keeper = so.keeper;
  events = so.events ++ event ∷ [];
  counted = omega (arith, so.counted, length-append so.events (event ∷ []));
  steps = so.steps ++ steps;
  after = log_after sent (Took event ∷ so.after);
  runs = runs_more (fresh_node so.keeper) node next so.events event (unwrap_or before []) so.after so.steps steps sent so.runs going does;
  logged = logged_then (Took event ∷ so.after) (log_after sent) before taking after (logged_then so.after (λ l. Took event ∷ l) before now taking so.logged took) sends;
}

-- ---- why it ended

some_stop : {a b : NodeStop} → ◌≡◌ {A = Option NodeStop} (Some a) (Some b) → a ≡ b
some_stop h = cc

-- the turns didn't run out
pub keeps_well : (taken turns : ℕ) → taken ≤ turns → KeepsTurns None taken turns
keeps_well taken turns few = record { few = few; all = λ is. absurd (cc (is)) }

pub keeps_other : (stop : NodeStop) (taken turns : ℕ) → ¬ (stop ≡ stops.OutOfTurns) → taken ≤ turns → KeepsTurns (Some stop) taken turns
keeps_other stop taken turns other few = record { few = few; all = λ is. absurd (other (some_stop is)) }

pub served_other : (stop : NodeStop) (taken : ℕ) (before now : Option WireLog) → ¬ (stop ≡ stops.OutOfTurns) → HasServed (Some stop) taken before now
served_other stops.Usage taken before now other = tt
served_other stops.NoMemory taken before now other = tt
served_other stops.Device taken before now other = tt
served_other stops.OutOfTurns taken before now other = absurd (other refl)
served_other stops.WireFault taken before now other = tt
served_other (stops.Damaged side place) taken before now other = tt
served_other stops.OtherClone taken before now other = tt

pub not_by_words : (fault : NodeWordsFault) → ¬ (stop_of_words fault ≡ stops.OutOfTurns)
not_by_words words_faults.Usage is = absurd (cc (is))
not_by_words words_faults.NoMemory is = absurd (cc (is))

pub not_at_first : (stop : NodeStop) → IsAtFirst stop → ¬ (stop ≡ stops.OutOfTurns)
not_at_first stop kind is = let at : IsAtFirst stops.OutOfTurns = subst IsAtFirst is kind in at

pub not_by_wire : (fault : IoFault) → ¬ (stop_of_wire fault ≡ stops.OutOfTurns)
not_by_wire io.Failed is = absurd (cc (is))
not_by_wire io.NoMemory is = absurd (cc (is))

pub not_by_turn : {B : Type 0} (stop : NodeStop) (log : B → Option Log) (node : BankedNode B) (event : Event) (before : Option WireLog) (back : B) (now : Option WireLog)
    → StopsTurn stop log node event before back now → ¬ (stop ≡ stops.OutOfTurns)
not_by_turn stop log node event before back now short is =
    let at : StopsTurn stops.OutOfTurns log node event before back now = subst (λ (s : NodeStop). StopsTurn s log node event before back now) is short in at
