-- A run of the node from event to event, and how it ends.
use Rattle.std.proofs.Common.{◌≡◌, ◌⊎◌, ℕ, zero, suc, ◌+◌, ◌<◌, ◌≤◌, Bool, false, List, [], ◌∷◌, ◌++◌, refl, sym, ◌∙◌, ap, arith, subst, inl, inr, length, Option, None, Some, append_assoc, append-nil, length-append}
use Rattle.std.specs.Prelude.{option_map, unwrap_or}
use Rattle.mld_io.specs.declared.events.Event.{Event}
use Rattle.mld_io.specs.declared.events.WireCall.TheVariants.{Took}
use Rattle.mld_io.specs.Disk.{Log, LeavesMeanwhile, grown_by}
use Rattle.mld_io.specs.Wires.{WireLog}
use Rattle.node_core.specs.journal_store.Closing.{StaysTold}
use Rattle.node_core.specs.clone_parts.KeptSteps.{KeptStep}
use Rattle.node_core.specs.shell_session.Shells.{FoundOnBanks, Stored, found_after}
use Rattle.node_core.proofs.of_shell_session.RunLaws.{found_both}
use Rattle.node_core.specs.shell_session.SessionLines.{ImagesFind, FindsFront, LeavesFront}
use Rattle.node_run.specs.declared.node.NodeWords.{NodeWords}
use Rattle.node_run.specs.Words.{AreWords}
use Rattle.node_core.specs.node_model.declared.connections.Sent.{Sent}
use Rattle.node_core.specs.declared.states.NodeState.{NodeState}
use Rattle.node_core.specs.NodeStates as states
use Rattle.node_core.specs.node_model.Keepers.{Keeper, keeper_found}
use Rattle.node_core.specs.node_model.Events.{NodeValue, NodeStep, NodeRuns, log_after}
use Rattle.node_core.specs.node_model.NodeLaws.{NodeStepsLead}
use Rattle.node_core.specs.NodeStates.{FindsNow}
use Rattle.node_core.specs.Nodes.{BankedNode, node_value, node_banks}
use Rattle.node_core.specs.NodeEvents.{DoesEvent, IsDueByEvent}
use Rattle.node_run.specs.declared.stops.NodeStop.{NodeStop}
use Rattle.node_run.specs.declared.stops.NodeStop.TheVariants as stops
use Rattle.node_run.specs.Start.{Begins, founds, asks, runs_again, fresh_node}
use Rattle.node_run.specs.NodeBegun.{BeginsOn}
use Rattle.node_run.specs.ServiceOrder.{ServiceMoment, HasToSend, GoesTo, is_there}
use Rattle.node_run.specs.ServiceEnds.{EventsDone, durable_steps_of, StopsBetweenEvents, StopsWithinEvent, StopsSending, Waits, between, sending, within, on_banks, on_wire, ServiceEnds}
use Rattle.node_run.specs.ServiceStatuses.{stop_of_wire}
use Rattle.node_run.specs.ServiceUnderWay.{IsServiceUnderWay, DoesTurn, StopsTurn, StopsWithinTurn, StopsSendingTurn}
use Rattle.mld_io.specs.declared.faults.IoFault.{IoFault}
use Rattle.mld_io.specs.declared.faults.IoFault.TheVariants as io
use Rattle.node_core.proofs.of_shell_session.FrontLaws.{moments_then}
use Rattle.node_run.proofs.FrontLaws.{leaves_done, leaves_due}
use Rattle.node_run.proofs.LogLaws.{logged_then}
use Rattle.node_run.proofs.OrderLaws.{goes_taking, goes_sending}

-- ---- runs

-- a run goes on by one event
pub runs_more : (node middle next : NodeValue) (events : List Event) (event : Event) (log after : WireLog) (steps more : List KeptStep) (sent : List Sent)
    → NodeRuns node events log steps middle after → middle.halted ≡ false → NodeStep middle event sent more next
    → NodeRuns node (events ++ event ∷ []) log (steps ++ more) next (log_after sent (Took event ∷ after))
runs_more node middle next [] event log after steps more sent runs going does = (
  ap (λ (n : NodeValue). n.halted) (sym runs.1) ∙ going,
  sent,
  more,
  [],
  next,
  subst (λ (n : NodeValue). NodeStep n event sent more next) runs.1 does,
  (refl, refl, ap (λ (l : WireLog). log_after sent (Took event ∷ l)) runs.2),
  ap (λ (s : List KeptStep). s ++ more) runs.0 ∙ sym (append-nil more),
)
runs_more node middle next (one ∷ events) event log after steps more sent (on, out, first, rest, inner, does_one, runs_rest, whole) going does = (
  on,
  out,
  first,
  rest ++ more,
  inner,
  does_one,
  runs_more inner middle next events event (log_after out (Took one ∷ log)) after rest more sent runs_rest going does,
  ap (λ (s : List KeptStep). s ++ more) whole ∙ append_assoc first rest more,
)

-- what is found where a node began
pub begins_lead : (words : NodeWords) (found : FoundOnBanks) (first : List KeptStep) (keeper : Keeper) → Begins words found first keeper → keeper_found keeper ≡ found_after first found
begins_lead words found first keeper (founds role kept each) = refl
begins_lead words found first keeper (asks role kept each) = refl
begins_lead words found first keeper (runs_again generation head entries clone runs id domain) = λ i. Stored generation (sym runs.head_is i) (sym runs.entries_are i)

module _ (lead : NodeStepsLead) (found : FoundOnBanks) (texts : List (List ℕ)) (log : WireLog) (done : EventsDone found texts log) where
  -- and where it was led
  led : keeper_found done.node.keeper ≡ found_after (durable_steps_of done) found
  led =
      lead (fresh_node done.keeper) done.events log done.steps done.node done.after done.runs
      ∙ ap (found_after done.steps) (begins_lead done.words found done.first done.keeper done.begins)
      ∙ sym (found_both done.first done.steps found)

  -- one event more is done
  abbrev done_more : (event : Event) (sent : List Sent) (steps : List KeptStep) (next : NodeValue) → done.node.halted ≡ false → length done.events < done.words.turns
      → NodeStep done.node event sent steps next → EventsDone found texts log
  done_more event sent steps next going few does = record {
    words = done.words;
    are = done.are;
    first = done.first;
    keeper = done.keeper;
    begins = done.begins;
    events = done.events ++ event ∷ [];
    few = omega (arith, few, length-append done.events (event ∷ []));
    steps = done.steps ++ steps;
    node = next;
    after = log_after sent (Took event ∷ done.after);
    runs = runs_more (fresh_node done.keeper) done.node next done.events event log done.after done.steps steps sent done.runs going does;
  }

-- ---- under way

-- a log that was told is told
pub logged_first : (start : Option WireLog) → start ≡ option_map (λ b. unwrap_or start []) start
logged_first None = refl
logged_first (Some l) = refl

-- a number that isn't the most is below it
pub below : (a b : ℕ) → a ≤ b → ¬ (a ≡ b) → a < b
below zero zero few other = absurd (other refl)
below zero (suc b) few other = omega arith
below (suc a) zero few other = absurd (omega (arith, few))
below (suc a) (suc b) few other = let less : a < b = below a b (omega (arith, few)) (λ same. other (ap suc same)) in omega (arith, less)

module _ {B : Type 0} (log : B → Option Log) (found : FoundOnBanks) (old : Option Log) (texts : List (List ℕ)) (turns : ℕ) (before : Option WireLog) where
  -- nothing is done yet
  pub way_first : (words : NodeWords) (state : NodeState B) (node : BankedNode B) → AreWords texts words → words.turns ≡ turns → BeginsOn log words found old state
      → node ≡ record { state = state; connections = []; halted = false } → IsServiceUnderWay log found old texts turns before before node 0
  way_first words state node are same begun is =
      let P : BankedNode B → Type 0 = λ n. IsServiceUnderWay log found old texts turns before before n 0 in
      let way : P (record { state = state; connections = []; halted = false }) = record {
        done = record {
          words = words;
          are = are;
          first = begun.first;
          keeper = states.keeper_of state;
          begins = begun.begins;
          events = [];
          few = omega arith;
          steps = [];
          node = fresh_node (states.keeper_of state);
          after = unwrap_or before [];
          runs = (refl, refl, refl);
        };
        turns_are = same;
        counted = refl;
        node_is = refl;
        logged = logged_first before;
        told = (begun.keeps.log, begun.keeps.now_is);
        moments = subst (λ (s : List KeptStep). LeavesFront found s old (log (states.state_banks state))) (sym (append-nil begun.first)) begun.moments;
        settled = begun.settled;
        order = record {
          begun = begun.keeps.log;
          begins = subst (λ (l : Option Log). LeavesFront found begun.first old l) begun.keeps.now_is begun.moments;
          goes = is_there;
        };
      } in
      subst P (sym is) way

  module _ (lead : NodeStepsLead) (now : Option WireLog) (node : BankedNode B) (taken : ℕ) (way : IsServiceUnderWay log found old texts turns before now node taken) where
    -- what is found then
    way_led : keeper_found (node_value node).keeper ≡ found_after (durable_steps_of way.done) found
    way_led = ap (λ (n : NodeValue). keeper_found n.keeper) (sym way.node_is) ∙ led lead found texts (unwrap_or before []) way.done

    -- whether it has ended
    way_halted : (halted : Bool) → node.halted ≡ halted → way.done.node.halted ≡ halted
    way_halted halted is = ap (λ (n : NodeValue). n.halted) way.node_is ∙ is

    -- where it began
    abbrev start : ServiceMoment
    start = HasToSend (fresh_node way.done.keeper) [] (unwrap_or before []) way.order.begun

    -- it ended between two events
    pub stops_between : (So : Bool → ℕ → ℕ → Type 0) (back : B) → So node.halted taken turns → back ≡ node_banks node → FindsNow (keeper_found (node_value node).keeper) (log back)
        → StopsBetweenEvents So found (record { texts = texts; turns = taken; before = before; after = now; old = old; now = log back })
    stops_between So back so is finds = record {
      done = way.done;
      so = subst (λ (b : Bool). So b (length way.done.events) way.done.words.turns) (ap (λ (n : NodeValue). n.halted) (sym way.node_is))
          (subst (λ (n : ℕ). So node.halted n way.done.words.turns) way.counted (subst (λ (n : ℕ). So node.halted taken n) (sym way.turns_are) so));
      counted = way.counted;
      logged = way.logged;
      keeps = record {
        log = way.told.0;
        now_is = ap log is ∙ way.told.1;
        finds = finds way.told.0 (ap log is ∙ way.told.1) ∙ ap (λ (n : NodeValue). keeper_found n.keeper) (sym way.node_is);
      };
      images = subst (λ (n : NodeValue). ImagesFind (keeper_found n.keeper) (log back)) (sym way.node_is)
          (subst (λ (b : B). ImagesFind (keeper_found (node_value node).keeper) (log b)) (sym is) way.settled);
      order = way.order;
      leaves = leaves_done found (keeper_found (node_value node).keeper) (durable_steps_of way.done) way_led old (log back)
          (subst (λ (b : B). LeavesFront found (durable_steps_of way.done) old (log b)) (sym is) way.moments)
          (subst (λ (b : B). ImagesFind (keeper_found (node_value node).keeper) (log b)) (sym is) way.settled);
    }

    module _ (going : node.halted ≡ false) (few : taken < turns) (event : Event) (taking : Option WireLog) (took : taking ≡ option_map (λ l. Took event ∷ l) now) where
      -- the run waited for this event
      went : way.done.node.halted ≡ false
      went = way_halted false going

      left : length way.done.events < way.done.words.turns
      left = omega (arith, few, way.counted, way.turns_are)

      taken_log : taking ≡ option_map (λ b. Took event ∷ way.done.after) before
      taken_log = logged_then way.done.after (λ l. Took event ∷ l) before now taking way.logged took

      -- what a crash leaves meanwhile is said of the model's node
      since : (steps : List KeptStep) (l : Option Log) → LeavesFront (keeper_found (node_value node).keeper) steps (log (node_banks node)) l
          → LeavesMeanwhile way.told.0 l (λ calls image. FindsFront (keeper_found way.done.node.keeper) steps image)
      since steps l moments =
          subst (λ (n : NodeValue). LeavesMeanwhile way.told.0 l (λ calls image. FindsFront (keeper_found n.keeper) steps image)) (sym way.node_is)
          (moments way.told.0 way.told.1 way.settled)

      -- the event was done, and of what it sends a front was sent
      order_on : (next : BankedNode B) (event_sends front rest : List Sent) (does : DoesEvent log node event next event_sends) (later : Log)
          → log (node_banks next) ≡ Some later → event_sends ≡ front ++ rest
          → GoesTo start (HasToSend (node_value next) rest (log_after front (Took event ∷ way.done.after)) later)
      order_on next event_sends front rest does later told whole =
          goes_sending start way.done.node (node_value next) event front rest does.steps way.done.after way.told.0 later (log (node_banks next)) went
          (subst (λ (s : List Sent). NodeStep way.done.node event s does.steps (node_value next)) whole
          (subst (λ (n : NodeValue). NodeStep n event event_sends does.steps (node_value next)) (sym way.node_is) does.does))
          told (since does.steps (log (node_banks next)) does.moments) (does.settled way.settled) way.order.goes

      -- one more event is done
      pub way_more : (next : BankedNode B) (after : Option WireLog) → StaysTold (log (node_banks node)) (log (node_banks next)) → DoesTurn log node event taking next after
          → IsServiceUnderWay log found old texts turns before after next (taken + 1)
      way_more next after stays turn =
          let does : NodeStep way.done.node event turn.sent turn.does.steps (node_value next) =
          subst (λ (n : NodeValue). NodeStep n event turn.sent turn.does.steps (node_value next)) (sym way.node_is) turn.does.does in
          let told = stays.told way.told.0 way.told.1 in
          record {
            done = done_more lead found texts (unwrap_or before []) way.done event turn.sent turn.does.steps (node_value next) went left does;
            turns_are = way.turns_are;
            counted = omega (arith, way.counted, length-append way.done.events (event ∷ []));
            node_is = refl;
            logged = logged_then (Took event ∷ way.done.after) (log_after turn.sent) before taking after taken_log turn.sends;
            told = (grown_by told.0 way.told.0, told.1);
            moments = subst (λ (s : List KeptStep). LeavesFront found s old (log (node_banks next))) (append_assoc way.done.first way.done.steps turn.does.steps)
                (moments_then found (keeper_found (node_value node).keeper) (durable_steps_of way.done) turn.does.steps old (log (node_banks node)) (log (node_banks next)) way_led
                way.moments (λ images. way.settled) turn.does.moments);
            settled = turn.does.settled way.settled;
            order = record {
              begun = way.order.begun;
              begins = way.order.begins;
              goes = order_on next turn.sent turn.sent [] turn.does (grown_by told.0 way.told.0) told.1 (sym (append-nil turn.sent));
            };
          }

      -- it ended while the event was done
      silent_turn : (first : Log) (back : B) (after : Option WireLog) → old ≡ Some first → StopsWithinTurn log node event taking back after
          → StopsWithinEvent found (record { texts = texts; turns = taken + 1; before = before; after = after; old = old; now = log back })
      silent_turn first back after is turn = record {
        takes = record { done = way.done; waits = (went, left); counted = omega (arith, way.counted); event = event };
        due = turn.stops.steps;
        is_due = subst (λ (n : NodeValue). (turn.stops.steps ≡ []) ⊎ IsDueByEvent n event turn.stops.steps) (sym way.node_is) turn.stops.due;
        logged = turn.silent ∙ taken_log;
        banks = way.told.0;
        order = record {
          begun = way.order.begun;
          begins = way.order.begins;
          goes = goes_taking start way.done.node event way.done.after way.told.0 went way.order.goes;
        };
        since = since turn.stops.steps (log back) turn.stops.moments;
        leaves = leaves_due found (keeper_found (node_value node).keeper) (durable_steps_of way.done) way_led turn.stops.steps old (log (node_banks node)) (log back) first is
            way.moments way.settled turn.stops.moments;
      }

      -- it ended while it sent
      stops_sending : (back : B) (after : Option WireLog) → StaysTold (log (node_banks node)) (log back) → StopsSendingTurn log node event taking back after
          → StopsSending found (record { texts = texts; turns = taken + 1; before = before; after = after; old = old; now = log back })
      stops_sending back after stays turn =
          let told = stays.told way.told.0 way.told.1 in
          let same : log back ≡ log (node_banks turn.next) = ap log turn.back_is in
          let does : NodeStep way.done.node event turn.sent turn.does.steps (node_value turn.next) =
          subst (λ (n : NodeValue). NodeStep n event turn.sent turn.does.steps (node_value turn.next)) (sym way.node_is) turn.does.does in
          let more : EventsDone found texts (unwrap_or before []) =
          done_more lead found texts (unwrap_or before []) way.done event turn.sent turn.does.steps (node_value turn.next) went left does in
          let sent_led : keeper_found (node_value turn.next).keeper ≡ found_after (durable_steps_of way.done ++ turn.does.steps) found =
          led lead found texts (unwrap_or before []) more
          ∙ ap (λ (s : List KeptStep). found_after s found) (sym (append_assoc way.done.first way.done.steps turn.does.steps)) in
          record {
            takes = record { done = way.done; waits = (went, left); counted = omega (arith, way.counted); event = event };
            sent = turn.sent;
            steps = turn.does.steps;
            next = node_value turn.next;
            does = does;
            front = turn.sends.front;
            missed = turn.sends.missed;
            rest = turn.sends.rest;
            whole = turn.sends.whole;
            logged = logged_then (Took event ∷ way.done.after) (log_after turn.sends.front) before taking after taken_log turn.sends.sends;
            keeps = record { log = grown_by told.0 way.told.0; now_is = told.1; finds = turn.kept _ told.1 };
            images = subst (λ (l : Option Log). ImagesFind (keeper_found (node_value turn.next).keeper) l) (sym same) (turn.does.settled way.settled);
            order = record {
              begun = way.order.begun;
              begins = way.order.begins;
              goes = order_on turn.next turn.sent turn.sends.front (turn.sends.missed ∷ turn.sends.rest) turn.does (grown_by told.0 way.told.0) (sym same ∙ told.1) turn.sends.whole;
            };
            leaves = leaves_done found (keeper_found (node_value turn.next).keeper) (durable_steps_of way.done ++ turn.does.steps) sent_led old (log back)
                (subst (λ (l : Option Log). LeavesFront found (durable_steps_of way.done ++ turn.does.steps) old l) (sym same)
                (moments_then found (keeper_found (node_value node).keeper) (durable_steps_of way.done) turn.does.steps old (log (node_banks node)) (log (node_banks turn.next)) way_led
                way.moments (λ images. way.settled) turn.does.moments))
                (subst (λ (l : Option Log). ImagesFind (keeper_found (node_value turn.next).keeper) l) (sym same) (turn.does.settled way.settled));
          }

      -- a turn was not done
      pub ends_turn : (stop : NodeStop) (first : Log) (back : B) (after : Option WireLog) → old ≡ Some first → StaysTold (log (node_banks node)) (log back)
          → StopsTurn stop log node event taking back after
          → ServiceEnds (Some stop) found (record { texts = texts; turns = taken + 1; before = before; after = after; old = old; now = log back })
      ends_turn stops.Device first back after is stays turn = within (silent_turn first back after is turn)
      ends_turn stops.WireFault first back after is stays turn = sending (stops_sending back after stays turn)
      ends_turn stops.NoMemory first back after is stays (inl turn) = on_banks (within (silent_turn first back after is turn))
      ends_turn stops.NoMemory first back after is stays (inr turn) = on_wire (sending (stops_sending back after stays turn))
      ends_turn stop first back after is stays turn = absurd turn

    -- no event came
    pub ends_waiting : (fault : IoFault) (back : B) → node.halted ≡ false → taken < turns → back ≡ node_banks node → FindsNow (keeper_found (node_value node).keeper) (log back)
        → ServiceEnds (Some (stop_of_wire fault)) found (record { texts = texts; turns = taken; before = before; after = now; old = old; now = log back })
    ends_waiting io.Failed back going few is finds = between (stops_between Waits back (going, few) is finds)
    ends_waiting io.NoMemory back going few is finds = on_wire (between (stops_between Waits back (going, few) is finds))
