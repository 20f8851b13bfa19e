-- A piece of a connection, from its frames to an event.
use Rattle.std.proofs.Common.{◌≡◌, ℕ, if◌then◌else◌, Bool, true, false, IsTrue, List, [], Option, None, Some, Result, Ok, Err, IfOk, IfErr, is_none, refl, sym, ◌∙◌, ap, subst}
use Rattle.std.specs.List.{AllByRecursion}
use Rattle.mld_io.specs.Disk.{Log}
use Rattle.mld_io.specs.declared.events.Event.{Event}
use Rattle.mld_io.specs.declared.events.Event.TheVariants as events
use Rattle.node_model.specs.clone_parts.KeptSteps.{KeptStep}
use Rattle.node_model.specs.shell_session.Shells.{FoundOnBanks}
use Rattle.node_model.specs.shell_session.SessionLines.{ImagesFind, LeavesFront, LeavesFrontOfDue}
use Rattle.wire_frames.specs.declared.faults.FrameFault.{FrameFault}
use Rattle.wire_frames.specs.declared.kinds.Fed.{Fed}
use Rattle.wire_frames.specs.Frames.{FramesValue, Feeds}
use Rattle.node_model.specs.declared.connections.Connection.{Connection}
use Rattle.node_model.specs.declared.connections.Sent.{Sent}
use Rattle.node_model.specs.Connections.{AreNumbered, IsRidOf, StaysNumbered, connection_of, without, connections_with, opened}
use Rattle.node_model.specs.Exchanges.{ExchangeValue, refusing_at, refusing}
use Rattle.node_core.specs.declared.faults.NodeFault.{NodeFault}
use Rattle.node_core.specs.declared.faults.NodeFault.TheVariants.{NoMemory}
use Rattle.node_core.specs.NodeStates.{state_banks, keeper_of}
use Rattle.node_core.specs.declared.states.NodeState.{NodeState}
use Rattle.node_model.specs.Keepers.{keeper_found}
use Rattle.node_model.specs.FrameSteps.{FramesStep, refusal_code, faulting, forgetting}
use Rattle.node_model.specs.Events.{NodeValue, NodeStep, PieceStep, TakesPiece, beginning, put_back}
use Rattle.node_core.specs.declared.pieces.Rest.{Rest}
use Rattle.node_core.specs.declared.pieces.Taken.{Taken}
use Rattle.node_core.specs.Nodes.{BankedNode, node_value, IsGood, MayGoOn}
use Rattle.node_core.specs.NodeEvents.{DoesEvent, IsDueByFrames, IsDueByPiece, IsDueByEvent}
use Rattle.node_core.specs.Steps.{TakesFrames, ExchangeGoesOn, IsHeld, MayEnd, ExchangeEnds, MayPutBack, TakesFed, TakesPieceOn, node_with, taken_node, GreetsOn}
use Rattle.node_core.proofs.EventMoments.{no_steps}
use Rattle.node_core.proofs.KindLaws.{stops_as}
use Rattle.node_core.proofs.UnderWay.{stops_behind}
use Rattle.node_core.proofs.HoldLaws.{frames_well, refusing_well, good_placed, good_without, numbered_without, without_none, number_of_found}

-- ---- the end of an exchange

-- what is left at hand behind a fault may go back: nothing is, where there was one
forgetting_well : (number : ℕ) (reader : FramesValue) (exchange : ExchangeValue) → ExchangeGoesOn number reader exchange → ExchangeGoesOn number reader (forgetting exchange)
forgetting_well number reader exchange well = record { held = tt; good = well.good; numbered = well.numbered; apart = well.apart }

either_well : (number : ℕ) (reader : FramesValue) (b : Bool) (one other : ExchangeValue) → ExchangeGoesOn number reader one → ExchangeGoesOn number reader other
    → ExchangeGoesOn number reader (if b then one else other)
either_well number reader true one other first second = first
either_well number reader false one other first second = second

faulting_well : (number : ℕ) (reader : FramesValue) (fault : Option FrameFault) (exchange : ExchangeValue) → ExchangeGoesOn number reader exchange
    → ExchangeGoesOn number reader (faulting fault exchange)
faulting_well number reader None exchange well = well
faulting_well number reader (Some fault) exchange well =
    either_well number reader exchange.halted (forgetting exchange) (refusing (refusal_code fault) exchange) (forgetting_well number reader exchange well)
    (refusing_well number reader (refusal_code fault) exchange well)

refused_none : (code : ℕ) (hand : Option Connection) (exchange : ExchangeValue) → exchange.at_hand ≡ hand → (refusing_at code hand exchange).at_hand ≡ None
refused_none code None exchange is = is
refused_none code (Some one) exchange is = refl

either_none : (b : Bool) (one other : ExchangeValue) → one.at_hand ≡ None → other.at_hand ≡ None → (if b then one else other).at_hand ≡ None
either_none true one other first second = first
either_none false one other first second = second

-- behind a fault nothing is at hand
fault_none : (fault : FrameFault) (exchange : ExchangeValue) → (faulting (Some fault) exchange).at_hand ≡ None
fault_none fault exchange =
    either_none exchange.halted (forgetting exchange) (refusing (refusal_code fault) exchange) refl (refused_none (refusal_code fault) exchange.at_hand exchange refl)

-- what is at hand is good
abbrev IsGoodHand : Option Connection → Type 0
IsGoodHand None = Unit {0}
IsGoodHand (Some one) = IsGood one

held_good : (number : ℕ) (reader : FramesValue) (hand : Option Connection) → IsHeld number reader hand → IsTrue reader.good → IsGoodHand hand
held_good number reader None held good = tt
held_good number reader (Some one) held good = record { reads = subst (λ (f : FramesValue). IsTrue f.good) (sym held.1.0) good; role = held.1.1 }

fault_good : (number : ℕ) (reader : FramesValue) (fault : Option FrameFault) (exchange : ExchangeValue) → ExchangeGoesOn number reader exchange
    → (fault ≡ None → IsTrue reader.good) → IsGoodHand (faulting fault exchange).at_hand
fault_good number reader None exchange well good = held_good number reader exchange.at_hand well.held (good refl)
fault_good number reader (Some fault) exchange well good = subst IsGoodHand (sym (fault_none fault exchange)) tt

back_good : (hand : Option Connection) (others : List Connection) → IsGoodHand hand → AllByRecursion IsGood others → AllByRecursion IsGood (put_back hand others)
back_good None others hold good = good
back_good (Some one) others hold good = good_placed one others hold good

may_put : (number : ℕ) (reader : FramesValue) (hand : Option Connection) (others : List Connection) → IsHeld number reader hand → AreNumbered others
    → connection_of number others ≡ None → MayPutBack hand others
may_put number reader None others held numbered apart = numbered
may_put number reader (Some one) others held numbered apart = (numbered, subst (λ (n : ℕ). connection_of n others ≡ None) (sym held.0) apart)

-- the connections behind an exchange go on
pub ends_well : (fault : Option FrameFault) (exchange last : ExchangeValue) (hand : Option Connection) (others connections : List Connection)
    → last ≡ faulting fault exchange → hand ≡ last.at_hand → others ≡ last.others → connections ≡ put_back hand others
    → (MayPutBack hand others → AreNumbered connections) → MayEnd fault exchange → MayGoOn connections
ends_well fault exchange last hand others connections ends at_hand left connections_with numbered may =
    let well : ExchangeGoesOn may.0 may.1 (faulting fault exchange) = faulting_well may.0 may.1 fault exchange may.2 in
    let same_hand : hand ≡ (faulting fault exchange).at_hand = at_hand ∙ ap (λ (e : ExchangeValue). e.at_hand) ends in
    let same_others : others ≡ (faulting fault exchange).others = left ∙ ap (λ (e : ExchangeValue). e.others) ends in
    let hold : IsGoodHand hand = subst IsGoodHand (sym same_hand) (fault_good may.0 may.1 fault exchange may.2 may.3) in
    let good : AllByRecursion IsGood others = subst (AllByRecursion IsGood) (sym same_others) well.good in
    let apart : connection_of may.0 others ≡ None = subst (λ (xs : List Connection). connection_of may.0 xs ≡ None) (sym same_others) well.apart in
    let held : IsHeld may.0 may.1 hand = subst (IsHeld may.0 may.1) (sym same_hand) well.held in
    record {
      good = subst (AllByRecursion IsGood) (sym connections_with) (back_good hand others hold good);
      numbered = numbered (may_put may.0 may.1 hand others held (subst AreNumbered (sym same_others) well.numbered) apart);
    }

pub ends_so : (fault : Option FrameFault) (exchange last : ExchangeValue) (hand : Option Connection) (others : List Connection) (rest : Rest)
    → last ≡ faulting fault exchange → hand ≡ last.at_hand → others ≡ last.others → rest.sent.items ≡ last.sent → rest.connections.items ≡ put_back hand others
    → rest.halted ≡ last.halted → ExchangeEnds fault exchange rest
ends_so fault exchange last hand others rest ends at_hand left sent connections_with halted = record {
  sends = sent ∙ ap (λ (e : ExchangeValue). e.sent) ends;
  left = connections_with ∙ (λ i. put_back ((at_hand ∙ ap (λ (e : ExchangeValue). e.at_hand) ends) i) ((left ∙ ap (λ (e : ExchangeValue). e.others) ends) i));
  ends = halted ∙ ap (λ (e : ExchangeValue). e.halted) ends;
}

-- ---- the frames of a piece

module _ {B : Type 0} (log : B → Option Log) (old next : NodeState B) (exchange after : ExchangeValue) (fed : Fed) (does : TakesFrames log fed.frames.items old exchange next after) where
  pub fed_answered : (answer : Result (Taken B) (NodeFault × B)) → IfOk answer (λ taken. taken.state ≡ next) → IfOk answer (λ taken. ExchangeEnds fed.fault after taken.rest)
      → IfOk answer (TakesFed log old exchange fed)
  fed_answered (Ok taken) same ends = record {
    middle = after;
    does = subst (λ (s : NodeState B). TakesFrames log fed.frames.items old exchange s after) (sym same) does;
    ends = ends;
  }
  fed_answered (Err refused) same ends = tt

  pub fed_well : MayEnd fed.fault exchange → MayEnd fed.fault after
  fed_well may =
      (may.0, may.1, frames_well may.0 may.1 (keeper_of old) fed.frames.items exchange does.steps (keeper_of next) after does.does may.2, may.3)

  pub fed_refused : (answer : Result (Taken B) (NodeFault × B)) → IfErr answer (λ refused. refused ≡ (NoMemory, state_banks next))
      → IfErr answer (λ refused. LeavesFrontOfDue (IsDueByFrames (keeper_of old) fed.frames.items exchange) log (keeper_found (keeper_of old)) (state_banks old) refused.1)
  fed_refused (Ok taken) back = tt
  fed_refused (Err refused) back = stops_behind log old next exchange after fed.frames.items refused.1 does (ap (λ (r : NodeFault × B). r.1) back)

-- ---- a piece

module _ {B : Type 0} (log : B → Option Log) (old : NodeState B) (one : Connection) (others : List Connection) (piece : List ℕ) (reader : FramesValue) (fed : Fed)
    (exchange : ExchangeValue) (begins : exchange ≡ beginning (record one { frames = reader }) others) where
  pub piece_may : IsGood one → MayGoOn others → connection_of one.number others ≡ None → reader.good ≡ is_none fed.fault → MayEnd fed.fault exchange
  piece_may good well apart told = (
    one.number,
    reader,
    subst (ExchangeGoesOn one.number reader) (sym begins) (record { held = (refl, (refl, good.role)); good = well.good; numbered = well.numbered; apart = apart }),
    λ none. told ∙ ap is_none none,
  )

  pub piece_done : (taken : Taken B) → Feeds one.frames.rest piece fed.frames.items fed.fault reader.rest → TakesFed log old exchange fed taken
      → TakesPieceOn log old one others piece taken
  piece_done taken reads does = record {
    frames = fed.frames.items;
    fault = fed.fault;
    reader = reader;
    reads = reads;
    middle = does.middle;
    does = subst (λ (e : ExchangeValue). TakesFrames log fed.frames.items old e taken.state does.middle) begins does.does;
    ends = does.ends;
  }

  pub piece_stops : (found : FoundOnBanks) (was back : B) → Feeds one.frames.rest piece fed.frames.items fed.fault reader.rest
      → LeavesFrontOfDue (IsDueByFrames (keeper_of old) fed.frames.items exchange) log found was back → LeavesFrontOfDue (IsDueByPiece (keeper_of old) one others piece) log found was back
  piece_stops found was back reads stop =
      stops_as (IsDueByFrames (keeper_of old) fed.frames.items exchange) (IsDueByPiece (keeper_of old) one others piece) log found was back
      (λ steps due. record {
        frames = fed.frames.items;
        fault = fed.fault;
        reader = reader;
        reads = reads;
        due = subst (λ (e : ExchangeValue). IsDueByFrames (keeper_of old) fed.frames.items e steps) begins due;
      })
      stop

-- ---- an event

-- a node that nothing was kept of
module _ {B : Type 0} (log : B → Option Log) (old next : BankedNode B) (event : Event) (sent : List Sent) where
  pub event_quiet : NodeStep (node_value old) event sent [] (node_value next) → next.state ≡ old.state → DoesEvent log old event next sent
  event_quiet does same = record {
    steps = [];
    does = does;
    moments = subst (λ (s : NodeState B). LeavesFront (keeper_found (keeper_of old.state)) [] (log (state_banks old.state)) (log (state_banks s))) (sym same)
        (no_steps (keeper_found (keeper_of old.state)) (log (state_banks old.state)));
    settled = subst (λ (s : NodeState B). ImagesFind (keeper_found (keeper_of old.state)) (log (state_banks old.state)) → ImagesFind (keeper_found (keeper_of s)) (log (state_banks s))) (sym same)
        (λ images. images);
  }

-- a connection that isn't known
unknown_step : (found : Option Connection) (node : NodeValue) (piece : List ℕ) (next : NodeValue) → found ≡ None → next ≡ node → PieceStep found node piece [] [] next
unknown_step found node piece next none same =
    subst (λ (o : Option Connection). PieceStep o node piece [] [] next) (sym none) (record { silent = refl; none = refl; becomes = same })

known_step : (found : Option Connection) (one : Connection) (node : NodeValue) (piece : List ℕ) (sent : List Sent) (steps : List KeptStep) (next : NodeValue) → found ≡ Some one
    → TakesPiece node one piece sent steps next → PieceStep found node piece sent steps next
known_step found one node piece sent steps next is does = subst (λ (o : Option Connection). PieceStep o node piece sent steps next) (sym is) does

module _ {B : Type 0} (log : B → Option Log) (state : NodeState B) (connections others : List Connection) (number : ℕ) (piece : List ℕ) (hand : Option Connection)
    (found : hand ≡ connection_of number connections) (left : others ≡ without number connections) where
  -- one that isn't known changes nothing but what it never had
  pub read_none : (taken : Taken B) → hand ≡ None → taken.rest.sent.items ≡ [] → taken_node taken ≡ record { state = state; connections = others; halted = false }
      → DoesEvent log (node_with state connections) (events.Bytes number piece) (taken_node taken) taken.rest.sent.items
  read_none taken none silent node =
      let still : taken_node taken ≡ node_with state connections =
      node ∙ ap (λ (xs : List Connection). node_with state xs) (left ∙ without_none number connections (sym found ∙ none)) in
      subst (λ (s : List Sent). DoesEvent log (node_with state connections) (events.Bytes number piece) (taken_node taken) s) (sym silent)
      (event_quiet log (node_with state connections) (taken_node taken) (events.Bytes number piece) []
      (unknown_step (connection_of number connections) (node_value (node_with state connections)) piece (node_value (taken_node taken)) (sym found ∙ none) (ap node_value still))
      (ap (λ (n : BankedNode B). n.state) still))

  pub read_some : (taken : Taken B) (one : Connection) → hand ≡ Some one → TakesPieceOn log state one others piece taken
      → DoesEvent log (node_with state connections) (events.Bytes number piece) (taken_node taken) taken.rest.sent.items
  read_some taken one is does =
      let known : connection_of number connections ≡ Some one = sym found ∙ is in
      let numbered : one.number ≡ number = number_of_found number connections one known in
      let rest : others ≡ without one.number connections = left ∙ ap (λ (n : ℕ). without n connections) (sym numbered) in
      record {
        steps = does.does.steps;
        does = known_step (connection_of number connections) one (node_value (node_with state connections)) piece taken.rest.sent.items does.does.steps (node_value (taken_node taken)) known (record {
          frames = does.frames;
          fault = does.fault;
          reader = does.reader;
          reads = does.reads;
          keeper = keeper_of taken.state;
          middle = does.middle;
          does = subst (λ (xs : List Connection). FramesStep (keeper_of state) does.frames (beginning (record one { frames = does.reader }) xs) does.does.steps (keeper_of taken.state) does.middle) rest does.does.does;
          sends = does.ends.sends;
          becomes = λ i. record { keeper = keeper_of taken.state; connections = does.ends.left i; halted = does.ends.ends i };
        });
        moments = does.does.moments;
        settled = does.does.settled;
      }

  pub read_answered : (one : Connection) → hand ≡ Some one → (answer : Result (Taken B) (NodeFault × B)) → IfOk answer (TakesPieceOn log state one others piece)
      → IfOk answer (λ taken. DoesEvent log (node_with state connections) (events.Bytes number piece) (taken_node taken) taken.rest.sent.items)
  read_answered one is (Ok taken) does = read_some taken one is does
  read_answered one is (Err refused) does = tt

  pub read_stops : (one : Connection) (back : B) → hand ≡ Some one → LeavesFrontOfDue (IsDueByPiece (keeper_of state) one others piece) log (keeper_found (keeper_of state)) (state_banks state) back
      → LeavesFrontOfDue (IsDueByEvent (node_value (node_with state connections)) (events.Bytes number piece)) log (keeper_found (keeper_of state)) (state_banks state) back
  read_stops one back is stop =
      stops_as (IsDueByPiece (keeper_of state) one others piece) (IsDueByEvent (node_value (node_with state connections)) (events.Bytes number piece)) log (keeper_found (keeper_of state)) (state_banks state) back
      (λ steps due. (one, sym found ∙ is, subst (λ (xs : List Connection). IsDueByPiece (keeper_of state) one xs piece steps) left due)) stop

-- a connection that was opened
pub open_done : {B : Type 0} (log : B → Option Log) (state : NodeState B) (connections : List Connection) (number : ℕ) (taken : Taken B) → GreetsOn state connections number taken.rest
    → taken.state ≡ state → DoesEvent log (node_with state connections) (events.Opened number) (taken_node taken) taken.rest.sent.items
open_done log state connections number taken greets same =
    event_quiet log (node_with state connections) (taken_node taken) (events.Opened number) taken.rest.sent.items
    (record {
      hello = greets.hello;
      none = refl;
      becomes = λ i. record { keeper = keeper_of (same i); connections = greets.becomes i; halted = greets.goes_on i };
    })
    same

-- one that was shut
pub shut_done : {B : Type 0} (log : B → Option Log) (state : NodeState B) (connections : List Connection) (number : ℕ) (taken : Taken B) → taken.rest.sent.items ≡ []
    → taken_node taken ≡ record { state = state; connections = without number connections; halted = false }
    → DoesEvent log (node_with state connections) (events.Shut number) (taken_node taken) taken.rest.sent.items
shut_done {B = B} log state connections number taken silent node =
    event_quiet log (node_with state connections) (taken_node taken) (events.Shut number) taken.rest.sent.items
    (record { silent = silent; none = refl; becomes = ap node_value node }) (ap (λ (n : BankedNode B). n.state) node)

-- no event comes any more
pub end_done : {B : Type 0} (log : B → Option Log) (state : NodeState B) (connections : List Connection) (taken : Taken B) → taken.rest.sent.items ≡ []
    → taken_node taken ≡ record { state = state; connections = connections; halted = true }
    → DoesEvent log (node_with state connections) events.End (taken_node taken) taken.rest.sent.items
end_done {B = B} log state connections taken silent node =
    event_quiet log (node_with state connections) (taken_node taken) events.End taken.rest.sent.items
    (record { silent = silent; none = refl; becomes = ap node_value node }) (ap (λ (n : BankedNode B). n.state) node)

-- ---- connections

pub opened_well : (number : ℕ) (ys zs : List Connection) (one : Connection) → one ≡ opened number → zs ≡ connections_with one ys → StaysNumbered one ys zs → IsRidOf number ys → MayGoOn ys → MayGoOn zs
opened_well number ys zs one is put numbered rid well = record {
  good = subst (AllByRecursion IsGood) (sym put) (good_placed one ys (subst IsGood (sym is) (record { reads = refl; role = tt })) well.good);
  numbered = numbered rid.numbered (subst (λ (c : Connection). connection_of c.number ys ≡ None) (sym is) rid.gone);
}

-- the one that was taken out has no number of the others
pub still_apart : (number : ℕ) (xs ys : List Connection) (one : Connection) → connection_of number xs ≡ Some one → IsRidOf number ys → connection_of one.number ys ≡ None
still_apart number xs ys one found rid = subst (λ (n : ℕ). connection_of n ys ≡ None) (sym (number_of_found number xs one found)) rid.gone

pub open_answered : {B : Type 0} (log : B → Option Log) (state : NodeState B) (connections : List Connection) (number : ℕ) (event : Event) → event ≡ events.Opened number
    → (answer : Result (Taken B) (NodeFault × B)) → IfOk answer (λ taken. GreetsOn state connections number taken.rest) → IfOk answer (λ taken. taken.state ≡ state)
    → IfOk answer (λ taken. DoesEvent log (node_with state connections) event (taken_node taken) taken.rest.sent.items)
open_answered log state connections number event is (Ok taken) greets same =
    subst (λ (e : Event). DoesEvent log (node_with state connections) e (taken_node taken) taken.rest.sent.items) (sym is) (open_done log state connections number taken greets same)
open_answered log state connections number event is (Err refused) greets same = tt

pub forget_well : (number : ℕ) (xs ys : List Connection) → ys ≡ without number xs → MayGoOn xs → MayGoOn ys
forget_well number xs ys left well = record {
  good = subst (AllByRecursion IsGood) (sym left) (good_without number xs well.good);
  numbered = subst AreNumbered (sym left) (numbered_without number xs well.numbered);
}

-- a node that hasn't ended, by its fields
pub stops_viewed : {B : Type 0} (log : B → Option Log) (self : BankedNode B) (state : NodeState B) (connections : List Connection) (halted : Bool)
    → self ≡ record { state = state; connections = connections; halted = halted } → self.halted ≡ false → (event : Event) (back : B)
    → LeavesFrontOfDue (IsDueByEvent (node_value (node_with state connections)) event) log (keeper_found (keeper_of state)) (state_banks state) back
    → LeavesFrontOfDue (IsDueByEvent (node_value self) event) log (keeper_found (keeper_of self.state)) (state_banks self.state) back
stops_viewed {B = B} log self state connections halted view going event back stop =
    let same : self ≡ node_with state connections =
    view ∙ (λ i. record { state = state; connections = connections; halted = (sym (ap (λ (n : BankedNode B). n.halted) view) ∙ going) i }) in
    subst (λ (n : BankedNode B). LeavesFrontOfDue (IsDueByEvent (node_value n) event) log (keeper_found (keeper_of n.state)) (state_banks n.state) back) (sym same) stop
