-- Frames of a piece under way, and how they end.
use Rattle.std.proofs.Common.{◌≡◌, ◌⊎◌, ℕ, true, false, List, [], ◌∷◌, ◌++◌, Option, None, Some, refl, sym, ◌∙◌, ap, subst, inl, inr, append-nil, append_assoc}
use Rattle.mld_io.specs.Arm.{Meter}
use Rattle.mld_io.specs.Disk.{Log}
use Rattle.node_model.specs.journal_store.Closing.{StaysTold}
use Rattle.node_model.specs.shell_session.SessionLines.{LeavesFront, LeavesFrontOfDue, Meters}
use Rattle.wire_frames.specs.declared.kinds.Frame.{Frame}
use Rattle.wire_frames.specs.Frames.{FramesValue}
use Rattle.node_model.specs.declared.connections.Connection.{Connection}
use Rattle.node_model.specs.Exchanges.{ExchangeValue, holding}
use Rattle.node_core.specs.NodeStates.{IsOpen, state_banks, keeper_of}
use Rattle.node_core.specs.declared.states.NodeState.{NodeState}
use Rattle.node_model.specs.Keepers.{keeper_found}
use Rattle.node_model.specs.FrameSteps.{FramesStep, no_more}
use Rattle.node_core.specs.NodeEvents.{IsDueByFrame, IsDueNext, IsDueByFrames}
use Rattle.node_core.specs.Nodes.{IsGoodRole}
use Rattle.node_core.specs.Steps.{TakesFrame, TakesFrames, IsHeld, ExchangeGoesOn}
use Rattle.node_model.proofs.of_shell_session.FrontLaws.{moments_then}
use Rattle.node_core.proofs.EventMoments.{no_steps, told_same, told_then}
use Rattle.node_model.proofs.of_shell_session.MeterLaws.{meters_none, meters_then}
use Rattle.node_model.proofs.StepLaws.{frames_lead}
use Rattle.node_core.proofs.FrameLaws.{frames_more, frames_end}
use Rattle.node_core.proofs.HoldLaws.{frame_well}

-- nothing was taken yet
pub takes_none : {B : Type 0} (log : B → Option Log) (state : NodeState B) (exchange : ExchangeValue) → TakesFrames log [] state exchange state exchange
takes_none log state exchange = record {
  steps = [];
  does = no_more (keeper_of state) exchange;
  moments = no_steps (keeper_found (keeper_of state)) (log (state_banks state));
  settled = λ images. images;
}

-- the connection at hand is the one that was taken out
pub holding_same : (between mid : ExchangeValue) (hand : Option Connection) (one : Connection) → hand ≡ between.at_hand → mid ≡ record between { at_hand = None } → hand ≡ Some one
    → holding one mid ≡ between
holding_same between mid hand one taken left is =
    ap (holding one) left ∙ (λ i. record { sent = between.sent; at_hand = (sym is ∙ taken) i; others = between.others; halted = between.halted })

-- none was at hand
pub same_without : (between : ExchangeValue) → between.at_hand ≡ None → record between { at_hand = None } ≡ between
same_without between none = λ i. record { sent = between.sent; at_hand = (sym none) i; others = between.others; halted = between.halted }

-- one frame more is taken
pub takes_more : {B : Type 0} (log : B → Option Log) (old now next : NodeState B) (exchange between after : ExchangeValue) (taken : List Frame) (one : Connection) (frame : Frame)
    → TakesFrames log taken old exchange now between → between.halted ≡ false → between.at_hand ≡ Some one → TakesFrame log one frame now between next after
    → TakesFrames log (taken ++ frame ∷ []) old exchange next after
takes_more log old now next exchange between after taken one frame first goes hand second = record {
  steps = first.steps ++ second.steps;
  does = frames_more (keeper_of old) taken exchange first.steps (keeper_of now) between first.does one frame goes hand second.steps (keeper_of next) after second.does;
  moments = moments_then (keeper_found (keeper_of old)) (keeper_found (keeper_of now)) first.steps second.steps (log (state_banks old)) (log (state_banks now)) (log (state_banks next))
      (frames_lead (keeper_of old) taken exchange first.steps (keeper_of now) between first.does) first.moments first.settled second.moments;
  settled = λ images. second.settled (first.settled images);
}

-- the rest is dropped
pub takes_end : {B : Type 0} (log : B → Option Log) (old now : NodeState B) (exchange between : ExchangeValue) (frames taken rest : List Frame) → frames ≡ taken ++ rest
    → TakesFrames log taken old exchange now between → (between.halted ≡ true) ⊎ (between.at_hand ≡ None) → TakesFrames log frames old exchange now between
takes_end log old now exchange between frames taken rest whole first why = record {
  steps = first.steps;
  does = subst (λ (fs : List Frame). FramesStep (keeper_of old) fs exchange first.steps (keeper_of now) between) (sym whole)
      (frames_end (keeper_of old) taken exchange first.steps (keeper_of now) between first.does why rest);
  moments = first.moments;
  settled = first.settled;
}

-- one frame more was under way
pub stops_next : {B : Type 0} (log : B → Option Log) (old now : NodeState B) (exchange between : ExchangeValue) (frames taken more : List Frame) (one : Connection) (frame : Frame) (back : B)
    → frames ≡ taken ++ frame ∷ more → TakesFrames log taken old exchange now between → between.halted ≡ false → between.at_hand ≡ Some one
    → LeavesFrontOfDue (IsDueByFrame (keeper_of now) one.role frame) log (keeper_found (keeper_of now)) (state_banks now) back
    → LeavesFrontOfDue (IsDueByFrames (keeper_of old) frames exchange) log (keeper_found (keeper_of old)) (state_banks old) back
stops_next log old now exchange between frames taken more one frame back whole first goes hand stop = record {
  steps = first.steps ++ stop.steps;
  due = inr (record {
    taken = taken;
    rest = frame ∷ more;
    whole = whole;
    done = first.steps;
    middle = keeper_of now;
    between = between;
    does = first.does;
    due = stop.steps;
    is_due = due_next stop.due;
    all = refl;
  });
  moments = moments_then (keeper_found (keeper_of old)) (keeper_found (keeper_of now)) first.steps stop.steps (log (state_banks old)) (log (state_banks now)) (log back)
      (frames_lead (keeper_of old) taken exchange first.steps (keeper_of now) between first.does) first.moments first.settled stop.moments;
}
  where
    due_next : (stop.steps ≡ []) ⊎ IsDueByFrame (keeper_of now) one.role frame stop.steps → (stop.steps ≡ []) ⊎ IsDueNext (keeper_of now) between (frame ∷ more) stop.steps
    due_next (inl none) = inl none
    due_next (inr due) = inr (record { goes_on = goes; hand = one; at_hand = hand; frame = frame; more = more; first = refl; is_due = due })

-- all frames were taken, and no more is done
pub stops_behind : {B : Type 0} (log : B → Option Log) (old now : NodeState B) (exchange between : ExchangeValue) (frames : List Frame) (back : B)
    → TakesFrames log frames old exchange now between → back ≡ state_banks now
    → LeavesFrontOfDue (IsDueByFrames (keeper_of old) frames exchange) log (keeper_found (keeper_of old)) (state_banks old) back
stops_behind {B = B} log old now exchange between frames back first same = record {
  steps = first.steps;
  due = inr (record {
    taken = frames;
    rest = [];
    whole = sym (append-nil frames);
    done = first.steps;
    middle = keeper_of now;
    between = between;
    does = first.does;
    due = [];
    is_due = inl refl;
    all = sym (append-nil first.steps);
  });
  moments = subst (λ (b : B). LeavesFront (keeper_found (keeper_of old)) first.steps (log (state_banks old)) (log b)) (sym same) first.moments;
}

-- ---- frames under way

-- some of the frames were taken, and these are left
pub record IsUnderWay {B : Type 0} (log : B → Option Log) (meter : B → Meter) (old : NodeState B) (frames : List Frame) (exchange : ExchangeValue) (now : NodeState B) (between : ExchangeValue) (left : List Frame) : Type 0 where
  pub taken : List Frame
  pub whole : frames ≡ taken ++ left
  pub done : TakesFrames log taken old exchange now between
  pub opened : IsOpen now
  pub well : (number : ℕ) × (reader : FramesValue) × ExchangeGoesOn number reader between
  pub told : StaysTold (log (state_banks old)) (log (state_banks now))
  pub meters : Meters (meter (state_banks old)) (meter (state_banks now)) ⊥

module _ {B : Type 0} (log : B → Option Log) (meter : B → Meter) (old : NodeState B) (frames : List Frame) (exchange : ExchangeValue) where
  pub way_first : (left : List Frame) → left ≡ frames → IsOpen old → (number : ℕ) × (reader : FramesValue) × ExchangeGoesOn number reader exchange
      → IsUnderWay log meter old frames exchange old exchange left
  way_first left same opened well = record {
    taken = [];
    whole = sym same;
    done = takes_none log old exchange;
    opened = opened;
    well = well;
    told = told_same (log (state_banks old));
    meters = meters_none (meter (state_banks old)) (meter (state_banks old)) refl (λ h. h);
  }

  -- one more was taken
  pub way_more : (now next : NodeState B) (between mid after : ExchangeValue) (left rest : List Frame) (hand : Option Connection) (one : Connection) (frame : Frame)
      → IsUnderWay log meter old frames exchange now between left → left ≡ frame ∷ rest → between.halted ≡ false
      → hand ≡ between.at_hand → mid ≡ record between { at_hand = None } → hand ≡ Some one → TakesFrame log one frame now (holding one mid) next after
      → IsOpen next → StaysTold (log (state_banks now)) (log (state_banks next)) → Meters (meter (state_banks now)) (meter (state_banks next)) ⊥
      → IsUnderWay log meter old frames exchange next after rest
  way_more now next between mid after left rest hand one frame way first goes out gone is does opened told meters =
      let back : holding one mid ≡ between = holding_same between mid hand one out gone is in
      let act : TakesFrame log one frame now between next after = subst (λ (e : ExchangeValue). TakesFrame log one frame now e next after) back does in
      let held : between.at_hand ≡ Some one = sym out ∙ is in
      record {
        taken = way.taken ++ frame ∷ [];
        whole = way.whole ∙ ap (λ (fs : List Frame). way.taken ++ fs) first ∙ sym (append_assoc way.taken (frame ∷ []) rest);
        done = takes_more log old now next exchange between after way.taken one frame way.done goes held act;
        opened = opened;
        well = (
          way.well.0,
          way.well.1,
          frame_well way.well.0 way.well.1 (keeper_of now) one frame between act.steps (keeper_of next) after act.does held way.well.2,
        );
        told = told_then (log (state_banks old)) (log (state_banks now)) (log (state_banks next)) way.told told;
        meters = meters_then (meter (state_banks old)) (meter (state_banks now)) (meter (state_banks next)) (λ h. h) way.meters meters;
      }

  -- the rest is dropped
  pub way_drops : (now : NodeState B) (between after : ExchangeValue) (left : List Frame) → IsUnderWay log meter old frames exchange now between left → after ≡ between
      → (between.halted ≡ true) ⊎ (between.at_hand ≡ None) → TakesFrames log frames old exchange now after
  way_drops now between after left way same why =
      subst (λ (e : ExchangeValue). TakesFrames log frames old exchange now e) (sym same) (takes_end log old now exchange between frames way.taken left way.whole way.done why)

  -- none is left
  pub way_ends : (now : NodeState B) (between : ExchangeValue) (left : List Frame) → IsUnderWay log meter old frames exchange now between left → left ≡ []
      → TakesFrames log frames old exchange now between
  way_ends now between left way none =
      let all : frames ≡ way.taken = way.whole ∙ ap (λ (fs : List Frame). way.taken ++ fs) none ∙ append-nil way.taken in
      subst (λ (fs : List Frame). TakesFrames log fs old exchange now between) (sym all) way.done

  -- one more was under way
  pub way_stops : (now : NodeState B) (between : ExchangeValue) (left rest : List Frame) (hand : Option Connection) (one : Connection) (frame : Frame) (back : B)
      → IsUnderWay log meter old frames exchange now between left → left ≡ frame ∷ rest → between.halted ≡ false → hand ≡ between.at_hand → hand ≡ Some one
      → LeavesFrontOfDue (IsDueByFrame (keeper_of now) one.role frame) log (keeper_found (keeper_of now)) (state_banks now) back
      → LeavesFrontOfDue (IsDueByFrames (keeper_of old) frames exchange) log (keeper_found (keeper_of old)) (state_banks old) back
  way_stops now between left rest hand one frame back way first goes out is stop =
      stops_next log old now exchange between frames way.taken rest one frame back (way.whole ∙ ap (λ (fs : List Frame). way.taken ++ fs) first) way.done goes (sym out ∙ is) stop

  pub way_tells : (now : NodeState B) (between : ExchangeValue) (left : List Frame) (back : B) → IsUnderWay log meter old frames exchange now between left
      → StaysTold (log (state_banks now)) (log back) → StaysTold (log (state_banks old)) (log back)
  way_tells now between left back way told = told_then (log (state_banks old)) (log (state_banks now)) (log back) way.told told

  pub way_counts : {Told : Type 0} (now : NodeState B) (between : ExchangeValue) (left : List Frame) (back : B) → IsUnderWay log meter old frames exchange now between left
      → Meters (meter (state_banks now)) (meter back) Told → Meters (meter (state_banks old)) (meter back) Told
  way_counts now between left back way meters = meters_then (meter (state_banks old)) (meter (state_banks now)) (meter back) (λ h. h) way.meters meters

  -- the connection that was taken out may take a frame
  pub way_good : (now : NodeState B) (between : ExchangeValue) (left : List Frame) (hand : Option Connection) (one : Connection) → IsUnderWay log meter old frames exchange now between left
      → hand ≡ between.at_hand → hand ≡ Some one → IsGoodRole one.role
  way_good now between left hand one way out is =
      (subst (λ (h : Option Connection). IsHeld way.well.0 way.well.1 h) (sym out ∙ is) way.well.2.held).1.1
