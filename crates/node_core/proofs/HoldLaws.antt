-- Connections go on while frames are taken: the numbers ascend, and what was good stays so.
use Rattle.std.proofs.Common.{◌≡◌, ℕ, ◌<◌, ◌==◌, if◌then◌else◌, Bool, true, false, List, [], ◌∷◌, ◌++◌, Option, None, Some, Result, Ok, Err, map, refl, sym, ◌∙◌, ap, subst, inl, inr, arith}
use Rattle.std.specs.List.{AllByRecursion}
use Rattle.std.proofs.lemmas.Bool.Decides.{eqb_tells}
use Rattle.mld_ops.specs.Messages.{MessageValue, CarriesWant, message_value}
use Rattle.mld_ops.specs.declared.messages.Message.{Message}
use Rattle.node_model.specs.clone_parts.declared.answers.Got.{Got}
use Rattle.node_model.specs.clone_parts.declared.answers.Got.TheVariants as got
use Rattle.node_model.specs.clone_parts.declared.faults.ReceiveFault.{ReceiveFault}
use Rattle.node_model.specs.clone_parts.declared.faults.ReceiveFault.TheVariants as fault
use Rattle.node_model.specs.clone_parts.KeptSteps.{KeptStep}
use Rattle.wire_frames.specs.declared.kinds.Frame.{Frame}
use Rattle.wire_frames.specs.declared.kinds.Frame.TheVariants as kinds
use Rattle.wire_frames.specs.Frames.{FramesValue, frames_bytes}
use Rattle.wire_frames.specs.MessageParts.{AssemblyValue, is_too_long, next_number, reply_parts}
use Rattle.node_model.specs.declared.connections.Connection.{Connection}
use Rattle.node_model.specs.declared.connections.Role.{Role}
use Rattle.node_model.specs.declared.connections.Role.TheVariants as role
use Rattle.node_model.specs.Connections.{AreNumbered, connection_of, without, connections_with, as_client, as_peer, is_peer}
use Rattle.node_model.specs.Exchanges.{ExchangeValue, saying, refusing_at, refusing, telling_at, telling, telling_each, telling_peers, telling_peers_each, after_sending, left_of_peers, connections_left, holding, halting}
use Rattle.node_model.specs.RefusalCodes.{bad_frame_code, deep_leaf_code, foreign_tick_code, misplaced_code, other_domain_code, other_format_code, own_id_code}
use Rattle.node_model.specs.declared.requests.Request.{Request}
use Rattle.node_model.specs.declared.requests.Request.TheVariants as requests
use Rattle.node_model.specs.Keepers.{Keeper, Lives, Asks, carried, question_of}
use Rattle.node_model.specs.Requests.{AnswersRequest, TakesRequest}
use Rattle.node_model.specs.NodeMessages.{Receives, joins, ignores, sending_for}
use Rattle.node_model.specs.FrameSteps.{Greets, of_other_format, of_other_domain, of_own_id, of_peer, ReceivesPart, waits, is_whole, is_bad, with_parts, IsOutOfPlace, FrameStepAs, FrameStep, FramesStep, no_more, are_dropped, and_then}
use Rattle.node_core.specs.Nodes.{IsGood}
use Rattle.node_core.specs.Steps.{IsHeld, ExchangeGoesOn}

-- ---- lists of connections

all_weaker : (P Q : Connection → Type 0) → ((one : Connection) → P one → Q one) → (xs : List Connection) → AllByRecursion P xs → AllByRecursion Q xs
all_weaker P Q weaker [] all = tt
all_weaker P Q weaker (one ∷ more) all = (weaker one all.0, all_weaker P Q weaker more all.1)

-- one of two, by a test
either_way : (P : List Connection → Type 0) (b : Bool) (xs ys : List Connection) → P xs → P ys → P (if b then xs else ys)
either_way P true xs ys p q = p
either_way P false xs ys p q = q

maybe_listed : (P : Connection → Type 0) (b : Bool) (one : Connection) (more : List Connection) → P one → AllByRecursion P more
    → AllByRecursion P (connections_left (if b then None else Some one) ++ more)
maybe_listed P true one more p all = all
maybe_listed P false one more p all = (p, all)

-- what holds of each connection, whatever was sent to it, holds of those that are left once peers were told
all_left : (P : Connection → Type 0) → ((one : Connection) (n : ℕ) → P one → P (record one { sends = n })) → (message : MessageValue) (xs : List Connection)
    → AllByRecursion P xs → AllByRecursion P (left_of_peers message xs)
all_left P kept message [] all = tt
all_left P kept message (one ∷ more) all =
    let rest : AllByRecursion P (left_of_peers message more) = all_left P kept message more all.1 in
    either_way (AllByRecursion P) (is_peer one.role) (connections_left (after_sending message one) ++ left_of_peers message more) (one ∷ left_of_peers message more)
    (maybe_listed P (is_too_long message) (record one { sends = next_number one.sends }) (left_of_peers message more) (kept one (next_number one.sends) all.0) rest)
    (all.0, rest)

all_without : (P : Connection → Type 0) (number : ℕ) (xs : List Connection) → AllByRecursion P xs → AllByRecursion P (without number xs)
all_without P number [] all = tt
all_without P number (one ∷ more) all =
    either_way (AllByRecursion P) (one.number == number) more (one ∷ without number more) all.1 (all.0, all_without P number more all.1)

-- ---- ascending numbers

abbrev IsBelow : ℕ → List Connection → Type 0
IsBelow number xs = AllByRecursion (λ one. number < one.number) xs

abbrev Ascend : List Connection → Type 0
Ascend [] = Unit {0}
Ascend (one ∷ more) = IsBelow one.number more × Ascend more

below_later : (low high : ℕ) → low < high → (xs : List Connection) → IsBelow high xs → IsBelow low xs
below_later low high less xs below = all_weaker (λ one. high < one.number) (λ one. low < one.number) (λ one h. omega (arith, less, h)) xs below

ascend_in : (xs : List Connection) → AreNumbered xs → Ascend xs
ascend_in [] are = tt
ascend_in (one ∷ []) are = (tt, tt)
ascend_in (one ∷ next ∷ more) are =
    let rest : Ascend (next ∷ more) = ascend_in (next ∷ more) are.1 in ((are.0, below_later one.number next.number are.0 more rest.0), rest)

ascend_out : (xs : List Connection) → Ascend xs → AreNumbered xs
ascend_out [] are = tt
ascend_out (one ∷ []) are = tt
ascend_out (one ∷ next ∷ more) are = (are.0.0, ascend_out (next ∷ more) are.1)

maybe_ascend : (b : Bool) (one : Connection) (more : List Connection) → IsBelow one.number more → Ascend more → Ascend (connections_left (if b then None else Some one) ++ more)
maybe_ascend true one more below rest = rest
maybe_ascend false one more below rest = (below, rest)

ascend_left : (message : MessageValue) (xs : List Connection) → Ascend xs → Ascend (left_of_peers message xs)
ascend_left message [] are = tt
ascend_left message (one ∷ more) are =
    let rest : Ascend (left_of_peers message more) = ascend_left message more are.1 in
    let below : IsBelow one.number (left_of_peers message more) =
    all_left (λ other. one.number < other.number) (λ other n h. h) message more are.0 in
    either_way Ascend (is_peer one.role) (connections_left (after_sending message one) ++ left_of_peers message more) (one ∷ left_of_peers message more)
    (maybe_ascend (is_too_long message) (record one { sends = next_number one.sends }) (left_of_peers message more) below rest)
    (below, rest)

-- ---- a number that stands nowhere

abbrev IsApart : ℕ → List Connection → Type 0
IsApart number xs = AllByRecursion (λ one. ¬ (one.number ≡ number)) xs

apart_out : (number : ℕ) (xs : List Connection) → IsApart number xs → connection_of number xs ≡ None
apart_out number [] all = refl
apart_out number (one ∷ more) all = elim (eqb_tells one.number number) [
  | inl t ↦ absurd (all.0 t.1)
  | inr t ↦ rw t.0 (apart_out number more all.1)
]

some_none : (one : Connection) → ¬ (◌≡◌ {A = Option Connection} (Some one) None)
some_none one h = cc

apart_in : (number : ℕ) (xs : List Connection) → connection_of number xs ≡ None → IsApart number xs
apart_in number [] none = tt
apart_in number (one ∷ more) none = elim (eqb_tells one.number number) [
  | inl t ↦ absurd (some_none one (rw t.0 at none))
  | inr t ↦ (t.1, apart_in number more (rw t.0 at none))
]

-- the one of this number has it
pub number_of_found : (number : ℕ) (xs : List Connection) (one : Connection) → connection_of number xs ≡ Some one → one.number ≡ number
number_of_found number [] one found = absurd (some_none one (sym found))
number_of_found number (first ∷ more) one found = elim (eqb_tells first.number number) [
  | inl t ↦ sym (ap (λ (c : Connection). c.number) (some_same first one (rw t.0 at found))) ∙ t.1
  | inr t ↦ number_of_found number more one (rw t.0 at found)
]
  where
    some_same : (a b : Connection) → ◌≡◌ {A = Option Connection} (Some a) (Some b) → a ≡ b
    some_same a b h = cc

-- where none has this number, all stay
pub without_none : (number : ℕ) (xs : List Connection) → connection_of number xs ≡ None → without number xs ≡ xs
without_none number [] none = refl
without_none number (one ∷ more) none = elim (eqb_tells one.number number) [
  | inl t ↦ absurd (some_none one (rw t.0 at none))
  | inr t ↦ rw t.0 (ap (λ (l : List Connection). one ∷ l) (without_none number more (rw t.0 at none)))
]

ascend_without : (number : ℕ) (xs : List Connection) → Ascend xs → Ascend (without number xs)
ascend_without number [] are = tt
ascend_without number (one ∷ more) are =
    either_way Ascend (one.number == number) more (one ∷ without number more) are.1
    (all_without (λ other. one.number < other.number) number more are.0, ascend_without number more are.1)

pub numbered_without : (number : ℕ) (xs : List Connection) → AreNumbered xs → AreNumbered (without number xs)
numbered_without number xs are = ascend_out (without number xs) (ascend_without number xs (ascend_in xs are))

pub good_without : (number : ℕ) (xs : List Connection) → AllByRecursion IsGood xs → AllByRecursion IsGood (without number xs)
good_without number xs all = all_without IsGood number xs all

pub good_found : (number : ℕ) (xs : List Connection) (one : Connection) → AllByRecursion IsGood xs → connection_of number xs ≡ Some one → IsGood one
good_found number [] one all found = absurd (some_none one (sym found))
good_found number (first ∷ more) one all found = elim (eqb_tells first.number number) [
  | inl t ↦ subst IsGood (some_same first one (rw t.0 at found)) all.0
  | inr t ↦ good_found number more one all.1 (rw t.0 at found)
]
  where
    some_same : (a b : Connection) → ◌≡◌ {A = Option Connection} (Some a) (Some b) → a ≡ b
    some_same a b h = cc

pub good_placed : (one : Connection) (xs : List Connection) → IsGood one → AllByRecursion IsGood xs → AllByRecursion IsGood (connections_with one xs)
good_placed one [] good all = (good, tt)
good_placed one (next ∷ more) good all =
    either_way (AllByRecursion IsGood) _ (next ∷ connections_with one more) (one ∷ next ∷ more) (all.0, good_placed one more good all.1) (good, all)

-- ---- an exchange

module _ (number : ℕ) (reader : FramesValue) where
  pub holding_well : (exchange : ExchangeValue) (one : Connection) → IsHeld number reader (Some one) → ExchangeGoesOn number reader exchange
      → ExchangeGoesOn number reader (holding one exchange)
  holding_well exchange one held well = record { held = held; good = well.good; numbered = well.numbered; apart = well.apart }

  refusing_at_well : (code : ℕ) (hand : Option Connection) (exchange : ExchangeValue) → ExchangeGoesOn number reader exchange
      → ExchangeGoesOn number reader (refusing_at code hand exchange)
  refusing_at_well code None exchange well = well
  refusing_at_well code (Some one) exchange well = record { held = tt; good = well.good; numbered = well.numbered; apart = well.apart }

  pub refusing_well : (code : ℕ) (exchange : ExchangeValue) → ExchangeGoesOn number reader exchange → ExchangeGoesOn number reader (refusing code exchange)
  refusing_well code exchange well = refusing_at_well code exchange.at_hand exchange well

  sent_held : (b : Bool) (one : Connection) (n : ℕ) → IsHeld number reader (Some one) → IsHeld number reader (if b then None else Some (record one { sends = n }))
  sent_held true one n held = tt
  sent_held false one n held = held

  telling_at_well : (message : MessageValue) (hand : Option Connection) (exchange : ExchangeValue) → IsHeld number reader hand → ExchangeGoesOn number reader exchange
      → ExchangeGoesOn number reader (telling_at message hand exchange)
  telling_at_well message None exchange held well = well
  telling_at_well message (Some one) exchange held well = record {
    held = sent_held (is_too_long message) one (next_number one.sends) held;
    good = well.good;
    numbered = well.numbered;
    apart = well.apart;
  }

  pub telling_well : (message : MessageValue) (exchange : ExchangeValue) → ExchangeGoesOn number reader exchange → ExchangeGoesOn number reader (telling message exchange)
  telling_well message exchange well = telling_at_well message exchange.at_hand exchange well.held well

  telling_each_well : (messages : List MessageValue) (exchange : ExchangeValue) → ExchangeGoesOn number reader exchange → ExchangeGoesOn number reader (telling_each messages exchange)
  telling_each_well [] exchange well = well
  telling_each_well (message ∷ messages) exchange well = telling_each_well messages (telling message exchange) (telling_well message exchange well)

  telling_peers_well : (message : MessageValue) (exchange : ExchangeValue) → ExchangeGoesOn number reader exchange → ExchangeGoesOn number reader (telling_peers message exchange)
  telling_peers_well message exchange well = record {
    held = well.held;
    good = all_left IsGood (λ one n good. record { reads = good.reads; role = good.role }) message exchange.others well.good;
    numbered = ascend_out (left_of_peers message exchange.others) (ascend_left message exchange.others (ascend_in exchange.others well.numbered));
    apart = apart_out number (left_of_peers message exchange.others)
        (all_left (λ one. ¬ (one.number ≡ number)) (λ one n apart. apart) message exchange.others (apart_in number exchange.others well.apart));
  }

  telling_peers_each_well : (messages : List MessageValue) (exchange : ExchangeValue) → ExchangeGoesOn number reader exchange
      → ExchangeGoesOn number reader (telling_peers_each messages exchange)
  telling_peers_each_well [] exchange well = well
  telling_peers_each_well (message ∷ messages) exchange well =
      telling_peers_each_well messages (telling_peers message exchange) (telling_peers_well message exchange well)

  saying_well : (conn : ℕ) (bytes : List ℕ) (exchange : ExchangeValue) → ExchangeGoesOn number reader exchange → ExchangeGoesOn number reader (saying conn bytes exchange)
  saying_well conn bytes exchange well = record { held = well.held; good = well.good; numbered = well.numbered; apart = well.apart }

  halting_well : (exchange : ExchangeValue) → ExchangeGoesOn number reader exchange → ExchangeGoesOn number reader (halting exchange)
  halting_well exchange well = record { held = well.held; good = well.good; numbered = well.numbered; apart = well.apart }

  becomes_well : (after other : ExchangeValue) → after ≡ other → ExchangeGoesOn number reader other → ExchangeGoesOn number reader after
  becomes_well after other same well = subst (λ (e : ExchangeValue). ExchangeGoesOn number reader e) (sym same) well

  -- ---- frames

  answer_well : (keeper : Keeper) (request : Request) (exchange : ExchangeValue) (text : List ℕ) (steps : List KeptStep) (next : Keeper) (after : ExchangeValue)
      → AnswersRequest keeper request exchange text steps next after → ExchangeGoesOn number reader exchange → ExchangeGoesOn number reader after
  answer_well keeper requests.Halt exchange text steps next after does well = becomes_well after (halting exchange) does.1 (halting_well exchange well)
  answer_well keeper requests.Bad exchange text steps next after does well = becomes_well after exchange does.1 well
  answer_well (Asks asker) requests.Ask exchange text steps next after does well = becomes_well after exchange does.1 well
  answer_well (Asks asker) (requests.Command command) exchange text steps next after does well = becomes_well after exchange does.1 well
  answer_well (Lives generation clone) requests.Ask exchange text steps next after does well =
      becomes_well after (telling_peers (CarriesWant clone.ticks) exchange) does.1 (telling_peers_well (CarriesWant clone.ticks) exchange well)
  answer_well (Lives generation clone) (requests.Command command) exchange text steps next after does well =
      becomes_well after (telling_peers_each (carried steps) exchange) does.tells (telling_peers_each_well (carried steps) exchange well)

  request_well : (keeper : Keeper) (one : Connection) (line : List ℕ) (exchange : ExchangeValue) (steps : List KeptStep) (next : Keeper) (after : ExchangeValue)
      → TakesRequest keeper one line exchange steps next after → IsHeld number reader (Some one) → ExchangeGoesOn number reader exchange → ExchangeGoesOn number reader after
  request_well keeper one line exchange steps next after does held well =
      let begun : ExchangeGoesOn number reader (holding (as_client one) exchange) = holding_well exchange (as_client one) (held.0, (held.1.0, tt)) well in
      becomes_well after (saying one.number (frames_bytes (reply_parts does.text)) does.middle) does.replies
      (saying_well one.number (frames_bytes (reply_parts does.text)) does.middle
      (answer_well keeper does.request (holding (as_client one) exchange) does.text steps next does.middle does.answers begun))

  sending_well : (result : Result Got ReceiveFault) (steps : List KeptStep) (ticks : List (List ℕ × ℕ)) (exchange : ExchangeValue) → ExchangeGoesOn number reader exchange
      → ExchangeGoesOn number reader (sending_for result steps ticks exchange)
  sending_well (Ok (got.Took ranges)) steps ticks exchange well = telling_peers_each_well (carried steps) exchange well
  sending_well (Ok (got.Merged ranges)) steps ticks exchange well = telling_peers_each_well (carried steps) exchange well
  sending_well (Ok got.Held) steps ticks exchange well = telling_well (CarriesWant ticks) exchange well
  sending_well (Ok (got.Answer messages)) steps ticks exchange well = telling_each_well (map message_value messages) exchange well
  sending_well (Ok got.Known) steps ticks exchange well = well
  sending_well (Ok got.Nothing) steps ticks exchange well = well
  sending_well (Ok got.Ignored) steps ticks exchange well = well
  sending_well (Err fault.HeldFull) steps ticks exchange well = telling_well (CarriesWant ticks) exchange well
  sending_well (Err (fault.ForeignTick said own)) steps ticks exchange well = refusing_well foreign_tick_code exchange well
  sending_well (Err fault.Deep) steps ticks exchange well = refusing_well deep_leaf_code exchange well
  sending_well (Err fault.GenerationsSpent) steps ticks exchange well = well
  sending_well (Err (fault.Closed why)) steps ticks exchange well = well
  sending_well (Err fault.Device) steps ticks exchange well = well
  sending_well (Err fault.NoMemory) steps ticks exchange well = well

  receives_well : (keeper : Keeper) (message : Message) (exchange : ExchangeValue) (steps : List KeptStep) (next : Keeper) (after : ExchangeValue)
      → Receives keeper message exchange steps next after → ExchangeGoesOn number reader exchange → ExchangeGoesOn number reader after
  receives_well (Lives generation clone) message exchange steps next after does well =
      becomes_well after (sending_for does.result steps does.new.ticks exchange) does.sends (sending_well does.result steps does.new.ticks exchange well)
  receives_well (Asks asker) message exchange steps next after (joins give is) well = telling_well _ exchange well
  receives_well (Asks asker) message exchange steps next after (ignores none) well = well

  greets_well : (keeper : Keeper) (one : Connection) (format : ℕ) (id domain : List ℕ) (exchange after : ExchangeValue)
      → Greets keeper one format id domain exchange after → IsHeld number reader (Some one) → ExchangeGoesOn number reader exchange → ExchangeGoesOn number reader after
  greets_well keeper one format id domain exchange after (of_other_format other) held well = refusing_well other_format_code (holding one exchange) (holding_well exchange one held well)
  greets_well keeper one format id domain exchange after (of_other_domain same other) held well = refusing_well other_domain_code (holding one exchange) (holding_well exchange one held well)
  greets_well keeper one format id domain exchange after (of_own_id same also own) held well = refusing_well own_id_code (holding one exchange) (holding_well exchange one held well)
  greets_well keeper one format id domain exchange after (of_peer same also other) held well =
      telling_well (question_of keeper) (holding (as_peer one) exchange) (holding_well exchange (as_peer one) (held.0, (held.1.0, refl)) well)

  part_well : (keeper : Keeper) (one : Connection) (assembly : AssemblyValue) (message index count : ℕ) (piece : List ℕ) (exchange : ExchangeValue) (steps : List KeptStep) (next : Keeper) (after : ExchangeValue)
      → ReceivesPart keeper one assembly message index count piece exchange steps next after → IsHeld number reader (Some one) → ExchangeGoesOn number reader exchange
      → ExchangeGoesOn number reader after
  part_well keeper one assembly message index count piece exchange steps next after (waits missing put adds) held well =
      holding_well exchange (with_parts put one) (held.0, (held.1.0, ap (λ (a : AssemblyValue). a.good) adds.new_is)) well
  part_well keeper one assembly message index count piece exchange steps next after (is_whole whole put adds made end last receives) held well =
      receives_well keeper whole (holding (with_parts put one) exchange) made end last receives
      (holding_well exchange (with_parts put one) (held.0, (held.1.0, ap (λ (a : AssemblyValue). a.good) adds.new_is)) well)
  part_well keeper one assembly message index count piece exchange steps next after (is_bad put adds) held well =
      refusing_well bad_frame_code (holding one exchange) (holding_well exchange one held well)

  misplaced_well : (keeper : Keeper) (one : Connection) (exchange : ExchangeValue) (steps : List KeptStep) (next : Keeper) (after : ExchangeValue)
      → IsOutOfPlace keeper one exchange steps next after → IsHeld number reader (Some one) → ExchangeGoesOn number reader exchange → ExchangeGoesOn number reader after
  misplaced_well keeper one exchange steps next after does held well =
      becomes_well after (refusing misplaced_code (holding one exchange)) does.refused (refusing_well misplaced_code (holding one exchange) (holding_well exchange one held well))

  frame_as_well : (kind : Role) (frame : Frame) (keeper : Keeper) (one : Connection) (exchange : ExchangeValue) (steps : List KeptStep) (next : Keeper) (after : ExchangeValue)
      → FrameStepAs kind frame keeper one exchange steps next after → IsHeld number reader (Some one) → ExchangeGoesOn number reader exchange → ExchangeGoesOn number reader after
  frame_as_well role.Fresh (kinds.Hello format id domain) keeper one exchange steps next after does held well =
      greets_well keeper one format id domain exchange after does.1 held well
  frame_as_well role.Fresh (kinds.Request line) keeper one exchange steps next after does held well = request_well keeper one line exchange steps next after does held well
  frame_as_well role.Client (kinds.Request line) keeper one exchange steps next after does held well = request_well keeper one line exchange steps next after does held well
  frame_as_well (role.Peer assembly) (kinds.Part message index count piece) keeper one exchange steps next after does held well =
      part_well keeper one assembly message index count piece exchange steps next after does held well
  frame_as_well role.Fresh (kinds.Part message index count piece) keeper one exchange steps next after does held well = misplaced_well keeper one exchange steps next after does held well
  frame_as_well role.Fresh (kinds.Reply piece more) keeper one exchange steps next after does held well = misplaced_well keeper one exchange steps next after does held well
  frame_as_well role.Fresh (kinds.Refuse code) keeper one exchange steps next after does held well = misplaced_well keeper one exchange steps next after does held well
  frame_as_well role.Client (kinds.Hello format id domain) keeper one exchange steps next after does held well = misplaced_well keeper one exchange steps next after does held well
  frame_as_well role.Client (kinds.Part message index count piece) keeper one exchange steps next after does held well = misplaced_well keeper one exchange steps next after does held well
  frame_as_well role.Client (kinds.Reply piece more) keeper one exchange steps next after does held well = misplaced_well keeper one exchange steps next after does held well
  frame_as_well role.Client (kinds.Refuse code) keeper one exchange steps next after does held well = misplaced_well keeper one exchange steps next after does held well
  frame_as_well (role.Peer assembly) (kinds.Hello format id domain) keeper one exchange steps next after does held well = misplaced_well keeper one exchange steps next after does held well
  frame_as_well (role.Peer assembly) (kinds.Request line) keeper one exchange steps next after does held well = misplaced_well keeper one exchange steps next after does held well
  frame_as_well (role.Peer assembly) (kinds.Reply piece more) keeper one exchange steps next after does held well = misplaced_well keeper one exchange steps next after does held well
  frame_as_well (role.Peer assembly) (kinds.Refuse code) keeper one exchange steps next after does held well = misplaced_well keeper one exchange steps next after does held well

  -- what goes on stays so while frames are taken
  pub frame_well : (keeper : Keeper) (one : Connection) (frame : Frame) (exchange : ExchangeValue) (steps : List KeptStep) (next : Keeper) (after : ExchangeValue)
      → FrameStep keeper one frame exchange steps next after → exchange.at_hand ≡ Some one → ExchangeGoesOn number reader exchange → ExchangeGoesOn number reader after
  frame_well keeper one frame exchange steps next after does hand well =
      frame_as_well one.role frame keeper one exchange steps next after does (subst (λ (h : Option Connection). IsHeld number reader h) hand well.held) well

  pub frames_well : (keeper : Keeper) (frames : List Frame) (exchange : ExchangeValue) (steps : List KeptStep) (next : Keeper) (after : ExchangeValue)
      → FramesStep keeper frames exchange steps next after → ExchangeGoesOn number reader exchange → ExchangeGoesOn number reader after
  frames_well keeper frames exchange steps next after (no_more k e) well = well
  frames_well keeper frames exchange steps next after (are_dropped k fs e why) well = well
  frames_well keeper frames exchange steps next after (and_then k c f fs e goes hand first middle between does rest end last later) well =
      frames_well middle fs between rest end last later (frame_well k c f e first middle between does hand well)
