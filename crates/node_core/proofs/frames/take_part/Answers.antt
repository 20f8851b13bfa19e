use Rattle.std.proofs.Common.{refl}
use Rattle.node_model.specs.Exchanges.{holding, refusing}
use Rattle.node_core.specs.NodeStates.{state_banks, keeper_of}
use Rattle.wire_frames.specs.declared.kinds.Frame.TheVariants as kinds
use Rattle.node_model.specs.RefusalCodes.{bad_frame_code, misplaced_code}
use Rattle.node_model.specs.Keepers.{keeper_found}
use Rattle.node_core.specs.NodeEvents.{IsDueByFrame}
use Rattle.node_core.proofs.KindLaws.{keeps_all, quiet_done, part_none, part_waits, part_is_bad, message_answered, message_refused}
use Rattle.node_core.proofs.QuietLaws.{quiet_stops, quiet_told, stops_none}
use Rattle.node_core.proofs.frames.take_part.Goals as goal

pub returns-in-None-clause-done : goal.returns-in-None-clause-done
returns-in-None-clause-done g c =
    quiet_done g.B.Banks.log c.args.state c.args.one (kinds.Part c.args.number c.args.index c.args.count c.args.piece) (holding c.args.one c.args.exchange.now) c.refuse.new.exchange (refusing misplaced_code c.hold.new.self) c.refuse.result c.refuse.ensures.sent c.refuse.ensures.same
    (λ sent. part_none (keeper_of c.args.state) c.args.one c.add_part-added.new.one c.args.number c.args.index c.args.count c.args.piece (holding c.args.one c.args.exchange.now) c.hold.new.self c.hold.ensures c.refuse.new.exchange c.in-None.ensures sent)

pub returns-in-Some-Ok-Waiting-clause-done : goal.returns-in-Some-Ok-Waiting-clause-done
returns-in-Some-Ok-Waiting-clause-done g c =
    keeps_all g.B.Banks.log c.args.one (kinds.Part c.args.number c.args.index c.args.count c.args.piece) c.args.state c.args.state (holding c.args.one c.args.exchange.now) c.hold.new.self refl
    (part_waits (keeper_of c.args.state) c.args.one c.add_part-added.new.one c.args.number c.args.index c.args.count c.args.piece (holding c.args.one c.args.exchange.now) c.hold.new.self c.hold.ensures c.in-Some-Ok-Waiting.field-0 c.in-Some-Ok-Waiting.field-0-0 c.in-Some-Ok-Waiting.field-0-0-0
    c.in-Some-Ok-Waiting.field-0-is c.in-Some-Ok-Waiting.field-0-0-is c.in-Some-Ok-Waiting.ensures)

pub returns-in-Some-Ok-Whole-clause-done : goal.returns-in-Some-Ok-Whole-clause-done
returns-in-Some-Ok-Whole-clause-done g c =
    message_answered g.B.Banks.log c.args.state c.args.one c.add_part-added.new.one c.args.number c.args.index c.args.count c.args.piece c.args.exchange.now c.hold.new.self c.hold.ensures c.in-Some-Ok-Whole.field-0 c.in-Some-Ok-Whole.field-0-0 c.in-Some-Ok-Whole.message
    c.in-Some-Ok-Whole.field-0-is c.in-Some-Ok-Whole.field-0-0-is c.in-Some-Ok-Whole.ensures c.receive_message.new.exchange c.receive_message.result c.receive_message.ensures.done

pub returns-in-Some-Ok-Whole-clause-stopped : goal.returns-in-Some-Ok-Whole-clause-stopped
returns-in-Some-Ok-Whole-clause-stopped g c =
    message_refused g.B.Banks.log c.args.state c.args.one c.add_part-added.new.one c.args.number c.args.index c.args.count c.args.piece c.args.exchange.now c.hold.new.self c.hold.ensures c.in-Some-Ok-Whole.field-0 c.in-Some-Ok-Whole.field-0-0 c.in-Some-Ok-Whole.message
    c.in-Some-Ok-Whole.field-0-is c.in-Some-Ok-Whole.field-0-0-is c.in-Some-Ok-Whole.ensures c.receive_message.result c.receive_message.ensures.stopped

pub returns-in-Some-Err-BadPart-clause-done : goal.returns-in-Some-Err-BadPart-clause-done
returns-in-Some-Err-BadPart-clause-done g c =
    quiet_done g.B.Banks.log c.args.state c.args.one (kinds.Part c.args.number c.args.index c.args.count c.args.piece) (holding c.args.one c.args.exchange.now) c.refuse-in-Some-Err-BadPart.new.exchange (refusing bad_frame_code c.hold.new.self) c.refuse-in-Some-Err-BadPart.result c.refuse-in-Some-Err-BadPart.ensures.sent c.refuse-in-Some-Err-BadPart.ensures.same
    (λ sent. part_is_bad (keeper_of c.args.state) c.args.one c.add_part-added.new.one c.args.number c.args.index c.args.count c.args.piece (holding c.args.one c.args.exchange.now) c.hold.new.self c.hold.ensures c.in-Some-Err-BadPart.field-0 c.in-Some-Err-BadPart.field-0-0
    c.in-Some-Err-BadPart.field-0-is c.in-Some-Err-BadPart.field-0-0-is c.in-Some-Err-BadPart.ensures c.refuse-in-Some-Err-BadPart.new.exchange sent)

pub returns-in-Some-Err-BadPart-clause-stopped : goal.returns-in-Some-Err-BadPart-clause-stopped
returns-in-Some-Err-BadPart-clause-stopped g c =
    quiet_stops g.B.Banks.log g.B.Banks.meter c.args.state (IsDueByFrame (keeper_of c.args.state) c.args.one.role (kinds.Part c.args.number c.args.index c.args.count c.args.piece)) (keeper_found (keeper_of c.args.state)) c.refuse-in-Some-Err-BadPart.result c.refuse-in-Some-Err-BadPart.ensures.err

pub returns-in-Some-Err-NoMemory-clause-stopped : goal.returns-in-Some-Err-NoMemory-clause-stopped
returns-in-Some-Err-NoMemory-clause-stopped g c =
    stops_none (IsDueByFrame (keeper_of c.args.state) c.args.one.role (kinds.Part c.args.number c.args.index c.args.count c.args.piece)) g.B.Banks.log (keeper_found (keeper_of c.args.state)) (state_banks c.args.state) c.into_banks.result c.into_banks.ensures.banks

pub returns-in-Some-Err-BadPart-clause-told : goal.returns-in-Some-Err-BadPart-clause-told
returns-in-Some-Err-BadPart-clause-told g c = quiet_told g.B.Banks.log g.B.Banks.meter c.args.state c.refuse-in-Some-Err-BadPart.result c.refuse-in-Some-Err-BadPart.ensures.same c.refuse-in-Some-Err-BadPart.ensures.err
