use Rattle.std.proofs.Common.{None, arith, ap, refl, sym, subst, List, ℕ, map, set}
use Rattle.std.proofs.lemmas.Result.{IfOk-weaker, on_ok_weaker}
use Rattle.std.specs.Result.{result_err}
use Rattle.mld_model.specs.declared.CloneState.TheVariants as states
use Rattle.crash_laws.specs.clone_core.Joining.{GivesNone}
use Rattle.world_commands.specs.Delivering.{WhereAway, WhereLive}
use Rattle.schedule_replies.specs.Replies.{reply_value}
use Rattle.world_commands.specs.States.{HasState, Becomes}
use Rattle.world_commands.specs.WorldBanks.{BankedState, in_memory, banks_of_state}
use Rattle.world_commands.specs.Doings.{ReceivesNone, doing_receive}
use Rattle.world_commands.specs.LeftBanks.{LeavesAt}
use Rattle.world_commands.proofs.Places.{place_read, read_back}
use Rattle.world_commands.proofs.BankLemmas.{memory_at, memory_becomes, uses_set, faults_set, quiet_becomes, goes_on_same, next_open}
use Rattle.world_commands.proofs.DeliverLemmas.{away_reply, away_carried}
use Rattle.world_commands.proofs.LeftLemmas.{left_becomes, left_same, away_idle}
use Rattle.world_commands.proofs.deliver.receive_at.Goals as goal

pub receive_asking-requires-clause-asks : goal.receive_asking-requires-clause-asks
receive_asking-requires-clause-asks g c = λ κs outlives.
    let P : List (BankedState g.row.B.Denot) → Type 0 = λ clones. HasState clones c.args.number (states.Asking c.in-Asking.field-0) in
    (c.in-Asking.field-0, subst P (sym (read_back c.args.clones.now.items c.from.result c.index_mut.result.now c.index_mut.ensures.value)) (place_read c.args.clones.now.items c.args.number c.from.result c.index_mut.result.now (states.Asking c.in-Asking.field-0) c.from.ensures (omega (arith, c.requires.number)) c.index_mut.ensures.value c.in-Asking.is))

pub returns-in-Live : goal.returns-in-Live
returns-in-Live g c =
    let old = c.args.clones.now.items in
    let number = c.args.number in
    let before = c.in-Live.clone in
    let after = c.receive_live.new.clone in
    let becomes : Becomes old (set old c.from.result (states.Live after)) number (states.Live before) (states.Live after) = record {
      was = place_read old number c.from.result c.index_mut.result.now (states.Live before) c.from.ensures (omega (arith, c.requires.number)) c.index_mut.ensures.value c.in-Live.is;
      now = ap (λ (k : ℕ). set old k (states.Live after)) c.from.ensures;
    } in
    record {
      ok = IfOk-weaker c.receive_live.result _ _
          (λ answer h. WhereLive before.local after.local
          (memory_becomes old (set old c.from.result (states.Live after)) number (states.Live before) (states.Live after) becomes) h)
          c.receive_live.ensures.ok;
      carried = on_ok_weaker c.receive_live.result
          (λ opened. record { state = states.Live after; now = becomes.now; carried = next_open old number before after becomes.was opened }) c.receive_live.ensures.opened;
      banks = uses_set g.B.Banks.meter old (set old c.from.result (states.Live after)) number (states.Live before) (states.Live after) becomes c.receive_live.ensures.meter;
      faults = faults_set g.B.Banks.meter old (set old c.from.result (states.Live after)) number (states.Live before) (states.Live after) c.receive_live.result becomes c.receive_live.ensures.faults;
      left = left_becomes g.B.Banks.log g.B.Banks.meter (doing_receive c.args.message.now) (result_err c.receive_live.result) old (set old c.from.result (states.Live after)) number (states.Live before) (states.Live after) becomes c.receive_live.ensures.left;
    }

pub returns-in_default : goal.returns-in_default
returns-in_default g c =
    let old = c.args.clones.now.items in
    let number = c.args.number in
    let state = c.index_mut.result.now in
    let becomes : Becomes old (set old c.from.result state) number state state = record {
      was = place_read old number c.from.result state state c.from.ensures (omega (arith, c.requires.number)) c.index_mut.ensures.value refl;
      now = ap (λ (k : ℕ). set old k state) c.from.ensures;
    } in
    record {
      ok = WhereAway (in_memory state) (memory_at old number state becomes.was)
          (away_reply state (reply_value c.state_reply.result) c.state_reply.ensures c.in_default.not-Live c.in_default.not-Asking)
          (ap (λ (l : List (BankedState g.row.B.Denot)). map in_memory l) (read_back old c.from.result state c.index_mut.ensures.value));
      carried = record { state = state; now = becomes.now; carried = away_carried old number state becomes.was c.in_default.not-Live };
      banks = uses_set g.B.Banks.meter old (set old c.from.result state) number state state becomes (goes_on_same (g.B.Banks.meter (banks_of_state state)));
      faults = quiet_becomes g.B.Banks.meter old (set old c.from.result state) number state state becomes refl;
      left = left_becomes g.B.Banks.log g.B.Banks.meter (doing_receive c.args.message.now) None old (set old c.from.result state) number state state becomes
          (left_same g.B.Banks.log g.B.Banks.meter (doing_receive c.args.message.now) None state state refl
          (away_idle (λ clone. ReceivesNone clone c.args.message.now) (λ asker. GivesNone asker c.args.message.now) state c.in_default.not-Live c.in_default.not-Asking));
    }

pub returns-in-Asking-clause-left : goal.returns-in-Asking-clause-left
returns-in-Asking-clause-left g c =
    let P : List (BankedState g.row.B.Denot) → Type 0 = λ old. LeavesAt g.B.Banks.log g.B.Banks.meter (doing_receive c.args.message.now) (result_err c.receive_asking.result) c.args.number old c.receive_asking.new.clones.items in
    subst P (read_back c.args.clones.now.items c.from.result c.index_mut.result.now c.index_mut.ensures.value) c.receive_asking.ensures.left
