use Rattle.std.proofs.Common.{◌∙◌, None, arith, refl, sym, subst, List, ℕ, IsTrue, map}
use Rattle.std.specs.Result.{result_err}
use Rattle.std.proofs.lemmas.Result.{IfOk-weaker}
use Rattle.text_rules.specs.Domain.{is_domain}
use Rattle.mld_model.specs.declared.CloneState.TheVariants as states
use Rattle.world_commands.specs.OpeningBanks.{OpensBanks}
use Rattle.schedule_replies.specs.Replies.{reply_value}
use Rattle.world_commands.specs.WorldBanks.{banks_of_state}
use Rattle.world_commands.specs.Doings.{doing_open}
use Rattle.world_commands.proofs.BankLemmas.{quiet_same}
use Rattle.world_commands.proofs.Places.{place_read, set_again}
use Rattle.world_commands.proofs.StopLemmas.{open_done, open_standing_done, standing_reply, whole_at}
use Rattle.world_commands.proofs.WorldLemmas.{keeps_banks, keeps_still}
use Rattle.world_commands.proofs.LeftLemmas.{left_still, left_there, memory_uncalled, standing_idle, silent_same}
use Rattle.world_commands.proofs.opening.open.Goals as goal

pub open_banks-requires-clause-whole : goal.open_banks-requires-clause-whole
open_banks-requires-clause-whole g c = λ κs outlives.
    let parts = c.args.parts.now in
    whole_at g.B.Banks.log parts c.args.number c.in-Down.field-0 c.requires.left
    (place_read parts.clones.items c.args.number c.from.result c.index.result.now (states.Down c.in-Down.field-0) c.from.ensures (omega (arith, c.requires.number)) c.index.ensures c.in-Down.is)

pub returns-in_ok-named-in-Down : goal.returns-in_ok-named-in-Down
returns-in_ok-named-in-Down g c =
    let parts = c.args.parts.now in
    let new = c.open_banks.new.clones.items in
    let named = c.in_ok-named-in-Down.named in
    record {
      keeps = keeps_banks g.B.Banks.log g.B.Banks.meter parts _ refl refl c.args.number c.open_banks.ensures.banks;
      done = IfOk-weaker c.open_banks.result _ _ (λ reply h.
          let P : List (List ℕ) → Type 0 = λ properties. OpensBanks g.B.Banks.log named.domain properties parts.clones.items new c.args.number reply in
          let Q : List ℕ → Type 0 = λ domain. OpensBanks g.B.Banks.log domain parts.properties.items parts.clones.items new c.args.number reply in
          open_done g.B.Banks.log g.B.Banks.meter parts _ refl refl c.args.number reply c.requires.named refl
          (subst Q c.in_ok-named-in-Down.ensures.domain (subst P (c.in_ok-named-in-Down.ensures.properties ∙ c.as_slice.ensures.value) h)))
          c.open_banks.ensures.ok;
      faults = c.open_banks.ensures.faults;
      left = c.open_banks.ensures.left;
      unsent = silent_same c.open_banks.result parts.messages.items _ refl;
    }

pub returns-in_default : goal.returns-in_default
returns-in_default g c =
    let parts = c.args.parts.now in
    let state = c.index.result.now in
    let at = place_read parts.clones.items c.args.number c.from.result state state c.from.ensures (omega (arith, c.requires.number)) c.index.ensures refl in
    record {
      keeps = keeps_still g.B.Banks.log g.B.Banks.meter parts _ refl refl c.args.number refl;
      done = open_standing_done g.B.Banks.log g.B.Banks.meter parts _ refl refl c.args.number state c.state_reply.result at (set_again parts.clones.items c.args.number state at) refl refl
          (standing_reply state (reply_value c.state_reply.result) c.state_reply.ensures c.in_default.not-Down);
      faults = quiet_same g.B.Banks.meter (map banks_of_state parts.clones.items);
      left = left_still g.B.Banks.log g.B.Banks.meter doing_open None parts.clones.items parts.clones.items c.args.number state at refl
          (standing_idle state c.in_default.not-Down);
      unsent = tt;
    }

pub returns-in_err-named-in-Down-clause-left : goal.returns-in_err-named-in-Down-clause-left
returns-in_err-named-in-Down-clause-left g c =
    left_there g.B.Banks.log g.B.Banks.meter doing_open (result_err c.from_residual.result) c.args.parts.now.clones.items c.args.number (omega (arith, c.requires.number))
    (memory_uncalled doing_open c.from_residual.result c.from_residual.ensures.1)
