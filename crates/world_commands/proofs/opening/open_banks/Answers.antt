use Rattle.std.proofs.Common.{◌≡◌, ◌∙◌, arith, set, subst, Some}
use Rattle.std.specs.Result.{result_err}
use Rattle.std.proofs.lemmas.Option.{slice_get_within}
use Rattle.mld_model.specs.declared.CloneState.TheVariants as states
use Rattle.world_commands.specs.Doings.{doing_open}
use Rattle.world_commands.proofs.BankLemmas.{uses_set, faults_set}
use Rattle.world_commands.proofs.StopLemmas.{undamaged, opened_becomes, opened_ok, opened_on, opened_faults}
use Rattle.world_commands.proofs.LeftLemmas.{left_becomes, opened_left}
use Rattle.world_commands.proofs.opening.open_banks.Goals as goal

pub opened_as-state-requires-clause-whole : goal.opened_as-state-requires-clause-whole
opened_as-state-requires-clause-whole g c =
    let known = c.requires.whole in
    let same : known.banks ≡ c.in-Down.banks = cc (known.at, c.in-Down.ensures.was) in
    undamaged known.now c.mount.result (c.mount.ensures.tells known.now (subst (λ (b : g.row.B.Denot). g.B.Banks.log b ≡ Some known.now) same known.told)) known.whole

pub put_state-requires-clause-number : goal.put_state-requires-clause-number
put_state-requires-clause-number g c =
    omega (arith, slice_get_within c.args.clones.now.items c.args.number (states.Down c.in-Down.banks) c.in-Down.ensures.was, c.in-Down.ensures.len)

pub returns : goal.returns
returns g c =
    let log = g.B.Banks.log in
    let meter = g.B.Banks.meter in
    let domain = c.args.named.domain in
    let properties = c.args.named.properties.items in
    let old = c.args.clones.now.items in
    let new = c.put_state.new.clones.items in
    let number = c.args.number in
    let banks = c.in-Down.banks in
    let what = c.mount.result in
    let told = c.opened_as-state.result in
    let at = c.in-Down.ensures.was in
    let now : new ≡ set old number told.0 = c.put_state.ensures ∙ c.take_state.ensures.back told.0 in
    let becomes = opened_becomes log meter domain properties old new number banks told at now in
    record {
      ok = opened_ok log meter domain properties old new number banks what told at now c.mount.ensures.tells c.mount.ensures.opened c.opened_as-state.ensures;
      banks = uses_set meter old new number (states.Down banks) told.0 becomes
          (opened_on log meter domain properties old new number banks what told c.opened_as-state.ensures c.mount.ensures.meter);
      faults = faults_set meter old new number (states.Down banks) told.0 told.1 becomes
          (opened_faults log meter domain properties old new number banks what told c.opened_as-state.ensures c.mount.ensures.meter);
      left = left_becomes log meter doing_open (result_err told.1) old new number (states.Down banks) told.0 becomes
          (opened_left log meter domain properties old new number banks what told c.opened_as-state.ensures c.mount.ensures.meter c.mount.ensures.moments);
    }
