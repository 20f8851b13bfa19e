use Rattle.std.proofs.Common.{◌∙◌, ap, map, refl, subst, List, ℕ}
use Rattle.mld_ops.specs.Messages.{message_value}
use Rattle.mld_ops.specs.declared.messages.Message.{Message}
use Rattle.schedule_text.specs.schedule_model.Schedule.{Setup, KeepsEachOnce}
use Rattle.schedule_text.specs.ReadLines.{setup_of}
use Rattle.net_world.proofs.EndLemmas.{founded_from, founded_standing_on}
use Rattle.std.proofs.lemmas.Result.{err_from_is_err_and}
use Rattle.net_world.proofs.FoundingFronts.{founded_left}
use Rattle.net_world.proofs.SettledSteps.{found_settles}
use Rattle.net_world.proofs.worlds.World.found.Goals as goal

pub returns-clause-founded : goal.returns-clause-founded
returns-clause-founded g c =
    let setup : Setup = record { domain = c.in-Ok.named.domain; properties = c.kept_properties.result.items; count = c.args.setup.now.clones } in
    let each = subst (λ (properties : List (List ℕ)). KeepsEachOnce properties setup.properties) (c.in-Ok.ensures.properties ∙ c.as_slice.ensures.value) c.kept_properties.ensures in
    founded_from g.B.Banks.log (setup_of c.args.setup.now) setup _ each c.in-Ok.ensures.domain refl c.in_ok-clones.ensures.ok refl refl
    (ap (λ (l : List Message). map message_value l) c.new-2.ensures.items) refl

pub returns-clause-standing : goal.returns-clause-standing
returns-clause-standing g c = founded_standing_on g.B.Banks.log (setup_of c.args.setup.now) _ (returns-clause-founded g c)

pub returns-in_err-clones-clause-left : goal.returns-in_err-clones-clause-left
returns-in_err-clones-clause-left g c =
    let p = err_from_is_err_and c.from_residual.result c.from_residual.ensures.1 in
    let setup : Setup = record { domain = c.in-Ok.named.domain; properties = c.kept_properties.result.items; count = c.args.setup.now.clones } in
    let each = subst (λ (properties : List (List ℕ)). KeepsEachOnce properties setup.properties) (c.in-Ok.ensures.properties ∙ c.as_slice.ensures.value) c.kept_properties.ensures in
    rw (p.1, p.2) (founded_left g.B.Banks.log (setup_of c.args.setup.now) setup c.in_err-clones.field-0.0.1.items c.in_err-clones.field-0.0.0 each c.in-Ok.ensures.domain refl c.in_err-clones.ensures.left)

pub returns-clause-settled : goal.returns-clause-settled
returns-clause-settled g c = found_settles g.B.Banks.log g.met.B.CrashBanks.tells c.args.blanks.items _ c.in_ok-clones.ensures.kept
