use Rattle.std.proofs.Common.{◌∙◌, ap}
use Rattle.std.specs.Prelude.{codes}
use Rattle.serde_json.specs.View.{members_view}
use Rattle.jrql_update.proofs.BesideKeys.{removed_beside}
use Rattle.jrql_update.proofs.updates.take_context.Goals as goal

pub returns : goal.returns
returns c = ap members_view c.remove.ensures.entries ∙ removed_beside (codes "@context") c.args.members.now.entries
