use Rattle.serde_json.specs.View.{members_view}
use Rattle.jsonld_context.proofs.Contexts.{vocabulary_fault}
use Rattle.jsonld_context.proofs.reading.fault_without_vocabulary.Goals as goal

pub unreachable-requires : goal.unreachable-requires
unreachable-requires c = vocabulary_fault (members_view c.args.all.now.entries) c.requires c.in-Ok.ensures.0
