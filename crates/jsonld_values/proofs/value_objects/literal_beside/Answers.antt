use Rattle.std.proofs.Common.{sym}
use Rattle.serde_json.specs.View.{members_view}
use Rattle.jsonld_values.proofs.ValueParts.{tag_said}
use Rattle.jsonld_values.proofs.value_objects.literal_beside.Goals as goal

pub tagged_literal-requires-clause-tag : goal.tagged_literal-requires-clause-tag
tagged_literal-requires-clause-tag c =
    tag_said c.args.context.now (members_view c.args.parts.now.entries) c.requires.sound c.in-Some.tag.now (sym c.in-Some.ensures)
