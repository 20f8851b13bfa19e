use Rattle.std.proofs.Common.{◌∙◌}
use Rattle.jsonld_context.proofs.Folders.{folder_finds}
use Rattle.jsonld_context.proofs.compacting.plain_id.Goals as goal

pub returns : goal.returns
returns c = λ base is. c.plain_behind.ensures ∙ folder_finds base c.args.folder.now c.args.iri.now is
