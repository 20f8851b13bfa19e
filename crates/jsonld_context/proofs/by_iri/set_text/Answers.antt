use Rattle.std.proofs.Common.{Some, string_bytes}
use Rattle.std.proofs.lemmas.Map.Text.{btree_map_updates_text}
use Rattle.jsonld_context.proofs.by_iri.set_text.Goals as goal

pub returns-in-Ok : goal.returns-in-Ok
returns-in-Ok c =
    rw c.in_ok-key.ensures.ok at (btree_map_updates_text (string_bytes c.in_ok-key.key) c.args.texts.now c.insert.new.self (Some c.args.text) c.in-Ok.ensures.updates)
