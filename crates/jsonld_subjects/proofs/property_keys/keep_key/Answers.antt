use Rattle.std.proofs.Common.{◌≡◌, ℕ, List, Some, cond, string_bytes}
use Rattle.std.proofs.lemmas.Map.Text.{btree_map_updates_text}
use Rattle.std.specs.BTreeMap.{get_by_text}
use Rattle.rdf_terms.specs.Literal.{is_same}
use Rattle.jsonld_subjects.proofs.KeysMade.{one_more_key}
use Rattle.jsonld_subjects.proofs.property_keys.keep_key.Goals as goal

pub returns-in-Ok : goal.returns-in-Ok
returns-in-Ok c =
    let updated : (other : List ℕ) → get_by_text c.insert.new.self other ≡ cond (is_same c.args.iri.now other) (Some c.args.key) (get_by_text c.args.kept.now other) =
    rw c.in_ok-iri.ensures.ok at (btree_map_updates_text (string_bytes c.in_ok-iri.iri) c.args.kept.now c.insert.new.self (Some c.args.key) c.in-Ok.ensures.updates) in
    λ context is kept. one_more_key context (get_by_text c.args.kept.now) (get_by_text c.insert.new.self) c.args.iri.now c.args.key is kept updated
