-- The clone of a head and of what the entries behind it lead to. `beginning` and `found` cite it, which are private.
use Rattle.std.specs.Prelude.{ℕ, List, []}
use Rattle.journal_sides.specs.Heads.{HeadValue}
use Rattle.mld_model.specs.Local.{LocalClone}
use Rattle.clone_parts.specs.declared.replays.Replayed.{Replayed}

-- the clone at a path with a head, what was replayed behind it, and nothing held back
abbrev pub found_clone : HeadValue → List ℕ → Replayed → LocalClone
found_clone head path replayed = record {
  id = head.id;
  domain = head.domain;
  properties = head.properties;
  path = path;
  base = head.base.ticks;
  base_pairs = head.base.pairs;
  entries = replayed.entries.items;
  held = [];
  ticks = replayed.clock.ticks;
  pairs = replayed.pairs.pairs;
}

-- the clone of a head with no entries
abbrev pub begun_clone : HeadValue → LocalClone
begun_clone head = record {
  id = head.id;
  domain = head.domain;
  properties = head.properties;
  path = head.path;
  base = head.base.ticks;
  base_pairs = head.base.pairs;
  entries = [];
  held = [];
  ticks = head.base.ticks;
  pairs = head.base.pairs;
}
