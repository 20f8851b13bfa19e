-- The clone that the fields of a running one stand for. The view and the invariant of `MldClone` cite it.
use Rattle.mld_model.specs.Local.{LocalClone}
use Rattle.clone_core.specs.declared.clones.MldClone.TheInside.{Inside}

abbrev pub local_of : {B : Type 0} → Inside B → LocalClone
local_of c = record {
  id = c.id;
  domain = c.domain;
  properties = c.properties.items;
  path = c.leaf;
  base = c.base.ticks;
  base_pairs = c.base_pairs;
  entries = c.entries.items;
  held = c.held;
  ticks = c.clock.ticks;
  pairs = c.pairs.pairs;
}
