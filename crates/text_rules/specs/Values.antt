-- The parts that the code holds as the parts that they stand for.
use Rattle.std.specs.Option.{option_copied}
use Rattle.text_rules.specs.declared.references.IriParts.{IriParts}
use Rattle.text_rules.specs.References.{Parts}

-- the parts that references to texts stand for
abbrev pub parts_value : IriParts → Parts
parts_value p = record {
  scheme = option_copied p.scheme;
  authority = option_copied p.authority;
  path = p.path.now;
  query = option_copied p.query;
  fragment = option_copied p.fragment;
}
