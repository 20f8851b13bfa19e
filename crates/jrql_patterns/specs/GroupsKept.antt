-- What is read of a group keeps to the names that are met.
use Rattle.std.specs.List.{All}
use Rattle.jsonld_subjects.specs.jsonld_values.Numbering.{IsPatternOf, IsFilterOf, HasGrown}
use Rattle.jsonld_subjects.specs.jsonld_values.VariableNames.{IsNames}
use Rattle.jrql_patterns.specs.OpenGroups.{OpenGroup}

-- what was read of a group has the variables that were met, and no fresh subject: so the group is in form (`numbering_gives_form`)
pub record IsGroupKept (read : OpenGroup) : Type 0 where
  pub names : IsNames read.names
  pub patterns : All (IsPatternOf read.names 0) read.patterns
  pub branches : All (All (IsPatternOf read.names 0)) read.branches
  pub filters : All (IsFilterOf read.names) read.filters

-- more was read of a group
pub record ReadsOn (before after : OpenGroup) : Type 0 where
  pub grown : HasGrown before.names after.names
  pub kept : IsGroupKept before → IsGroupKept after
