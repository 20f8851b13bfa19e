-- What reading gives keeps to the names that were met.
use Rattle.std.specs.Prelude.{◌≡◌, ℕ, IfSome}
use Rattle.std.specs.List.{All}
use Rattle.jsonld_values.specs.Numbering.{IsSlotOf, IsPatternOf, HasGrown}
use Rattle.jsonld_values.specs.VariableNames.{NamesValue, IsNames}
use Rattle.jsonld_subjects.specs.ObjectReading.{ObjectFound}
use Rattle.jsonld_subjects.specs.SubjectReading.{Found}
use Rattle.jsonld_subjects.specs.declared.places.Place.{Place}
use Rattle.jsonld_subjects.specs.declared.places.Place.TheVariants.{Pattern, Insert}

-- fresh subjects are below this number: in a pattern none is
abbrev pub fresh_at : Place → NamesValue → ℕ
fresh_at Pattern names = 0
fresh_at Insert names = names.fresh

-- a pattern meets no fresh subject, and an insert no hidden variable
abbrev pub IsOfPlace : Place → NamesValue → NamesValue → Type 0
IsOfPlace Pattern before after = after.fresh ≡ before.fresh
IsOfPlace Insert before after = after.hidden ≡ before.hidden

-- names that were met at a place, behind others
pub record AreMetAt (place : Place) (before after : NamesValue) : Type 0 where
  pub grown : HasGrown before after
  pub place_kept : IsOfPlace place before after
  pub names : IsNames before → IsNames after

-- what was found keeps to names: each triple has their variables, and fresh subjects only where it is inserted
pub record KeepsToNames (place : Place) (before : NamesValue) (found : Found) : Type 0 where
  pub met : AreMetAt place before found.names
  pub triples : All (IsPatternOf found.names (fresh_at place found.names)) found.triples

-- so does an object beside it
pub record ObjectKeepsToNames (place : Place) (before : NamesValue) (read : ObjectFound) : Type 0 where
  pub found : KeepsToNames place before read.found
  pub object : IfSome read.object (IsSlotOf read.found.names (fresh_at place read.found.names))
