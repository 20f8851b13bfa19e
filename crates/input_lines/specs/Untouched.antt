-- Source and sink of a run that did nothing: the runs over an input (`run` of `mld_replay`, `shell`) cite these.
use Rattle.std.specs.Prelude.{◌≡◌, ℕ, List, Option}

-- source and sink are as they were
pub record AreUntouched {S K : Type 0} (source left : S) (sink held : K) : Type 0 where
  pub source_is : left ≡ source
  pub sink_is : held ≡ sink

-- none of the bytes that the source had was read, and nothing was written
pub record HasNotBegun (given left before after : Option (List ℕ)) : Type 0 where
  pub all_left : left ≡ given
  pub none_written : after ≡ before
