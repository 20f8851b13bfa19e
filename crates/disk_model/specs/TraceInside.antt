-- How steps are kept. A private invariant cites it.
use Rattle.std.specs.Prelude.{◌≡◌, ◌≤◌, vec_len}
use Rattle.disk_model.specs.StepMarks.{pieces_size}
use Rattle.disk_model.specs.declared.steps.Trace.TheInside.{Inside}

-- The pieces of all marks are there, and what is used of the bytes is just these.
pub record IsTraceInside (s : Inside) : Type 0 where
  pub used_is : pieces_size s.marks.items ≡ s.used
  pub in_pieces : s.used ≤ vec_len s.pieces
