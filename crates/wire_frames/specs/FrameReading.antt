-- What the parts of the reader of frames answer.
use Rattle.std.specs.Prelude.{◌≡◌, ℕ, ◌≤◌, List, ◌++◌, Option, Some, None, length, drop, min, ◌+◌}
use Rattle.wire_frames.specs.declared.faults.FrameFault.{FrameFault}
use Rattle.wire_frames.specs.declared.faults.FrameFault.TheVariants.{BadFrame, TooLong}
use Rattle.wire_frames.specs.declared.kinds.Fed.{Fed}
use Rattle.wire_frames.specs.declared.kinds.Frame.{Frame}
use Rattle.wire_frames.specs.declared.cutting.CutFrames.{CutFrames}
use Rattle.wire_frames.specs.declared.cutting.Next.{Next}
use Rattle.wire_frames.specs.declared.cutting.Next.TheVariants as next
use Rattle.wire_frames.specs.Frames.{IsFrame, frame_kind, payload, frame_bytes, frames_bytes, place_limit, IsWaiting, IsTooLong, IsBadFrame, HasFrames, StreamEnds, Feeds}

-- a frame of this kind and payload
pub record IsFrameOf (kind : ℕ) (bytes : List ℕ) (frame : Frame) : Type 0 where
  pub kept : IsFrame frame
  pub kind_is : frame_kind frame ≡ kind
  pub payload_is : payload frame ≡ bytes

-- the frame of a kind and a payload, or there is none
abbrev pub IsOnlyFrameOf : ℕ → List ℕ → Option Frame → Type 0
IsOnlyFrameOf kind bytes None = (frame : Frame) → ¬ IsFrameOf kind bytes frame
IsOnlyFrameOf kind bytes (Some frame) = IsFrameOf kind bytes frame

-- a frame stands in the input from one place to the next
pub record IsFrameAt (input : List ℕ) (at end : ℕ) (frame : Frame) : Type 0 where
  pub kept : IsFrame frame
  pub front : drop at input ≡ frame_bytes frame ++ drop end input
  pub end_is : end ≡ at + length (frame_bytes frame)
  pub within : end ≤ length input

-- what stands in the input at a place
abbrev pub StandsNext : List ℕ → ℕ → Next → Type 0
StandsNext input at (next.Frame frame end) = IsFrameAt input at end frame
StandsNext input at next.Waiting = IsWaiting (drop at input)
StandsNext input at next.Bad = IsBadFrame (drop at input)
StandsNext input at next.Long = IsTooLong (drop at input)

-- the place behind so many bytes from another
abbrev pub place_after : ℕ → ℕ → ℕ
place_after place size = min (place + size) place_limit

-- a fault's place
abbrev pub IsFaultAt : ℕ → Option FrameFault → Type 0
IsFaultAt place None = Unit {0}
IsFaultAt place (Some (BadFrame at)) = at ≡ place
IsFaultAt place (Some (TooLong at)) = at ≡ place

-- the frames of an input up to where they end; the input's first byte has this place
pub record IsCut (input : List ℕ) (place : ℕ) (cut : CutFrames) : Type 0 where
  pub found : HasFrames input cut.frames.items (drop cut.end input)
  pub ends : StreamEnds (drop cut.end input) cut.fault
  pub within : cut.end ≤ length input
  pub size : cut.end ≡ length (frames_bytes cut.frames.items)
  pub placed : IsFaultAt (place_after place cut.end) cut.fault

-- the frames of what came of a frame and a piece, and what is left of them
pub record IsFedOn (old : ℕ) (rest piece : List ℕ) (fed : Fed) (new : ℕ) (left : List ℕ) : Type 0 where
  pub feeds : Feeds rest piece fed.frames.items fed.fault left
  pub place_is : new ≡ place_after old (length (frames_bytes fed.frames.items))
  pub placed : IsFaultAt new fed.fault
