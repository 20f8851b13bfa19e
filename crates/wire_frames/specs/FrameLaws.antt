-- Laws of the frames of streams.
use Rattle.std.specs.Prelude.{◌≡◌, ℕ, List, [], ◌∷◌, ◌++◌, Option, None}
use Rattle.std.specs.List.{AllByRecursion, flat_map}
use Rattle.wire_frames.specs.declared.faults.FrameFault.{FrameFault}
use Rattle.wire_frames.specs.declared.kinds.Frame.{Frame}
use Rattle.wire_frames.specs.Frames.{IsFrame, frames_bytes, HasFrames, StreamEnds, StreamStops, Feeds}

-- two lists of frames, with their rests and faults, are one
pub record IsSameReading (frames other : List Frame) (rest left : List ℕ) (fault second : Option FrameFault) : Type 0 where
  pub frames_same : frames ≡ other
  pub rest_same : rest ≡ left
  pub fault_same : fault ≡ second

-- a stream has one list of frames, one rest and at most one first fault
abbrev pub OneStream : Type 0
OneStream =
    (stream : List ℕ) (frames other : List Frame) (rest left : List ℕ) (fault second : Option FrameFault)
    → HasFrames stream frames rest → StreamStops frames rest fault → HasFrames stream other left → StreamStops other left second
    → IsSameReading frames other rest left fault second

-- frames of one piece more, where those of the pieces behind it are told
pub record FeedsOneMore (rest piece : List ℕ) (frames : List Frame) (behind : List ℕ → List Frame → Type 0) : Type 0 where
  pub first : List Frame
  pub later : List Frame
  pub between : List ℕ
  pub feeds : Feeds rest piece first None between
  pub goes_on : behind between later
  pub frames_are : frames ≡ first ++ later

-- pieces of a stream, one after another, give these frames; the last of them alone may have a fault
abbrev pub FeedsAll : List ℕ → List (List ℕ) → List Frame → Option FrameFault → List ℕ → Type 0
FeedsAll rest [] frames fault left = (frames ≡ []) × (fault ≡ None) × (left ≡ rest)
FeedsAll rest (piece ∷ []) frames fault left = Feeds rest piece frames fault left
FeedsAll rest (piece ∷ (next ∷ pieces)) frames fault left =
    FeedsOneMore rest piece frames (λ between later. FeedsAll between (next ∷ pieces) later fault left)

-- the pieces of a stream, joined
abbrev pub joined_pieces : List (List ℕ) → List ℕ
joined_pieces pieces = flat_map (λ (piece : List ℕ). piece) pieces

-- whatever the pieces are that a stream is cut in, their frames are those of the stream
abbrev pub AnyCutting : Type 0
AnyCutting =
    (pieces : List (List ℕ)) (frames : List Frame) (fault : Option FrameFault) (left : List ℕ)
    → FeedsAll [] pieces frames fault left → Feeds [] (joined_pieces pieces) frames fault left

-- frames that begin with these, and then are those of what is behind
pub record BeginsWith (frames found : List Frame) (behind left : List ℕ) : Type 0 where
  pub later : List Frame
  pub found_are : found ≡ frames ++ later
  pub frames_behind : HasFrames behind later left

-- what is written for frames is read as them, whatever follows
abbrev pub WrittenRead : Type 0
WrittenRead =
    (frames found : List Frame) (behind left : List ℕ) (fault : Option FrameFault) → AllByRecursion IsFrame frames
    → HasFrames (frames_bytes frames ++ behind) found left → StreamEnds left fault → BeginsWith frames found behind left
