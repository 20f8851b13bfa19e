-- Frames as bytes: the kind in one byte, the length of the payload in four, and the payload.
use Rattle.std.specs.Prelude.{◌≡◌, ℕ, ◌+◌, ◌-◌, ◌<◌, ◌≤◌, ◌^◌, Bool, true, false, List, [], ◌∷◌, ◌++◌, Option, Some, None, length, take, drop, min}
use Rattle.std.specs.List.{AllByRecursion, flat_map}
use Rattle.std.specs.Str.{IsUtf8}
use Rattle.mld_bytes.specs.Bytes.{u32_bytes, u32_number, piece_bytes}
use Rattle.op_codec.specs.Stored.{IsId}
use Rattle.wire_frames.specs.declared.faults.FrameFault.{FrameFault}
use Rattle.wire_frames.specs.declared.faults.FrameFault.TheVariants.{BadFrame, TooLong}
use Rattle.wire_frames.specs.declared.kinds.Fed.{Fed}
use Rattle.wire_frames.specs.declared.kinds.Frame.{Frame}
use Rattle.wire_frames.specs.declared.kinds.Frame.TheVariants.{Hello, Part, Request, Reply, Refuse}

-- the most bytes of a payload
abbrev pub payload_limit : ℕ
payload_limit = 1048588

-- the most bytes of a part of a message, and of a part of a reply
abbrev pub part_size : ℕ
part_size = 1048576

-- the most parts of a message
abbrev pub part_limit : ℕ
part_limit = 1024

-- the most bytes of a message in parts
abbrev pub message_limit : ℕ
message_limit = 1073741824

-- the format that a Hello tells
abbrev pub hello_format : ℕ
hello_format = 1

-- how many bytes come before a payload
abbrev pub header_size : ℕ
header_size = 5

-- the kind of a reply's part
abbrev pub reply_kind : Bool → ℕ
reply_kind true = 4
reply_kind false = 5

-- the kind of a frame
abbrev pub frame_kind : Frame → ℕ
frame_kind (Hello format id domain) = 1
frame_kind (Part number index count piece) = 2
frame_kind (Request piece) = 3
frame_kind (Reply piece more) = reply_kind more
frame_kind (Refuse code) = 6

-- what a frame carries: a Hello its format, id and domain; a Part its message's number, its index, how many there are, and its bytes
abbrev pub payload : Frame → List ℕ
payload (Hello format id domain) = format ∷ (id ++ piece_bytes domain)
payload (Part number index count piece) = u32_bytes number ++ (u32_bytes index ++ (u32_bytes count ++ piece))
payload (Request piece) = piece
payload (Reply piece more) = piece
payload (Refuse code) = code ∷ []

-- a frame as it is written
unfoldable pub frame_bytes : Frame → List ℕ
frame_bytes frame = frame_kind frame ∷ piece_bytes (payload frame)

-- frames as they are written, one behind another
abbrev pub frames_bytes : List Frame → List ℕ
frames_bytes frames = flat_map frame_bytes frames

-- a Hello of a format in one byte, an id, and a text, which fit a payload
pub record IsHello (format : ℕ) (id domain : List ℕ) : Type 0 where
  pub format_fits : format < 256
  pub id_kept : IsId id
  pub utf8 : IsUtf8 domain
  pub size : length (payload (Hello format id domain)) ≤ payload_limit

-- a part of numbers of four bytes, with at least one byte
pub record IsPart (number index count : ℕ) (piece : List ℕ) : Type 0 where
  pub number_fits : number < 2 ^ 32
  pub index_fits : index < 2 ^ 32
  pub count_fits : count < 2 ^ 32
  pub low : 1 ≤ length piece
  pub high : length piece ≤ part_size

-- what may be a frame
abbrev pub IsFrame : Frame → Type 0
IsFrame (Hello format id domain) = IsHello format id domain
IsFrame (Part number index count piece) = IsPart number index count piece
IsFrame (Request piece) = length piece ≤ payload_limit
IsFrame (Reply piece more) = length piece ≤ part_size
IsFrame (Refuse code) = code < 256

-- the length of the payload that the first bytes announce
unfoldable pub announced : List ℕ → ℕ
announced bytes = u32_number (take 4 (drop 1 bytes))

-- the rest of a stream waits for bytes: the header isn't there yet, or it announces a payload that may be and isn't there yet
pub record IsWaiting (rest : List ℕ) : Type 0 where
  pub within : header_size ≤ length rest → announced rest ≤ payload_limit
  pub cut : header_size ≤ length rest → length rest < header_size + announced rest

-- the rest of a stream announces a payload that is too long, of whatever kind
pub record IsTooLong (rest : List ℕ) : Type 0 where
  pub header : header_size ≤ length rest
  pub over : payload_limit < announced rest

-- the rest of a stream has a whole payload, and begins with no frame
pub record IsBadFrame (rest : List ℕ) : Type 0 where
  pub header : header_size ≤ length rest
  pub within : announced rest ≤ payload_limit
  pub whole : header_size + announced rest ≤ length rest
  pub none : (frame : Frame) (behind : List ℕ) → IsFrame frame → ¬ (rest ≡ frame_bytes frame ++ behind)

-- a stream is these frames and this rest
pub record HasFrames (stream : List ℕ) (frames : List Frame) (rest : List ℕ) : Type 0 where
  pub bytes : stream ≡ frames_bytes frames ++ rest
  pub each : AllByRecursion IsFrame frames

-- ---- streams that come in pieces

-- what a reader of frames has: the place of the frame that is under way, what came of it, and whether there was neither a fault nor
-- want of memory
pub record FramesValue : Type 0 where
  pub place : ℕ
  pub rest : List ℕ
  pub good : Bool

-- the greatest place that is told
abbrev pub place_limit : ℕ
place_limit = 2 ^ 64 - 1

-- the place behind frames, from the first byte of the stream
abbrev pub place_behind_frames : List Frame → ℕ
place_behind_frames frames = min (length (frames_bytes frames)) place_limit

-- where the frames of a stream end: the rest waits, or it is this fault
abbrev pub StreamEnds : List ℕ → Option FrameFault → Type 0
StreamEnds rest None = IsWaiting rest
StreamEnds rest (Some (BadFrame place)) = IsBadFrame rest
StreamEnds rest (Some (TooLong place)) = IsTooLong rest

-- the place of a fault, if there is one, is that of the first byte behind these frames
abbrev pub IsPlaced : List Frame → Option FrameFault → Type 0
IsPlaced frames None = Unit {0}
IsPlaced frames (Some (BadFrame place)) = place ≡ place_behind_frames frames
IsPlaced frames (Some (TooLong place)) = place ≡ place_behind_frames frames

-- a stream of these frames and this rest waits there, or has its first fault there
pub record StreamStops (frames : List Frame) (rest : List ℕ) (fault : Option FrameFault) : Type 0 where
  pub ends : StreamEnds rest fault
  pub placed : IsPlaced frames fault

-- a reader has read this stream, whose frames were these
pub record Reads (state : FramesValue) (stream : List ℕ) (before : List Frame) : Type 0 where
  pub frames : HasFrames stream before state.rest
  pub waiting : IsWaiting state.rest
  pub place_is : state.place ≡ place_behind_frames before

-- a piece more of a stream was read: the frames up to the first fault of the whole are those before and these, and the reader stands
-- behind them
pub record FeedsOn (stream : List ℕ) (before : List Frame) (piece : List ℕ) (fed : Fed) (new : FramesValue) : Type 0 where
  pub frames : HasFrames (stream ++ piece) (before ++ fed.frames.items) new.rest
  pub stops : StreamStops (before ++ fed.frames.items) new.rest fed.fault
  pub place_is : new.place ≡ place_behind_frames (before ++ fed.frames.items)

-- the same from the frame that was under way: its bytes and the piece are these frames, and then what is left, which waits or is this
-- fault, wherever it is told to be
pub record Feeds (rest piece : List ℕ) (frames : List Frame) (fault : Option FrameFault) (left : List ℕ) : Type 0 where
  pub found : HasFrames (rest ++ piece) frames left
  pub ends : StreamEnds left fault
