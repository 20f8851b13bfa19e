-- The laws of streams of frames.
use Rattle.std.proofs.Common.{◌≡◌, ℕ, ◌+◌, List, [], ◌∷◌, ◌++◌, Option, Some, None, length, drop, refl, sym, ap, ◌∙◌, subst, append_assoc, arith}
use Rattle.std.proofs.lemmas.Grind.{flat_map-append}
use Rattle.std.proofs.lemmas.List.{length-append, append-nil}
use Rattle.std.specs.List.{AllByRecursion}
use Rattle.wire_frames.specs.declared.faults.FrameFault.{FrameFault}
use Rattle.wire_frames.specs.declared.faults.FrameFault.TheVariants.{BadFrame, TooLong}
use Rattle.wire_frames.specs.declared.kinds.Fed.{Fed}
use Rattle.wire_frames.specs.declared.kinds.Frame.{Frame}
use Rattle.wire_frames.specs.Frames.{frame_bytes, frames_bytes, IsFrame, HasFrames, IsWaiting, StreamEnds, IsPlaced, StreamStops, FramesValue, place_behind_frames, Reads, FeedsOn, Feeds}
use Rattle.wire_frames.specs.FrameLaws.{OneStream, FeedsAll, joined_pieces, AnyCutting, WrittenRead}
use Rattle.wire_frames.specs.declared.cutting.CutFrames.{CutFrames}
use Rattle.wire_frames.specs.FrameReading.{place_after, IsFaultAt, IsCut, IsFedOn}
use Rattle.wire_frames.proofs.FrameTrips.{one_frame, no_end, one_end}

-- ---- one stream

-- two readings of one stream have the same frames and the same rest
record AreOne (frames other : List Frame) (rest left : List ℕ) : Type 0 where
  frames_same : frames ≡ other
  rest_same : rest ≡ left

-- the bytes of one frame more in front
in_front : (frame : Frame) (frames : List Frame) (rest : List ℕ) → frames_bytes (frame ∷ frames) ++ rest ≡ frame_bytes frame ++ (frames_bytes frames ++ rest)
in_front frame frames rest = append_assoc (frame_bytes frame) (frames_bytes frames) rest

one_list : (frames other : List Frame) (rest left : List ℕ) (fault second : Option FrameFault) → AllByRecursion IsFrame frames → AllByRecursion IsFrame other
    → frames_bytes frames ++ rest ≡ frames_bytes other ++ left → StreamEnds rest fault → StreamEnds left second → AreOne frames other rest left
one_list [] [] rest left fault second a b e h k = record { frames_same = refl; rest_same = e }
one_list [] (frame ∷ other) rest left fault second a b e h k =
    absurd (no_end frame rest (frames_bytes other ++ left) fault b.0 (e ∙ in_front frame other left) h)
one_list (frame ∷ frames) [] rest left fault second a b e h k =
    absurd (no_end frame left (frames_bytes frames ++ rest) second a.0 (sym e ∙ in_front frame frames rest) k)
one_list (frame ∷ frames) (first ∷ other) rest left fault second a b e h k =
    let same = one_frame frame first (frames_bytes frames ++ rest) (frames_bytes other ++ left) a.0 b.0 (sym (in_front frame frames rest) ∙ e ∙ in_front first other left) in
    let behind = one_list frames other rest left fault second a.1 b.1 same.behind_same h k in
    let one = same.frame_same in
    let all = behind.frames_same in
    record { frames_same = λ i. one i ∷ all i; rest_same = behind.rest_same }

pub stream_is_one : OneStream
stream_is_one stream frames other rest left fault second h a k b =
    let one = one_list frames other rest left fault second h.each k.each (sym h.bytes ∙ k.bytes) a.ends b.ends in
    record {
      frames_same = one.frames_same;
      rest_same = one.rest_same;
      fault_same = one_end frames rest fault second a (subst (λ (l : List ℕ). StreamStops frames l second) (sym one.rest_same) (subst (λ (fs : List Frame). StreamStops fs left second) (sym one.frames_same) b));
    }

-- ---- any cutting

-- each of both lists
all_both : {X : Type 0} (P : X → Type 0) (xs ys : List X) → AllByRecursion P xs → AllByRecursion P ys → AllByRecursion P (xs ++ ys)
all_both P [] ys a b = b
all_both P (x ∷ xs) ys a b = (a.0, all_both P xs ys a.1 b)

-- a piece more of a stream
pub frames_on : (stream rest piece left : List ℕ) (before frames : List Frame) → HasFrames stream before rest → HasFrames (rest ++ piece) frames left → HasFrames (stream ++ piece) (before ++ frames) left
frames_on stream rest piece left before frames h k = record {
  bytes =
      ap (λ (bytes : List ℕ). bytes ++ piece) h.bytes ∙ append_assoc (frames_bytes before) rest piece
      ∙ ap (λ (bytes : List ℕ). frames_bytes before ++ bytes) k.bytes ∙ sym (append_assoc (frames_bytes before) (frames_bytes frames) left)
      ∙ ap (λ (bytes : List ℕ). bytes ++ left) (sym (flat_map-append frame_bytes before frames));
  each = all_both IsFrame before frames h.each k.each;
}

-- the frames of pieces are those of all of them
cuts : (pieces : List (List ℕ)) (rest : List ℕ) (frames : List Frame) (fault : Option FrameFault) (left : List ℕ) → IsWaiting rest → FeedsAll rest pieces frames fault left → Feeds rest (joined_pieces pieces) frames fault left
cuts [] rest frames fault left w h = record {
  found = record {
    bytes = append-nil rest ∙ (λ i. frames_bytes (sym h.0 i) ++ sym h.2 i);
    each = subst (λ (fs : List Frame). AllByRecursion IsFrame fs) (sym h.0) tt;
  };
  ends = subst (λ (f : Option FrameFault). StreamEnds left f) (sym h.1) (subst IsWaiting (sym h.2) w);
}
cuts (piece ∷ []) rest frames fault left w h = subst (λ (bytes : List ℕ). Feeds rest bytes frames fault left) (sym (append-nil piece)) h
cuts (piece ∷ (next ∷ pieces)) rest frames fault left w h =
    let behind = cuts (next ∷ pieces) h.between h.later fault left h.feeds.ends h.goes_on in
    let all = frames_on (rest ++ piece) h.between (joined_pieces (next ∷ pieces)) left h.first h.later h.feeds.found behind.found in
    record {
      found = subst (λ (bytes : List ℕ). HasFrames bytes frames left) (append_assoc rest piece (joined_pieces (next ∷ pieces))) (subst (λ (fs : List Frame). HasFrames ((rest ++ piece) ++ joined_pieces (next ∷ pieces)) fs left) (sym h.frames_are) all);
      ends = behind.ends;
    }

-- nothing came so far
waits_first : IsWaiting []
waits_first = record { within = λ h. absurd (omega arith); cut = λ h. absurd (omega arith) }

pub cutting_is_any : AnyCutting
cutting_is_any pieces frames fault left h = cuts pieces [] frames fault left waits_first h

-- ---- what is written is read

pub written_is_read : WrittenRead
written_is_read [] found behind left fault is h ends = record { later = found; found_are = refl; frames_behind = h }
written_is_read (frame ∷ frames) [] behind left fault is h ends =
    absurd (no_end frame left (frames_bytes frames ++ behind) fault is.0 (sym h.bytes ∙ in_front frame frames behind) ends)
written_is_read (frame ∷ frames) (first ∷ found) behind left fault is h ends =
    let same = one_frame frame first (frames_bytes frames ++ behind) (frames_bytes found ++ left) is.0 h.each.0 (sym (in_front frame frames behind) ∙ h.bytes ∙ in_front first found left) in
    let rest = written_is_read frames found behind left fault is.1 (record { bytes = same.behind_same; each = h.each.1 }) ends in
    let one = same.frame_same in
    let all = rest.found_are in
    record { later = rest.later; found_are = λ i. sym one i ∷ all i; frames_behind = rest.frames_behind }

-- ---- a reader goes on

-- a fault's place
placed_so : (frames : List Frame) (place : ℕ) (fault : Option FrameFault) → place ≡ place_behind_frames frames → IsFaultAt place fault → IsPlaced frames fault
placed_so frames place None e h = tt
placed_so frames place (Some (BadFrame at)) e h = h ∙ e
placed_so frames place (Some (TooLong at)) e h = h ∙ e

-- the place behind frames and more frames
place_on : (before frames : List Frame) (place : ℕ) → place ≡ place_behind_frames before → place_after place (length (frames_bytes frames)) ≡ place_behind_frames (before ++ frames)
place_on before frames place e =
    let all : length (frames_bytes (before ++ frames)) ≡ length (frames_bytes before) + length (frames_bytes frames) =
    ap length (flat_map-append frame_bytes before frames) ∙ length-append (frames_bytes before) (frames_bytes frames) in
    omega arith

-- what was read from the frame that was under way was read of the stream
pub feeds_on : (old new : FramesValue) (stream piece : List ℕ) (before : List Frame) (fed : Fed) → Reads old stream before → IsFedOn old.place old.rest piece fed new.place new.rest
    → FeedsOn stream before piece fed new
feeds_on old new stream piece before fed reads on =
    let place : new.place ≡ place_behind_frames (before ++ fed.frames.items) = on.place_is ∙ place_on before fed.frames.items old.place reads.place_is in
    record {
      frames = frames_on stream old.rest piece new.rest before fed.frames.items reads.frames on.feeds.found;
      stops = record { ends = on.feeds.ends; placed = placed_so (before ++ fed.frames.items) new.place fed.fault place on.placed };
      place_is = place;
    }

-- what was cut off what came of a frame and a piece was read
pub fed_so : (place new : ℕ) (rest piece whole left : List ℕ) (cut : CutFrames) → IsCut whole place cut → whole ≡ rest ++ piece → left ≡ drop cut.end whole → new ≡ place_after place cut.end
    → IsFedOn place rest piece (record { frames = cut.frames; fault = cut.fault }) new left
fed_so place new rest piece whole left cut is whole_is left_is new_is = record {
  feeds = record {
    found = subst (λ (l : List ℕ). HasFrames l cut.frames.items left) whole_is (subst (λ (l : List ℕ). HasFrames whole cut.frames.items l) (sym left_is) is.found);
    ends = subst (λ (l : List ℕ). StreamEnds l cut.fault) (sym left_is) is.ends;
  };
  place_is = new_is ∙ ap (place_after place) is.size;
  placed = subst (λ (n : ℕ). IsFaultAt n cut.fault) (sym new_is) is.placed;
}
