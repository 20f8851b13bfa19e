-- Bytes determine the frame that they begin with, and where a stream of frames ends.
use Rattle.std.proofs.Common.{◌≡◌, ℕ, ◌^◌, ◌<◌, ◌≤◌, ◌==◌, true, false, List, ◌∷◌, ◌++◌, Option, Some, None, if◌then◌else◌, length, take, drop, refl, sym, ap, ◌∙◌, subst, append_assoc, arith}
use Rattle.std.proofs.lemmas.List.{length-append, take_at, drop_at}
use Rattle.std.specs.List.{slice_index}
use Rattle.mld_bytes.proofs.Numbers.{length-u32_bytes, u32_number-bytes, piece_same}
use Rattle.mld_bytes.specs.Bytes.{u32_bytes, u32_number, piece_bytes}
use Rattle.wire_frames.specs.declared.faults.FrameFault.{FrameFault}
use Rattle.wire_frames.specs.declared.faults.FrameFault.TheVariants.{BadFrame, TooLong}
use Rattle.wire_frames.specs.declared.kinds.Frame.{Frame}
use Rattle.wire_frames.specs.declared.kinds.Frame.TheVariants.{Hello, Part, Request, Reply, Refuse}
use Rattle.wire_frames.specs.Frames.{frame_kind, payload, frame_bytes, IsFrame, StreamEnds, StreamStops}
use Rattle.wire_frames.proofs.Heads.{head_announces, head_length, payload_fits, frame_head}

-- a number of four bytes that is read from the front of bytes
abbrev number_first : List ℕ → ℕ
number_first bytes = u32_number (take 4 bytes)

-- the frame of a kind and a payload
abbrev frame_from : ℕ → List ℕ → Frame
frame_from kind bytes =
    if kind == 1 then Hello (slice_index bytes 0) (take 16 (drop 1 bytes)) (drop 4 (drop 16 (drop 1 bytes)))
    else (if kind == 2 then Part (number_first bytes) (number_first (drop 4 bytes)) (number_first (drop 4 (drop 4 bytes))) (drop 4 (drop 4 (drop 4 bytes)))
    else (if kind == 3 then Request bytes
    else (if kind == 4 then Reply bytes true
    else (if kind == 5 then Reply bytes false
    else Refuse (slice_index bytes 0)))))

-- a number at the front
number_back : (n : ℕ) (rest : List ℕ) → n < 2 ^ 32 → number_first (u32_bytes n ++ rest) ≡ n
number_back n rest l = ap u32_number (take_at (u32_bytes n) rest 4 (length-u32_bytes n)) ∙ u32_number-bytes n l

-- what is behind it
number_passed : (n : ℕ) (rest : List ℕ) → drop 4 (u32_bytes n ++ rest) ≡ rest
number_passed n rest = drop_at (u32_bytes n) rest 4 (length-u32_bytes n)

-- a frame is that of its kind and payload
frame_back : (frame : Frame) → IsFrame frame → frame_from (frame_kind frame) (payload frame) ≡ frame
frame_back (Hello format id domain) is =
    let front : take 16 (id ++ piece_bytes domain) ≡ id = take_at id (piece_bytes domain) 16 is.id_kept in
    let behind : drop 4 (drop 16 (id ++ piece_bytes domain)) ≡ domain =
    ap (λ (bytes : List ℕ). drop 4 bytes) (drop_at id (piece_bytes domain) 16 is.id_kept) ∙ number_passed (length domain) domain in
    λ i. Hello format (front i) (behind i)
frame_back (Part number index count piece) is =
    let first = number_passed number (u32_bytes index ++ (u32_bytes count ++ piece)) in
    let second : drop 4 (drop 4 (payload (Part number index count piece))) ≡ u32_bytes count ++ piece =
    ap (λ (bytes : List ℕ). drop 4 bytes) first ∙ number_passed index (u32_bytes count ++ piece) in
    let third : drop 4 (drop 4 (drop 4 (payload (Part number index count piece)))) ≡ piece =
    ap (λ (bytes : List ℕ). drop 4 bytes) second ∙ number_passed count piece in
    let a = number_back number (u32_bytes index ++ (u32_bytes count ++ piece)) is.number_fits in
    let b : number_first (drop 4 (payload (Part number index count piece))) ≡ index = ap number_first first ∙ number_back index (u32_bytes count ++ piece) is.index_fits in
    let d : number_first (drop 4 (drop 4 (payload (Part number index count piece)))) ≡ count = ap number_first second ∙ number_back count piece is.count_fits in
    λ i. Part (a i) (b i) (d i) (third i)
frame_back (Request piece) is = refl
frame_back (Reply piece true) is = refl
frame_back (Reply piece false) is = refl
frame_back (Refuse code) is = refl

-- frames of one kind and one payload are one
pub same_frame : (frame other : Frame) → IsFrame frame → IsFrame other → frame_kind frame ≡ frame_kind other → payload frame ≡ payload other → frame ≡ other
same_frame frame other is also kinds payloads =
    sym (frame_back frame is) ∙ (λ i. frame_from (kinds i) (payloads i)) ∙ frame_back other also

-- two frames and what is behind them are the same
pub record AreSame (frame other : Frame) (behind left : List ℕ) : Type 0 where
  pub frame_same : frame ≡ other
  pub behind_same : behind ≡ left

-- the parts of what begins with a byte
parts_same : (a b : ℕ) (xs ys : List ℕ) → a ∷ xs ≡ b ∷ ys → (a ≡ b) × (xs ≡ ys)
parts_same a b xs ys e = (cc, cc)

-- bytes begin with one frame
pub one_frame : (frame other : Frame) (behind left : List ℕ) → IsFrame frame → IsFrame other → frame_bytes frame ++ behind ≡ frame_bytes other ++ left → AreSame frame other behind left
one_frame frame other behind left is also e =
    let own = frame_head frame behind is in
    let its = frame_head other left also in
    let both = parts_same (frame_kind frame) (frame_kind other) _ _ (sym own.rest_is ∙ e ∙ its.rest_is) in
    let size = own.fits in
    let long = its.fits in
    let same = piece_same (payload frame) (payload other) behind left size long (append_assoc (u32_bytes (length (payload frame))) (payload frame) behind ∙ both.1 ∙ sym (append_assoc (u32_bytes (length (payload other))) (payload other) left)) in
    record { frame_same = same_frame frame other is also both.0 same.0; behind_same = same.1 }

-- where a stream ends no frame begins
pub no_end : (frame : Frame) (rest behind : List ℕ) (fault : Option FrameFault) → IsFrame frame → rest ≡ frame_bytes frame ++ behind → StreamEnds rest fault → ⊥
no_end frame rest behind fault is e h = by fault (subst (λ (bytes : List ℕ). StreamEnds bytes fault) e h)
  where
    by : (fault : Option FrameFault) → StreamEnds (frame_bytes frame ++ behind) fault → ⊥
    by None ends =
        let head = frame_head frame behind is in
        let a = head_announces (frame_bytes frame ++ behind) (frame_kind frame) (length (payload frame)) (payload frame ++ behind) head in
        let l = head_length (frame_bytes frame ++ behind) (frame_kind frame) (length (payload frame)) (payload frame ++ behind) head in
        let more = length-append (payload frame) behind in
        let header : 5 ≤ length (frame_bytes frame ++ behind) = omega arith in
        let cut = ends.cut header in
        omega arith
    by (Some (BadFrame place)) ends = ends.none frame behind is refl
    by (Some (TooLong place)) ends =
        let head = frame_head frame behind is in
        let a = head_announces (frame_bytes frame ++ behind) (frame_kind frame) (length (payload frame)) (payload frame ++ behind) head in
        let fits = payload_fits frame is in
        let over = ends.over in
        omega arith

-- a rest ends in one way
pub one_end : (frames : List Frame) (rest : List ℕ) (fault second : Option FrameFault) → StreamStops frames rest fault → StreamStops frames rest second → fault ≡ second
one_end frames rest None None a b = refl
one_end frames rest None (Some (BadFrame place)) a b =
    let header = b.ends.header in
    let cut = a.ends.cut header in
    let whole = b.ends.whole in
    absurd (omega arith)
one_end frames rest None (Some (TooLong place)) a b =
    let header = b.ends.header in
    let within = a.ends.within header in
    let over = b.ends.over in
    absurd (omega arith)
one_end frames rest (Some (BadFrame place)) None a b =
    let header = a.ends.header in
    let cut = b.ends.cut header in
    let whole = a.ends.whole in
    absurd (omega arith)
one_end frames rest (Some (BadFrame place)) (Some (BadFrame other)) a b =
    let e : place ≡ other = a.placed ∙ sym b.placed in
    λ i. Some (BadFrame (e i))
one_end frames rest (Some (BadFrame place)) (Some (TooLong other)) a b =
    let within = a.ends.within in
    let over = b.ends.over in
    absurd (omega arith)
one_end frames rest (Some (TooLong place)) None a b =
    let header = a.ends.header in
    let within = b.ends.within header in
    let over = a.ends.over in
    absurd (omega arith)
one_end frames rest (Some (TooLong place)) (Some (BadFrame other)) a b =
    let within = b.ends.within in
    let over = a.ends.over in
    absurd (omega arith)
one_end frames rest (Some (TooLong place)) (Some (TooLong other)) a b =
    let e : place ≡ other = a.placed ∙ sym b.placed in
    λ i. Some (TooLong (e i))
