-- Headers: what the first bytes of a frame announce, and what begins there.
use Rattle.std.proofs.Common.{◌≡◌, ℕ, ◌+◌, ◌-◌, ◌^◌, ◌<◌, ◌≤◌, List, ◌∷◌, ◌++◌, length, take, drop, sym, ap, ◌∙◌, append_assoc, arith}
use Rattle.std.proofs.lemmas.List.{length-append, length-drop, length-take-le, take-append-drop, take_at, drop-drop}
use Rattle.mld_bytes.proofs.Numbers.{length-u32_bytes, u32_number-bytes, u32_same}
use Rattle.mld_bytes.specs.Bytes.{u8_bytes, u32_bytes, u32_number, IsAt}
use Rattle.wire_frames.specs.Frames.{payload_limit, frame_kind, payload, frame_bytes, IsFrame, announced, IsWaiting, IsTooLong, IsBadFrame}
use Rattle.wire_frames.specs.FrameReading.{IsFrameOf, IsFrameAt}
use Rattle.wire_frames.specs.declared.kinds.Frame.{Frame}
use Rattle.wire_frames.specs.declared.kinds.Frame.TheVariants.{Hello, Part, Request, Reply, Refuse}

-- a rest begins with this kind and this length, with this behind them
pub record HasHead (rest : List ℕ) (kind size : ℕ) (behind : List ℕ) : Type 0 where
  pub rest_is : rest ≡ kind ∷ (u32_bytes size ++ behind)
  pub fits : size < 2 ^ 32

-- a header that was read at a place
pub head_read : (input : List ℕ) (at next start kind size : ℕ) → IsAt (u8_bytes kind) input at next → IsAt (u32_bytes size) input next start → size < 2 ^ 32
    → HasHead (drop at input) kind size (drop start input)
head_read input at next start kind size k s l = record {
  rest_is = k.front ∙ ap (λ (rest : List ℕ). kind ∷ rest) s.front;
  fits = l;
}

module _ (rest : List ℕ) (kind size : ℕ) (behind : List ℕ) (head : HasHead rest kind size behind) where
  -- the length is what it announces
  pub head_announces : announced rest ≡ size
  unfolding announced
  head_announces =
      ap (λ (bytes : List ℕ). u32_number (take 4 (drop 1 bytes))) head.rest_is
      ∙ ap u32_number (take_at (u32_bytes size) behind 4 (length-u32_bytes size))
      ∙ u32_number-bytes size head.fits

  -- it has five bytes
  pub head_length : length rest ≡ 5 + length behind
  head_length =
      let all : length rest ≡ 1 + length (u32_bytes size ++ behind) = ap length head.rest_is ∙ omega arith in
      let four = length-u32_bytes size in
      let parts = length-append (u32_bytes size) behind in
      omega arith

  pub head_too_long : payload_limit < size → IsTooLong rest
  head_too_long over =
      let a = head_announces in
      let l = head_length in
      record { header = omega arith; over = omega arith }

  pub head_waits : size ≤ payload_limit → length behind < size → IsWaiting rest
  head_waits within cut =
      let a = head_announces in
      let l = head_length in
      record { within = λ h. omega arith; cut = λ h. omega arith }

  -- a frame of what is behind stands there
  pub head_frame : (frame : Frame) → size ≤ length behind → IsFrameOf kind (take size behind) frame → rest ≡ frame_bytes frame ++ drop size behind
  unfolding frame_bytes
  head_frame frame whole of =
      let long : length (payload frame) ≡ size = ap length of.payload_is ∙ length-take-le size behind whole in
      let split : behind ≡ payload frame ++ drop size behind =
      sym (take-append-drop size behind) ∙ ap (λ (front : List ℕ). front ++ drop size behind) (sym of.payload_is) in
      head.rest_is
      ∙ (λ i. sym of.kind_is i ∷ (u32_bytes (sym long i) ++ split i))
      ∙ ap (λ (bytes : List ℕ). frame_kind frame ∷ bytes) (sym (append_assoc (u32_bytes (length (payload frame))) (payload frame) (drop size behind)))

-- a payload of a frame isn't too long
pub payload_fits : (frame : Frame) → IsFrame frame → length (payload frame) ≤ payload_limit
payload_fits (Hello format id domain) is = is.size
payload_fits (Part number index count piece) is =
    let a = length-append (u32_bytes number) (u32_bytes index ++ (u32_bytes count ++ piece)) in
    let b = length-append (u32_bytes index) (u32_bytes count ++ piece) in
    let d = length-append (u32_bytes count) piece in
    let x = length-u32_bytes number in
    let y = length-u32_bytes index in
    let z = length-u32_bytes count in
    let high = is.high in
    omega arith
payload_fits (Request piece) is = is
payload_fits (Reply piece more) is = omega arith
payload_fits (Refuse code) is = omega arith

-- the bytes of a frame, and what is behind them, begin with its header
pub frame_head : (frame : Frame) (behind : List ℕ) → IsFrame frame → HasHead (frame_bytes frame ++ behind) (frame_kind frame) (length (payload frame)) (payload frame ++ behind)
unfolding frame_bytes
frame_head frame behind is =
    let fits = payload_fits frame is in
    record {
      rest_is = ap (λ (bytes : List ℕ). frame_kind frame ∷ bytes) (append_assoc (u32_bytes (length (payload frame))) (payload frame) behind);
      fits = omega arith;
    }

-- a frame has five bytes and its payload
pub length-frame : (frame : Frame) → length (frame_bytes frame) ≡ 5 + length (payload frame)
unfolding frame_bytes
length-frame frame =
    let parts = length-append (u32_bytes (length (payload frame))) (payload frame) in
    let four = length-u32_bytes (length (payload frame)) in
    omega arith

-- a frame at a place of the input, whose header was read there
pub frame_at : (input : List ℕ) (at start kind size : ℕ) (frame : Frame) → HasHead (drop at input) kind size (drop start input) → start ≡ at + 5 → start ≤ length input
    → size ≤ length input - start → IsFrameOf kind (take size (drop start input)) frame → IsFrameAt input at (start + size) frame
frame_at input at start kind size frame head start_is within whole of =
    let left = length-drop start input in
    let all : size ≤ length (drop start input) = omega arith in
    let long : length (payload frame) ≡ size = ap length of.payload_is ∙ length-take-le size (drop start input) all in
    let bytes = length-frame frame in
    record {
      kept = of.kept;
      front = head_frame (drop at input) kind size (drop start input) head frame all of ∙ ap (λ (rest : List ℕ). frame_bytes frame ++ rest) (drop-drop size start input);
      end_is = omega arith;
      within = omega arith;
    }

-- a whole payload of no frame
pub bad_at : (input : List ℕ) (at start kind size : ℕ) → HasHead (drop at input) kind size (drop start input) → size ≤ payload_limit → size ≤ length input - start
    → ((frame : Frame) → ¬ IsFrameOf kind (take size (drop start input)) frame) → IsBadFrame (drop at input)
bad_at input at start kind size head within whole none =
    let a = head_announces (drop at input) kind size (drop start input) head in
    let l = head_length (drop at input) kind size (drop start input) head in
    let left = length-drop start input in
    record {
      header = omega arith;
      within = omega arith;
      whole = omega arith;
      none = λ frame behind is e. none frame (of frame behind is (sym head.rest_is ∙ e));
    }
  where
    of : (frame : Frame) (behind : List ℕ) → IsFrame frame → kind ∷ (u32_bytes size ++ drop start input) ≡ frame_bytes frame ++ behind → IsFrameOf kind (take size (drop start input)) frame
    of frame behind is e =
        let own = frame_head frame behind is in
        let both : kind ∷ (u32_bytes size ++ drop start input) ≡ frame_kind frame ∷ (u32_bytes (length (payload frame)) ++ (payload frame ++ behind)) = e ∙ own.rest_is in
        let kinds : kind ≡ frame_kind frame = cc in
        let rests : u32_bytes size ++ drop start input ≡ u32_bytes (length (payload frame)) ++ (payload frame ++ behind) = cc in
        let same = u32_same size (length (payload frame)) (drop start input) (payload frame ++ behind) head.fits own.fits rests in
        record {
          kept = is;
          kind_is = sym kinds;
          payload_is = sym (ap (λ (bytes : List ℕ). take size bytes) same.1 ∙ take_at (payload frame) behind size (sym same.0));
        }
