-- Which frame a kind and a payload are.
use Rattle.std.proofs.Common.{◌≡◌, ◌≢◌, ℕ, ◌+◌, ◌-◌, ◌^◌, ◌<◌, ◌≤◌, Bool, true, false, List, [], ◌∷◌, ◌++◌, length, take, drop, refl, sym, ap, ◌∙◌, subst, arith}
use Rattle.std.proofs.lemmas.List.{length-append, length-drop, length-take-le, take-append-drop, drop_at, drop_all, append-nil}
use Rattle.std.specs.List.{slice_index}
use Rattle.std.specs.Str.{IsUtf8}
use Rattle.mld_bytes.proofs.Numbers.{length-u32_bytes, piece_same}
use Rattle.mld_bytes.specs.Bytes.{u32_bytes, piece_bytes, IsAt, IsPieceAt, HasNoPiece}
use Rattle.wire_frames.specs.declared.kinds.Frame.{Frame}
use Rattle.wire_frames.specs.declared.kinds.Frame.TheVariants.{Hello, Part, Request, Reply, Refuse}
use Rattle.wire_frames.specs.Frames.{payload_limit, part_size, reply_kind, payload, IsHello, IsPart}
use Rattle.wire_frames.specs.FrameReading.{IsFrameOf}

-- ---- a kind has one kind of frames

-- no frame is a Hello of this payload
only_hello : (bytes : List ℕ) → ((format : ℕ) (id domain : List ℕ) → IsHello format id domain → payload (Hello format id domain) ≡ bytes → ⊥) → (frame : Frame) → ¬ IsFrameOf 1 bytes frame
only_hello bytes none (Hello format id domain) of = none format id domain of.kept of.payload_is
only_hello bytes none (Part number index count piece) of = let e = of.kind_is in omega arith
only_hello bytes none (Request piece) of = let e = of.kind_is in omega arith
only_hello bytes none (Reply piece true) of = let e = of.kind_is in omega arith
only_hello bytes none (Reply piece false) of = let e = of.kind_is in omega arith
only_hello bytes none (Refuse code) of = let e = of.kind_is in omega arith

-- no frame is a Part of this payload
only_part : (bytes : List ℕ) → ((number index count : ℕ) (piece : List ℕ) → IsPart number index count piece → payload (Part number index count piece) ≡ bytes → ⊥) → (frame : Frame) → ¬ IsFrameOf 2 bytes frame
only_part bytes none (Hello format id domain) of = let e = of.kind_is in omega arith
only_part bytes none (Part number index count piece) of = none number index count piece of.kept of.payload_is
only_part bytes none (Request piece) of = let e = of.kind_is in omega arith
only_part bytes none (Reply piece true) of = let e = of.kind_is in omega arith
only_part bytes none (Reply piece false) of = let e = of.kind_is in omega arith
only_part bytes none (Refuse code) of = let e = of.kind_is in omega arith

-- a payload that is too long for a reply's part is none
pub long_reply : (bytes : List ℕ) (more : Bool) → part_size < length bytes → (frame : Frame) → ¬ IsFrameOf (reply_kind more) bytes frame
long_reply bytes true long (Hello format id domain) of = let e = of.kind_is in omega arith
long_reply bytes true long (Part number index count piece) of = let e = of.kind_is in omega arith
long_reply bytes true long (Request piece) of = let e = of.kind_is in omega arith
long_reply bytes true long (Reply piece also) of = let e = ap length of.payload_is in let fits = of.kept in omega arith
long_reply bytes true long (Refuse code) of = let e = of.kind_is in omega arith
long_reply bytes false long (Hello format id domain) of = let e = of.kind_is in omega arith
long_reply bytes false long (Part number index count piece) of = let e = of.kind_is in omega arith
long_reply bytes false long (Request piece) of = let e = of.kind_is in omega arith
long_reply bytes false long (Reply piece also) of = let e = ap length of.payload_is in let fits = of.kept in omega arith
long_reply bytes false long (Refuse code) of = let e = of.kind_is in omega arith

-- a payload of another length than 1 is no Refuse's
pub other_refuse : (bytes : List ℕ) → length bytes ≢ 1 → (frame : Frame) → ¬ IsFrameOf 6 bytes frame
other_refuse bytes other (Hello format id domain) of = let e = of.kind_is in omega arith
other_refuse bytes other (Part number index count piece) of = let e = of.kind_is in omega arith
other_refuse bytes other (Request piece) of = let e = of.kind_is in omega arith
other_refuse bytes other (Reply piece true) of = let e = of.kind_is in omega arith
other_refuse bytes other (Reply piece false) of = let e = of.kind_is in omega arith
other_refuse bytes other (Refuse code) of = other (sym (ap length of.payload_is))

-- another kind is none's
pub other_kind : (kind : ℕ) (bytes : List ℕ) → kind ≢ 1 → kind ≢ 2 → kind ≢ 3 → kind ≢ 4 → kind ≢ 5 → kind ≢ 6 → (frame : Frame) → ¬ IsFrameOf kind bytes frame
other_kind kind bytes a b d f g h (Hello format id domain) of = a (sym of.kind_is)
other_kind kind bytes a b d f g h (Part number index count piece) of = b (sym of.kind_is)
other_kind kind bytes a b d f g h (Request piece) of = d (sym of.kind_is)
other_kind kind bytes a b d f g h (Reply piece true) of = f (sym of.kind_is)
other_kind kind bytes a b d f g h (Reply piece false) of = g (sym of.kind_is)
other_kind kind bytes a b d f g h (Refuse code) of = h (sym of.kind_is)

-- ---- Hellos

-- the length of a Hello's payload
pub hello_length : (format : ℕ) (id domain : List ℕ) → IsHello format id domain → length (payload (Hello format id domain)) ≡ 21 + length domain
hello_length format id domain is =
    let a = length-append id (piece_bytes domain) in
    let b = length-append (u32_bytes (length domain)) domain in
    let d = length-u32_bytes (length domain) in
    let e = is.id_kept in
    omega arith

-- what is behind the id in a Hello's payload
hello_behind : (format : ℕ) (id domain bytes : List ℕ) → IsHello format id domain → payload (Hello format id domain) ≡ bytes → drop 17 bytes ≡ piece_bytes domain ++ []
hello_behind format id domain bytes is e =
    ap (λ (l : List ℕ). drop 17 l) (sym e) ∙ drop_at id (piece_bytes domain) 16 is.id_kept ∙ sym (append-nil (piece_bytes domain))

-- the domain of a Hello is short
hello_short : (format : ℕ) (id domain : List ℕ) → IsHello format id domain → length domain < 2 ^ 32
hello_short format id domain is =
    let l = hello_length format id domain is in
    let size = is.size in
    omega arith

-- a payload without an id
pub short_hello : (bytes : List ℕ) → length bytes < 17 → (frame : Frame) → ¬ IsFrameOf 1 bytes frame
short_hello bytes short = only_hello bytes (λ format id domain is e.
    let l = hello_length format id domain is in
    let same = ap length e in
    omega arith)

-- a payload without a domain
pub no_domain : (bytes : List ℕ) → HasNoPiece (drop 17 bytes) → (frame : Frame) → ¬ IsFrameOf 1 bytes frame
no_domain bytes none = only_hello bytes (λ format id domain is e. none domain [] (hello_short format id domain is) (hello_behind format id domain bytes is e))

-- the domain of a payload
hello_domain : (format : ℕ) (id domain bytes : List ℕ) (start stop : ℕ) → IsHello format id domain → payload (Hello format id domain) ≡ bytes → IsPieceAt bytes 17 start stop
    → (take (stop - start) (drop start bytes) ≡ domain) × (drop stop bytes ≡ [])
hello_domain format id domain bytes start stop is e at =
    let left = length-drop start bytes in
    let within = at.bytes.within in
    let short = at.short in
    let long : length (take (stop - start) (drop start bytes)) ≡ stop - start = length-take-le (stop - start) (drop start bytes) (omega arith) in
    let fits : length (take (stop - start) (drop start bytes)) < 2 ^ 32 = omega arith in
    piece_same (take (stop - start) (drop start bytes)) domain (drop stop bytes) [] fits (hello_short format id domain is) (sym at.bytes.front ∙ hello_behind format id domain bytes is e)

-- a payload with more behind the domain
pub long_hello : (bytes : List ℕ) (start stop : ℕ) → IsPieceAt bytes 17 start stop → stop < length bytes → (frame : Frame) → ¬ IsFrameOf 1 bytes frame
long_hello bytes start stop at more = only_hello bytes (λ format id domain is e.
    let none = ap length (hello_domain format id domain bytes start stop is e at).1 in
    let left = length-drop stop bytes in
    omega arith)

-- a payload whose domain isn't UTF-8
pub raw_hello : (bytes : List ℕ) (start stop : ℕ) → IsPieceAt bytes 17 start stop → ¬ IsUtf8 (take (stop - start) (drop start bytes)) → (frame : Frame) → ¬ IsFrameOf 1 bytes frame
raw_hello bytes start stop at raw = only_hello bytes (λ format id domain is e. raw (subst IsUtf8 (sym (hello_domain format id domain bytes start stop is e at).0) is.utf8))

-- the Hello of a payload
pub hello_read : (bytes id domain : List ℕ) (format start stop : ℕ) → length bytes ≤ payload_limit → 17 ≤ length bytes → IsPieceAt bytes 17 start stop → length bytes ≤ stop
    → IsUtf8 (take (stop - start) (drop start bytes)) → format < 256 → format ≡ slice_index bytes 0 → id ≡ take 16 (drop 1 bytes) → domain ≡ take (stop - start) (drop start bytes)
    → IsFrameOf 1 bytes (Hello format id domain)
hello_read [] id domain format start stop fits ids at end utf8 byte format_is id_is domain_is = absurd (omega arith)
hello_read (first ∷ bytes) id domain format start stop fits ids at end utf8 byte format_is id_is domain_is =
    let room : 16 ≤ length bytes = omega arith in
    let none : drop stop (first ∷ bytes) ≡ [] = drop_all stop (first ∷ bytes) end in
    let behind : drop 16 bytes ≡ piece_bytes domain =
    at.bytes.front ∙ (λ i. piece_bytes (sym domain_is i) ++ none i) ∙ append-nil (piece_bytes domain) in
    let whole : payload (Hello format id domain) ≡ first ∷ bytes =
    (λ i. format_is i ∷ (id_is i ++ sym behind i)) ∙ ap (λ (l : List ℕ). first ∷ l) (take-append-drop 16 bytes) in
    record {
      kept = record {
        format_fits = byte;
        id_kept = ap length id_is ∙ length-take-le 16 bytes room;
        utf8 = subst IsUtf8 (sym domain_is) utf8;
        size = subst (λ (l : List ℕ). length l ≤ payload_limit) (sym whole) fits;
      };
      kind_is = refl;
      payload_is = whole;
    }

-- ---- Parts

-- a payload without a piece
pub short_part : (bytes : List ℕ) → length bytes ≤ 12 → (frame : Frame) → ¬ IsFrameOf 2 bytes frame
short_part bytes short = only_part bytes (λ number index count piece is e.
    let a = length-append (u32_bytes number) (u32_bytes index ++ (u32_bytes count ++ piece)) in
    let b = length-append (u32_bytes index) (u32_bytes count ++ piece) in
    let d = length-append (u32_bytes count) piece in
    let x = length-u32_bytes number in
    let y = length-u32_bytes index in
    let z = length-u32_bytes count in
    let low = is.low in
    let same = ap length e in
    omega arith)

-- the Part of a payload
pub part_read : (bytes : List ℕ) (number index count at next start : ℕ) → length bytes ≤ payload_limit → IsAt (u32_bytes number) bytes 0 at → IsAt (u32_bytes index) bytes at next → IsAt (u32_bytes count) bytes next start
    → number < 2 ^ 32 → index < 2 ^ 32 → count < 2 ^ 32 → start ≢ length bytes → IsFrameOf 2 bytes (Part number index count (drop start bytes))
part_read bytes number index count at next start fits first second third number_fits index_fits count_fits more =
    let x = length-u32_bytes number in
    let y = length-u32_bytes index in
    let z = length-u32_bytes count in
    let a = first.next_is in
    let b = second.next_is in
    let d = third.next_is in
    let within = third.within in
    let left = length-drop start bytes in
    record {
      kept = record { number_fits = number_fits; index_fits = index_fits; count_fits = count_fits; low = omega arith; high = omega arith };
      kind_is = refl;
      payload_is =
          sym (first.front ∙ ap (λ (l : List ℕ). u32_bytes number ++ l) (second.front ∙ ap (λ (l : List ℕ). u32_bytes index ++ l) third.front));
    }
