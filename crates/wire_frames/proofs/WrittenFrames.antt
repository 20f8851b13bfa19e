-- What is written for a frame, piece by piece.
use Rattle.std.proofs.Common.{◌≡◌, ℕ, ◌+◌, Bool, List, [], ◌∷◌, ◌++◌, Result, Ok, Err, OnOk, is_ok, if◌then◌else◌, length, sym, ap, ◌∙◌, append_assoc, arith}
use Rattle.std.proofs.lemmas.List.{length-append}
use Rattle.mld_bytes.proofs.Numbers.{length-u32_bytes}
use Rattle.mld_bytes.specs.Bytes.{u32_bytes, piece_bytes}
use Rattle.op_codec.proofs.Appending.{appended_both}
use Rattle.wire_frames.specs.declared.kinds.Frame.TheVariants.{Hello, Part, Reply}
use Rattle.wire_frames.specs.Frames.{reply_kind, payload, frame_bytes, IsHello}
use Rattle.wire_frames.proofs.Payloads.{hello_length}

-- what a buffer that was made longer has
pub extended : {T E P : Type 0} (result : Result T E) (old more new : List ℕ) → new ≡ (if is_ok result then old ++ more else old) → (new ≡ old ++ more → P) → OnOk result P
extended (Ok value) old more new e f = f e
extended (Err error) old more new e f = tt

-- a Hello
pub hello_written : (start a b d e new : List ℕ) (format size : ℕ) (id domain text : List ℕ) → IsHello format id domain → size ≡ 21 + length domain → text ≡ domain
    → a ≡ start ++ 1 ∷ [] → b ≡ a ++ u32_bytes size → d ≡ b ++ format ∷ [] → e ≡ d ++ id → new ≡ e ++ piece_bytes text → new ≡ start ++ frame_bytes (Hello format id domain)
unfolding frame_bytes
hello_written start a b d e new format size id domain text is size_is text_is p q r s t =
    let long : size ≡ length (payload (Hello format id domain)) = size_is ∙ sym (hello_length format id domain is) in
    appended_both start e new ((((1 ∷ []) ++ u32_bytes size) ++ format ∷ []) ++ id) (piece_bytes domain)
    (appended_both start d e (((1 ∷ []) ++ u32_bytes size) ++ format ∷ []) id
    (appended_both start b d ((1 ∷ []) ++ u32_bytes size) (format ∷ []) (appended_both start a b (1 ∷ []) (u32_bytes size) p q) r) s)
    (t ∙ ap (λ (l : List ℕ). e ++ piece_bytes l) text_is)
    ∙ ap (λ (l : List ℕ). start ++ 1 ∷ l)
    (append_assoc (u32_bytes size ++ format ∷ []) id (piece_bytes domain) ∙ append_assoc (u32_bytes size) (format ∷ []) (id ++ piece_bytes domain)
    ∙ ap (λ (n : ℕ). u32_bytes n ++ payload (Hello format id domain)) long)

-- a Part
pub part_written : (start a b d e f new : List ℕ) (number index count size : ℕ) (piece : List ℕ) → size ≡ 12 + length piece
    → a ≡ start ++ 2 ∷ [] → b ≡ a ++ u32_bytes size → d ≡ b ++ u32_bytes number → e ≡ d ++ u32_bytes index → f ≡ e ++ u32_bytes count → new ≡ f ++ piece
    → new ≡ start ++ frame_bytes (Part number index count piece)
unfolding frame_bytes
part_written start a b d e f new number index count size piece size_is p q r s t u =
    let x = length-u32_bytes number in
    let y = length-u32_bytes index in
    let z = length-u32_bytes count in
    let first = length-append (u32_bytes number) (u32_bytes index ++ (u32_bytes count ++ piece)) in
    let second = length-append (u32_bytes index) (u32_bytes count ++ piece) in
    let third = length-append (u32_bytes count) piece in
    let long : size ≡ length (payload (Part number index count piece)) = omega arith in
    appended_both start f new (((((2 ∷ []) ++ u32_bytes size) ++ u32_bytes number) ++ u32_bytes index) ++ u32_bytes count) piece
    (appended_both start e f ((((2 ∷ []) ++ u32_bytes size) ++ u32_bytes number) ++ u32_bytes index) (u32_bytes count)
    (appended_both start d e (((2 ∷ []) ++ u32_bytes size) ++ u32_bytes number) (u32_bytes index)
    (appended_both start b d ((2 ∷ []) ++ u32_bytes size) (u32_bytes number) (appended_both start a b (2 ∷ []) (u32_bytes size) p q) r) s) t) u
    ∙ ap (λ (l : List ℕ). start ++ 2 ∷ l)
    (append_assoc ((u32_bytes size ++ u32_bytes number) ++ u32_bytes index) (u32_bytes count) piece
    ∙ append_assoc (u32_bytes size ++ u32_bytes number) (u32_bytes index) (u32_bytes count ++ piece)
    ∙ append_assoc (u32_bytes size) (u32_bytes number) (u32_bytes index ++ (u32_bytes count ++ piece))
    ∙ ap (λ (n : ℕ). u32_bytes n ++ payload (Part number index count piece)) long)

-- a part of a reply
pub reply_written : (start a new piece : List ℕ) (kind : ℕ) (more : Bool) → kind ≡ reply_kind more → a ≡ start ++ kind ∷ [] → new ≡ a ++ piece_bytes piece → new ≡ start ++ frame_bytes (Reply piece more)
unfolding frame_bytes
reply_written start a new piece kind more e p q =
    appended_both start a new (kind ∷ []) (piece_bytes piece) p q ∙ ap (λ (k : ℕ). start ++ k ∷ piece_bytes piece) e
