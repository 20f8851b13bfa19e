-- Messages and replies that go in parts: how many there are, and what is written one after another.
use Rattle.std.proofs.Common.{◌≡◌, ℕ, suc, ◌+◌, ◌-◌, ◌/◌, ◌^◌, ◌<◌, ◌≤◌, min, true, false, List, [], ◌∷◌, ◌++◌, length, take, drop, sym, ap, ◌∙◌, inl, inr, append_assoc, arith}
use Rattle.std.proofs.lemmas.Bool.{cases_lt}
use Rattle.std.proofs.lemmas.List.{length-take, length-drop, take_all, drop_all, take-take, append-nil}
use Rattle.rdf_terms.specs.Kept.{KeepsStart}
use Rattle.wire_frames.specs.declared.kinds.Frame.{Frame}
use Rattle.wire_frames.specs.declared.kinds.Frame.TheVariants.{Part, Reply}
use Rattle.wire_frames.specs.Frames.{part_size, part_limit, message_limit, frame_bytes, frames_bytes, IsPart}
use Rattle.wire_frames.specs.MessageParts.{part_count, parts_from, part_frames, replies_from, reply_parts}

-- ---- how many

-- one part more where bytes are left
pub part_count_more : (size : ℕ) → 1 ≤ size → part_count size ≡ suc (part_count (size - part_size))
part_count_more size h = omega arith

-- one part more than are behind it
pub part_count_behind : (size : ℕ) → 1 ≤ size → part_count size ≡ suc (part_count (size - min size part_size))
part_count_behind size h = omega arith

-- a message that isn't too long has few parts
pub part_count_few : (size : ℕ) → size ≤ message_limit → part_count size ≤ part_limit
part_count_few size h = omega arith

-- ---- pieces

-- what is taken of a list is no more than it has
pub take_within : (size : ℕ) (rest : List ℕ) → take (min (length rest) size) rest ≡ take size rest
take_within size rest = elim (cases_lt size (length rest)) [
  | inl less ↦ let e : min (length rest) size ≡ size = omega arith in ap (λ (n : ℕ). take n rest) e
  | inr all ↦
      let e : min (length rest) size ≡ length rest = omega arith in
      ap (λ (n : ℕ). take n rest) e ∙ take_all (length rest) rest (omega arith) ∙ sym (take_all size rest all)
]

pub drop_within : (size : ℕ) (rest : List ℕ) → drop (min (length rest) size) rest ≡ drop size rest
drop_within size rest = elim (cases_lt size (length rest)) [
  | inl less ↦ let e : min (length rest) size ≡ size = omega arith in ap (λ (n : ℕ). drop n rest) e
  | inr all ↦
      let e : min (length rest) size ≡ length rest = omega arith in
      ap (λ (n : ℕ). drop n rest) e ∙ drop_all (length rest) rest (omega arith) ∙ sym (drop_all size rest all)
]

-- what keeps what keeps a start keeps it
pub keeps_past : (old mid new : List ℕ) → KeepsStart old mid → KeepsStart mid new → KeepsStart old new
keeps_past old mid new h k =
    let short : length old ≡ min (length old) (length mid) = sym (ap length h) ∙ length-take (length old) mid in
    sym (take-take (length old) (length mid) new (omega arith)) ∙ ap (λ (l : List ℕ). take (length old) l) k ∙ h

-- ---- parts

-- the parts of a rest are its first and those behind
pub parts_more : (number index count : ℕ) (rest : List ℕ) → 1 ≤ length rest → parts_from (part_count (length rest)) number index count rest
    ≡ Part number index count (take part_size rest) ∷ parts_from (part_count (length (drop part_size rest))) number (index + 1) count (drop part_size rest)
unfolding parts_from
parts_more number index count rest h =
    let less : part_count (length rest) ≡ suc (part_count (length (drop part_size rest))) =
    part_count_more (length rest) h ∙ ap (λ (n : ℕ). suc (part_count n)) (sym (length-drop part_size rest)) in
    ap (λ (left : ℕ). parts_from left number index count rest) less

-- a part of a rest
pub part_fits : (number index count : ℕ) (rest piece : List ℕ) → number < 2 ^ 32 → index < 2 ^ 32 → count < 2 ^ 32 → 1 ≤ length rest → piece ≡ take (min (length rest) part_size) rest
    → IsPart number index count piece
part_fits number index count rest piece n i c h e =
    let long : length piece ≡ min (min (length rest) part_size) (length rest) = ap length e ∙ length-take (min (length rest) part_size) rest in
    record { number_fits = n; index_fits = i; count_fits = c; low = omega arith; high = omega arith }

module _ (number count : ℕ) (start bytes : List ℕ) where
  -- what is written, and the parts that are left, are all parts behind the start
  abbrev pub HasParts : ℕ → List ℕ → List ℕ → Type 0
  HasParts index rest out =
      out ++ frames_bytes (parts_from (part_count (length rest)) number index count rest) ≡ start ++ frames_bytes (part_frames number bytes)

  -- none is written
  pub parts_begun : count ≡ part_count (length bytes) → HasParts 0 bytes start
  parts_begun e = ap (λ (n : ℕ). start ++ frames_bytes (parts_from (part_count (length bytes)) number 0 n bytes)) e

  -- one more is written
  pub parts_on : (index : ℕ) (rest out piece behind new : List ℕ) → HasParts index rest out → 1 ≤ length rest → piece ≡ take (min (length rest) part_size) rest → behind ≡ drop (min (length rest) part_size) rest
      → new ≡ out ++ frame_bytes (Part number index count piece) → HasParts (index + 1) behind new
  parts_on index rest out piece behind new h low p b e =
      let left = λ (l : List ℕ). frames_bytes (parts_from (part_count (length l)) number (index + 1) count l) in
      let same : piece ≡ take part_size rest = p ∙ take_within part_size rest in
      let other : behind ≡ drop part_size rest = b ∙ drop_within part_size rest in
      (λ i. e i ++ left (other i))
      ∙ append_assoc out (frame_bytes (Part number index count piece)) (left (drop part_size rest))
      ∙ ap (λ (l : List ℕ). out ++ (frame_bytes (Part number index count l) ++ left (drop part_size rest))) same
      ∙ ap (λ (frames : List Frame). out ++ frames_bytes frames) (sym (parts_more number index count rest low))
      ∙ h

  -- all are written
  pub parts_done : (index : ℕ) (rest out : List ℕ) → HasParts index rest out → part_count (length rest) ≡ 0 → out ≡ start ++ frames_bytes (part_frames number bytes)
  unfolding parts_from
  parts_done index rest out h none =
      sym (append-nil out) ∙ ap (λ (left : ℕ). out ++ frames_bytes (parts_from left number index count rest)) (sym none) ∙ h

-- ---- replies

-- one frame more where more than one is left
reply_count_more : (size : ℕ) → part_size < size → (size - 1) / part_size ≡ suc ((size - part_size - 1) / part_size)
reply_count_more size h = omega arith

replies_more : (rest : List ℕ) → part_size < length rest → reply_parts rest ≡ Reply (take part_size rest) true ∷ reply_parts (drop part_size rest)
unfolding replies_from
replies_more rest h =
    let less : (length rest - 1) / part_size ≡ suc ((length (drop part_size rest) - 1) / part_size) =
    reply_count_more (length rest) h ∙ ap (λ (n : ℕ). suc ((n - 1) / part_size)) (sym (length-drop part_size rest)) in
    ap (λ (left : ℕ). replies_from left rest) less

replies_last : (rest : List ℕ) → length rest ≤ part_size → 1 ≤ length rest → reply_parts rest ≡ Reply rest false ∷ []
unfolding replies_from
replies_last rest h low =
    let none : (length rest - 1) / part_size ≡ 0 = omega arith in
    ap (λ (left : ℕ). replies_from left rest) none

module _ (start text : List ℕ) where
  -- what is written, and the frames that are left, are all frames behind the start
  abbrev pub HasReplies : List ℕ → List ℕ → Type 0
  HasReplies rest out = out ++ frames_bytes (reply_parts rest) ≡ start ++ frames_bytes (reply_parts text)

  -- one more is written
  pub replies_on : (rest out piece behind new : List ℕ) → HasReplies rest out → part_size < length rest → piece ≡ take part_size rest → behind ≡ drop part_size rest
      → new ≡ out ++ frame_bytes (Reply piece true) → HasReplies behind new
  replies_on rest out piece behind new h more p b e =
      let left = λ (l : List ℕ). frames_bytes (reply_parts l) in
      (λ i. e i ++ left (b i))
      ∙ append_assoc out (frame_bytes (Reply piece true)) (left (drop part_size rest))
      ∙ ap (λ (l : List ℕ). out ++ (frame_bytes (Reply l true) ++ left (drop part_size rest))) p
      ∙ ap (λ (frames : List Frame). out ++ frames_bytes frames) (sym (replies_more rest more))
      ∙ h

  -- the last is written
  pub replies_done : (rest out new : List ℕ) → HasReplies rest out → length rest ≤ part_size → 1 ≤ length rest → new ≡ out ++ frame_bytes (Reply rest false) → new ≡ start ++ frames_bytes (reply_parts text)
  replies_done rest out new h last low e =
      e ∙ ap (λ (l : List ℕ). out ++ l) (sym (append-nil (frame_bytes (Reply rest false))))
      ∙ ap (λ (frames : List Frame). out ++ frames_bytes frames) (sym (replies_last rest last low))
      ∙ h
