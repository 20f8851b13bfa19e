-- How the frames of an input are cut off one after another.
use Rattle.std.proofs.Common.{◌≡◌, ℕ, ◌+◌, ◌<◌, ◌≤◌, List, [], ◌∷◌, ◌++◌, length, drop, refl, sym, ap, ◌∙◌, subst, append_assoc, arith}
use Rattle.std.proofs.lemmas.Grind.{flat_map-append}
use Rattle.std.proofs.lemmas.List.{length-append, append-nil}
use Rattle.std.specs.List.{AllByRecursion}
use Rattle.wire_frames.specs.declared.kinds.Frame.{Frame}
use Rattle.wire_frames.specs.Frames.{frame_bytes, frames_bytes, IsFrame, HasFrames}
use Rattle.wire_frames.specs.FrameReading.{IsFrameAt}
use Rattle.wire_frames.proofs.Heads.{length-frame}

-- these frames are cut off up to a place
pub record IsCutTo (input : List ℕ) (frames : List Frame) (end : ℕ) : Type 0 where
  pub found : HasFrames input frames (drop end input)
  pub size : end ≡ length (frames_bytes frames)
  pub within : end ≤ length input

-- none is
pub cut_none : (input : List ℕ) (frames : List Frame) → frames ≡ [] → IsCutTo input frames 0
cut_none input frames e =
    subst (λ (fs : List Frame). IsCutTo input fs 0) (sym e) (record { found = record { bytes = refl; each = tt }; size = refl; within = omega arith })

-- each, and one behind them
all_push : (frames : List Frame) (frame : Frame) → AllByRecursion IsFrame frames → IsFrame frame → AllByRecursion IsFrame (frames ++ frame ∷ [])
all_push [] frame a h = (h, tt)
all_push (first ∷ frames) frame a h = (a.0, all_push frames frame a.1 h)

-- one more is
pub cut_on : (input : List ℕ) (frames more : List Frame) (end next : ℕ) (frame : Frame) → IsCutTo input frames end → IsFrameAt input end next frame → more ≡ frames ++ frame ∷ [] → IsCutTo input more next
cut_on input frames more end next frame cut at e =
    let one : frames_bytes (frames ++ frame ∷ []) ≡ frames_bytes frames ++ frame_bytes frame =
    flat_map-append frame_bytes frames (frame ∷ []) ∙ ap (λ (l : List ℕ). frames_bytes frames ++ l) (append-nil (frame_bytes frame)) in
    let long : length (frames_bytes (frames ++ frame ∷ [])) ≡ length (frames_bytes frames) + length (frame_bytes frame) = ap length one ∙ length-append (frames_bytes frames) (frame_bytes frame) in
    let size = cut.size in
    let end_is = at.end_is in
    subst (λ (fs : List Frame). IsCutTo input fs next) (sym e) (record {
      found = record {
        bytes =
            cut.found.bytes ∙ ap (λ (l : List ℕ). frames_bytes frames ++ l) at.front ∙ sym (append_assoc (frames_bytes frames) (frame_bytes frame) (drop next input))
            ∙ ap (λ (l : List ℕ). l ++ drop next input) (sym one);
        each = all_push frames frame cut.found.each at.kept;
      };
      size = omega arith;
      within = at.within;
    })

-- the place grows
pub cut_further : (input : List ℕ) (end next : ℕ) (frame : Frame) → IsFrameAt input end next frame → (end < next) × (next ≤ length input)
cut_further input end next frame at =
    let five = length-frame frame in
    let end_is = at.end_is in
    (omega arith, at.within)
