-- Laws of steps that are kept as marks and pieces.
use Rattle.std.specs.Prelude.{◌≡◌, ℕ, ◌+◌, ◌≤◌, List, [], ◌∷◌, ◌++◌, length, take, drop, reverse}
use Rattle.std.proofs.Common.{refl, sym, ◌∙◌, ap, arith, append_assoc, length-drop}
use Rattle.std.proofs.lemmas.List.{drop-append-le, length-take-le, reverse-append, take-append-drop, take-append-le, take_at}
use Rattle.mld_io.specs.Disk.{written}
use Rattle.mld_io.specs.declared.banks.Side.{Side}
use Rattle.disk_model.specs.DeviceSteps.{DeviceStep}
use Rattle.disk_model.specs.DeviceSteps as step
use Rattle.disk_model.specs.declared.steps.Mark.{Mark}
use Rattle.disk_model.specs.declared.steps.Mark.TheVariants as mark
use Rattle.disk_model.specs.StepMarks.{steps_of_marks, pieces_size}

-- bytes behind the pieces don't matter
pub steps_front : (marks : List Mark) (bytes more : List ℕ) → pieces_size marks ≤ length bytes → steps_of_marks marks (bytes ++ more) ≡ steps_of_marks marks bytes
steps_front [] bytes more within = refl
steps_front (mark.Wrote side at size ∷ marks) bytes more within =
    let front : take size (bytes ++ more) ≡ take size bytes = take-append-le size bytes more (omega (arith, within)) in
    let rest : steps_of_marks marks (drop size (bytes ++ more)) ≡ steps_of_marks marks (drop size bytes) =
    ap (steps_of_marks marks) (drop-append-le size bytes more (omega (arith, within))) ∙ steps_front marks (drop size bytes) more (omega (arith, within, length-drop size bytes)) in
    ap (λ (l : List ℕ). step.Wrote side at l ∷ steps_of_marks marks (drop size (bytes ++ more))) front ∙ ap (λ (l : List DeviceStep). step.Wrote side at (take size bytes) ∷ l) rest
steps_front (mark.WroteThrough side at size ∷ marks) bytes more within =
    let front : take size (bytes ++ more) ≡ take size bytes = take-append-le size bytes more (omega (arith, within)) in
    let rest : steps_of_marks marks (drop size (bytes ++ more)) ≡ steps_of_marks marks (drop size bytes) =
    ap (steps_of_marks marks) (drop-append-le size bytes more (omega (arith, within))) ∙ steps_front marks (drop size bytes) more (omega (arith, within, length-drop size bytes)) in
    ap (λ (l : List ℕ). step.Wrote side at l ∷ step.Synced side ∷ steps_of_marks marks (drop size (bytes ++ more))) front ∙ ap (λ (l : List DeviceStep). step.Wrote side at (take size bytes) ∷ step.Synced side ∷ l) rest
steps_front (mark.Synced side ∷ marks) bytes more within = ap (λ (l : List DeviceStep). step.Synced side ∷ l) (steps_front marks bytes more within)
steps_front (mark.Cut leave ∷ marks) bytes more within = ap (λ (l : List DeviceStep). step.Cut leave ∷ l) (steps_front marks bytes more within)

-- marks, and then one more
pub steps_more : (marks : List Mark) (next : Mark) (bytes more : List ℕ) → pieces_size marks ≡ length bytes → steps_of_marks (marks ++ next ∷ []) (bytes ++ more) ≡ steps_of_marks marks bytes ++ steps_of_marks (next ∷ []) more
steps_more [] next [] more size_is = refl
steps_more [] next (byte ∷ bytes) more size_is = absurd (omega (arith, size_is))
steps_more (mark.Wrote side at size ∷ marks) next bytes more size_is =
    let front : take size (bytes ++ more) ≡ take size bytes = take-append-le size bytes more (omega (arith, size_is)) in
    let rest : steps_of_marks (marks ++ next ∷ []) (drop size (bytes ++ more)) ≡ steps_of_marks marks (drop size bytes) ++ steps_of_marks (next ∷ []) more =
    ap (steps_of_marks (marks ++ next ∷ [])) (drop-append-le size bytes more (omega (arith, size_is))) ∙ steps_more marks next (drop size bytes) more (omega (arith, size_is, length-drop size bytes)) in
    ap (λ (l : List ℕ). step.Wrote side at l ∷ steps_of_marks (marks ++ next ∷ []) (drop size (bytes ++ more))) front ∙ ap (λ (l : List DeviceStep). step.Wrote side at (take size bytes) ∷ l) rest
steps_more (mark.WroteThrough side at size ∷ marks) next bytes more size_is =
    let front : take size (bytes ++ more) ≡ take size bytes = take-append-le size bytes more (omega (arith, size_is)) in
    let rest : steps_of_marks (marks ++ next ∷ []) (drop size (bytes ++ more)) ≡ steps_of_marks marks (drop size bytes) ++ steps_of_marks (next ∷ []) more =
    ap (steps_of_marks (marks ++ next ∷ [])) (drop-append-le size bytes more (omega (arith, size_is))) ∙ steps_more marks next (drop size bytes) more (omega (arith, size_is, length-drop size bytes)) in
    ap (λ (l : List ℕ). step.Wrote side at l ∷ step.Synced side ∷ steps_of_marks (marks ++ next ∷ []) (drop size (bytes ++ more))) front ∙ ap (λ (l : List DeviceStep). step.Wrote side at (take size bytes) ∷ step.Synced side ∷ l) rest
steps_more (mark.Synced side ∷ marks) next bytes more size_is = ap (λ (l : List DeviceStep). step.Synced side ∷ l) (steps_more marks next bytes more size_is)
steps_more (mark.Cut leave ∷ marks) next bytes more size_is = ap (λ (l : List DeviceStep). step.Cut leave ∷ l) (steps_more marks next bytes more size_is)

-- how many bytes the pieces have with one mark more
pub size_more : (marks : List Mark) (next : Mark) → pieces_size (marks ++ next ∷ []) ≡ pieces_size marks + pieces_size (next ∷ [])
size_more [] next = omega arith
size_more (mark.Wrote side at size ∷ marks) next = omega (arith, size_more marks next)
size_more (mark.WroteThrough side at size ∷ marks) next = omega (arith, size_more marks next)
size_more (mark.Synced side ∷ marks) next = size_more marks next
size_more (mark.Cut leave ∷ marks) next = size_more marks next

-- marks, and then a sync
pub steps_synced : (marks : List Mark) (side : Side) (bytes : List ℕ) → steps_of_marks (marks ++ mark.Synced side ∷ []) bytes ≡ steps_of_marks marks bytes ++ step.Synced side ∷ []
steps_synced [] side bytes = refl
steps_synced (mark.Wrote on at size ∷ marks) side bytes = ap (λ (l : List DeviceStep). step.Wrote on at (take size bytes) ∷ l) (steps_synced marks side (drop size bytes))
steps_synced (mark.WroteThrough on at size ∷ marks) side bytes = ap (λ (l : List DeviceStep). step.Wrote on at (take size bytes) ∷ step.Synced on ∷ l) (steps_synced marks side (drop size bytes))
steps_synced (mark.Synced on ∷ marks) side bytes = ap (λ (l : List DeviceStep). step.Synced on ∷ l) (steps_synced marks side bytes)
steps_synced (mark.Cut leave ∷ marks) side bytes = ap (λ (l : List DeviceStep). step.Cut leave ∷ l) (steps_synced marks side bytes)

-- marks, of which the last stands for a sync more
pub steps_through : (marks : List Mark) (last both : Mark) (side : Side) (bytes : List ℕ)
    → ((more : List ℕ) → steps_of_marks (both ∷ []) more ≡ steps_of_marks (last ∷ []) more ++ step.Synced side ∷ [])
    → steps_of_marks (marks ++ both ∷ []) bytes ≡ steps_of_marks (marks ++ last ∷ []) bytes ++ step.Synced side ∷ []
steps_through [] last both side bytes is = is bytes
steps_through (mark.Wrote on at size ∷ marks) last both side bytes is = ap (λ (l : List DeviceStep). step.Wrote on at (take size bytes) ∷ l) (steps_through marks last both side (drop size bytes) is)
steps_through (mark.WroteThrough on at size ∷ marks) last both side bytes is = ap (λ (l : List DeviceStep). step.Wrote on at (take size bytes) ∷ step.Synced on ∷ l) (steps_through marks last both side (drop size bytes) is)
steps_through (mark.Synced on ∷ marks) last both side bytes is = ap (λ (l : List DeviceStep). step.Synced on ∷ l) (steps_through marks last both side bytes is)
steps_through (mark.Cut leave ∷ marks) last both side bytes is = ap (λ (l : List DeviceStep). step.Cut leave ∷ l) (steps_through marks last both side bytes is)

-- the front that is used is as long as the pieces
used_front : (used : ℕ) (bytes : List ℕ) → used ≤ length bytes → length (take used bytes) ≡ used
used_front used bytes within = length-take-le used bytes within

-- steps with one more that has no piece, the newest first
pub newest_more : (marks : List Mark) (next : Mark) (newest : DeviceStep) (used : ℕ) (bytes : List ℕ) → pieces_size marks ≡ used → used ≤ length bytes
    → ((more : List ℕ) → steps_of_marks (next ∷ []) more ≡ newest ∷ [])
    → reverse (steps_of_marks (marks ++ next ∷ []) bytes) ≡ newest ∷ reverse (steps_of_marks marks bytes)
newest_more marks next newest used bytes size_is within is =
    let front = take used bytes in
    let behind = drop used bytes in
    let long : pieces_size marks ≡ length front = size_is ∙ sym (used_front used bytes within) in
    let split : front ++ behind ≡ bytes = take-append-drop used bytes in
    let all : steps_of_marks (marks ++ next ∷ []) bytes ≡ steps_of_marks marks bytes ++ newest ∷ [] =
    ap (steps_of_marks (marks ++ next ∷ [])) (sym split) ∙ steps_more marks next front behind long
    ∙ ap (λ (l : List DeviceStep). steps_of_marks marks front ++ l) (is behind)
    ∙ ap (λ (l : List DeviceStep). l ++ newest ∷ []) (sym (steps_front marks front behind (omega (arith, long))) ∙ ap (steps_of_marks marks) split) in
    ap (λ (l : List DeviceStep). reverse l) all ∙ reverse-append (steps_of_marks marks bytes) (newest ∷ [])

-- steps with a write more
pub newest_wrote : (marks : List Mark) (side : Side) (at used : ℕ) (piece bytes : List ℕ) → pieces_size marks ≡ used → used + length piece ≤ length bytes
    → reverse (steps_of_marks (marks ++ mark.Wrote side at (length piece) ∷ []) (written used piece bytes)) ≡ step.Wrote side at piece ∷ reverse (steps_of_marks marks bytes)
newest_wrote marks side at used piece bytes size_is within =
    let next = mark.Wrote side at (length piece) in
    let front = take used bytes in
    let behind = drop (used + length piece) bytes in
    let long : pieces_size marks ≡ length front = size_is ∙ sym (used_front used bytes (omega arith)) in
    let kept : steps_of_marks marks front ≡ steps_of_marks marks bytes =
    sym (steps_front marks front (drop used bytes) (omega (arith, long))) ∙ ap (steps_of_marks marks) (take-append-drop used bytes) in
    let all : steps_of_marks (marks ++ next ∷ []) (written used piece bytes) ≡ steps_of_marks marks bytes ++ step.Wrote side at piece ∷ [] =
    ap (steps_of_marks (marks ++ next ∷ [])) (append_assoc front piece behind) ∙ steps_more marks next front (piece ++ behind) long
    ∙ ap (λ (l : List ℕ). steps_of_marks marks front ++ step.Wrote side at l ∷ []) (take_at piece behind (length piece) refl)
    ∙ ap (λ (l : List DeviceStep). l ++ step.Wrote side at piece ∷ []) kept in
    ap (λ (l : List DeviceStep). reverse l) all ∙ reverse-append (steps_of_marks marks bytes) (step.Wrote side at piece ∷ [])
