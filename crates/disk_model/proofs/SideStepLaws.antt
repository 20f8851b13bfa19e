-- Laws of the steps: what is left after them is what their log says that a crash may leave.
use Rattle.std.specs.Prelude.{◌≡◌, ℕ, ◌+◌, ◌-◌, ◌≤◌, false, List, [], ◌∷◌, ◌++◌, length, take, drop}
use Rattle.std.proofs.Common.{refl, sym, ◌∙◌, ap, subst, arith, length-append, length-drop}
use Rattle.std.proofs.lemmas.List.{length-take-le}
use Rattle.std.proofs.lemmas.Bool.{false≢true}
use Rattle.mld_io.specs.declared.banks.Side.{Side}
use Rattle.mld_io.specs.declared.banks.Side.TheVariants.{A, B}
use Rattle.mld_io.specs.declared.banks.Leave.{Leave}
use Rattle.mld_io.specs.declared.banks.Leave.TheVariants as leave
use Rattle.mld_io.specs.Disk.{Sides, Torn, bytes_of, with_bytes, written, seen, MayLeave, IsSettledOn, IsSettled}
use Rattle.mld_io.proofs.DiskLaws.{Torn-unchanged, Torn-written, Torn-done, LeftAfter-mix, bytes_of-with_bytes, bytes_of-with_bytes_other, IsSettledOn-wrote_other, IsSettledOn-sync, IsSettled-both}
use Rattle.disk_model.specs.DeviceSteps.{DeviceStep}
use Rattle.disk_model.specs.DeviceSteps as step
use Rattle.disk_model.specs.SideSteps.{torn_piece, write_left, left_by, unsynced, AreInOrder, calls_of_steps, log_of}
use Rattle.disk_model.specs.Pieces.{length-torn_piece, torn_piece_unset}

-- bytes that are put where they were
pub with_bytes_same : (side : Side) (sides : Sides) → with_bytes side (bytes_of side sides) sides ≡ sides
with_bytes_same A sides = refl
with_bytes_same B sides = refl

-- what the log of these steps makes is what is left where all writes are kept
pub seen_of_steps : (first : Sides) (steps : List DeviceStep) → seen (log_of first steps) ≡ left_by leave.Keep first steps
seen_of_steps first [] = refl
seen_of_steps first (step.Wrote side at piece ∷ steps) = ap (λ (s : Sides). with_bytes side (written at piece (bytes_of side s)) s) (seen_of_steps first steps)
seen_of_steps first (step.Synced side ∷ steps) = seen_of_steps first steps ∙ sym (with_bytes_same side (left_by leave.Keep first steps))
seen_of_steps first (step.Cut how ∷ steps) = refl

-- how long a written list is
length-written : (at : ℕ) (piece bytes : List ℕ) → at ≤ length bytes → length (written at piece bytes) ≡ (at + length piece) + (length bytes - (at + length piece))
length-written at piece bytes within =
    let front : length (take at bytes) ≡ at = length-take-le at bytes within in
    omega (arith, length-append (take at bytes ++ piece) (drop (at + length piece) bytes), length-append (take at bytes) piece, length-drop (at + length piece) bytes)

-- a torn write is as long as a whole one
length_torn : (at : ℕ) (piece x y : List ℕ) → at ≤ length y → length x ≡ length y → length (written at (torn_piece piece) x) ≡ length (written at piece y)
length_torn at piece x y within same =
    omega (arith, length-written at (torn_piece piece) x (omega arith), length-written at piece y within, length-torn_piece piece)

-- a side is as long where its unsynced writes are torn as where they are kept
pub same_length : (side : Side) (first : Sides) (steps : List DeviceStep) → AreInOrder first steps → length (bytes_of side (left_by leave.Torn first steps)) ≡ length (bytes_of side (left_by leave.Keep first steps))
same_length side first [] order = refl
same_length A first (step.Wrote A at piece ∷ steps) order = length_torn at piece _ _ order.0 (same_length A first steps order.1)
same_length A first (step.Wrote B at piece ∷ steps) order = same_length A first steps order.1
same_length B first (step.Wrote A at piece ∷ steps) order = same_length B first steps order.1
same_length B first (step.Wrote B at piece ∷ steps) order = length_torn at piece _ _ order.0 (same_length B first steps order.1)
same_length A first (step.Synced A ∷ steps) order = refl
same_length A first (step.Synced B ∷ steps) order = same_length A first steps order
same_length B first (step.Synced A ∷ steps) order = same_length B first steps order
same_length B first (step.Synced B ∷ steps) order = refl
same_length side first (step.Cut how ∷ steps) order = refl

-- what a crash leaves of one write is that write, torn
pub Torn-write_left : (how : Leave) (side : Side) (at : ℕ) (piece : List ℕ) (first : Sides) (steps : List DeviceStep) → at ≤ length (bytes_of side (left_by leave.Keep first steps)) → AreInOrder first steps
    → Torn at piece (bytes_of side (left_by how first steps)) (write_left how at piece (bytes_of side (left_by how first steps)))
Torn-write_left leave.Lose side at piece first steps within order = Torn-unchanged at piece (bytes_of side (left_by leave.Lose first steps))
Torn-write_left leave.Keep side at piece first steps within order = Torn-done at piece (bytes_of side (left_by leave.Keep first steps)) within
Torn-write_left leave.Torn side at piece first steps within order =
    Torn-written at piece (torn_piece piece) (bytes_of side (left_by leave.Torn first steps)) (omega (arith, same_length side first steps order)) (length-torn_piece piece) (torn_piece_unset piece)

-- what is left after the steps is what a crash may leave after their calls
pub may_leave_of_steps : (how : Leave) (first : Sides) (steps : List DeviceStep) → AreInOrder first steps → MayLeave (log_of first steps) (left_by how first steps)
may_leave_of_steps how first [] order = refl
may_leave_of_steps how first (step.Wrote side at piece ∷ steps) order = (
  left_by how first steps,
  may_leave_of_steps how first steps order.1,
  record {
    torn = subst (λ (now : List ℕ). Torn at piece (bytes_of side (left_by how first steps)) now) (sym (bytes_of-with_bytes side (write_left how at piece (bytes_of side (left_by how first steps))) (left_by how first steps)))
        (Torn-write_left how side at piece first steps order.0 order.1);
    other = bytes_of-with_bytes_other side (write_left how at piece (bytes_of side (left_by how first steps))) (left_by how first steps);
  },
)
may_leave_of_steps how first (step.Synced A ∷ steps) order = (
  LeftAfter-mix first (calls_of_steps first steps) (left_by leave.Keep first steps) (left_by how first steps) (may_leave_of_steps leave.Keep first steps order) (may_leave_of_steps how first steps order),
  sym (ap (bytes_of A) (seen_of_steps first steps)),
)
may_leave_of_steps how first (step.Synced B ∷ steps) order = (
  LeftAfter-mix first (calls_of_steps first steps) (left_by how first steps) (left_by leave.Keep first steps) (may_leave_of_steps how first steps order) (may_leave_of_steps leave.Keep first steps order),
  sym (ap (bytes_of B) (seen_of_steps first steps)),
)
may_leave_of_steps how first (step.Cut other ∷ steps) order = refl

-- a side with no unsynced write is settled
pub settled_of_steps : (side : Side) (first : Sides) (steps : List DeviceStep) → unsynced side steps ≡ false → IsSettledOn side (log_of first steps)
settled_of_steps side first [] none = λ image left. ap (bytes_of side) left
settled_of_steps A first (step.Wrote A at piece ∷ steps) none = absurd (false≢true (sym none))
settled_of_steps A first (step.Wrote B at piece ∷ steps) none = IsSettledOn-wrote_other B at piece (log_of first steps) (settled_of_steps A first steps none)
settled_of_steps B first (step.Wrote A at piece ∷ steps) none = IsSettledOn-wrote_other A at piece (log_of first steps) (settled_of_steps B first steps none)
settled_of_steps B first (step.Wrote B at piece ∷ steps) none = absurd (false≢true (sym none))
settled_of_steps A first (step.Synced A ∷ steps) none = λ image left. left.1
settled_of_steps A first (step.Synced B ∷ steps) none = IsSettledOn-sync A B (log_of first steps) (settled_of_steps A first steps none)
settled_of_steps B first (step.Synced A ∷ steps) none = IsSettledOn-sync B A (log_of first steps) (settled_of_steps B first steps none)
settled_of_steps B first (step.Synced B ∷ steps) none = λ image left. left.1
settled_of_steps side first (step.Cut how ∷ steps) none = λ image left. ap (bytes_of side) left

-- where no side has one, both are
pub settled_of_both : (first : Sides) (steps : List DeviceStep) → unsynced A steps ≡ false → unsynced B steps ≡ false → IsSettled (log_of first steps)
settled_of_both first steps a b = IsSettled-both A (log_of first steps) (settled_of_steps A first steps a) (settled_of_steps B first steps b)
