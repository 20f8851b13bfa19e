-- Laws of what a crash leaves.
use Rattle.std.specs.Prelude.{◌≡◌, ◌≢◌, ◌↔◌, ℕ, ◌+◌, ◌-◌, ◌<◌, ◌≤◌, List, [], ◌∷◌, ◌++◌, length, take, drop, slice_get, Option, Some}
use Rattle.std.proofs.Common.{refl, sym, ◌∙◌, ap, arith, inl, inr, subst, append_assoc, add-zero, get_or, length-append, length-drop}
use Rattle.std.proofs.Math.Seq.{drop-append_seam}
use Rattle.std.proofs.lemmas.List.{length-take-le, take_at, get_or-append-add, get_or_append_left}
use Rattle.std.proofs.lemmas.Option.{get_or_from_slice_get}
use Rattle.mld_io.specs.declared.banks.Side.{Side}
use Rattle.mld_io.specs.declared.banks.Side.TheVariants.{A, B}
use Rattle.mld_io.specs.Disk.{Call, Sides, bytes_of, other_side, with_bytes, written, Torn, TornOn, Log, grown, grown_by, seen, LeftAfter, MayLeave, LeavesOnly, IsSettledOn, IsSettled, Writes, Syncs, Revives, MightHaveLeft, AtEachMoment, LeavesMeanwhile}
use Rattle.mld_io.specs.Disk.Call.{Wrote, Broke, Synced, Cut}

-- a write that is cut short may have done nothing
pub Torn-unchanged : (at : ℕ) (piece bytes : List ℕ) → Torn at piece bytes bytes
Torn-unchanged at piece bytes = record {
  before = refl;
  after = refl;
  no_shorter = omega arith;
  no_longer = omega arith;
  unset = λ e h. h;
}

-- and nothing on either side
pub TornOn-unchanged : (side : Side) (at : ℕ) (piece : List ℕ) (sides : Sides) → TornOn side at piece sides sides
TornOn-unchanged side at piece sides = record { torn = Torn-unchanged at piece (bytes_of side sides); other = refl }

-- the bytes of a side that were put there
pub bytes_of-with_bytes : (side : Side) (bytes : List ℕ) (sides : Sides) → bytes_of side (with_bytes side bytes sides) ≡ bytes
bytes_of-with_bytes A bytes sides = refl
bytes_of-with_bytes B bytes sides = refl

-- and of the other side
pub bytes_of-with_bytes_other : (side : Side) (bytes : List ℕ) (sides : Sides) → bytes_of (other_side side) (with_bytes side bytes sides) ≡ bytes_of (other_side side) sides
bytes_of-with_bytes_other A bytes sides = refl
bytes_of-with_bytes_other B bytes sides = refl

-- sides are their bytes
pub sides_from_bytes : (side : Side) (x y : Sides) → bytes_of side x ≡ bytes_of side y → bytes_of (other_side side) x ≡ bytes_of (other_side side) y → x ≡ y
sides_from_bytes A x y on off = λ i. record { a = on i; b = off i }
sides_from_bytes B x y on off = λ i. record { a = off i; b = on i }

-- what a crash may leave of one side doesn't depend on what it leaves of the other: two outcomes mix
pub LeftAfter-mix : (first : Sides) (calls : List Call) (x y : Sides) → LeftAfter first calls x → LeftAfter first calls y → LeftAfter first calls (record { a = x.a; b = y.b })
LeftAfter-mix first [] x y left_x left_y = λ i. record { a = (left_x i).a; b = (left_y i).b }
LeftAfter-mix first (Wrote A at piece ∷ calls) x y left_x left_y =
    (record { a = left_x.0.a; b = left_y.0.b }, LeftAfter-mix first calls left_x.0 left_y.0 left_x.1 left_y.1, record { torn = left_x.2.torn; other = left_y.2.other })
LeftAfter-mix first (Wrote B at piece ∷ calls) x y left_x left_y =
    (record { a = left_x.0.a; b = left_y.0.b }, LeftAfter-mix first calls left_x.0 left_y.0 left_x.1 left_y.1, record { torn = left_y.2.torn; other = left_x.2.other })
LeftAfter-mix first (Broke A at piece now ∷ calls) x y left_x left_y =
    (record { a = left_x.0.a; b = left_y.0.b }, LeftAfter-mix first calls left_x.0 left_y.0 left_x.1 left_y.1, record { torn = left_x.2.torn; other = left_y.2.other })
LeftAfter-mix first (Broke B at piece now ∷ calls) x y left_x left_y =
    (record { a = left_x.0.a; b = left_y.0.b }, LeftAfter-mix first calls left_x.0 left_y.0 left_x.1 left_y.1, record { torn = left_y.2.torn; other = left_x.2.other })
LeftAfter-mix first (Synced A ∷ calls) x y left_x left_y = (LeftAfter-mix first calls x y left_x.0 left_y.0, left_x.1)
LeftAfter-mix first (Synced B ∷ calls) x y left_x left_y = (LeftAfter-mix first calls x y left_x.0 left_y.0, left_y.1)
LeftAfter-mix first (Cut sides ∷ calls) x y left_x left_y = λ i. record { a = (left_x i).a; b = (left_y i).b }

-- a sync settles its side
pub IsSettledOn-synced : (side : Side) (log : Log) (now : Option Log) → Syncs side log now
    → (next : Log) × (now ≡ Some next) × (seen next ≡ seen log) × IsSettledOn side next × ((image : Sides) → MayLeave next image → MayLeave log image)
IsSettledOn-synced side log now (inl e) = (grown (Synced side) log, e, refl, λ image left. left.1, λ image left. left.0)
IsSettledOn-synced side log now (inr h) = (log, h.0, refl, h.1, λ image left. left)

-- a side that is settled stays so while the other is written
pub IsSettledOn-wrote_other : (side : Side) (at : ℕ) (piece : List ℕ) (log : Log) → IsSettledOn (other_side side) log → IsSettledOn (other_side side) (grown (Wrote side at piece) log)
IsSettledOn-wrote_other side at piece log settled = λ image left.
    left.2.other ∙ settled left.0 left.1 ∙ sym (bytes_of-with_bytes_other side (written at piece (bytes_of side (seen log))) (seen log))

-- also where the write failed
pub IsSettledOn-broke_other : (side : Side) (at : ℕ) (piece now : List ℕ) (log : Log) → IsSettledOn (other_side side) log → IsSettledOn (other_side side) (grown (Broke side at piece now) log)
IsSettledOn-broke_other side at piece now log settled = λ image left.
    left.2.other ∙ settled left.0 left.1 ∙ sym (bytes_of-with_bytes_other side now (seen log))

-- and while any side is synced
pub IsSettledOn-sync : (side synced : Side) (log : Log) → IsSettledOn side log → IsSettledOn side (grown (Synced synced) log)
IsSettledOn-sync side synced log settled = λ image left. settled image left.0

-- where each side is settled, both are
pub IsSettled-both : (side : Side) (log : Log) → IsSettledOn side log → IsSettledOn (other_side side) log → IsSettled log
IsSettled-both side log on off = λ image left. sides_from_bytes side image (seen log) (on image left) (off image left)

-- what a sync leaves settled stays so through the sync of the other side, so two syncs settle both
pub IsSettled-synced : (side : Side) (log mid : Log) (now : Option Log) → Syncs side log (Some mid) → Syncs (other_side side) mid now → (next : Log) × (now ≡ Some next) × (seen next ≡ seen log) × IsSettled next
IsSettled-synced side log mid now first second =
    let one = IsSettledOn-synced side log (Some mid) first in
    let is : one.0 ≡ mid = cc (one.1) in
    let on : IsSettledOn side mid = subst (λ (l : Log). IsSettledOn side l) is one.3 in
    let same : seen mid ≡ seen log = sym (ap seen is) ∙ one.2 in
    synced_other second on same where
      synced_other : Syncs (other_side side) mid now → IsSettledOn side mid → seen mid ≡ seen log → (next : Log) × (now ≡ Some next) × (seen next ≡ seen log) × IsSettled next
      synced_other (inl e) on same = (grown (Synced (other_side side)) mid, e, same, IsSettled-both side (grown (Synced (other_side side)) mid) (IsSettledOn-sync side (other_side side) mid on) (λ image left. left.1))
      synced_other (inr h) on same = (mid, h.0, same, IsSettled-both side mid on h.1)

-- where both are settled, a crash after one write leaves that write torn, and nothing else changed
pub MayLeave-wrote_settled : (side : Side) (at : ℕ) (piece : List ℕ) (log : Log) → IsSettled log
    → LeavesOnly (grown (Wrote side at piece) log) (λ image. TornOn side at piece (seen log) image)
MayLeave-wrote_settled side at piece log settled = λ image left. subst (λ (old : Sides). TornOn side at piece old image) (settled left.0 left.1) left.2

-- also where it failed
pub MayLeave-broke_settled : (side : Side) (at : ℕ) (piece now : List ℕ) (log : Log) → IsSettled log
    → LeavesOnly (grown (Broke side at piece now) log) (λ image. TornOn side at piece (seen log) image)
MayLeave-broke_settled side at piece now log settled = λ image left. subst (λ (old : Sides). TornOn side at piece old image) (settled left.0 left.1) left.2

-- a revived device is settled on what the crash left
pub IsSettled-revived : (log : Log) (now : Option Log) (revived : Revives log now) → (next : Log) × (now ≡ Some next) × (seen next ≡ revived.image) × IsSettled next
IsSettled-revived log now revived = elim (revived.now_is) [
  | inl e ↦ (grown (Cut revived.image) log, e, refl, λ image left. left)
  | inr h ↦ (log, h.0, sym (h.1 revived.image revived.left), h.1)
]

-- one call more: a write, whatever it answers, where each moment since the old log leaves P
pub LeavesMeanwhile-write : (old : Log) (added : List Call) (P : List Call → Sides → Type 0) (side : Side) (at : ℕ) (piece : List ℕ) (now : Option Log) → AtEachMoment old added P
    → Writes side at piece (grown_by added old) now
    → ((before image : Sides) → MayLeave (grown_by added old) before → TornOn side at piece before image → P (Wrote side at piece ∷ added) image)
    → ((bytes : List ℕ) (before image : Sides) → MayLeave (grown_by added old) before → TornOn side at piece before image → P (Broke side at piece bytes ∷ added) image)
    → LeavesMeanwhile old now P
LeavesMeanwhile-write old added P side at piece now each (inl e) wrote broke = record { added = added; now_is = e; each = each }
LeavesMeanwhile-write old added P side at piece now each (inr (inl e)) wrote broke = record {
  added = Wrote side at piece ∷ added;
  now_is = e;
  each = (each, λ image left. wrote left.0 image left.1 left.2);
}
LeavesMeanwhile-write old added P side at piece now each (inr (inr h)) wrote broke = record {
  added = Broke side at piece h.0 ∷ added;
  now_is = h.2;
  each = (each, λ image left. broke h.0 left.0 image left.1 left.2);
}

-- one call more: a sync that was done
pub LeavesMeanwhile-sync : (old : Log) (added : List Call) (P : List Call → Sides → Type 0) (side : Side) (now : Option Log) → AtEachMoment old added P → Syncs side (grown_by added old) now
    → ((image : Sides) → MayLeave (grown_by added old) image → bytes_of side image ≡ bytes_of side (seen (grown_by added old)) → P (Synced side ∷ added) image)
    → LeavesMeanwhile old now P
LeavesMeanwhile-sync old added P side now each (inl e) synced = record {
  added = Synced side ∷ added;
  now_is = e;
  each = (each, λ image left. synced image left.0 left.1);
}
LeavesMeanwhile-sync old added P side now each (inr h) synced = record { added = added; now_is = h.0; each = each }

-- no call more: a call that read, or a sync that failed
pub LeavesMeanwhile-kept : (old : Log) (added : List Call) (P : List Call → Sides → Type 0) (before now : Option Log) → AtEachMoment old added P → before ≡ Some (grown_by added old) → now ≡ before → LeavesMeanwhile old now P
LeavesMeanwhile-kept old added P before now each is kept = record { added = added; now_is = kept ∙ is; each = each }

-- what holds at each moment holds at the last one
pub AtEachMoment-last : (old : Log) (added : List Call) (P : List Call → Sides → Type 0) → AtEachMoment old added P → LeavesOnly (grown_by added old) (P added)
AtEachMoment-last old [] P each = each
AtEachMoment-last old (call ∷ added) P each = each.1

-- a weaker fact holds at each moment too
pub AtEachMoment-weaken : (old : Log) (added : List Call) (P Q : List Call → Sides → Type 0) → ((calls : List Call) (image : Sides) → P calls image → Q calls image) → AtEachMoment old added P → AtEachMoment old added Q
AtEachMoment-weaken old [] P Q weaker each = λ image left. weaker [] image (each image left)
AtEachMoment-weaken old (call ∷ added) P Q weaker each =
    (AtEachMoment-weaken old added P Q weaker each.0, λ image left. weaker (call ∷ added) image (each.1 image left))

-- the moments of one stretch of calls, and then those of the next
pub AtEachMoment-append : (old : Log) (more added : List Call) (P : List Call → Sides → Type 0) → AtEachMoment old added P
    → AtEachMoment (grown_by added old) more (λ calls image. P (calls ++ added) image) → AtEachMoment old (more ++ added) P
AtEachMoment-append old [] added P first second = first
AtEachMoment-append old (call ∷ more) added P first second = (
  AtEachMoment-append old more added P first second.0,
  λ image left.
      second.1 image (subst (λ (calls : List Call). LeftAfter old.first (call ∷ calls) image) (append_assoc more added old.calls) left),
)

-- two stretches of calls, one after the other
pub LeavesMeanwhile-then : (old : Log) (added : List Call) (P : List Call → Sides → Type 0) (now : Option Log) → AtEachMoment old added P
    → LeavesMeanwhile (grown_by added old) now (λ calls image. P (calls ++ added) image) → LeavesMeanwhile old now P
LeavesMeanwhile-then old added P now first second = record {
  added = second.added ++ added;
  now_is = second.now_is ∙ ap (λ (calls : List Call). Some (record { first = old.first; calls = calls })) (sym (append_assoc second.added added old.calls));
  each = AtEachMoment-append old second.added added P first second.each;
}

-- what holds of each moment is what holds of all that a crash since then might have left
pub each_might_have_left : (old : Log) (added : List Call) (P : Sides → Type 0) → AtEachMoment old added (λ calls image. P image) ↔ ((image : Sides) → MightHaveLeft old added image → P image)
each_might_have_left old added P = (from_each added, to_each added) where
  from_each : (added' : List Call) → AtEachMoment old added' (λ calls image. P image) → (image : Sides) → MightHaveLeft old added' image → P image
  from_each [] each image left = each image left
  from_each (call ∷ more) each image (inl left) = each.1 image left
  from_each (call ∷ more) each image (inr left) = from_each more each.0 image left

  to_each : (added' : List Call) → ((image : Sides) → MightHaveLeft old added' image → P image) → AtEachMoment old added' (λ calls image. P image)
  to_each [] all = all
  to_each (call ∷ more) all = (to_each more (λ image left. all image (inr left)), λ image left. all image (inl left))

-- a mark that no crash would leave set stays so while it is written as not set
pub closing_gate : (side : Side) (at : ℕ) (log : Log) → LeavesOnly log (λ image. slice_get (bytes_of side image) at ≢ Some 1)
    → LeavesOnly (grown (Wrote side at (0 ∷ [])) log) (λ image. slice_get (bytes_of side image) at ≢ Some 1)
closing_gate side at log unset = λ image left is_set. unset left.0 left.1 (left.2.torn.unset refl is_set)

-- a write that left other bytes of the same length in its range, as all of it or a part of it, where it doesn't set a mark
pub Torn-written : (at : ℕ) (piece other old : List ℕ) → at ≤ length old → length other ≡ length piece → (piece ≡ 0 ∷ [] → get_or other 0 0 ≢ 1) → Torn at piece old (written at other old)
Torn-written at piece other old within same unset =
    let rest = drop (at + length other) old in
    let front : length (take at old) ≡ at = length-take-le at old within in
    let both : length (take at old ++ other) ≡ at + length piece = omega (arith, length-append (take at old) other) in
    let all : length (written at other old) ≡ (at + length piece) + length rest = omega (arith, length-append (take at old ++ other) rest) in
    let long : length rest ≡ length old - (at + length other) = length-drop (at + length other) old in
    record {
      before = ap (take at) (append_assoc (take at old) other rest) ∙ take_at (take at old) (other ++ rest) at front;
      after = ap (λ k. drop k (written at other old)) (sym both) ∙ drop-append_seam (take at old ++ other) rest ∙ ap (λ k. drop (at + k) old) same;
      no_shorter = omega arith;
      no_longer = omega arith;
      unset = λ e is_set.
          let some : 0 < length other = omega (arith, ap length e) in
          let there : get_or (written at other old) at 0 ≡ get_or other 0 0 =
          ap (λ l. get_or l at 0) (append_assoc (take at old) other rest) ∙ ap (λ k. get_or (take at old ++ (other ++ rest)) k 0) (sym (add-zero (length (take at old)) ∙ front))
          ∙ get_or-append-add (take at old) (other ++ rest) 0 0 ∙ get_or_append_left other rest 0 0 some in
          absurd (unset e (sym there ∙ get_or_from_slice_get (written at other old) at 1 0 is_set));
    }

-- a write that is done is such a one
pub Torn-done : (at : ℕ) (piece old : List ℕ) → at ≤ length old → Torn at piece old (written at piece old)
Torn-done at piece old within = Torn-written at piece piece old within refl (λ e is_set. absurd (omega (arith, ap (λ (l : List ℕ). get_or l 0 0) e, is_set)))
