-- Laws of pieces that are written on a settled device and synced.
use Rattle.std.specs.Prelude.{◌≡◌, ◌≢◌, ◌⊎◌, ℕ, zero, suc, ◌+◌, ◌<◌, ◌≤◌, get_or, List, [], ◌∷◌, ◌++◌, length, take, drop, slice_get, Option, Some, None, Result, Ok, Err, OnOk, IsOk, IsErrOf, Bool, true, false}
use Rattle.std.proofs.Common.{refl, sym, ◌∙◌, ap, arith, inl, inr, subst, append_assoc}
use Rattle.std.proofs.lemmas.List.{take-take, drop-drop, length-take-le, drop_at}
use Rattle.mld_io.specs.declared.banks.Side.{Side}
use Rattle.mld_io.specs.declared.banks.Side.TheVariants.{A, B}
use Rattle.mld_io.specs.declared.faults.IoFault.{IoFault}
use Rattle.mld_io.specs.declared.faults.IoFault.TheVariants.{Failed, NoMemory}
use Rattle.mld_io.specs.Disk.{Call, Sides, bytes_of, other_side, with_bytes, written, Torn, TornOn, Log, grown, grown_by, seen, LeavesOnly, IsSettled, Writes, Syncs, LeavesMeanwhile}
use Rattle.mld_io.specs.Disk.Call.{Wrote, Broke, Synced}
use Rattle.mld_io.proofs.DiskLaws.{bytes_of-with_bytes, bytes_of-with_bytes_other, IsSettledOn-synced, IsSettledOn-wrote_other, IsSettled-both, MayLeave-wrote_settled, LeavesMeanwhile-write, LeavesMeanwhile-sync, LeavesMeanwhile-then, AtEachMoment-weaken, Torn-done}
use Rattle.mld_io.specs.Arm.{Arm, Unarmed, Armed, Caught, LowersBy}
use Rattle.journal_store.specs.Crashes.{HasOpened, IsIssued, Allows, append_gate}
use Rattle.journal_store.specs.Device.{IsAppending, appended, HasBytes, IsFilling, filled}

-- calls that were done are calls that the arm let be done
pub lets_done : (n : ℕ) (before now : Arm) → LowersBy n before now → Allows n before
lets_done n Unarmed now h = tt
lets_done n (Armed number leave) now h = h.0
lets_done n Caught now h = h.0

-- a piece that is written on a settled device and synced leaves it settled
pub piece_settles : (side : Side) (at : ℕ) (piece : List ℕ) (log : Log) (now : Option Log) → IsSettled log → Syncs side (grown (Wrote side at piece) log) now
    → HasBytes side (written at piece (bytes_of side (seen log))) log now
piece_settles side at piece log now settled synced =
    let wrote : Log = grown (Wrote side at piece) log in
    let one = IsSettledOn-synced side wrote now synced in
    let off = IsSettledOn-wrote_other side at piece log (λ image left. ap (bytes_of (other_side side)) (settled image left)) in
    record {
      log = one.0;
      now_is = one.1;
      settled = IsSettled-both side one.0 one.3 (λ image left. off image (one.4 image left) ∙ ap (bytes_of (other_side side)) (sym one.2));
      seen_is = one.2;
    }

-- the moments of a piece that is written on a settled device and synced
pub moments_of_piece : (side : Side) (at : ℕ) (piece : List ℕ) (log : Log) (P : List Call → Sides → Type 0) (now : Option Log) → IsSettled log
    → ((image : Sides) → image ≡ seen log → P [] image)
    → ((image : Sides) → TornOn side at piece (seen log) image → P (Wrote side at piece ∷ []) image)
    → ((image : Sides) → TornOn side at piece (seen log) image → P (Synced side ∷ Wrote side at piece ∷ []) image)
    → Syncs side (grown (Wrote side at piece) log) now
    → LeavesMeanwhile log now P
moments_of_piece side at piece log P now settled begun wrote synced done =
    let torn = MayLeave-wrote_settled side at piece log settled in
    LeavesMeanwhile-sync log (Wrote side at piece ∷ []) P side now
    (λ image left. begun image (settled image left), λ image left. wrote image (torn image left))
    done
    (λ image left same. synced image (torn image left))

-- the moments of a piece that was not synced, or not written whole
pub moments_of_refused : (side : Side) (at : ℕ) (piece : List ℕ) (log : Log) (P : List Call → Sides → Type 0) (now : Option Log) → IsSettled log
    → ((image : Sides) → image ≡ seen log → P [] image)
    → ((image : Sides) → TornOn side at piece (seen log) image → P (Wrote side at piece ∷ []) image)
    → ((bytes : List ℕ) (image : Sides) → TornOn side at piece (seen log) image → P (Broke side at piece bytes ∷ []) image)
    → Writes side at piece log now
    → LeavesMeanwhile log now P
moments_of_refused side at piece log P now settled begun wrote broke writes =
    LeavesMeanwhile-write log [] P side at piece now (λ image left. begun image (settled image left)) writes
    (λ before image left torn. wrote image (subst (λ (old : Sides). TornOn side at piece old image) (settled before left) torn))
    (λ bytes before image left torn. broke bytes image (subst (λ (old : Sides). TornOn side at piece old image) (settled before left) torn))

-- the moments of a stretch of calls that were done, and then of the next one, from what the first one left
pub moments_then : (log mid : Log) (P : List Call → Sides → Type 0) (now : Option Log) → LeavesMeanwhile log (Some mid) P
    → ((added : List Call) → LeavesMeanwhile mid now (λ calls image. P (calls ++ added) image))
    → LeavesMeanwhile log now P
moments_then log mid P now first next =
    let is : mid ≡ grown_by first.added log = cc (first.now_is) in
    LeavesMeanwhile-then log first.added P now first.each
    (subst (λ (l : Log). LeavesMeanwhile l now (λ calls image. P (calls ++ first.added) image)) is (next first.added))

-- other bytes on a side that was given others
pub with_bytes_twice : (side : Side) (x y : List ℕ) (sides : Sides) → with_bytes side x (with_bytes side y sides) ≡ with_bytes side x sides
with_bytes_twice A x y sides = refl
with_bytes_twice B x y sides = refl

-- bytes that were written on a side, and then others
pub HasBytes-then : (side : Side) (x y : List ℕ) (log mid : Log) (now : Option Log) → seen mid ≡ with_bytes side x (seen log) → HasBytes side y mid now → HasBytes side y log now
HasBytes-then side x y log mid now first second = record {
  log = second.log;
  now_is = second.now_is;
  settled = second.settled;
  seen_is = second.seen_is ∙ ap (with_bytes side y) first ∙ with_bytes_twice side y x (seen log);
}

-- the body of an append, at each of its moments, whatever was called
pub appending_body : (arm : Arm) (side : Side) (gate : ℕ) (body : List ℕ) (old : Sides) (calls : List Call) (image : Sides) → TornOn side (gate + 1) body old image → IsAppending arm side gate body old calls image
appending_body arm side gate body old calls image torn = record { other = torn.other; side_is = inl torn.torn.before }

-- nothing of an append
pub appending_none : (arm : Arm) (side : Side) (gate : ℕ) (body : List ℕ) (old : Sides) (calls : List Call) (image : Sides) → image ≡ old → IsAppending arm side gate body old calls image
appending_none arm side gate body old calls image e = record {
  other = ap (bytes_of (other_side side)) e;
  side_is = inl (ap (λ (sides : Sides). take (gate + 1) (bytes_of side sides)) e);
}

-- bytes with a body behind a gate
pub behind_written : (gate : ℕ) (body bytes : List ℕ) → gate < length bytes → drop (gate + 1) (written (gate + 1) body bytes) ≡ body ++ drop (gate + 1 + length body) bytes
behind_written gate body bytes within =
    let fits : gate + 1 ≤ length bytes = omega arith in
    let front : length (take (gate + 1) bytes) ≡ gate + 1 = length-take-le (gate + 1) bytes fits in
    let e = append_assoc (take (gate + 1) bytes) body (drop (gate + 1 + length body) bytes) in
    ap (drop (gate + 1)) e ∙ drop_at (take (gate + 1) bytes) (body ++ drop (gate + 1 + length body) bytes) (gate + 1) front

-- and up to the gate
pub front_written : (gate : ℕ) (body bytes : List ℕ) → gate < length bytes → take (gate + 1) (written (gate + 1) body bytes) ≡ take (gate + 1) bytes
front_written gate body bytes within =
    let fits : gate + 1 ≤ length bytes = omega arith in
    (Torn-done (gate + 1) body bytes fits).before

-- what stands in front of a gate, from what stands up to and with it
pub front_without_gate : (gate : ℕ) (old now : List ℕ) → take (gate + 1) now ≡ take (gate + 1) old → take gate now ≡ take gate old
front_without_gate gate old now e =
    let less : gate ≤ gate + 1 = omega arith in
    sym (take-take gate (gate + 1) now less) ∙ ap (take gate) e ∙ take-take gate (gate + 1) old less

-- the gate of an append, at each of its moments, once it is being written
pub appending_gate : (arm : Arm) (side : Side) (gate : ℕ) (body : List ℕ) (old mid : Sides) (calls : List Call) (image : Sides) → gate < length (bytes_of side old)
    → mid ≡ with_bytes side (written (gate + 1) body (bytes_of side old)) old → IsIssued arm (append_gate side gate) calls → TornOn side gate (1 ∷ []) mid image → IsAppending arm side gate body old calls image
appending_gate arm side gate body old mid calls image within e opened torn =
    let bytes = bytes_of side old in
    let now = written (gate + 1) body bytes in
    let on : bytes_of side mid ≡ now = ap (bytes_of side) e ∙ bytes_of-with_bytes side now old in
    record {
      other = torn.other ∙ ap (bytes_of (other_side side)) e ∙ bytes_of-with_bytes_other side now old;
      side_is = inr (
        opened,
        record {
          front = torn.torn.before ∙ ap (take gate) on ∙ front_without_gate gate bytes now (front_written gate body bytes within);
          behind = torn.torn.after ∙ ap (drop (gate + 1)) on ∙ behind_written gate body bytes within;
        },
      );
    }

-- nothing of the gate's write yet
pub appending_shut : (arm : Arm) (side : Side) (gate : ℕ) (body : List ℕ) (old mid : Sides) (calls : List Call) (image : Sides) → gate < length (bytes_of side old)
    → mid ≡ with_bytes side (written (gate + 1) body (bytes_of side old)) old → image ≡ mid → IsAppending arm side gate body old calls image
appending_shut arm side gate body old mid calls image within e same =
    let bytes = bytes_of side old in
    let now = written (gate + 1) body bytes in
    let on : bytes_of side image ≡ now = ap (bytes_of side) (same ∙ e) ∙ bytes_of-with_bytes side now old in
    record {
      other = ap (bytes_of (other_side side)) (same ∙ e) ∙ bytes_of-with_bytes_other side now old;
      side_is = inl (ap (take (gate + 1)) on ∙ front_written gate body bytes within);
    }

-- the moments of an append whose body was written and synced, whatever the calls that open the gate answered
pub appending_moments : {U : Type 0} (arm : Arm) (side : Side) (gate : ℕ) (body : List ℕ) (log : Log) (mid now : Option Log) (result : Result U IoFault) → Allows 2 arm → IsSettled log → gate < length (bytes_of side (seen log))
    → Syncs side (grown (Wrote side (gate + 1) body) log) mid
    → ((l : Log) → mid ≡ Some l → OnOk result (Syncs side (grown (Wrote side gate (1 ∷ [])) l) now))
    → ((l : Log) → mid ≡ Some l → IsErrOf result Failed → Writes side gate (1 ∷ []) l now)
    → (IsErrOf result NoMemory → now ≡ mid)
    → LeavesMeanwhile log now (IsAppending arm side gate body (seen log))
appending_moments arm side gate body log mid now result allowed settled within first done failed no_memory =
    let has = piece_settles side (gate + 1) body log mid settled first in
    moments_then log has.log (IsAppending arm side gate body (seen log)) now
    (moments_of_piece side (gate + 1) body log (IsAppending arm side gate body (seen log)) (Some has.log) settled (appending_none arm side gate body (seen log) []) (appending_body arm side gate body (seen log) (Wrote side (gate + 1) body ∷ [])) (appending_body arm side gate body (seen log) (Synced side ∷ Wrote side (gate + 1) body ∷ [])) (subst (λ (o : Option Log). Syncs side (grown (Wrote side (gate + 1) body) log) o) has.now_is first))
    (λ added. then_gate result added has.seen_is has.settled (done has.log has.now_is) (failed has.log has.now_is) (λ e. no_memory e ∙ has.now_is))
  where
    then_gate : {U : Type 0} (r : Result U IoFault) (added : List Call) {m : Log} → seen m ≡ with_bytes side (written (gate + 1) body (bytes_of side (seen log))) (seen log) → IsSettled m
        → OnOk r (Syncs side (grown (Wrote side gate (1 ∷ [])) m) now)
        → (IsErrOf r Failed → Writes side gate (1 ∷ []) m now)
        → (IsErrOf r NoMemory → now ≡ Some m)
        → LeavesMeanwhile m now (λ calls image. IsAppending arm side gate body (seen log) (calls ++ added) image)
    then_gate (Ok u) added {m} looks still done' failed' no_memory' =
        moments_of_piece side gate (1 ∷ []) m (λ calls image. IsAppending arm side gate body (seen log) (calls ++ added) image) now still
        (λ image e. appending_shut arm side gate body (seen log) (seen m) added image within looks e)
        (λ image torn. appending_gate arm side gate body (seen log) (seen m) (Wrote side gate (1 ∷ []) ∷ added) image within looks (record { allowed = allowed; opened = inl (refl, refl, refl) }) torn)
        (λ image torn. appending_gate arm side gate body (seen log) (seen m) (Synced side ∷ Wrote side gate (1 ∷ []) ∷ added) image within looks (record { allowed = allowed; opened = inr (inl (refl, refl, refl)) }) torn)
        done'
    then_gate (Err Failed) added {m} looks still done' failed' no_memory' =
        moments_of_refused side gate (1 ∷ []) m (λ calls image. IsAppending arm side gate body (seen log) (calls ++ added) image) now still
        (λ image e. appending_shut arm side gate body (seen log) (seen m) added image within looks e)
        (λ image torn. appending_gate arm side gate body (seen log) (seen m) (Wrote side gate (1 ∷ []) ∷ added) image within looks (record { allowed = allowed; opened = inl (refl, refl, refl) }) torn)
        (λ bytes image torn. appending_gate arm side gate body (seen log) (seen m) (Broke side gate (1 ∷ []) bytes ∷ added) image within looks (record { allowed = allowed; opened = inl (refl, refl, refl) }) torn)
        (failed' refl)
    then_gate (Err NoMemory) added {m} looks still done' failed' no_memory' = record {
      added = [];
      now_is = no_memory' refl;
      each = λ image left. appending_shut arm side gate body (seen log) (seen m) added image within looks (still image left);
    }

-- the moments of an append whose body was refused
pub appending_refused : (arm : Arm) (side : Side) (gate : ℕ) (body : List ℕ) (log : Log) (now : Option Log) → IsSettled log → Writes side (gate + 1) body log now → LeavesMeanwhile log now (IsAppending arm side gate body (seen log))
appending_refused arm side gate body log now settled writes =
    moments_of_refused side (gate + 1) body log (IsAppending arm side gate body (seen log)) now settled
    (appending_none arm side gate body (seen log) [])
    (appending_body arm side gate body (seen log) (Wrote side (gate + 1) body ∷ []))
    (λ bytes. appending_body arm side gate body (seen log) (Broke side (gate + 1) body bytes ∷ []))
    writes

-- what an append leaves once all its calls were done
pub appending_done : (side : Side) (gate : ℕ) (body : List ℕ) (log : Log) (mid now : Option Log) → IsSettled log
    → Syncs side (grown (Wrote side (gate + 1) body) log) mid
    → ((l : Log) → mid ≡ Some l → Syncs side (grown (Wrote side gate (1 ∷ [])) l) now)
    → HasBytes side (appended gate body (bytes_of side (seen log))) log now
appending_done side gate body log mid now settled first second =
    let has = piece_settles side (gate + 1) body log mid settled first in
    let bytes = written (gate + 1) body (bytes_of side (seen log)) in
    let on : bytes_of side (seen has.log) ≡ bytes = ap (bytes_of side) has.seen_is ∙ bytes_of-with_bytes side bytes (seen log) in
    HasBytes-then side bytes (appended gate body (bytes_of side (seen log))) log has.log now has.seen_is
    (subst (λ (b : List ℕ). HasBytes side (written gate (1 ∷ []) b) has.log now) on (piece_settles side gate (1 ∷ []) has.log now has.settled (second has.log has.now_is)))

-- a place within the bytes that a piece leaves on a side is within the side
pub written_within : (side : Side) (at place : ℕ) (piece : List ℕ) (old mid : Option Log)
    → ((l : Log) → old ≡ Some l → place < length (written at piece (bytes_of side (seen l))))
    → ((l : Log) → old ≡ Some l → Syncs side (grown (Wrote side at piece) l) mid)
    → (old ≡ None → mid ≡ None)
    → (l : Log) → mid ≡ Some l → place < length (bytes_of side (seen l))
written_within side at place piece None mid within done untold l e = absurd (none_is_some (sym (untold refl) ∙ e)) where
  none_is_some : {m : Log} → ¬ (◌≡◌ {A = Option Log} None (Some m))
  none_is_some e' = cc
written_within side at place piece (Some log) mid within done untold l e =
    let now = written at piece (bytes_of side (seen log)) in
    let one = IsSettledOn-synced side (grown (Wrote side at piece) log) mid (done log refl) in
    let is : one.0 ≡ l = cc (one.1, e) in
    let looks : bytes_of side (seen l) ≡ now = ap (λ (m : Log). bytes_of side (seen m)) (sym is) ∙ ap (bytes_of side) one.2 ∙ bytes_of-with_bytes side now (seen log) in
    subst (λ (bytes : List ℕ). place < length bytes) (sym looks) (within log refl)

-- a gate is within its side once a body is written behind it
pub gate_within : (gate : ℕ) (body bytes : List ℕ) → gate < length bytes → gate < length (written (gate + 1) body bytes)
gate_within gate body bytes within =
    let fits : gate + 1 ≤ length bytes = omega arith in
    let longer : length bytes ≤ length (written (gate + 1) body bytes) = (Torn-done (gate + 1) body bytes fits).no_shorter in
    omega arith

-- what is so where a value is told is what is told of each value
pub on_ok : {U E : Type 0} (result : Result U E) (P : Type 0) → (IsOk result → P) → OnOk result P
on_ok (Ok u) P h = h refl
on_ok (Err e) P h = tt

-- and the other way round
pub from_on_ok : {U E : Type 0} (result : Result U E) (P : Type 0) → IsOk result → OnOk result P → P
from_on_ok (Ok u) P is_ok h = h
from_on_ok (Err e) P is_ok h = absurd (false_is_true is_ok) where
  false_is_true : ¬ (◌≡◌ {A = Bool} false true)
  false_is_true e' = cc

-- bytes of which the first gate was being shut are as they were, or it is shut
pub same_or_shut : (old now : List ℕ) → Torn 0 (0 ∷ []) old now → (now ≡ old) ⊎ (slice_get now 0 ≢ Some 1)
same_or_shut old [] torn = inr (λ e. none_is_some e) where
  none_is_some : ¬ (◌≡◌ {A = Option ℕ} None (Some 1))
  none_is_some e' = cc
same_or_shut old (zero ∷ now) torn = inr (λ e. zero_is_one e) where
  zero_is_one : ¬ (◌≡◌ {A = Option ℕ} (Some 0) (Some 1))
  zero_is_one e' = cc
same_or_shut [] (suc zero ∷ now) torn = absurd (none_is_some (torn.unset refl refl)) where
  none_is_some : ¬ (◌≡◌ {A = Option ℕ} None (Some 1))
  none_is_some e' = cc
same_or_shut (x ∷ old) (suc zero ∷ now) torn =
    let one : x ≡ 1 = cc (torn.unset refl refl) in
    let rest : now ≡ old = torn.after in
    inl (λ i. sym one i ∷ rest i)
same_or_shut old (suc (suc n) ∷ now) torn = inr (λ e. more_is_one e) where
  more_is_one : ¬ (◌≡◌ {A = Option ℕ} (Some (suc (suc n))) (Some 1))
  more_is_one e' = cc

-- a gate that is 0 is shut
pub shut_from_front : (now : List ℕ) → take 1 now ≡ 0 ∷ [] → slice_get now 0 ≢ Some 1
shut_from_front [] front e = cc
shut_from_front (x ∷ now) front e =
    let zero_is : x ≡ 0 = ap (λ (l : List ℕ). get_or l 0 0) front in
    let one_is : x ≡ 1 = cc (e) in
    absurd (omega arith)

-- nothing of a side that is written anew, and its first gate as it is being shut
pub filling_none : (arm : Arm) (side : Side) (body : List ℕ) (old : Sides) (calls : List Call) (image : Sides) → image ≡ old → IsFilling arm side body old calls image
filling_none arm side body old calls image e = record { other = ap (bytes_of (other_side side)) e; side_is = inl (ap (bytes_of side) e) }

pub filling_shut : (arm : Arm) (side : Side) (body : List ℕ) (old : Sides) (calls : List Call) (image : Sides) → TornOn side 0 (0 ∷ []) old image → IsFilling arm side body old calls image
filling_shut arm side body old calls image torn = record {
  other = torn.other;
  side_is = elim (same_or_shut (bytes_of side old) (bytes_of side image) torn.torn) [ inl same ↦ inl same | inr shut ↦ inr (inl shut) ];
}

-- what was opened in some calls was opened in more
pub HasOpened-append : (side : Side) (gate : ℕ) (calls added : List Call) → HasOpened side gate calls → HasOpened side gate (calls ++ added)
HasOpened-append side gate [] added opened = absurd opened
HasOpened-append side gate (call ∷ calls) added (inl opens) = inl opens
HasOpened-append side gate (call ∷ calls) added (inr opened) = inr (HasOpened-append side gate calls added opened)

-- where an arm let calls be done, and the arm then lets more, it let all of them be done
pub allows_then : (m n : ℕ) (before mid : Arm) → LowersBy m before mid → Allows n mid → Allows (m + n) before
allows_then m n Unarmed mid lowered more = tt
allows_then m n (Armed number leave) mid lowered more = let left = subst (Allows n) lowered.1 more in omega (arith, lowered.0, left)
allows_then m n Caught mid lowered more = let none = subst (Allows n) lowered.1 more in omega (arith, lowered.0, none)

-- bytes behind a first gate are not what the gate is
pub rest_of_shut : (body bytes : List ℕ) → drop (1 + length body) (written 0 (0 ∷ []) bytes) ≡ drop (1 + length body) bytes
rest_of_shut body bytes = sym (drop-drop (length body) 1 (written 0 (0 ∷ []) bytes)) ∙ drop-drop (length body) 1 bytes

-- the body is put behind a first gate that was shut as a record is put behind one
pub filling_then : (arm later : Arm) (side : Side) (body : List ℕ) (old mid : Sides) (calls added : List Call) (image : Sides) → LowersBy 2 arm later → mid ≡ with_bytes side (written 0 (0 ∷ []) (bytes_of side old)) old
    → IsAppending later side 0 body mid calls image → IsFilling arm side body old (calls ++ added) image
filling_then arm later side body old mid calls added image lowered e at =
    let bytes = bytes_of side old in
    let shut = written 0 (0 ∷ []) bytes in
    let on : bytes_of side mid ≡ shut = ap (bytes_of side) e ∙ bytes_of-with_bytes side shut old in
    record {
      other = at.other ∙ ap (bytes_of (other_side side)) e ∙ bytes_of-with_bytes_other side shut old;
      side_is = elim (at.side_is) [
        | inl kept ↦ inr (inl (shut_from_front (bytes_of side image) (kept ∙ ap (take 1) on)))
        | inr h ↦ inr (inr (record { allowed = allows_then 2 2 arm later lowered h.0.allowed; opened = HasOpened-append side 0 calls added h.0.opened }, h.1.behind ∙ ap (λ (l : List ℕ). body ++ drop (1 + length body) l) on ∙ ap (λ (l : List ℕ). body ++ l) (rest_of_shut body bytes)))
      ];
    }

-- a side with a body behind a first gate that was shut and is open
pub filled_is : (body bytes : List ℕ) → appended 0 body (written 0 (0 ∷ []) bytes) ≡ filled body bytes
filled_is body bytes = ap (λ (l : List ℕ). 1 ∷ (body ++ l)) (rest_of_shut body bytes)

-- the moments of a side that is written anew, once its first gate was shut
pub filling_moments : (arm later : Arm) (side : Side) (body : List ℕ) (log : Log) (mid now : Option Log) → LowersBy 2 arm later → IsSettled log
    → Syncs side (grown (Wrote side 0 (0 ∷ [])) log) mid
    → ((l : Log) → mid ≡ Some l → IsSettled l → LeavesMeanwhile l now (IsAppending later side 0 body (seen l)))
    → LeavesMeanwhile log now (IsFilling arm side body (seen log))
filling_moments arm later side body log mid now lowered settled first next =
    let has = piece_settles side 0 (0 ∷ []) log mid settled first in
    let rest = next has.log has.now_is has.settled in
    moments_then log has.log (IsFilling arm side body (seen log)) now
    (moments_of_piece side 0 (0 ∷ []) log (IsFilling arm side body (seen log)) (Some has.log) settled (filling_none arm side body (seen log) []) (filling_shut arm side body (seen log) (Wrote side 0 (0 ∷ []) ∷ [])) (filling_shut arm side body (seen log) (Synced side ∷ Wrote side 0 (0 ∷ []) ∷ [])) (subst (λ (o : Option Log). Syncs side (grown (Wrote side 0 (0 ∷ [])) log) o) has.now_is first))
    (λ added. record {
      added = rest.added;
      now_is = rest.now_is;
      each = AtEachMoment-weaken has.log rest.added (IsAppending later side 0 body (seen has.log)) (λ calls image. IsFilling arm side body (seen log) (calls ++ added) image) (λ calls image at. filling_then arm later side body (seen log) (seen has.log) calls added image lowered has.seen_is at) rest.each;
    })

-- the moments of a side whose first gate was not shut
pub filling_refused : (arm : Arm) (side : Side) (body : List ℕ) (log : Log) (now : Option Log) → IsSettled log → Writes side 0 (0 ∷ []) log now → LeavesMeanwhile log now (IsFilling arm side body (seen log))
filling_refused arm side body log now settled writes =
    moments_of_refused side 0 (0 ∷ []) log (IsFilling arm side body (seen log)) now settled
    (filling_none arm side body (seen log) [])
    (filling_shut arm side body (seen log) (Wrote side 0 (0 ∷ []) ∷ []))
    (λ bytes. filling_shut arm side body (seen log) (Broke side 0 (0 ∷ []) bytes ∷ []))
    writes

-- what writing a side anew leaves once all its calls were done
pub filling_done : (side : Side) (body : List ℕ) (log : Log) (mid now : Option Log) → IsSettled log
    → Syncs side (grown (Wrote side 0 (0 ∷ [])) log) mid
    → ((l : Log) → mid ≡ Some l → IsSettled l → HasBytes side (appended 0 body (bytes_of side (seen l))) l now)
    → HasBytes side (filled body (bytes_of side (seen log))) log now
filling_done side body log mid now settled first next =
    let has = piece_settles side 0 (0 ∷ []) log mid settled first in
    let shut = written 0 (0 ∷ []) (bytes_of side (seen log)) in
    let on : bytes_of side (seen has.log) ≡ shut = ap (bytes_of side) has.seen_is ∙ bytes_of-with_bytes side shut (seen log) in
    HasBytes-then side shut (filled body (bytes_of side (seen log))) log has.log now has.seen_is
    (subst (λ (b : List ℕ). HasBytes side b has.log now) (ap (appended 0 body) on ∙ filled_is body (bytes_of side (seen log))) (next has.log has.now_is has.settled))

-- weaker facts of the moments
pub weaken_moments : (old : Log) (now : Option Log) (P Q : List Call → Sides → Type 0) → ((calls : List Call) (image : Sides) → P calls image → Q calls image) → LeavesMeanwhile old now P → LeavesMeanwhile old now Q
weaken_moments old now P Q weaker moments = record { added = moments.added; now_is = moments.now_is; each = AtEachMoment-weaken old moments.added P Q weaker moments.each }

-- no moment but the first
pub no_moments : (old : Log) (now : Option Log) (P : List Call → Sides → Type 0) → now ≡ Some old → LeavesOnly old (P []) → LeavesMeanwhile old now P
no_moments old now P is first = record { added = []; now_is = is; each = first }
