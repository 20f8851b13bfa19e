-- A loop that appends entries.
use Rattle.std.proofs.Common.{◌≡◌, ◌∙◌, ℕ, ◌+◌, ◌*◌, ◌<◌, ◌≤◌, List, [], ◌∷◌, ◌++◌, append_assoc, append-nil, length, length-append, get_or, drop, Option, None, Some, Bool, true, refl, sym, ap, subst, inl, arith}
use Rattle.std.proofs.lemmas.List.{drop_more, drop_all}
use Rattle.std.specs.List.{AllByRecursion}
use Rattle.mld_io.specs.Arm.{Arm, Meter, Metered, LowersAtMost, LowersBy}
use Rattle.mld_io.proofs.ArmLaws.{LowersAtMost-then}
use Rattle.mld_io.specs.Disk.{Log}
use Rattle.mld_ops.specs.Entry.{EntryValue}
use Rattle.op_codec.specs.Stored.{IsShortEntry}
use Rattle.journal_store.proofs.of_journal_sides.RecordReading.{known_more}
use Rattle.journal_store.specs.journal_sides.Pairs.{Kept, PairReading, Keeps, with_entry}
use Rattle.journal_store.specs.Calls.{KeptBy}
use Rattle.journal_store.specs.Closing.{StaysTold, JournalStaysOpen, IsAppended}
use Rattle.journal_store.specs.Standing.{JournalValue, KeepsJust, KeepsNow}
use Rattle.journal_store.specs.declared.faults.Why.{Why}
use Rattle.journal_store.proofs.ClosingLaws.{told_same, told_then}
use Rattle.clone_parts.specs.Replays.{AreReadyEntries}
use Rattle.clone_parts.specs.Appending.{with_entries, KeepsSome, MayAppendAll}
use Rattle.clone_parts.specs.Beginning.{ChangeBegan}
use Rattle.clone_parts.specs.KeptSteps.{KeptStep, Appended, after_steps, calls_of_all, appends, LeavesSome}
use Rattle.clone_parts.proofs.MeterLaws.{Metered-none, append_done}
use Rattle.clone_parts.proofs.RefusedLaws.{begun_more}
use Rattle.clone_parts.proofs.StepLaws.{appends_more, some_none, some_more, some_then}

-- ---- what is kept

-- what is kept now is kept by the open journal
pub kept_now : (kept : Kept) (now : Option Log) (closed : Option Why) → closed ≡ None → KeepsNow kept now → KeptBy now closed kept
kept_now kept now closed is_open keeps = record { log = keeps.log; now_is = keeps.now_is; opened = is_open; reads = keeps.keeps.reads; settled = keeps.keeps.settled }

-- banks that keep something keep it still once that is changed, where they tell their log
pub keeps_later : {B : Type 0} (log : B → Option Log) (old new : JournalValue B) (after : Kept → Kept) (some : KeepsSome log old) → new.closed ≡ None → StaysTold (log old.banks) (log new.banks)
    → ((kept : Kept) → KeptBy (log old.banks) old.closed kept → KeepsNow (after kept) (log new.banks)) → (l : Log) → log new.banks ≡ Some l → KeepsJust (after some.kept) l
keeps_later log old new after some is_open told keeps l e = by (log old.banks) refl where
  none_is_some : {m : Log} → ¬ (◌≡◌ {A = Option Log} None (Some m))
  none_is_some f = cc

  by : (was : Option Log) → log old.banks ≡ was → KeepsJust (after some.kept) l
  by None is = absurd (none_is_some (sym (told.untold is) ∙ e))
  by (Some m) is =
      let just = some.keeps m is in
      let now = keeps some.kept (record { log = m; now_is = is; opened = some.opened; reads = just.reads; settled = just.settled }) in
      let same : now.log ≡ l = cc (now.now_is, e) in
      subst (KeepsJust (after some.kept)) same now.keeps

-- the entries behind the first may be appended once that is
may_rest : {B : Type 0} (log : B → Option Log) (old new : JournalValue B) (entry : EntryValue) (entries : List EntryValue) → MayAppendAll log old (entry ∷ entries) → new.closed ≡ None
    → StaysTold (log old.banks) (log new.banks) → ((kept : Kept) → KeptBy (log old.banks) old.closed kept → KeepsNow (with_entry entry kept) (log new.banks)) → MayAppendAll log new entries
may_rest log old new entry entries may is_open told keeps = record {
  some = record { opened = is_open; kept = with_entry entry may.some.kept; keeps = keeps_later log old new (with_entry entry) may.some is_open told keeps };
  ready = subst (λ (ts : List (List ℕ × ℕ)). AreReadyEntries ts entries) (sym (known_more may.some.kept.head.base.ticks may.some.kept.entries entry)) may.ready.1;
}

-- the first entry may be appended alone
pub may_first : {B : Type 0} (log : B → Option Log) (old : JournalValue B) (entry : EntryValue) (entries : List EntryValue) → MayAppendAll log old (entry ∷ entries) → MayAppendAll log old (entry ∷ [])
may_first log old entry entries may = record { some = may.some; ready = (may.ready.0, tt) }

-- an entry that is appended is a step
appended_reads : (entries : List EntryValue) (kept : Kept) → after_steps (appends entries) (Keeps kept) ≡ Keeps (with_entries entries kept)
appended_reads [] kept = ap (λ (es : List EntryValue). Keeps (record kept { entries = es })) (sym (append-nil kept.entries))
appended_reads (entry ∷ entries) kept = appended_reads entries (with_entry entry kept) ∙ ap (λ (es : List EntryValue). Keeps (record kept { entries = es })) (append_assoc kept.entries (entry ∷ []) entries)

pub appends_calls : (entries : List EntryValue) → calls_of_all (appends entries) ≡ 4 * length entries
appends_calls [] = refl
appends_calls (entry ∷ entries) = let more = appends_calls entries in omega (arith, more)

-- ---- the loop

-- what was appended of all entries, what is kept now, and what a crash leaves at each moment
pub record IsSoFar (all rest : List EntryValue) (old : Log) (kept : Kept) (now : Option Log) (was is : Arm) (count : ℕ) : Type 0 where
  pub front : List EntryValue
  pub splits : front ++ rest ≡ all
  pub counts : length front ≡ count
  pub keeps : KeepsNow (with_entries front kept) now
  pub leaves : LeavesSome old now (Keeps kept) (appends front) was is

module _ {B : Type 0} (log : B → Option Log) (meter : B → Meter) (all : List EntryValue) (initial : JournalValue B) (done : Bool) where
  -- what the loop has done so far
  pub record IsAppendingAll (i : ℕ) (journal : JournalValue B) (begun : Bool) : Type 0 where
    pub goes_on : JournalStaysOpen initial journal
    pub follow : MayAppendAll log journal (drop i all)
    pub so_far : (l : Log) (kept : Kept) → log initial.banks ≡ Some l → KeptBy (log initial.banks) initial.closed kept → IsSoFar all (drop i all) l kept (log journal.banks) (meter initial.banks).arm (meter journal.banks).arm i
    pub short : AllByRecursion IsShortEntry (drop i all)
    pub begins : (first : JournalValue B) (swaps : Bool) → ChangeBegan log meter swaps done first initial → ChangeBegan log meter swaps begun first journal
    pub told : StaysTold (log initial.banks) (log journal.banks)
    pub metered : Metered (4 * i) (meter initial.banks) (meter journal.banks) (Unit {0}) ⊥

  -- nothing yet
  pub appending_none : MayAppendAll log initial all → AllByRecursion IsShortEntry all → IsAppendingAll 0 initial done
  appending_none may short = record {
    goes_on = record { opened = may.some.opened; side = refl; generation = refl };
    follow = may;
    so_far = λ l kept e k.
        let same : k.log ≡ l = cc (k.now_is, e) in
        record {
          front = [];
          splits = refl;
          counts = refl;
          keeps = record {
            log = k.log;
            now_is = k.now_is;
            keeps = record { reads = k.reads ∙ ap (λ (es : List EntryValue). Keeps (record kept { entries = es })) (sym (append-nil kept.entries)); settled = k.settled };
          };
          leaves = subst (λ (m : Log). LeavesSome m (log initial.banks) (Keeps kept) [] (meter initial.banks).arm (meter initial.banks).arm) same
              (some_none k.log (log initial.banks) (Keeps kept) [] (meter initial.banks).arm (meter initial.banks).arm k.now_is k.settled k.reads (λ c. inl c));
        };
    short = short;
    begins = λ first swaps is. is;
    told = told_same (log initial.banks) (log initial.banks) refl;
    metered = Metered-none (meter initial.banks) (λ f. f);
  }

  module _ (i : ℕ) (journal : JournalValue B) (begun : Bool) (entry : EntryValue) (less : i < length all) (is : entry ≡ get_or all i entry) (so : IsAppendingAll i journal begun) where
    -- the entries that are left
    left_is : drop i all ≡ entry ∷ drop (i + 1) all
    left_is = drop_more all i entry less ∙ ap (λ (e : EntryValue). e ∷ drop (i + 1) all) (sym is)

    entry_may : MayAppendAll log journal (entry ∷ drop (i + 1) all)
    entry_may = subst (λ (es : List EntryValue). MayAppendAll log journal es) left_is so.follow

    pub entry_first : MayAppendAll log journal (entry ∷ [])
    entry_first = may_first log journal entry (drop (i + 1) all) entry_may

    pub entry_short : IsShortEntry entry × AllByRecursion IsShortEntry (drop (i + 1) all)
    entry_short = subst (λ (es : List EntryValue). AllByRecursion IsShortEntry es) left_is so.short

    module _ {D F : Type 0} (new : JournalValue B)
        (moments : (l : Log) (kept : Kept) → log journal.banks ≡ Some l → KeptBy (log journal.banks) journal.closed kept
        → LeavesSome l (log new.banks) (Keeps kept) (Appended entry ∷ []) (meter journal.banks).arm (meter new.banks).arm)
        (metered : Metered 4 (meter journal.banks) (meter new.banks) D F) where
      -- what a crash leaves of the entries up to this one, whatever its append answered
      leaves_next : (l : Log) (kept : Kept) (e : log initial.banks ≡ Some l) (k : KeptBy (log initial.banks) initial.closed kept)
          → LeavesSome l (log new.banks) (Keeps kept) (appends ((so.so_far l kept e k).front ++ entry ∷ [])) (meter initial.banks).arm (meter new.banks).arm
      leaves_next l kept e k =
          let far = so.so_far l kept e k in
          let mid = far.keeps in
          let calls : 4 * i ≡ calls_of_all (appends far.front) = ap (λ (n : ℕ). 4 * n) (sym far.counts) ∙ sym (appends_calls far.front) in
          subst (λ (steps : List KeptStep). LeavesSome l (log new.banks) (Keeps kept) steps (meter initial.banks).arm (meter new.banks).arm) (sym (appends_more far.front (entry ∷ [])))
          (some_then l mid.log (log new.banks) (Keeps kept) (appends far.front) (Appended entry ∷ []) (meter initial.banks).arm (meter journal.banks).arm (meter new.banks).arm
          (subst (λ (o : Option Log). LeavesSome l o (Keeps kept) (appends far.front) (meter initial.banks).arm (meter journal.banks).arm) mid.now_is far.leaves)
          (subst (λ (n : ℕ). LowersBy n (meter initial.banks).arm (meter journal.banks).arm) calls (so.metered.done tt).lowered)
          (subst (λ (reading : PairReading). LeavesSome mid.log (log new.banks) reading (Appended entry ∷ []) (meter journal.banks).arm (meter new.banks).arm) (sym (appended_reads far.front kept))
          (moments mid.log (with_entries far.front kept) mid.now_is (kept_now (with_entries far.front kept) (log journal.banks) journal.closed so.goes_on.opened mid))))

      -- and of all, where the append was refused
      pub leaves_all : (l : Log) (kept : Kept) → log initial.banks ≡ Some l → KeptBy (log initial.banks) initial.closed kept
          → LeavesSome l (log new.banks) (Keeps kept) (appends all) (meter initial.banks).arm (meter new.banks).arm
      leaves_all l kept e k =
          let far = so.so_far l kept e k in
          let whole : (far.front ++ entry ∷ []) ++ drop (i + 1) all ≡ all = append_assoc far.front (entry ∷ []) (drop (i + 1) all) ∙ ap (λ (es : List EntryValue). far.front ++ es) (sym left_is) ∙ far.splits in
          let one_more : length (far.front ++ entry ∷ []) ≡ i + 1 = length_next far.front far.counts in
          let all_calls = appends_calls (far.front ++ entry ∷ []) in
          let calls : 4 * i + 4 ≡ calls_of_all (appends (far.front ++ entry ∷ [])) = omega (arith, one_more, all_calls) in
          subst (λ (es : List EntryValue). LeavesSome l (log new.banks) (Keeps kept) (appends es) (meter initial.banks).arm (meter new.banks).arm) whole
          (subst (λ (steps : List KeptStep). LeavesSome l (log new.banks) (Keeps kept) steps (meter initial.banks).arm (meter new.banks).arm) (sym (appends_more (far.front ++ entry ∷ []) (drop (i + 1) all)))
          (some_more l (log new.banks) (Keeps kept) (appends (far.front ++ entry ∷ [])) (appends (drop (i + 1) all)) (meter initial.banks).arm (meter new.banks).arm
          (subst (λ (n : ℕ). LowersAtMost n (meter initial.banks).arm (meter new.banks).arm) calls (LowersAtMost-then (4 * i) 4 (meter initial.banks).arm (meter journal.banks).arm (meter new.banks).arm (so.metered.done tt).lowered metered.lowered))
          (leaves_next l kept e k)))
        where
          length_next : (front : List EntryValue) → length front ≡ i → length (front ++ entry ∷ []) ≡ i + 1
          length_next front c = omega (arith, c, length-append front (entry ∷ []))

      -- one was appended
      pub appending_more : ((kept : Kept) → KeptBy (log journal.banks) journal.closed kept → KeepsNow (with_entry entry kept) (log new.banks))
          → IsAppended log meter journal new → StaysTold (log journal.banks) (log new.banks) → D → ¬ F → IsAppendingAll (i + 1) new true
      appending_more more appended told d f = record {
        goes_on = record { opened = appended.goes_on.opened; side = appended.goes_on.side ∙ so.goes_on.side; generation = appended.goes_on.generation ∙ so.goes_on.generation };
        follow = may_rest log journal new entry (drop (i + 1) all) entry_may appended.goes_on.opened told more;
        so_far = λ l kept e k.
            let far = so.so_far l kept e k in
            record {
              front = far.front ++ entry ∷ [];
              splits = append_assoc far.front (entry ∷ []) (drop (i + 1) all) ∙ ap (λ (es : List EntryValue). far.front ++ es) (sym left_is) ∙ far.splits;
              counts = omega (arith, far.counts, length-append far.front (entry ∷ []));
              keeps = subst (λ (w : Kept). KeepsNow w (log new.banks)) (ap (λ (es : List EntryValue). record kept { entries = es }) (append_assoc kept.entries far.front (entry ∷ [])))
                  (more (with_entries far.front kept) (kept_now (with_entries far.front kept) (log journal.banks) journal.closed so.goes_on.opened far.keeps));
              leaves = leaves_next l kept e k;
            };
        short = entry_short.1;
        begins = λ first swaps is'. begun_more log meter swaps first begun journal new (so.begins first swaps is') appended.goes_on appended.called;
        told = told_then (log initial.banks) (log journal.banks) (log new.banks) so.told told;
        metered = append_done i (meter initial.banks) (meter journal.banks) (meter new.banks) so.metered metered d f;
      }

  -- all were
  module _ (i : ℕ) (journal : JournalValue B) (begun : Bool) (past : length all ≤ i) (so : IsAppendingAll i journal begun) where
    front_all : (front : List EntryValue) → front ++ drop i all ≡ all → front ≡ all
    front_all front splits = sym (append-nil front) ∙ ap (λ (es : List EntryValue). front ++ es) (sym (drop_all i all past)) ∙ splits

    pub all_kept : (kept : Kept) → KeptBy (log initial.banks) initial.closed kept → KeepsNow (with_entries all kept) (log journal.banks)
    all_kept kept k = let far = so.so_far k.log kept k.now_is k in subst (λ (es : List EntryValue). KeepsNow (with_entries es kept) (log journal.banks)) (front_all far.front far.splits) far.keeps

    pub all_leave : (l : Log) (kept : Kept) → log initial.banks ≡ Some l → KeptBy (log initial.banks) initial.closed kept → LeavesSome l (log journal.banks) (Keeps kept) (appends all) (meter initial.banks).arm (meter journal.banks).arm
    all_leave l kept e k =
        let far = so.so_far l kept e k in
        subst (λ (es : List EntryValue). LeavesSome l (log journal.banks) (Keeps kept) (appends es) (meter initial.banks).arm (meter journal.banks).arm) (front_all far.front far.splits) far.leaves
