-- Laws of what is written on a side: heads, records and volumes.
use Rattle.std.specs.Prelude.{◌≡◌, ℕ, zero, suc, ◌+◌, ◌<◌, ◌≤◌, ◌^◌, All, List, [], ◌∷◌, ◌++◌, length, take, get_or, IsTrue}
use Rattle.std.specs.List.{AllByRecursion}
use Rattle.std.proofs.Common.{refl, sym, ◌∙◌, ap, subst, inl, inr, arith, append_assoc, leb, ◌&&◌}
use Rattle.std.proofs.lemmas.List.{append-nil, map_more, take_all}
use Rattle.std.specs.List.{list_all}
use Rattle.std.proofs.lemmas.Bool.{and_parts, leb-true}
use Rattle.text_rules.specs.Domain.{is_domain, is_domain_byte, domain_limit}
use Rattle.mld_ops.specs.Entry.{EntryValue}
use Rattle.mld_ops.specs.Messages.{SnapshotValue, IsGoodSnapshot}
use Rattle.mld_ops.specs.declared.tagged.Tagged.{Tagged}
use Rattle.tree_clock.specs.Lists.{Has}
use Rattle.op_codec.proofs.Shapes.{pairs_stored}
use Rattle.mld_ops.specs.Ready.{last_dot}
use Rattle.op_codec.specs.Stored.{IsShortEntry, IsShortSnapshot, HasPairShape, IsStoredClock, IsSnapshot, IsStoredEntry}
use Rattle.op_codec.proofs.Appending.{appended_both}
use Rattle.journal_sides.specs.Format.{open_gate, closed_gate}
use Rattle.journal_sides.specs.Heads.{HeadValue, head_bytes}
use Rattle.journal_sides.specs.RecordBytes.{RecordValue, EntryRecord, record_bytes, blocks, entries_in, path_after, raised_to, known_after}
use Rattle.journal_sides.specs.SideReadings.{Volume, volume_bytes}
use Rattle.journal_sides.specs.StoredVolumes.{AreGoodEntries, IsStoredHead, IsStoredRecord, AreStoredRecords, IsVolume}
use Rattle.journal_sides.specs.WrittenRecords.{entry_records, volume_of, with_record}
use Rattle.journal_sides.proofs.RecordReading.{entries_more, known_more}

-- ---- records, and one more

pub blocks_more : (records : List RecordValue) (next : RecordValue) → blocks (records ++ next ∷ []) ≡ blocks records ++ (open_gate ∷ record_bytes next)
blocks_more [] next = append-nil (open_gate ∷ record_bytes next)
blocks_more (first ∷ records) next =
    ap (λ (l : List ℕ). (open_gate ∷ record_bytes first) ++ l) (blocks_more records next) ∙ sym (append_assoc (open_gate ∷ record_bytes first) (blocks records) (open_gate ∷ record_bytes next))

-- one record more behind those before it
stored_more : (head : HeadValue) (before records : List RecordValue) (next : RecordValue) → AreStoredRecords head before records → IsStoredRecord head (before ++ records) next
    → AreStoredRecords head before (records ++ next ∷ [])
stored_more head before [] next all is = (subst (λ (l : List RecordValue). IsStoredRecord head l next) (append-nil before) is, tt)
stored_more head before (first ∷ records) next all is = (
  all.0,
  stored_more head (before ++ first ∷ []) records next all.1 (subst (λ (l : List RecordValue). IsStoredRecord head l next) (sym (append_assoc before (first ∷ []) records)) is),
)

-- a side with one record more has a spelling
pub volume_more : (volume : Volume) (next : RecordValue) → IsVolume volume → IsStoredRecord volume.opening.head volume.records next → IsVolume (with_record next volume)
volume_more volume next is stored = record { opening = is.opening; records = stored_more volume.opening.head [] volume.records next is.records stored }

-- and is the side with the record behind an open gate
pub volume_bytes_more : (volume : Volume) (next : RecordValue) → volume_bytes (with_record next volume) ≡ volume_bytes volume ++ (open_gate ∷ record_bytes next)
unfolding volume_bytes
volume_bytes_more volume next =
    ap (λ (l : List ℕ). open_gate ∷ (head_bytes volume.opening ++ l)) (blocks_more volume.records next)
    ∙ ap (λ (l : List ℕ). open_gate ∷ l) (sym (append_assoc (head_bytes volume.opening) (blocks volume.records) (open_gate ∷ record_bytes next)))

-- ---- a head and entries

-- the records of entries have just these, and no fork
pub entries_of-records : (entries : List EntryValue) → entries_in (entry_records entries) ≡ entries
entries_of-records [] = refl
entries_of-records (entry ∷ entries) = ap (λ (l : List EntryValue). entry ∷ l) (entries_of-records entries)

pub path_after-records : (path : List ℕ) (entries : List EntryValue) → path_after path (entry_records entries) ≡ path
path_after-records path [] = refl
path_after-records path (entry ∷ entries) = path_after-records path entries

-- entries that may stand have short lists
pub good_short : (ticks : List (List ℕ × ℕ)) (entries : List EntryValue) → AreGoodEntries ticks entries → All IsShortEntry entries
good_short ticks [] good k d lt = absurd (omega arith)
good_short ticks (entry ∷ entries) good zero d lt = good.1
good_short ticks (entry ∷ entries) good (suc k) d lt = good_short (raised_to ticks (last_dot entry.range)) entries good.2 k d (omega arith)

-- good entries, each of which has a spelling, are records that have one
records_stored : (head : HeadValue) (before : List RecordValue) (entries : List EntryValue) → AreGoodEntries (known_after head.base.ticks (entries_in before)) entries → AllByRecursion IsStoredEntry entries
    → AreStoredRecords head before (entry_records entries)
records_stored head before [] good stored = tt
records_stored head before (entry ∷ entries) good stored =
    let more : raised_to (known_after head.base.ticks (entries_in before)) (last_dot entry.range) ≡ known_after head.base.ticks (entries_in (before ++ EntryRecord entry ∷ [])) =
    sym (ap (known_after head.base.ticks) (entries_more before entry) ∙ known_more head.base.ticks (entries_in before) entry) in
    ((stored.0, good.0), records_stored head (before ++ EntryRecord entry ∷ []) entries (subst (λ (t : List (List ℕ × ℕ)). AreGoodEntries t entries) more good.2) stored.1)

-- a side that has a head of a generation, and entries
pub volume_stored : (generation : ℕ) (head : HeadValue) (entries : List EntryValue) → generation < 2 ^ 64 → IsStoredHead head → AreGoodEntries head.base.ticks entries → AllByRecursion IsStoredEntry entries
    → IsVolume (volume_of generation head entries)
volume_stored generation head entries fits stored good each = record {
  opening = record { generation = fits; head = stored };
  records = records_stored head [] entries good each;
}

-- a head, blocks and a closed gate behind an open one are the bytes of a side
pub volume_written : (generation : ℕ) (head : HeadValue) (entries : List EntryValue) (one two body : List ℕ) → one ≡ head_bytes (record { generation = generation; head = head }) → two ≡ one ++ blocks (entry_records entries)
    → body ≡ two ++ closed_gate ∷ []
    → open_gate ∷ body ≡ volume_bytes (volume_of generation head entries) ++ closed_gate ∷ []
unfolding volume_bytes
volume_written generation head entries one two body first second third =
    ap (λ (l : List ℕ). open_gate ∷ l) (third ∙ ap (λ (l : List ℕ). l ++ closed_gate ∷ []) (second ∙ ap (λ (l : List ℕ). l ++ blocks (entry_records entries)) first))

-- one block more
pub block_appended : (entries : List EntryValue) (i : ℕ) (entry : EntryValue) (start before gate after : List ℕ) → i < length entries → entry ≡ get_or entries i entry
    → before ≡ start ++ blocks (entry_records (take i entries)) → gate ≡ before ++ open_gate ∷ [] → after ≡ gate ++ record_bytes (EntryRecord entry) → after ≡ start ++ blocks (entry_records (take (i + 1) entries))
block_appended entries i entry start before gate after within is so_far opened done =
    let here : entry_records (take (i + 1) entries) ≡ entry_records (take i entries) ++ EntryRecord entry ∷ [] = map_more EntryRecord entries i entry within ∙ ap (λ (e : EntryValue). entry_records (take i entries) ++ EntryRecord e ∷ []) (sym is) in
    let block : after ≡ before ++ (open_gate ∷ record_bytes (EntryRecord entry)) = appended_both before gate after (open_gate ∷ []) (record_bytes (EntryRecord entry)) opened done in
    appended_both start before after (blocks (entry_records (take i entries))) (open_gate ∷ record_bytes (EntryRecord entry)) so_far block
    ∙ ap (λ (l : List ℕ). start ++ l) (sym (ap blocks here ∙ blocks_more (entry_records (take i entries)) (EntryRecord entry)))

-- all blocks
pub blocks_appended : (entries : List EntryValue) (i : ℕ) (start out : List ℕ) → length entries ≤ i → out ≡ start ++ blocks (entry_records (take i entries)) → out ≡ start ++ blocks (entry_records entries)
blocks_appended entries i start out done so_far = so_far ∙ ap (λ (l : List EntryValue). start ++ blocks (entry_records l)) (take_all i entries done)

-- seven pieces, one behind the other
pub seven_appended : (s o1 o2 o3 o4 o5 o6 o7 b1 b2 b3 b4 b5 b6 b7 : List ℕ) → o1 ≡ s ++ b1 → o2 ≡ o1 ++ b2 → o3 ≡ o2 ++ b3 → o4 ≡ o3 ++ b4 → o5 ≡ o4 ++ b5 → o6 ≡ o5 ++ b6 → o7 ≡ o6 ++ b7
    → o7 ≡ s ++ (b1 ++ (b2 ++ (b3 ++ (b4 ++ (b5 ++ (b6 ++ b7))))))
seven_appended s o1 o2 o3 o4 o5 o6 o7 b1 b2 b3 b4 b5 b6 b7 e1 e2 e3 e4 e5 e6 e7 =
    let f6 = appended_both o5 o6 o7 b6 b7 e6 e7 in
    let f5 = appended_both o4 o5 o7 b5 (b6 ++ b7) e5 f6 in
    let f4 = appended_both o3 o4 o7 b4 (b5 ++ (b6 ++ b7)) e4 f5 in
    let f3 = appended_both o2 o3 o7 b3 (b4 ++ (b5 ++ (b6 ++ b7))) e3 f4 in
    let f2 = appended_both o1 o2 o7 b2 (b3 ++ (b4 ++ (b5 ++ (b6 ++ b7)))) e2 f3 in
    appended_both s o1 o7 b1 (b2 ++ (b3 ++ (b4 ++ (b5 ++ (b6 ++ b7))))) e1 f2

-- the name of a domain is short
pub domain_short : (text : List ℕ) → IsTrue (is_domain text) → length text < 2 ^ 32
unfolding is_domain
domain_short text h =
    let p = and_parts (leb 1 (length text) && leb (length text) domain_limit) (list_all is_domain_byte text) h in
    let q = and_parts (leb 1 (length text)) (leb (length text) domain_limit) p.0 in
    let few : length text ≤ domain_limit = leb-true (length text) domain_limit q.1 in
    omega arith

-- a base whose pairs may be taken has a spelling, where its parts have
pub base_stored : (base : SnapshotValue) → IsGoodSnapshot base → IsShortSnapshot base → IsStoredClock base.ticks → AllByRecursion HasPairShape base.pairs → IsSnapshot base
base_stored base good short ticks shape =
    let covered = all_from_has base.pairs good.covered in
    record { ticks = ticks; pairs = pairs_stored base.ticks base.pairs short.pairs shape good.ascending covered; covered = covered }
  where
    all_from_has : {P : Tagged → Type 0} (pairs : List Tagged) → ((pair : Tagged) → Has pairs pair → P pair) → AllByRecursion P pairs
    all_from_has [] h = tt
    all_from_has (pair ∷ pairs) h = (h pair (inl refl), all_from_has pairs (λ other has. h other (inr has)))
