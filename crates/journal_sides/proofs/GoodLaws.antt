-- What stands on a side may be written again.
use Rattle.std.proofs.Common.{◌≡◌, ℕ, List, [], ◌∷◌, ◌++◌, ◌∙◌, Some, ap, subst, inl, inr}
use Rattle.std.specs.List.{AllByRecursion}
use Rattle.std.proofs.lemmas.List.Elements.{All-from_recursion}
use Rattle.mld_ops.specs.Entry.{EntryValue}
use Rattle.mld_ops.specs.Ready.{last_dot}
use Rattle.mld_ops.specs.declared.tagged.Tagged.{Tagged}
use Rattle.op_codec.specs.Stored.{IsShortTriple, AreShortPairs, AreShortInserts, IsShortEntry, IsPair, IsInsert, ArePairs, AreStoredInserts, IsStoredEntry}
use Rattle.rdf_terms.specs.declared.terms.Triple.{Triple}
use Rattle.tree_clock.specs.Lists.{Has}
use Rattle.journal_sides.specs.declared.side_reading.Found.{Found}
use Rattle.journal_sides.specs.FoundVolumes.{IsFoundOn, MayBeWritten}
use Rattle.journal_sides.specs.Heads.{HeadValue}
use Rattle.journal_sides.specs.Pairs.{Kept, kept_on}
use Rattle.journal_sides.specs.RecordBytes.{RecordValue, EntryRecord, ForkRecord, entries_in, raised_to, known_after}
use Rattle.journal_sides.specs.StoredVolumes.{IsGoodHead, AreGoodEntries, IsStoredHead, AreStoredRecords}
use Rattle.journal_sides.proofs.RecordReading.{entries_more, entries_forked, known_more}

-- ---- lists

-- what all elements are, each of them is
each_member : {X : Type 0} (P : X → Type 0) (xs : List X) (x : X) → AllByRecursion P xs → Has xs x → P x
each_member P [] x all has = absurd has
each_member P (first ∷ xs) x all (inl e) = subst P e all.0
each_member P (first ∷ xs) x all (inr has) = each_member P xs x all.1 has

-- what follows of each element follows of all
each_weaker : {X : Type 0} (P Q : X → Type 0) → ((x : X) → P x → Q x) → (xs : List X) → AllByRecursion P xs → AllByRecursion Q xs
each_weaker P Q weaker [] all = tt
each_weaker P Q weaker (x ∷ xs) all = (weaker x all.0, each_weaker P Q weaker xs all.1)

-- pairs that have a spelling are short
short_pairs : (pairs : List Tagged) → ArePairs pairs → AreShortPairs pairs
short_pairs pairs stored = record {
  count = stored.count;
  texts = All-from_recursion (λ (pair : Tagged). IsShortTriple pair.triple) pairs (each_weaker IsPair (λ (pair : Tagged). IsShortTriple pair.triple) (λ pair is. is.triple.short) pairs stored.each);
}

-- so are inserts
short_inserts : (inserts : List (Triple × ℕ)) → AreStoredInserts inserts → AreShortInserts inserts
short_inserts inserts stored = record {
  count = stored.count;
  texts = All-from_recursion (λ (insert : Triple × ℕ). IsShortTriple insert.0) inserts
      (each_weaker IsInsert (λ (insert : Triple × ℕ). IsShortTriple insert.0) (λ insert is. is.triple.short) inserts stored.each);
}

-- and entries
short_entry : (entry : EntryValue) → IsStoredEntry entry → IsShortEntry entry
short_entry entry stored = record {
  time = stored.time.count;
  deletes = short_pairs entry.deletes stored.deletes;
  inserts = short_inserts entry.inserts stored.inserts;
}

-- ---- a head and its entries

-- a head that has a spelling may be written, whatever its path
head_good : (head : HeadValue) (path : List ℕ) → IsStoredHead head → IsGoodHead (record head { path = path })
head_good head path stored = record {
  name = stored.name.fit;
  props_ascend = stored.props.ascending;
  props_count = stored.props.count;
  base = record {
    ascending = stored.base.pairs.ascending;
    covered = λ pair has. each_member _ head.base.pairs pair stored.base.covered has;
  };
  short = record { ticks = stored.base.ticks.count; pairs = short_pairs head.base.pairs stored.base.pairs };
}

-- the entries of records behind others may stand behind what those know; forks change nothing
entries_good : (head : HeadValue) (before more : List RecordValue) → AreStoredRecords head before more → AreGoodEntries (known_after head.base.ticks (entries_in before)) (entries_in more)
entries_good head before [] stored = tt
entries_good head before (EntryRecord entry ∷ more) stored =
    let known : known_after head.base.ticks (entries_in (before ++ EntryRecord entry ∷ [])) ≡ raised_to (known_after head.base.ticks (entries_in before)) (last_dot entry.range) =
    ap (known_after head.base.ticks) (entries_more before entry) ∙ known_more head.base.ticks (entries_in before) entry in (
      stored.0.1,
      short_entry entry stored.0.0,
      subst (λ (ticks : List (List ℕ × ℕ)). AreGoodEntries ticks (entries_in more)) known (entries_good head (before ++ EntryRecord entry ∷ []) more stored.1),
    )
entries_good head before (ForkRecord ∷ more) stored =
    subst (λ (entries : List EntryValue). AreGoodEntries (known_after head.base.ticks entries) (entries_in more)) (entries_forked before) (entries_good head (before ++ ForkRecord ∷ []) more stored.1)

-- a head and entries that are kept may be written
abbrev MayKeep : Kept → Type 0
MayKeep kept = IsGoodHead kept.head × AreGoodEntries kept.head.base.ticks kept.entries

-- what was found on a side may be written again
pub found_good : (found : Found) (bytes : List ℕ) → IsFoundOn found bytes → MayBeWritten (Some found)
found_good found bytes on =
    subst MayKeep on.kept (
      head_good on.volume.opening.head (kept_on found.side on.volume).head.path on.stored.opening.head,
      entries_good on.volume.opening.head [] on.volume.records on.stored.records,
    )
