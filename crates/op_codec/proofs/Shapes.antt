-- From what is known of each part of a value to a value that has a spelling.
use Rattle.std.specs.Prelude.{◌≡◌, ℕ, suc, ◌+◌, ◌-◌, ◌<◌, ◌≤◌, List, [], ◌∷◌, length, get_or}
use Rattle.std.specs.List.{AllByRecursion}
use Rattle.std.proofs.Common.{sym, ◌∙◌, ap, subst, inl, inr, arith}
use Rattle.std.proofs.lemmas.Bool.{cases_lt}
use Rattle.std.proofs.lemmas.List.{get_or_read}
use Rattle.mld_ops.specs.Entry.{EntryValue, IsEntry}
use Rattle.mld_ops.specs.Tagged.{tagged_cmp, insert_cmp}
use Rattle.mld_ops.specs.declared.tagged.Tagged.{Tagged}
use Rattle.rdf_terms.specs.declared.terms.Triple.{Triple}
use Rattle.rdf_terms.specs.Written.{IsWrittenSo}
use Rattle.tree_clock.specs.Clock.{IsClock, Covers}
use Rattle.tree_clock.specs.Lists.{IsAscending}
use Rattle.op_codec.specs.Stored.{IsShort, IsShortTriple, AreShortPairs, AreShortInserts, IsShortEntry, HaveShape, HasPairShape, HasInsertShape, IsRange, AreTicks, IsStoredClock, IsStoredTriple, IsPair, ArePairs, IsInsert, AreStoredInserts, IsStoredEntry}

-- each element below a place
abbrev pub EachBelow : {X : Type 0} → (X → Type 0) → List X → ℕ → Type 0
EachBelow {X = X} P xs n = (k : ℕ) (d : X) → k < n → P (get_or xs k d)

-- none is below the first
pub each_none : {X : Type 0} (P : X → Type 0) (xs : List X) → EachBelow P xs 0
each_none P xs k d lt = absurd (omega arith)

-- one more
pub each_more : {X : Type 0} (P : X → Type 0) (xs : List X) (n : ℕ) (x : X) → EachBelow P xs n → n < length xs → x ≡ get_or xs n x → P x → EachBelow P xs (n + 1)
each_more P xs n x h within is holds k d lt = elim (cases_lt k n) [
  | inl below ↦ h k d below
  | inr above ↦
      let same : k ≡ n = omega arith in
      subst P (get_or_read xs n x within is d ∙ ap (λ (i : ℕ). get_or xs i d) (sym same)) holds
]

-- all
pub each_all : {X : Type 0} (P : X → Type 0) (xs : List X) (n : ℕ) → length xs ≤ n → EachBelow P xs n → AllByRecursion P xs
each_all P [] n le h = tt
each_all P (x ∷ xs) n le h = (h 0 x (omega arith), each_all P xs (n - 1) (omega arith) (λ k d lt. h (suc k) d (omega arith)))

-- each that has two facts has what follows from both
pub each_both : {X : Type 0} (P Q R : X → Type 0) → ((x : X) → P x → Q x → R x) → (xs : List X) → AllByRecursion P xs → AllByRecursion Q xs → AllByRecursion R xs
each_both P Q R both [] p q = tt
each_both P Q R both (x ∷ xs) p q = (both x p.0 q.0, each_both P Q R both xs p.1 q.1)

-- ticks of the grammar are from 1 on
from_one : (ticks : List (List ℕ × ℕ)) → AllByRecursion AreTicks ticks → AllByRecursion (λ (entry : List ℕ × ℕ). 1 ≤ entry.1) ticks
from_one [] a = tt
from_one (entry ∷ ticks) a = (a.0.positive, from_one ticks a.1)

-- a clock of the grammar is a clock
pub clock_of_stored : (ticks : List (List ℕ × ℕ)) → IsStoredClock ticks → IsClock ticks
clock_of_stored ticks is = record { ascending = is.ascending; positive = from_one ticks is.each }

-- a clock whose ticks may be written
pub clock_stored : (ticks : List (List ℕ × ℕ)) → IsShort ticks → IsClock ticks → AllByRecursion HaveShape ticks → IsStoredClock ticks
clock_stored ticks short clock shape = record {
  count = short;
  each = each_both HaveShape (λ (entry : List ℕ × ℕ). 1 ≤ entry.1) AreTicks (λ entry s positive. record { path = s.path; positive = positive; tick = s.tick }) ticks shape clock.positive;
  ascending = clock.ascending;
}

-- a triple that has a short spelling
triple_stored : (triple : Triple) → IsWrittenSo triple → IsShortTriple triple → IsStoredTriple triple
triple_stored triple written short = record { spelled = written.spelled; within = written.within; utf8 = written.utf8; short = short }

-- pairs that may be written, in their order, each of a dot of a clock
pub pairs_stored : (ticks : List (List ℕ × ℕ)) (pairs : List Tagged) → AreShortPairs pairs → AllByRecursion HasPairShape pairs → IsAscending tagged_cmp pairs
    → AllByRecursion (λ (pair : Tagged). Covers ticks pair.dot) pairs → ArePairs pairs
pairs_stored ticks pairs short shape ascending covered = record {
  count = short.count;
  each = each_both HasPairShape (λ (pair : Tagged). IsShortTriple pair.triple × Covers ticks pair.dot) IsPair
      (λ pair s both. record {
        triple = triple_stored pair.triple s.triple both.0;
        dot = record { path = s.dot.path; positive = both.1.positive; tick = s.dot.tick };
      }) pairs shape
      (each_both (λ (pair : Tagged). IsShortTriple pair.triple) (λ (pair : Tagged). Covers ticks pair.dot) (λ (pair : Tagged). IsShortTriple pair.triple × Covers ticks pair.dot) (λ pair x y. (x, y)) pairs
      (each_all (λ (pair : Tagged). IsShortTriple pair.triple) pairs (length pairs) (omega arith) short.texts) covered);
  ascending = ascending;
}

-- inserts that may be written, in their order
inserts_stored : (inserts : List (Triple × ℕ)) → AreShortInserts inserts → AllByRecursion HasInsertShape inserts → IsAscending insert_cmp inserts → AreStoredInserts inserts
inserts_stored inserts short shape ascending = record {
  count = short.count;
  each = each_both HasInsertShape (λ (insert : Triple × ℕ). IsShortTriple insert.0) IsInsert (λ insert s texts. record { triple = triple_stored insert.0 s.triple texts; tick = s.tick }) inserts shape
      (each_all (λ (insert : Triple × ℕ). IsShortTriple insert.0) inserts (length inserts) (omega arith) short.texts);
  ascending = ascending;
}

-- an entry of such parts
pub entry_stored : (entry : EntryValue) → IsShortEntry entry → IsRange entry.range → IsStoredClock entry.time → AllByRecursion HasPairShape entry.deletes → AllByRecursion HasInsertShape entry.inserts → IsEntry entry
    → IsStoredEntry entry
entry_stored entry short range time deletes inserts kept = record {
  range = range;
  time = time;
  deletes = pairs_stored entry.time entry.deletes short.deletes deletes kept.deletes_ascend kept.deletes_covered;
  inserts = inserts_stored entry.inserts short.inserts inserts kept.inserts_ascend;
  entry_kept = kept;
}
