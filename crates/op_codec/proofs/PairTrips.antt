-- What is written for clocks, triples and pairs is read as them, and what is read was written so.
use Rattle.std.proofs.Common.{◌≡◌, ℕ, ◌+◌, ◌^◌, ◌<◌, List, [], ◌∷◌, ◌++◌, Bool, true, false, ◌&&◌, Option, Some, None, if◌then◌else◌, length, refl, sym, ap, ◌∙◌, subst, inl, inr}
use Rattle.std.proofs.lemmas.Bool.{cases_Bool, and_parts, and_from}
use Rattle.std.proofs.lemmas.Slice.Eq.{bytes_eq-Decides}
use Rattle.std.proofs.lemmas.Str.{IsUtf8-from_is_utf8}
use Rattle.std.specs.List.{AllByRecursion}
use Rattle.std.specs.Str.{IsUtf8, is_utf8}
use Rattle.mld_bytes.proofs.Numbers.{length-u32_bytes}
use Rattle.mld_bytes.specs.Bytes.{u32_bytes}
use Rattle.mld_ops.specs.Tagged.{tagged_cmp}
use Rattle.mld_ops.proofs.TaggedLaws.{tagged_total}
use Rattle.mld_ops.specs.declared.tagged.Tagged.{Tagged}
use Rattle.rdf_terms.proofs.Sound.{read_spelled}
use Rattle.rdf_terms.proofs.Values.{IsWithin-from_test}
use Rattle.rdf_terms.specs.Building.{is_within}
use Rattle.rdf_terms.specs.Grammar.{SpellsTriple, IsTripleWithin}
use Rattle.rdf_terms.specs.Literal.{is_same}
use Rattle.rdf_terms.specs.TripleReading.{ReadingEnd, Spelled, Stopped, Before, Subject, run}
use Rattle.rdf_terms.specs.Spelling.{triple_text}
use Rattle.rdf_terms.specs.declared.terms.Triple.{Triple}
use Rattle.tree_clock.specs.Clock.{entry_cmp}
use Rattle.tree_clock.specs.declared.dots.Dot.{Dot}
use Rattle.op_codec.specs.Clocks.{dot_bytes, read_dot, ticks_bytes, read_ticks, clock_bytes, read_clock}
use Rattle.op_codec.specs.CodecLaws.{AreBytes, IsReadBack, IsWritten, IsOneSpelling}
use Rattle.op_codec.specs.StoredLists.{is_above}
use Rattle.op_codec.specs.PairBytes.{is_covered, fits_pairs, pair_bytes, read_pair, pairs_bytes, read_pairs}
use Rattle.op_codec.specs.Reading.{Reading, Found, Fault, chain, read_u32, read_piece}
use Rattle.op_codec.specs.Stored.{AreTicks, IsStoredClock, IsStoredTriple, IsPair, ArePairs}
use Rattle.op_codec.specs.Triples.{stored_triple, written_triple, triple_of, found_at, read_stored}
use Rattle.op_codec.proofs.ClockReading.{entry_total}
use Rattle.op_codec.proofs.FieldLaws.{piece_takes, u32_takes}
use Rattle.op_codec.proofs.FieldTrips.{piece_was, u32_was}
use Rattle.op_codec.proofs.ListTrips.{IsFitting, fitting_from_ascending, ascending_from_fitting, list_back, list_one}
use Rattle.op_codec.proofs.PathTrips.{dot_back, dot_one}
use Rattle.op_codec.proofs.Sequences.{then_back, map_back, Splits, splits, bytes_left, same_parts, fault_found, both_written}
use Rattle.op_codec.proofs.TripleLaws.{triple_written}

-- ---- clocks

-- a path with its ticks is read back
ticks_back : IsReadBack AreTicks ticks_bytes read_ticks
ticks_back ticks place rest is =
    let dot : Dot = record { path = ticks.0; tick = ticks.1 } in
    map_back (read_dot place (dot_bytes dot ++ rest)) (λ (d : Dot). (d.path, d.tick)) dot (place + length (dot_bytes dot)) rest (dot_back dot place rest is)

-- a path with its ticks was written so
ticks_one : IsOneSpelling AreTicks ticks_bytes read_ticks
ticks_one place bytes ticks next rest b h = by (splits (read_dot place bytes) (λ dot end left. Found (dot.path, dot.tick) end left) ticks next rest h)
  where
    by : Splits (read_dot place bytes) (λ dot end left. Found (dot.path, dot.tick) end left) ticks next rest → IsWritten AreTicks ticks_bytes place bytes ticks next rest
    by s =
        let w = dot_one place bytes s.value s.place s.rest b s.first in
        let e = same_parts (s.value.path, s.value.tick) ticks s.place next s.rest rest s.second in
        let l = e.rest_is in
        subst (λ (t : List ℕ × ℕ). IsWritten AreTicks ticks_bytes place bytes t next rest) e.value (record {
          value_is = w.value_is;
          front = w.front ∙ ap (λ (m : List ℕ). dot_bytes s.value ++ m) l;
          next_is = sym e.place_is ∙ w.next_is;
        })

-- a clock is read back
pub clock_back : IsReadBack IsStoredClock clock_bytes read_clock
unfolding clock_bytes read_clock
clock_back ticks place rest is =
    list_back AreTicks ticks_bytes read_ticks (is_above entry_cmp) ticks_back ticks place rest is.count is.each (fitting_from_ascending entry_cmp [] ticks is.ascending)

-- a clock was written so
pub clock_one : IsOneSpelling IsStoredClock clock_bytes read_clock
unfolding clock_bytes read_clock
clock_one place bytes ticks next rest b h =
    let w = list_one AreTicks ticks_bytes read_ticks (is_above entry_cmp) ticks_one place bytes ticks next rest b h in
    record {
      value_is = record { count = w.count; each = w.each; ascending = ascending_from_fitting entry_cmp entry_total [] ticks tt w.fitting };
      front = w.front;
      next_is = w.next_is;
    }

-- ---- triples

-- a text is the same as itself
same_text : (text : List ℕ) → is_same text text ≡ true
same_text text = (bytes_eq-Decides text text).1 refl

-- a triple is that of its written form
triple_of_text : (t : Triple) → IsStoredTriple t → triple_of (triple_text t) ≡ Some t
triple_of_text t is = triple_written (triple_text t) t is.utf8 is.spelled is.within (same_text (triple_text t))

-- the triple of a text
record WasTriple (text : List ℕ) (t : Triple) : Type 0 where
  same : triple_text t ≡ text
  spelled : SpellsTriple text t
  within : IsTripleWithin t
  utf8 : IsUtf8 text

-- a text's triple is written so
triple_was : (text : List ℕ) (t : Triple) → triple_of text ≡ Some t → WasTriple text t
unfolding triple_of
triple_was text t h =
    elim (cases_Bool (is_utf8 text)) [
      | inr f ↦ absurd (none_some (rw f at h))
      | inl u ↦ by (IsUtf8-from_is_utf8 text u) (run text (Before Subject)) refl (rw u at h)
    ]
  where
    none_some : None ≡ Some t → ⊥
    none_some e = cc

    some : (u : Triple) (b : Bool) → (if b then Some u else None) ≡ Some t → (b ≡ true) × (u ≡ t)
    some u true e = (refl, cc)
    some u false e = absurd (none_some e)

    by : IsUtf8 text → (verdict : ReadingEnd) → run text (Before Subject) ≡ verdict → written_triple text (run text (Before Subject)) ≡ Some t → WasTriple text t
    by utf8 (Stopped left) e k = absurd (none_some (sym (ap (written_triple text) e) ∙ k))
    by utf8 (Spelled u) e k =
        let p = some u (is_within u && is_same (triple_text u) text) (sym (ap (written_triple text) e) ∙ k) in
        let q = and_parts _ _ p.0 in
        subst (WasTriple text) p.1 (record { same = (bytes_eq-Decides (triple_text u) text).0 q.1; spelled = read_spelled text u e; within = IsWithin-from_test u q.0; utf8 = utf8 })

-- a triple is read back
pub stored_back : IsReadBack IsStoredTriple stored_triple read_stored
unfolding read_stored
stored_back t place rest is =
    let text = triple_text t in
    let four = length-u32_bytes (length text) in
    then_back read_u32 (λ size next rest. chain (read_piece size next rest) (λ text end left. found_at next (triple_of text) end left)) place (u32_bytes (length text)) text rest (length text) t
    (u32_takes (length text) place (text ++ rest) is.short ∙ ap (λ (n : ℕ). Found (length text) (place + n) (text ++ rest)) (sym four))
    (ap (λ (r : Reading (List ℕ)). chain r (λ text end left. found_at (place + length (u32_bytes (length (triple_text t)))) (triple_of text) end left)) (piece_takes (length text) (place + length (u32_bytes (length text))) text rest refl)
    ∙ ap (λ (o : Option Triple). found_at (place + length (u32_bytes (length text))) o (place + length (u32_bytes (length text)) + length text) rest) (triple_of_text t is))

-- a triple that was found
found_was : (place : ℕ) (found : Option Triple) (end : ℕ) (left : List ℕ) (t : Triple) (next : ℕ) (rest : List ℕ) → found_at place found end left ≡ Found t next rest
    → (found ≡ Some t) × (end ≡ next) × (left ≡ rest)
found_was place None end left t next rest h = fault_found (Fault place) place next t rest refl h
found_was place (Some u) end left t next rest h = let e = same_parts u t end next left rest h in (ap Some e.value, e.place_is, e.rest_is)

-- a triple was written so
pub stored_one : IsOneSpelling IsStoredTriple stored_triple read_stored
unfolding read_stored
stored_one place bytes t next rest b h =
    by (splits (read_u32 place bytes) (λ size next rest. chain (read_piece size next rest) (λ text end left. found_at next (triple_of text) end left)) t next rest h)
  where
    by : Splits (read_u32 place bytes) (λ size next rest. chain (read_piece size next rest) (λ text end left. found_at next (triple_of text) end left)) t next rest → IsWritten IsStoredTriple stored_triple place bytes t next rest
    by s =
        let w = u32_was place bytes s.value s.place s.rest b s.first in
        let k = splits (read_piece s.value s.place s.rest) (λ text end left. found_at s.place (triple_of text) end left) t next rest s.second in
        let p = piece_was s.value s.place s.rest k.value k.place k.rest k.first in
        let f = found_was s.place (triple_of k.value) k.place k.rest t next rest k.second in
        let was = triple_was k.value t f.0 in
        let same : k.value ≡ triple_text t = sym was.same in
        let count : s.value ≡ length (triple_text t) = sym p.0 ∙ ap length same in
        let left = f.2 in
        let place_is : s.place ≡ place + length (u32_bytes s.value) = w.2 ∙ ap (λ (n : ℕ). place + n) (sym (length-u32_bytes s.value)) in
        let end_is : k.place ≡ s.place + length k.value = p.2 ∙ ap (λ (n : ℕ). s.place + n) (sym p.0) in
        let both = both_written (u32_bytes s.value) k.value place s.place k.place bytes s.rest k.rest w.1 place_is p.1 end_is in
        let whole : u32_bytes s.value ++ k.value ≡ stored_triple t = λ i. u32_bytes (count i) ++ same i in
        record {
          value_is = record {
            spelled = subst (λ (text : List ℕ). SpellsTriple text t) same was.spelled;
            within = was.within;
            utf8 = subst IsUtf8 same was.utf8;
            short = subst (λ (n : ℕ). n < 2 ^ 32) count w.0;
          };
          front = both.front ∙ (λ i. whole i ++ left i);
          next_is = sym f.1 ∙ both.next_is ∙ ap (λ (l : List ℕ). place + length l) whole;
        }

-- ---- pairs

-- a pair is read back
pair_back : IsReadBack IsPair pair_bytes read_pair
unfolding read_pair
pair_back pair place rest is =
    then_back read_stored (λ triple next rest. chain (read_dot next rest) (λ dot end left. Found (record { triple = triple; dot = dot }) end left)) place (stored_triple pair.triple) (dot_bytes pair.dot) rest pair.triple pair
    (stored_back pair.triple place (dot_bytes pair.dot ++ rest) is.triple)
    (map_back (read_dot (place + length (stored_triple pair.triple)) (dot_bytes pair.dot ++ rest)) (λ (dot : Dot). let p : Tagged = record { triple = pair.triple; dot = dot } in p) pair.dot (place + length (stored_triple pair.triple) + length (dot_bytes pair.dot)) rest
    (dot_back pair.dot (place + length (stored_triple pair.triple)) rest is.dot))

-- a pair was written so
pair_one : IsOneSpelling IsPair pair_bytes read_pair
unfolding read_pair
pair_one place bytes pair next rest b h =
    by (splits (read_stored place bytes) (λ triple next rest. chain (read_dot next rest) (λ dot end left. Found (record { triple = triple; dot = dot }) end left)) pair next rest h)
  where
    by : Splits (read_stored place bytes) (λ triple next rest. chain (read_dot next rest) (λ dot end left. Found (record { triple = triple; dot = dot }) end left)) pair next rest → IsWritten IsPair pair_bytes place bytes pair next rest
    by s =
        let w = stored_one place bytes s.value s.place s.rest b s.first in
        let t = splits (read_dot s.place s.rest) (λ dot end left. Found (let p : Tagged = record { triple = s.value; dot = dot } in p) end left) pair next rest s.second in
        let v = dot_one s.place s.rest t.value t.place t.rest (bytes_left bytes (stored_triple s.value) s.rest b w.front) t.first in
        let e = same_parts (let p : Tagged = record { triple = s.value; dot = t.value } in p) pair t.place next t.rest rest t.second in
        let l = e.rest_is in
        let both = both_written (stored_triple s.value) (dot_bytes t.value) place s.place t.place bytes s.rest t.rest w.front w.next_is v.front v.next_is in
        subst (λ (p : Tagged). IsWritten IsPair pair_bytes place bytes p next rest) e.value (record {
          value_is = record { triple = w.value_is; dot = v.value_is };
          front = both.front ∙ ap (λ (m : List ℕ). (stored_triple s.value ++ dot_bytes t.value) ++ m) l;
          next_is = sym e.place_is ∙ both.next_is;
        })

module _ (cover : Option (List (List ℕ × ℕ))) where
  -- each pair is covered, where a clock is given
  abbrev pub AreCovered : List Tagged → Type 0
  AreCovered pairs = AllByRecursion (λ (pair : Tagged). is_covered cover pair.dot ≡ true) pairs

  -- pairs that ascend and are covered fit
  pairs_fit : (done pairs : List Tagged) → IsFitting (is_above tagged_cmp) done pairs → AreCovered pairs → IsFitting (fits_pairs cover) done pairs
  pairs_fit done [] f a = tt
  pairs_fit done (pair ∷ pairs) f a = (and_from (is_above tagged_cmp done pair) (is_covered cover pair.dot) f.0 a.0, pairs_fit (done ++ pair ∷ []) pairs f.1 a.1)

  -- pairs that fit ascend and are covered
  fit_pairs : (done pairs : List Tagged) → IsFitting (fits_pairs cover) done pairs → IsFitting (is_above tagged_cmp) done pairs × AreCovered pairs
  fit_pairs done [] f = (tt, tt)
  fit_pairs done (pair ∷ pairs) f =
      let p = and_parts (is_above tagged_cmp done pair) (is_covered cover pair.dot) f.0 in
      let more = fit_pairs (done ++ pair ∷ []) pairs f.1 in
      ((p.0, more.0), (p.1, more.1))

  -- a list of pairs is read back
  pub pairs_back : (pairs : List Tagged) (place : ℕ) (rest : List ℕ) → ArePairs pairs → AreCovered pairs → read_pairs cover place (pairs_bytes pairs ++ rest) ≡ Found pairs (place + length (pairs_bytes pairs)) rest
  unfolding pairs_bytes read_pairs
  pairs_back pairs place rest is a =
      list_back IsPair pair_bytes read_pair (fits_pairs cover) pair_back pairs place rest is.count is.each (pairs_fit [] pairs (fitting_from_ascending tagged_cmp [] pairs is.ascending) a)

  -- a list of pairs was written so
  pub pairs_one : (place : ℕ) (bytes : List ℕ) (pairs : List Tagged) (next : ℕ) (rest : List ℕ) → AreBytes bytes → read_pairs cover place bytes ≡ Found pairs next rest
      → IsWritten ArePairs pairs_bytes place bytes pairs next rest × AreCovered pairs
  unfolding pairs_bytes read_pairs
  pairs_one place bytes pairs next rest b h =
      let w = list_one IsPair pair_bytes read_pair (fits_pairs cover) pair_one place bytes pairs next rest b h in
      let f = fit_pairs [] pairs w.fitting in (
        record {
          value_is = record { count = w.count; each = w.each; ascending = ascending_from_fitting tagged_cmp tagged_total [] pairs tt f.0 };
          front = w.front;
          next_is = w.next_is;
        },
        f.1,
      )
