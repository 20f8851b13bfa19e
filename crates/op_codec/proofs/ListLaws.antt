-- How lists are read item by item.
use Rattle.std.proofs.Common.{◌≡◌, ℕ, suc, ◌+◌, ◌-◌, ◌<◌, ◌≤◌, List, [], ◌∷◌, ◌++◌, Bool, true, false, length, drop, ap, ◌∙◌, arith}
use Rattle.op_codec.specs.declared.faults.CodecFault.{CodecFault}
use Rattle.op_codec.specs.declared.faults.CodecFault.TheVariants.{NotInGrammar, NoMemory}
use Rattle.op_codec.specs.Agreement.{IsRead, IsRefused, TakesItem, MissesItem}
use Rattle.op_codec.specs.StoredLists.{read_items, read_list}
use Rattle.op_codec.specs.Reading.{Reading, chain, read_u32}

-- what comes behind a fault doesn't matter
pub refused_later : {X Y : Type 0} (reading : Reading X) (next : X → ℕ → List ℕ → Reading Y) (fault : CodecFault) → IsRefused reading fault → IsRefused (chain reading next) fault
refused_later reading next (NotInGrammar place) h = ap (λ r. chain r next) h
refused_later reading next NoMemory h = tt

-- a reading that is another one has its faults
pub refused_same : {X : Type 0} (reading other : Reading X) (fault : CodecFault) → reading ≡ other → IsRefused other fault → IsRefused reading fault
refused_same reading other (NotInGrammar place) e h = e ∙ h
refused_same reading other NoMemory e h = tt

module _ {X : Type 0} (read_item : ℕ → List ℕ → Reading X) (fits : List X → X → Bool) (input : List ℕ) where
  -- an item that fits is taken
  pub item_taken : (old : List X) (place : ℕ) (item : X) (next : ℕ) → IsRead (read_item place (drop place input)) input item next → fits old item ≡ true
      → TakesItem read_item fits input old place (old ++ item ∷ []) next
  unfolding read_items
  item_taken old place item next r f = record { leads = λ count. rw (r.found, f); within = r.within }

  -- an item that doesn't fit is a fault where it begins
  pub item_unfit : (old : List X) (place : ℕ) (item : X) (next : ℕ) → IsRead (read_item place (drop place input)) input item next → fits old item ≡ false
      → MissesItem read_item fits input old place (NotInGrammar place)
  unfolding read_items
  item_unfit old place item next r f count = rw (r.found, f)

  -- an item that can't be read is a fault where that one is
  pub item_refused : (old : List X) (place : ℕ) (fault : CodecFault) → IsRefused (read_item place (drop place input)) fault → MissesItem read_item fits input old place fault
  unfolding read_items
  item_refused old place fault h count = refused_later (read_item place (drop place input)) _ fault h

  -- so many items behind these
  pub record IsUnderWay (whole : Reading (List X)) (count done : ℕ) (items : List X) (place : ℕ) : Type 0 where
    pub goes : whole ≡ read_items read_item fits (count - done) items place (drop place input)
    pub within : place ≤ length input

  -- reading goes on behind an item that is taken
  pub under_way_more : (whole : Reading (List X)) (count done : ℕ) (old : List X) (place : ℕ) (new : List X) (next : ℕ) → IsUnderWay whole count done old place → done < count
      → TakesItem read_item fits input old place new next → IsUnderWay whole count (done + 1) new next
  under_way_more whole count done old place new next u l t =
      let e : count - done ≡ suc (count - (done + 1)) = omega arith in
      record {
        goes = u.goes ∙ ap (λ (n : ℕ). read_items read_item fits n old place (drop place input)) e ∙ t.leads (count - (done + 1));
        within = t.within;
      }

  -- reading ends at an item that is missed
  pub under_way_missed : (whole : Reading (List X)) (count done : ℕ) (old : List X) (place : ℕ) (fault : CodecFault) → IsUnderWay whole count done old place → done < count
      → MissesItem read_item fits input old place fault → IsRefused whole fault
  under_way_missed whole count done old place fault u l m =
      let e : count - done ≡ suc (count - (done + 1)) = omega arith in
      refused_same whole (read_items read_item fits (suc (count - (done + 1))) old place (drop place input)) fault
      (u.goes ∙ ap (λ (n : ℕ). read_items read_item fits n old place (drop place input)) e) (m (count - (done + 1)))

  -- once all are read they are the list
  pub under_way_done : (whole : Reading (List X)) (count done : ℕ) (items : List X) (place : ℕ) → IsUnderWay whole count done items place → count ≤ done → IsRead whole input items place
  unfolding read_items
  under_way_done whole count done items place u l =
      let e : count - done ≡ 0 = omega arith in
      record {
        found = u.goes ∙ ap (λ (n : ℕ). read_items read_item fits n items place (drop place input)) e;
        within = u.within;
      }

  -- the items behind a count
  pub list_begins : (at count start : ℕ) → IsRead (read_u32 at (drop at input)) input count start
      → IsUnderWay (read_list read_item fits at (drop at input)) count 0 [] start
  list_begins at count start r = record {
    goes = ap (λ (r : Reading ℕ). chain r (λ count next rest. read_items read_item fits count [] next rest)) r.found ∙ ap (λ (n : ℕ). read_items read_item fits n [] start (drop start input)) (omega arith);
    within = r.within;
  }
