-- Laws of unsynced writes that are taken back, and done again.
use Rattle.std.specs.Prelude.{◌≡◌, ℕ, ◌+◌, ◌-◌, ◌≤◌, max, min, List, [], ◌∷◌, ◌++◌, length, take, drop}
use Rattle.std.proofs.Common.{refl, sym, ◌∙◌, ap, arith, inl, inr, length-append, length-drop}
use Rattle.std.proofs.Math.Seq.{take-add}
use Rattle.std.proofs.lemmas.List.{drop_at, length-take-le, take-append-drop, take-take, take_all, take_at}
use Rattle.std.proofs.lemmas.Bool.{cases_lt}
use Rattle.mld_io.specs.Disk.{written}
use Rattle.disk_model.specs.declared.unsynced.Unsynced.{Unsynced}
use Rattle.disk_model.specs.Covered.{CoversBytes, before, lost_by, torn_by, first_size, AreChained}
use Rattle.disk_model.specs.SideSteps.{torn_piece}
use Rattle.disk_model.specs.Pieces.{length-torn_piece}
use Rattle.disk_model.proofs.Copies.{written_before, written_front}

-- what a write covered, put back, makes the bytes what they were
pub covered_back : (at : ℕ) (piece old : List ℕ) → at ≤ length old
    → take (length old) (written at (take (min (length old) (at + length piece) - at) (drop at old)) (written at piece old)) ≡ old
covered_back at piece old within =
    let size = length old in
    let end = at + length piece in
    let stop = min size end in
    let covered = take (stop - at) (drop at old) in
    let now = written at piece old in
    let long : length covered ≡ stop - at = length-take-le (stop - at) (drop at old) (omega (arith, length-drop at old)) in
    let up_to : at + length covered ≡ stop = omega (arith, long) in
    let rest : at + (stop - at) ≡ stop = omega arith in
    let front : take at now ≡ take at old = written_before at at piece old (omega arith) within in
    let joined : take at old ++ covered ≡ take stop old = sym (take-add at (stop - at) old) ∙ ap (λ (k : ℕ). take k old) rest in
    let whole : written at covered now ≡ take stop old ++ drop stop now =
    ap (λ (l : List ℕ). l ++ covered ++ drop (at + length covered) now) front ∙ ap (λ (l : List ℕ). l ++ drop (at + length covered) now) joined
    ∙ ap (λ (k : ℕ). take stop old ++ drop k now) up_to in
    ap (take size) whole
    ∙ elim (cases_lt size end) [
      | inl past ↦
          let full : length (take stop old) ≡ size = length-take-le stop old (omega arith) ∙ omega arith in
          take_at (take stop old) (drop stop now) size full ∙ take_all stop old (omega arith)
      | inr inside ↦
          let is : stop ≡ end = omega arith in
          let before_end : length (take at old ++ piece) ≡ end = omega (arith, length-append (take at old) piece, length-take-le at old within) in
          let behind : drop stop now ≡ drop end old = ap (λ (k : ℕ). drop k now) is ∙ drop_at (take at old ++ piece) (drop end old) end before_end in
          ap (take size) (ap (λ (l : List ℕ). take stop old ++ l) behind ∙ ap (λ (k : ℕ). take k old ++ drop end old) is ∙ take-append-drop end old)
          ∙ take_all size old (omega arith)
    ]

-- so does a write that is taken back
pub taken_back : (write : Unsynced) (at : ℕ) (piece old : List ℕ) → CoversBytes at piece old write → at ≤ length old → before write (written at piece old) ≡ old
taken_back write at piece old covers within =
    ap (λ (k : ℕ). take k (written write.at write.covered (written at piece old))) covers.size_is
    ∙ ap (λ (k : ℕ). take (length old) (written k write.covered (written at piece old))) covers.at_is
    ∙ ap (λ (l : List ℕ). take (length old) (written at l (written at piece old))) covers.covered_is ∙ covered_back at piece old within

-- within a longer list it is taken back just so
pub before_front : (write : Unsynced) (size : ℕ) (bytes : List ℕ) → write.at + length write.covered ≤ write.size → write.size ≤ size → size ≤ length bytes
    → take write.size (written write.at write.covered bytes) ≡ before write (take size bytes)
before_front write size bytes fits grew within =
    let same : max size (write.at + length write.covered) ≡ size = omega arith in
    let front : take size (written write.at write.covered bytes) ≡ written write.at write.covered (take size bytes) =
    sym (ap (λ (k : ℕ). take k (written write.at write.covered bytes)) same) ∙ written_front write.at size write.covered bytes (omega arith) within in
    sym (take-take write.size size (written write.at write.covered bytes) grew) ∙ ap (take write.size) front

-- the newest write is taken back first
pub lost_newest : (writes : List Unsynced) (write : Unsynced) (bytes : List ℕ) → lost_by (writes ++ write ∷ []) bytes ≡ lost_by writes (before write bytes)
lost_newest [] write bytes = refl
lost_newest (other ∷ writes) write bytes = ap (before other) (lost_newest writes write bytes)

-- and torn last
pub torn_newest : (writes : List Unsynced) (write : Unsynced) (bytes : List ℕ) → torn_by (writes ++ write ∷ []) bytes ≡ written write.at (torn_piece write.piece) (torn_by writes bytes)
torn_newest [] write bytes = refl
torn_newest (other ∷ writes) write bytes = torn_newest writes write (written other.at (torn_piece other.piece) bytes)

-- what is lost with one write more is what was lost before it
pub lost_more : (writes : List Unsynced) (write : Unsynced) (at : ℕ) (piece old : List ℕ) → CoversBytes at piece old write → at ≤ length old
    → lost_by (writes ++ write ∷ []) (written at piece old) ≡ lost_by writes old
lost_more writes write at piece old covers within = lost_newest writes write (written at piece old) ∙ ap (lost_by writes) (taken_back write at piece old covers within)

-- what is torn with one write more
pub torn_more : (writes : List Unsynced) (write : Unsynced) (at : ℕ) (piece old : List ℕ) → CoversBytes at piece old write → at ≤ length old
    → torn_by (writes ++ write ∷ []) (lost_by (writes ++ write ∷ []) (written at piece old)) ≡ written at (torn_piece piece) (torn_by writes (lost_by writes old))
torn_more writes write at piece old covers within =
    ap (torn_by (writes ++ write ∷ [])) (lost_more writes write at piece old covers within) ∙ torn_newest writes write (lost_by writes old)
    ∙ ap (λ (k : ℕ). written k (torn_piece write.piece) (torn_by writes (lost_by writes old))) covers.at_is
    ∙ ap (λ (l : List ℕ). written at (torn_piece l) (torn_by writes (lost_by writes old))) covers.piece_is

-- behind the last write stands one more, which begins with the length that the last one left
first_more : (writes : List Unsynced) (write : Unsynced) (size now : ℕ) → write.size ≡ size → first_size (writes ++ write ∷ []) now ≡ first_size writes size
first_more [] write size now is = is
first_more (other ∷ writes) write size now is = refl

pub chained_more : (writes : List Unsynced) (write : Unsynced) (size : ℕ) → AreChained writes size → write.size ≡ size → write.at + length write.covered ≤ write.size
    → AreChained (writes ++ write ∷ []) (max size (write.at + length write.piece))
chained_more [] write size chained is fits = (fits, ap (λ (k : ℕ). max k (write.at + length write.piece)) (sym is), tt)
chained_more (other ∷ writes) write size chained is fits =
    (chained.0, first_more writes write size (max size (write.at + length write.piece)) is ∙ chained.1, chained_more writes write size chained.2 is fits)

-- what is known of the newest write, and of those before it
pub record IsNewest (writes : List Unsynced) (write : Unsynced) (size : ℕ) : Type 0 where
  pub fits : write.at + length write.covered ≤ write.size
  pub size_is : size ≡ max write.size (write.at + length write.piece)
  pub chained : AreChained writes write.size
  pub first_is : first_size (writes ++ write ∷ []) size ≡ first_size writes write.size

pub newest : (writes : List Unsynced) (write : Unsynced) (size : ℕ) → AreChained (writes ++ write ∷ []) size → IsNewest writes write size
newest [] write size chained = record { fits = chained.0; size_is = chained.1; chained = tt; first_is = refl }
newest (other ∷ writes) write size chained =
    let rest = newest writes write size chained.2 in
    record {
      fits = rest.fits;
      size_is = rest.size_is;
      chained = (chained.0, sym rest.first_is ∙ chained.1, rest.chained);
      first_is = refl;
    }

-- writes don't shorten a side
pub chained_grows : (writes : List Unsynced) (size : ℕ) → AreChained writes size → first_size writes size ≤ size
chained_grows [] size chained = omega arith
chained_grows (write ∷ writes) size chained = omega (arith, chained.1, chained_grows writes size chained.2)

-- one write more is done again, and torn
pub torn_again : (write : Unsynced) (writes : List Unsynced) (size : ℕ) (bytes : List ℕ) → AreChained (write ∷ writes) size → size ≤ length bytes
    → torn_by writes (take (first_size writes size) (written write.at (torn_piece write.piece) bytes)) ≡ torn_by (write ∷ writes) (take write.size bytes)
torn_again write writes size bytes chained within =
    let grows = chained_grows writes size chained.2 in
    let is : first_size writes size ≡ max write.size (write.at + length (torn_piece write.piece)) = omega (arith, chained.1, length-torn_piece write.piece) in
    ap (torn_by writes) (ap (λ (k : ℕ). take k (written write.at (torn_piece write.piece) bytes)) is
    ∙ written_front write.at write.size (torn_piece write.piece) bytes (omega (arith, chained.0)) (omega (arith, chained.1, grows)))

-- what a write covers lies within the side
pub covers_fits : (write : Unsynced) (at : ℕ) (piece old : List ℕ) → CoversBytes at piece old write → at ≤ length old → write.at + length write.covered ≤ write.size
covers_fits write at piece old covers within =
    let stop = min (length old) (at + length piece) in
    let long : length (take (stop - at) (drop at old)) ≡ stop - at = length-take-le (stop - at) (drop at old) (omega (arith, length-drop at old)) in
    omega (arith, covers.at_is, covers.size_is, ap length covers.covered_is, long)
