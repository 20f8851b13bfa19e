-- The lines taken so far, none of them too large.
use Rattle.std.specs.Prelude.{IsTrue}
use Rattle.std.proofs.Common.{◌≡◌, ◌≢◌, ◌↔◌, Bool, true, false, ℕ, zero, suc, ◌+◌, ◌-◌, ◌<◌, ◌≤◌, List, [], ◌∷◌, ◌++◌, inl, inr, refl, sym, ◌∙◌, ap, arith, subst, Option, Some, None, Result, Ok, Err, append_assoc}
use Rattle.std.proofs.lemmas.Bool.{cases_lt, false≢true}
use Rattle.mld_io.specs.declared.faults.LineFault.{LineFault}
use Rattle.mld_io.specs.declared.faults.LineFault.TheVariants as line_faults
use Rattle.mld_io.specs.Lines.{LinesValue, NextLine, IsTooLarge, IsCutShort, IsCutAtByte, HasNoEnd, line_break, ended_lines, lines_of, first_line, after_line, line_size}
use Rattle.mld_io.proofs.LinesLaws.{first_of_lines_lem, first_line_ends, after_line_none, ended_lines-append, ended_lines_none, HasNoEnd-first_line}
use Rattle.input_lines.specs.TooLarge.{left_after, size_of_lines, BreaksLimits, IsTooLargeLine, IsUnderLimits, line_limit, input_limit}
use Rattle.input_lines.specs.Taken.{TakesLine, TellsEnd, Advances, ReadsLines, IsLeft, KnowsEnd}
use Rattle.input_lines.specs.HowFar.{IsCutWithin, IsCutPast}
use Rattle.input_lines.specs.InputFaults.{HasReadCause}
use Rattle.input_lines.specs.declared.faults.InputFault.{InputFault}

-- one more line

left_after_more : (lines : ℕ) (bytes : List ℕ) → left_after (lines + 1) bytes ≡ after_line (left_after lines bytes)
left_after_more zero bytes = refl
left_after_more (suc lines) bytes = let e : suc lines + 1 ≡ suc (lines + 1) = omega arith in rw e (left_after_more lines (after_line bytes))

pub size_of_more : (lines : ℕ) (bytes : List ℕ) → size_of_lines (lines + 1) bytes ≡ size_of_lines lines bytes + line_size (left_after lines bytes)
size_of_more zero bytes = omega arith
size_of_more (suc lines) bytes =
    let e : suc lines + 1 ≡ suc (lines + 1) = omega arith in
    let more : size_of_lines (lines + 1) (after_line bytes) ≡ size_of_lines lines (after_line bytes) + line_size (left_after lines (after_line bytes)) = size_of_more lines (after_line bytes) in
    rw e (omega (arith, more))

-- nothing is left behind the last line

pub left_of_nothing : (lines : ℕ) → left_after lines [] ≡ []
left_of_nothing zero = refl
left_of_nothing (suc lines) = left_of_nothing lines

pub left_later : (done later : ℕ) (bytes : List ℕ) → left_after done bytes ≡ [] → done ≤ later → left_after later bytes ≡ []
left_later zero later bytes none le = ap (λ (b : List ℕ). left_after later b) none ∙ left_of_nothing later
left_later (suc done) zero bytes none le = absurd (omega (arith, le))
left_later (suc done) (suc later) bytes none le = left_later done later (after_line bytes) none (omega (arith, le))

-- none of the lines is too large, where none is left
pub all_fit : (bytes : List ℕ) (left : Option (List ℕ)) (size done : ℕ) (lines : List (List ℕ)) → (at : IsLeft bytes left size done lines) → at.rest ≡ []
    → (before : ℕ) → ¬ IsTooLargeLine bytes before
all_fit bytes left size done lines at none before large = elim (cases_lt before done) [
  | inl early ↦ at.fits before early large
  | inr late ↦ large.some (left_later done before bytes (sym at.behind ∙ none) late)
]

-- nor is one that was taken
pub taken_fit : (bytes : List ℕ) (left rest : Option (List ℕ)) (size grown done : ℕ) (lines : List (List ℕ)) (line : List ℕ) → (at : IsLeft bytes left size done lines)
    → TakesLine size at.rest rest grown (Some line) → (before : ℕ) → before < done + 1 → ¬ IsTooLargeLine bytes before
taken_fit bytes left rest size grown done lines line at taken before below large = elim (cases_lt before done) [
  | inl early ↦ at.fits before early large
  | inr late ↦
      let same : before ≡ done = omega (arith, below, late) in
      let P : ℕ → Type 0 = λ k. IsTooLargeLine bytes k in
      let Q : ℕ → Type 0 = λ n. BreaksLimits n (left_after done bytes) in
      let R : List ℕ → Type 0 = λ b. BreaksLimits size b in
      taken.4 (subst R (sym at.behind) (subst Q (sym at.counted) (subst P same large)))
]

-- nothing is taken yet
pub left_first : (given : Option (List ℕ)) (size : ℕ) → size ≡ 0 → (bytes : List ℕ) → given ≡ Some bytes → IsLeft bytes given size 0 []
left_first given size nothing bytes is = record { rest = bytes; is = is; behind = refl; counted = nothing; fits = λ lines below. absurd (omega (arith, below)); whole = refl }

-- the lines done, and the next line that was taken
pub taken_left : (given left : Option (List ℕ)) (size grown done : ℕ) (lines : List (List ℕ)) (line : List ℕ) (rest : Option (List ℕ))
    → ((bytes : List ℕ) → given ≡ Some bytes → IsLeft bytes left size done lines)
    → ((bytes : List ℕ) → left ≡ Some bytes → TakesLine size bytes rest grown (Some line)) → (bytes : List ℕ) → given ≡ Some bytes → IsLeft bytes rest grown (done + 1) (lines ++ line ∷ [])
taken_left given left size grown done lines line rest left_of takes bytes is =
    let before : IsLeft bytes left size done lines = left_of bytes is in
    let taken : TakesLine size before.rest rest grown (Some line) = takes before.rest before.is in
    record {
      rest = after_line before.rest;
      is = taken.2;
      behind = ap after_line before.behind ∙ sym (left_after_more done bytes);
      counted = omega (arith, taken.3, before.counted, size_of_more done bytes, ap line_size before.behind);
      fits = taken_fit bytes left rest size grown done lines line before taken;
      whole = before.whole ∙ ap (λ ls. lines ++ ls) (first_of_lines_lem before.rest taken.0 ∙ ap (λ l. l ∷ lines_of (after_line before.rest)) (sym taken.1))
          ∙ sym (append_assoc lines (line ∷ []) (lines_of (after_line before.rest)));
    }

-- what a call for the next line says of a line
pub takes_line : (lines : LinesValue) (bytes : List ℕ) (line : Option (List ℕ)) (taken : ℕ) (ended : Bool) (left : Option (List ℕ)) → IsUnderLimits lines
    → NextLine lines bytes (Ok line) taken ended left → TakesLine lines.taken bytes left taken line
takes_line lines bytes None taken ended left under next = next.none_left ∙ ap (λ (b : List ℕ). Some b) (sym next.empty)
takes_line lines bytes (Some piece) taken ended left under next =
    (next.some, next.piece_is, next.left_is, next.taken_is, λ large. large.too_large (omega (arith, under.in_line, next.fits.in_line), omega (arith, under.in_all, next.fits.in_all)))

-- the source has told its end, or not
pub by_ended : {R : Type 0} (ended : Bool) → (ended ≡ true → R) → (ended ≡ false → R) → R
by_ended true at_end goes_on = at_end refl
by_ended false at_end goes_on = goes_on refl

pub ok_none : (line : Option (List ℕ)) → ◌≡◌ {A = Result (Option (List ℕ)) LineFault} (Ok line) (Ok None) → line ≡ None
ok_none line same = cc

-- it had not where a call failed
pub not_ended : (ended : Bool) (fault : LineFault) → (ended ≡ true → ◌≡◌ {A = Result (Option (List ℕ)) LineFault} (Err fault) (Ok None)) → ended ≡ false
not_ended ended fault refused = by_ended ended (λ yes. let same : ◌≡◌ {A = Result (Option (List ℕ)) LineFault} (Err fault) (Ok None) = refused yes in absurd (cc (same))) (λ no. no)

-- where the source has told its end, there is none
pub takes_line_none : (size : ℕ) (bytes : List ℕ) (line : Option (List ℕ)) (taken : ℕ) (left : Option (List ℕ)) → line ≡ None → left ≡ Some bytes → TakesLine size bytes left taken line
takes_line_none size bytes line taken left none same = let P : Option (List ℕ) → Type 0 = λ o. TakesLine size bytes left taken o in subst P (sym none) same

-- where there was none, there was no byte
pub none_empty : (lines : LinesValue) (bytes : List ℕ) (line : Option (List ℕ)) (taken : ℕ) (ended : Bool) (left : Option (List ℕ)) → NextLine lines bytes (Ok line) taken ended left
    → line ≡ None → bytes ≡ []
none_empty lines bytes None taken ended left next none = next.empty
none_empty lines bytes (Some piece) taken ended left next none = absurd (cc (none))

-- a line ended the input just where it lacked its LF
pub line_ended : (lines : LinesValue) (bytes : List ℕ) (line : Option (List ℕ)) (taken : ℕ) (ended : Bool) (left : Option (List ℕ)) → NextLine lines bytes (Ok line) taken ended left
    → TellsEnd ended bytes line
line_ended lines bytes None taken ended left next = tt
line_ended lines bytes (Some piece) taken ended left next = next.ended_is

pub line_ended_none : (line : Option (List ℕ)) (ended : Bool) (bytes : List ℕ) → line ≡ None → TellsEnd ended bytes line
line_ended_none None ended bytes none = tt
line_ended_none (Some piece) ended bytes none = absurd (cc (none))

-- and of one that is too large
pub breaks_limits : (lines : LinesValue) (bytes : List ℕ) (fault : LineFault) (taken : ℕ) (ended : Bool) (left : Option (List ℕ)) → IsUnderLimits lines
    → fault ≡ line_faults.TooLarge → NextLine lines bytes (Err fault) taken ended left → BreaksLimits lines.taken bytes
breaks_limits lines bytes fault taken ended left under is next =
    let P : LineFault → Type 0 = λ f. NextLine lines bytes (Err f) taken ended left in
    let large : IsTooLarge lines bytes left = subst P is next in
    record {
      some = large.some;
      too_large = λ fits. large.too_large (record { in_line = omega (arith, under.in_line, fits.0); in_all = omega (arith, under.in_all, fits.1) });
    }

-- and how far it was read
pub cut_past : (lines : LinesValue) (bytes : List ℕ) (fault : LineFault) (taken : ℕ) (ended : Bool) (left : Option (List ℕ)) → IsUnderLimits lines
    → fault ≡ line_faults.TooLarge → NextLine lines bytes (Err fault) taken ended left → IsCutPast lines.taken bytes left
cut_past lines bytes fault taken ended left under is next =
    let P : LineFault → Type 0 = λ f. NextLine lines bytes (Err f) taken ended left in
    let large : IsTooLarge lines bytes left = subst P is next in
    let at_line : IsCutAtByte line_limit (lines.all - lines.taken) bytes left = subst (λ (n : ℕ). IsCutAtByte n (lines.all - lines.taken) bytes left) under.in_line large.cut in
    subst (λ (n : ℕ). IsCutAtByte line_limit (n - lines.taken) bytes left) under.in_all at_line

-- and how far one was that isn't
pub cut_within : (lines : LinesValue) (bytes : List ℕ) (fault : LineFault) (taken : ℕ) (ended : Bool) (left : Option (List ℕ)) → IsUnderLimits lines
    → fault ≢ line_faults.TooLarge → NextLine lines bytes (Err fault) taken ended left → IsCutWithin lines.taken bytes left
cut_within lines bytes fault taken ended left under differs next = under_limits (by_fault fault differs next) where
  by_fault : (f : LineFault) → f ≢ line_faults.TooLarge → NextLine lines bytes (Err f) taken ended left → IsCutShort lines.line (lines.all - lines.taken) bytes left
  by_fault line_faults.ReadFault other is = is
  by_fault line_faults.NoMemory other is = is
  by_fault line_faults.TooLarge other is = absurd (other refl)

  under_limits : IsCutShort lines.line (lines.all - lines.taken) bytes left → IsCutWithin lines.taken bytes left
  under_limits cut =
      let in_line : IsCutShort line_limit (lines.all - lines.taken) bytes left = subst (λ (n : ℕ). IsCutShort n (lines.all - lines.taken) bytes left) under.in_line cut in
      subst (λ (n : ℕ). IsCutShort line_limit (n - lines.taken) bytes left) under.in_all in_line

-- the line behind those done is too large
pub large_next : (bytes : List ℕ) (left : Option (List ℕ)) (size done : ℕ) (lines : List (List ℕ)) → (at : IsLeft bytes left size done lines) → BreaksLimits size at.rest → IsTooLargeLine bytes done
large_next bytes left size done lines at large =
    let Q : ℕ → Type 0 = λ n. BreaksLimits n (left_after done bytes) in
    let R : List ℕ → Type 0 = λ b. BreaksLimits size b in
    subst Q at.counted (subst R at.behind large)

-- ---- the end of the input

-- the source hasn't told it yet
pub end_first : (given : Option (List ℕ)) (ended : Bool) → ended ≡ false → KnowsEnd ended given given 0
end_first given ended not_yet = record {
  none_left = λ yes. absurd (false≢true (sym not_yet ∙ yes));
  reads = λ _ bytes is. record { read = []; rest = bytes; whole = refl; ends = refl; left_is = is };
}

-- one more line is read, with its LF
reads_more : (bytes : List ℕ) (left rest : Option (List ℕ)) (done : ℕ) (behind : List ℕ) → ReadsLines bytes left done → left ≡ Some behind → ¬ HasNoEnd behind
    → rest ≡ Some (after_line behind) → ReadsLines bytes rest (done + 1)
reads_more bytes left rest done behind reads is has is_rest =
    let same : reads.rest ≡ behind = some_same reads.rest behind (sym reads.left_is ∙ is) in
    let ends : behind ≡ first_line behind ++ line_break ∷ after_line behind = first_line_ends behind has in
    let first : ended_lines (first_line behind ++ line_break ∷ []) ≡ ended_lines (first_line behind) + 1 = ended_lines-append (first_line behind) (line_break ∷ []) in
    record {
      read = reads.read ++ (first_line behind ++ line_break ∷ []);
      rest = after_line behind;
      whole = reads.whole ∙ ap (λ (b : List ℕ). reads.read ++ b) (same ∙ ends ∙ sym (append_assoc (first_line behind) (line_break ∷ []) (after_line behind)))
          ∙ sym (append_assoc reads.read (first_line behind ++ line_break ∷ []) (after_line behind));
      ends = omega (arith, ended_lines-append reads.read (first_line behind ++ line_break ∷ []), first, ended_lines_none (first_line behind) (HasNoEnd-first_line behind), reads.ends);
      left_is = is_rest;
    }
  where
    some_same : (a b : List ℕ) → ◌≡◌ {A = Option (List ℕ)} (Some a) (Some b) → a ≡ b
    some_same a b h = cc

-- a line was taken
pub end_more : (given left rest : Option (List ℕ)) (size grown done : ℕ) (lines : List (List ℕ)) (line : List ℕ) (before now : Bool) → KnowsEnd before given left done
    → ((bytes : List ℕ) → given ≡ Some bytes → IsLeft bytes left size done lines)
    → ((bytes : List ℕ) → left ≡ Some bytes → TakesLine size bytes rest grown (Some line))
    → ((bytes : List ℕ) → left ≡ Some bytes → IsTrue now ↔ HasNoEnd bytes) → KnowsEnd now given rest (done + 1)
end_more given left rest size grown done lines line before now knows left_of takes ends = record {
  none_left = λ yes bytes is.
      let at : IsLeft bytes left size done lines = left_of bytes is in
      (takes at.rest at.is).2 ∙ ap (λ (b : List ℕ). Some b) (after_line_none at.rest ((ends at.rest at.is).0 yes));
  reads = λ not_yet bytes is.
      let at : IsLeft bytes left size done lines = left_of bytes is in
      let taken : TakesLine size at.rest rest grown (Some line) = takes at.rest at.is in
      reads_more bytes left rest done at.rest (goes_on before at.rest (λ yes. knows.none_left yes bytes is) (λ no. knows.reads no bytes is) at.is taken.0) at.is
      (λ none. false≢true (sym not_yet ∙ (ends at.rest at.is).1 none)) taken.2;
}
  where
    goes_on : (b : Bool) (behind : List ℕ) {R : Type 0} → (b ≡ true → left ≡ Some []) → (b ≡ false → R) → left ≡ Some behind → ¬ (behind ≡ []) → R
    goes_on true behind none reads is some = let none_left : left ≡ Some [] = none refl in absurd (some (cc (is, none_left)))
    goes_on false behind none reads is some = reads refl

-- reading failed in a line
pub end_cut : (given left rest : Option (List ℕ)) (size done : ℕ) (before : Bool) → KnowsEnd before given left done → before ≡ false
    → ((bytes : List ℕ) → left ≡ Some bytes → IsCutWithin size bytes rest) → (bytes : List ℕ) → given ≡ Some bytes → ReadsLines bytes rest done
end_cut given left rest size done before knows not_yet cut bytes is =
    let reads : ReadsLines bytes left done = knows.reads not_yet bytes is in
    let short : IsCutWithin size reads.rest rest = cut reads.rest reads.left_is in
    record {
      read = reads.read ++ short.front;
      rest = short.rest;
      whole = reads.whole ∙ ap (λ (b : List ℕ). reads.read ++ b) short.front_of ∙ sym (append_assoc reads.read short.front short.rest);
      ends = omega (arith, ended_lines-append reads.read short.front, ended_lines_none short.front short.no_end, reads.ends);
      left_is = short.left_is;
    }

-- no line was taken, so nothing is left
pub end_none : (given left rest taken : Option (List ℕ)) (size grown done : ℕ) (before : Bool) → KnowsEnd before given left done → taken ≡ None
    → ((bytes : List ℕ) → left ≡ Some bytes → TakesLine size bytes rest grown taken) → (before ≡ false → (bytes : List ℕ) → left ≡ Some bytes → taken ≡ None → bytes ≡ [])
    → (bytes : List ℕ) → given ≡ Some bytes → (behind : List ℕ) → left ≡ Some behind → (behind ≡ []) × (rest ≡ Some [])
end_none given left rest taken size grown done before knows none takes empties bytes is behind is_left =
    let P : Option (List ℕ) → Type 0 = λ o. TakesLine size behind rest grown o in
    let same : rest ≡ Some behind = subst P none (takes behind is_left) in
    let empty : behind ≡ [] = by_end before (λ yes. knows.none_left yes bytes is) (λ no. empties no behind is_left none) in
    (empty, same ∙ ap (λ (b : List ℕ). Some b) empty)
  where
    by_end : (b : Bool) → (b ≡ true → left ≡ Some []) → (b ≡ false → behind ≡ []) → behind ≡ []
    by_end true none_left empty = let e : left ≡ Some [] = none_left refl in cc (e, is_left)
    by_end false none_left empty = empty refl

-- ---- a line that was taken

-- it was taken, said of an equal line
pub takes_some : (left rest line : Option (List ℕ)) (size grown : ℕ) (piece text : List ℕ) → line ≡ Some piece → text ≡ piece
    → ((bytes : List ℕ) → left ≡ Some bytes → TakesLine size bytes rest grown line) → (bytes : List ℕ) → left ≡ Some bytes → TakesLine size bytes rest grown (Some text)
takes_some left rest line size grown piece text is same takes bytes told =
    let P : Option (List ℕ) → Type 0 = λ o. TakesLine size bytes rest grown o in
    let Q : List ℕ → Type 0 = λ t. TakesLine size bytes rest grown (Some t) in
    subst Q (sym same) (subst P is (takes bytes told))

-- what is known of the end, of a line that was there
pub end_of_line : (ended : Bool) (bytes : List ℕ) (taken : Option (List ℕ)) (line : List ℕ) → taken ≡ Some line → TellsEnd ended bytes taken → IsTrue ended ↔ HasNoEnd bytes
end_of_line ended bytes taken line is h = let Q : Option (List ℕ) → Type 0 = λ o. TellsEnd ended bytes o in subst Q is h

-- and how far it went
pub advanced : (old new : ℕ) (taken : Option (List ℕ)) (line : List ℕ) → taken ≡ Some line → Advances old new taken → (old < new) × (new ≤ input_limit)
advanced old new taken line is h = let Q : Option (List ℕ) → Type 0 = λ o. Advances old new o in subst Q is h

-- ---- faults

pub err_same : {T : Type 0} (fault other : InputFault) → fault ≡ other → ◌≡◌ {A = Result T InputFault} (Err fault) (Err other)
err_same fault other same = ap (λ (f : InputFault). Err f) same

-- the count of the source's faults is what it was where a line was taken
pub read_well : {T : Type 0} (before now : ℕ) (value : T) → HasReadCause {T = T} before now (Ok value) → now ≡ before
read_well before now value cause = cause.quiet (λ same. absurd (cc (same)))
