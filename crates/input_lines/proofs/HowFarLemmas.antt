-- How far a source was read, and that it was no more than 16,777,217 bytes.
use Rattle.std.proofs.Common.{◌≡◌, ◌≢◌, ℕ, zero, suc, ◌+◌, ◌<◌, ◌≤◌, Bool, false, List, [], ◌∷◌, ◌++◌, length, inl, inr, refl, sym, ◌∙◌, ap, arith, subst, Option, Some, append_assoc, length-append}
use Rattle.std.proofs.lemmas.Bool.{cases_lt}
use Rattle.std.proofs.lemmas.Bool.Decides.{eqb_tells}
use Rattle.std.proofs.lemmas.List.Elements.{All-nil}
use Rattle.mld_io.specs.Lines.{line_break, lines_of, first_line, after_line, line_size}
use Rattle.mld_io.proofs.LinesLaws.{first_of_lines_lem}
use Rattle.input_lines.specs.TooLarge.{input_limit, left_after, size_of_lines, BreaksLimits, IsTooLargeLine}
use Rattle.input_lines.specs.Taken.{IsLeft, KnowsEnd}
use Rattle.input_lines.specs.HowFar.{IsCutWithin, IsCutPast, IsBrokenOff, ReadsJust, ReadsInto, MeetsTooLarge, IsReadWithin}
use Rattle.input_lines.specs.declared.faults.InputFault.{InputFault}
use Rattle.input_lines.specs.declared.faults.InputFault.TheVariants as faults
use Rattle.input_lines.proofs.TakenLemmas.{size_of_more, left_of_nothing, left_later, all_fit, large_next, end_cut}

-- ---- lines that fit

-- they take no more than an input may have
size_fits : (lines : ℕ) (bytes : List ℕ) → ((line : ℕ) → line < lines → ¬ IsTooLargeLine bytes line) → size_of_lines lines bytes ≤ input_limit
size_fits zero bytes fits = omega arith
size_fits (suc lines) bytes fits =
    let e : suc lines ≡ lines + 1 = omega arith in
    let more : size_of_lines (suc lines) bytes ≡ size_of_lines lines bytes + line_size (left_after lines bytes) = ap (λ (n : ℕ). size_of_lines n bytes) e ∙ size_of_more lines bytes in
    let before : size_of_lines lines bytes ≤ input_limit = size_fits lines bytes (λ line below. fits line (omega (arith, below))) in
    elim (cases_lt input_limit (size_of_lines lines bytes + line_size (left_after lines bytes))) [
      | inl past ↦
          absurd (fits lines (omega arith) (record { some = λ none. omega (arith, past, before, ap line_size none); too_large = λ both. omega (arith, both.1, past) }))
      | inr within ↦ omega (arith, more, within)
    ]

-- nothing is left behind all lines

tails_same : (one other : List ℕ) (lines others : List (List ℕ)) → one ∷ lines ≡ other ∷ others → lines ≡ others
tails_same one other lines others same = cc

none_behind : (lines : List (List ℕ)) (bytes : List ℕ) → lines_of bytes ≡ lines → left_after (length lines) bytes ≡ []
none_behind [] [] is = refl
none_behind [] (b ∷ bs) is =
    let some : first_line (b ∷ bs) ∷ lines_of (after_line (b ∷ bs)) ≡ [] = sym (first_of_lines_lem (b ∷ bs) (λ none. cc)) ∙ is in absurd (cc (some))
none_behind (line ∷ lines) [] is = left_of_nothing (length (line ∷ lines))
none_behind (line ∷ lines) (b ∷ bs) is =
    none_behind lines (after_line (b ∷ bs)) (tails_same (first_line (b ∷ bs)) line (lines_of (after_line (b ∷ bs))) lines (sym (first_of_lines_lem (b ∷ bs) (λ none. cc)) ∙ is))

-- ---- just so many lines were read

-- those done
pub just_done : (bytes : List ℕ) (left : Option (List ℕ)) (size done : ℕ) (lines : List (List ℕ)) → IsLeft bytes left size done lines → ReadsJust bytes left done
just_done bytes left size done lines at = record { fits = at.fits; left_is = at.is ∙ ap (λ (b : List ℕ). Some b) at.behind }

-- and one more, where there was none
pub just_all : (bytes : List ℕ) (left rest : Option (List ℕ)) (size done : ℕ) (lines : List (List ℕ)) → (at : IsLeft bytes left size done lines) → (at.rest ≡ []) × (rest ≡ Some [])
    → ReadsJust bytes rest (done + 1)
just_all bytes left rest size done lines at end = record {
  fits = λ line below. all_fit bytes left size done lines at end.0 line;
  left_is = end.1 ∙ ap (λ (b : List ℕ). Some b) (sym (left_later done (done + 1) bytes (sym at.behind ∙ end.0) (omega arith)));
}

-- or all, and none of them is too large
pub just_whole : (bytes : List ℕ) (left : Option (List ℕ)) → left ≡ Some [] → ((line : ℕ) → ¬ IsTooLargeLine bytes line) → ReadsJust bytes left (length (lines_of bytes) + 1)
just_whole bytes left is fits = record {
  fits = λ line below. fits line;
  left_is = is ∙ ap (λ (b : List ℕ). Some b) (sym (left_later (length (lines_of bytes)) (length (lines_of bytes) + 1) bytes (none_behind (lines_of bytes) bytes refl) (omega arith)));
}

-- ---- a part of the line behind them was

-- the line is too large
pub meets_large : (bytes : List ℕ) (left rest : Option (List ℕ)) (size done : ℕ) (lines : List (List ℕ)) → (at : IsLeft bytes left size done lines)
    → BreaksLimits size at.rest → IsCutPast size at.rest rest → MeetsTooLarge bytes rest done
meets_large bytes left rest size done lines at breaks cut = record {
  fits = at.fits;
  large = large_next bytes left size done lines at breaks;
  cut = subst (λ (n : ℕ). IsCutPast n (left_after done bytes) rest) at.counted (subst (λ (b : List ℕ). IsCutPast size b rest) at.behind cut);
}

-- it isn't
cut_of : (size : ℕ) (fault : InputFault) (bytes : List ℕ) (left : Option (List ℕ)) → ((line : ℕ) → fault ≢ faults.TooLarge line) → IsBrokenOff size fault bytes left → IsCutWithin size bytes left
cut_of size faults.ReadFault bytes left fits broken = broken
cut_of size faults.NoMemory bytes left fits broken = broken
cut_of size (faults.TooLarge line) bytes left fits broken = absurd (fits line refl)

pub into_next : (given left rest : Option (List ℕ)) (size done : ℕ) (lines : List (List ℕ)) (before : Bool) (fault : InputFault) → KnowsEnd before given left done → before ≡ false
    → ((line : ℕ) → fault ≢ faults.TooLarge line) → ((bytes : List ℕ) → left ≡ Some bytes → IsBrokenOff size fault bytes rest) → (bytes : List ℕ) → given ≡ Some bytes
    → IsLeft bytes left size done lines → ReadsInto bytes rest done
into_next given left rest size done lines before fault knows not_yet fits broken bytes is at =
    let here : IsCutWithin size at.rest rest = cut_of size fault at.rest rest fits (broken at.rest at.is) in
    record {
      fits = at.fits;
      reads = end_cut given left rest size done before knows not_yet (λ behind told. cut_of size fault behind rest fits (broken behind told)) bytes is;
      cut = subst (λ (n : ℕ). IsCutWithin n (left_after done bytes) rest) at.counted (subst (λ (b : List ℕ). IsCutWithin size b rest) at.behind here);
    }

-- nothing was read
pub into_first : (bytes : List ℕ) (left : Option (List ℕ)) → left ≡ Some bytes → ReadsInto bytes left 0
into_first bytes left is = record {
  fits = λ line below. absurd (omega (arith, below));
  reads = record { read = []; rest = bytes; whole = refl; ends = refl; left_is = is };
  cut = record { front = []; rest = bytes; front_of = refl; no_end = All-nil (λ b. b ≢ line_break); in_line = omega arith; in_room = omega arith; left_is = is };
}

-- ---- it was no more than an input may have, and one byte

-- the first line with its LF, and what is behind it
line_split : (bytes : List ℕ) → (front : List ℕ) × (bytes ≡ front ++ after_line bytes) × (length front ≡ line_size bytes)
line_split [] = ([], refl, refl)
line_split (b ∷ bs) = elim (eqb_tells b line_break) [
  | inl h ↦ rw h.0 (b ∷ [], refl, omega arith)
  | inr h ↦ let more = line_split bs in rw h.0 (b ∷ more.0, ap (λ (l : List ℕ). b ∷ l) more.1, omega (arith, more.2))
]

-- so many lines, and what is behind them
lines_split : (lines : ℕ) (bytes : List ℕ) → (front : List ℕ) × (bytes ≡ front ++ left_after lines bytes) × (length front ≡ size_of_lines lines bytes)
lines_split zero bytes = ([], refl, refl)
lines_split (suc lines) bytes =
    let one = line_split bytes in
    let more = lines_split lines (after_line bytes) in (
      one.0 ++ more.0,
      one.1 ∙ ap (λ (l : List ℕ). one.0 ++ l) more.1 ∙ sym (append_assoc one.0 more.0 (left_after lines (after_line bytes))),
      omega (arith, length-append one.0 more.0, one.2, more.2),
    )

pub within_none : (bytes : List ℕ) (left : Option (List ℕ)) → left ≡ Some bytes → IsReadWithin bytes left
within_none bytes left is = record { front = []; rest = bytes; front_of = refl; left_is = is; few = omega arith }

pub within_just : (bytes : List ℕ) (left : Option (List ℕ)) (lines : ℕ) → ReadsJust bytes left lines → IsReadWithin bytes left
within_just bytes left lines just =
    let split = lines_split lines bytes in
    record { front = split.0; rest = left_after lines bytes; front_of = split.1; left_is = just.left_is; few = omega (arith, split.2, size_fits lines bytes just.fits) }

within_front : (bytes front rest : List ℕ) (left : Option (List ℕ)) (lines : ℕ) → left_after lines bytes ≡ front ++ rest → left ≡ Some rest
    → size_of_lines lines bytes + length front ≤ input_limit + 1 → IsReadWithin bytes left
within_front bytes front rest left lines behind is few =
    let split = lines_split lines bytes in
    record {
      front = split.0 ++ front;
      rest = rest;
      front_of = split.1 ∙ ap (λ (l : List ℕ). split.0 ++ l) behind ∙ sym (append_assoc split.0 front rest);
      left_is = is;
      few = omega (arith, length-append split.0 front, split.2, few);
    }

pub within_into : (bytes : List ℕ) (left : Option (List ℕ)) (lines : ℕ) → ReadsInto bytes left lines → IsReadWithin bytes left
within_into bytes left lines into =
    within_front bytes into.cut.front into.cut.rest left lines into.cut.front_of into.cut.left_is (omega (arith, into.cut.in_room, size_fits lines bytes into.fits))

pub within_large : (bytes : List ℕ) (left : Option (List ℕ)) (lines : ℕ) → MeetsTooLarge bytes left lines → IsReadWithin bytes left
within_large bytes left lines meets =
    let cut = meets.cut in
    let taken : List ℕ = cut.front ++ cut.byte ∷ [] in
    within_front bytes taken cut.rest left lines (cut.front_of ∙ sym (append_assoc cut.front (cut.byte ∷ []) cut.rest)) cut.left_is
    (omega (arith, length-append cut.front (cut.byte ∷ []), cut.in_room, size_fits lines bytes meets.fits))
