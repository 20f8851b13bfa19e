-- The steps by which a line is read.
use Rattle.std.proofs.Common.{◌≡◌, ◌≢◌, ℕ, ◌+◌, ◌<◌, ◌≤◌, List, [], ◌∷◌, ◌++◌, length, Option, None, Some, Ok, Bool, true, false, refl, sym, ap, subst, ◌∙◌, arith, append-nil, append_assoc, length-append}
use Rattle.std.proofs.lemmas.Bool.{false≢true}
use Rattle.std.proofs.lemmas.List.Elements.{All-push, All-nil, All-head, All-tail}
use Rattle.mld_io.specs.Lines.{line_break, LinesValue, HasNoEnd, IsEnd, IsLine, IsTooLarge, IsCutShort, IsCutAtByte, TakesAtMost, room_left, first_line, after_line, line_size}
use Rattle.mld_io.proofs.LinesLaws.{first_line-append, after_line-append, line_size-append, line_size_some}
use Rattle.mld_io.specs.Reads.{TakesByte}

-- this front of the bytes was taken, and it has no LF
pub record ReadSoFar (bytes front : List ℕ) (left : Option (List ℕ)) : Type 0 where
  pub rest : List ℕ
  pub front_of : bytes ≡ front ++ rest
  pub no_end : HasNoEnd front
  pub left_is : left ≡ Some rest

-- nothing was taken yet
pub ReadSoFar-start : (bytes : List ℕ) (left : Option (List ℕ)) → left ≡ Some bytes → ReadSoFar bytes [] left
ReadSoFar-start bytes left e = record { rest = bytes; front_of = refl; no_end = All-nil (λ b. b ≢ line_break); left_is = e }

-- the next byte was taken, and is no LF
pub ReadSoFar-push : (bytes front rest : List ℕ) (b : ℕ) (left : Option (List ℕ)) → HasNoEnd front → b ≢ line_break → bytes ≡ front ++ b ∷ rest → left ≡ Some rest → ReadSoFar bytes (front ++ b ∷ []) left
ReadSoFar-push bytes front rest b left no_end other e is = record {
  rest = rest;
  front_of = e ∙ sym (append_assoc front (b ∷ []) rest);
  no_end = All-push (λ b. b ≢ line_break) front b no_end other;
  left_is = is;
}

-- a part of the line was taken
pub IsCutShort-from_part : (line room : ℕ) (bytes front rest : List ℕ) (left : Option (List ℕ)) → HasNoEnd front → bytes ≡ front ++ rest → left ≡ Some rest
    → length front ≤ line → length front ≤ room → IsCutShort line room bytes left
IsCutShort-from_part line room bytes front rest left no_end e is in_line in_room =
    record { front = front; rest = rest; front_of = e; no_end = no_end; in_line = in_line; in_room = in_room; left_is = is }

-- where the source has more, it has the byte that it gave
pub more_bytes : (bytes front : List ℕ) (b : ℕ) (before after : Option (List ℕ)) → (so_far : ReadSoFar bytes front before)
    → TakesByte so_far.rest (Ok (Some b)) after → (rest : List ℕ) × (bytes ≡ front ++ b ∷ rest) × (after ≡ Some rest)
more_bytes bytes front b before after so_far took =
    (took.0, so_far.front_of ∙ ap (λ r. front ++ r) took.1, took.2)

-- where the source is at its end, the front is all
pub no_more_bytes : (bytes front : List ℕ) (before after : Option (List ℕ)) → (so_far : ReadSoFar bytes front before)
    → TakesByte so_far.rest (Ok None) after → (bytes ≡ front) × (after ≡ Some [])
no_more_bytes bytes front before after so_far took =
    (so_far.front_of ∙ ap (λ r. front ++ r) took.0 ∙ append-nil front, took.1)

-- there is an LF behind the front
has_end : (front rest : List ℕ) → ¬ HasNoEnd (front ++ line_break ∷ rest)
has_end [] rest none = All-head (λ b. b ≢ line_break) line_break rest none refl
has_end (b ∷ bs) rest none = has_end bs rest (All-tail (λ b. b ≢ line_break) b (bs ++ line_break ∷ rest) none)

-- an LF ends a line that fits
pub IsLine-from_lf : (lines : LinesValue) (bytes front rest : List ℕ) (taken : ℕ) (ended : Bool) (left : Option (List ℕ)) → HasNoEnd front → bytes ≡ front ++ line_break ∷ rest → left ≡ Some rest
    → length front ≤ lines.line → taken ≡ lines.taken + (length front + 1) → taken ≤ lines.all → ended ≡ false → IsLine lines bytes front taken ended left
IsLine-from_lf lines bytes front rest taken ended left no_end e is in_line counted in_all goes_on =
    let first : first_line bytes ≡ front = ap first_line e ∙ first_line-append front (line_break ∷ rest) no_end ∙ append-nil front in
    let size : line_size bytes ≡ length front + 1 = ap line_size e ∙ line_size-append front (line_break ∷ rest) no_end in
    let long : length bytes ≡ length front + length (line_break ∷ rest) = ap length e ∙ length-append front (line_break ∷ rest) in
    record {
      some = λ none. omega (arith, ap length none, long);
      fits = record { in_line = omega (arith, ap length first); in_all = omega arith };
      piece_is = sym first;
      taken_is = omega arith;
      ended_is = (λ yes. absurd (false≢true (sym goes_on ∙ yes)), λ none. absurd (has_end front rest (subst HasNoEnd e none)));
      left_is = is ∙ ap (λ r. Some r) (sym (ap after_line e ∙ after_line-append front (line_break ∷ rest) no_end));
    }

-- the end of the input ends a line that fits
pub IsLine-from_end : (lines : LinesValue) (bytes front : List ℕ) (taken : ℕ) (ended : Bool) (left : Option (List ℕ)) → HasNoEnd front → bytes ≡ front → left ≡ Some [] → 0 < length front
    → length front ≤ lines.line → taken ≡ lines.taken + length front → taken ≤ lines.all → ended ≡ true → IsLine lines bytes front taken ended left
IsLine-from_end lines bytes front taken ended left no_end e is some in_line counted in_all at_end =
    let e' : bytes ≡ front ++ [] = e ∙ sym (append-nil front) in
    let first : first_line bytes ≡ front = ap first_line e' ∙ first_line-append front [] no_end ∙ append-nil front in
    let size : line_size bytes ≡ length front + 0 = ap line_size e' ∙ line_size-append front [] no_end in
    record {
      some = λ none. omega (arith, ap length none, ap length e);
      fits = record { in_line = omega (arith, ap length first); in_all = omega arith };
      piece_is = sym first;
      taken_is = omega arith;
      ended_is = (λ yes. subst HasNoEnd (sym e) no_end, λ none. at_end);
      left_is = is ∙ ap (λ r. Some r) (sym (ap after_line e' ∙ after_line-append front [] no_end));
    }

-- a byte more was taken
IsCutAtByte-from_part : (line room : ℕ) (bytes front rest : List ℕ) (b : ℕ) (left : Option (List ℕ)) → HasNoEnd front → bytes ≡ front ++ b ∷ rest → left ≡ Some rest
    → length front ≤ line → length front ≤ room → IsCutAtByte line room bytes left
IsCutAtByte-from_part line room bytes front rest b left no_end e is in_line in_room =
    record { front = front; byte = b; rest = rest; front_of = e; no_end = no_end; in_line = in_line; in_room = in_room; left_is = is }

-- a byte more passes the limit of the input
pub IsTooLarge-from_all : (lines : LinesValue) (bytes front rest : List ℕ) (b : ℕ) (left : Option (List ℕ)) → HasNoEnd front → bytes ≡ front ++ b ∷ rest → left ≡ Some rest
    → length front ≤ lines.line → length front ≤ room_left lines → lines.all < lines.taken + (length front + 1) → IsTooLarge lines bytes left
IsTooLarge-from_all lines bytes front rest b left no_end e is in_line in_room past =
    let size : line_size bytes ≡ length front + line_size (b ∷ rest) = ap line_size e ∙ line_size-append front (b ∷ rest) no_end in
    let long : length bytes ≡ length front + length (b ∷ rest) = ap length e ∙ length-append front (b ∷ rest) in
    let one : 0 < line_size (b ∷ rest) = line_size_some (b ∷ rest) (λ none. cc) in
    record {
      some = λ none. omega (arith, ap length none, long);
      too_large = λ fits. omega (arith, fits.in_all);
      cut = IsCutAtByte-from_part lines.line (room_left lines) bytes front rest b left no_end e is in_line in_room;
    }

-- a byte more that is no LF passes the limit of a line
pub IsTooLarge-from_line : (lines : LinesValue) (bytes front rest : List ℕ) (b : ℕ) (left : Option (List ℕ)) → HasNoEnd front → b ≢ line_break → bytes ≡ front ++ b ∷ rest → left ≡ Some rest
    → length front ≤ lines.line → length front ≤ room_left lines → lines.line < length front + 1 → IsTooLarge lines bytes left
IsTooLarge-from_line lines bytes front rest b left no_end other e is in_line in_room past =
    let more : HasNoEnd (front ++ b ∷ []) = All-push (λ b. b ≢ line_break) front b no_end other in
    let e' : bytes ≡ (front ++ b ∷ []) ++ rest = e ∙ sym (append_assoc front (b ∷ []) rest) in
    let first : length (first_line bytes) ≡ (length front + 1) + length (first_line rest) =
    ap length (ap first_line e' ∙ first_line-append (front ++ b ∷ []) rest more) ∙ simp length-append in
    let long : length bytes ≡ length front + length (b ∷ rest) = ap length e ∙ length-append front (b ∷ rest) in
    record {
      some = λ none. omega (arith, ap length none, long);
      too_large = λ fits. omega (arith, fits.in_line);
      cut = IsCutAtByte-from_part lines.line (room_left lines) bytes front rest b left no_end e is in_line in_room;
    }

-- where nothing was taken, the end of the input is no line
pub IsEnd-from_start : (bytes front : List ℕ) (left : Option (List ℕ)) → bytes ≡ front → left ≡ Some [] → length front ≡ 0 → IsEnd bytes left
IsEnd-from_start bytes [] left e is empty = record { empty = e; none_left = is }
IsEnd-from_start bytes (b ∷ bs) left e is empty = absurd (omega arith)

-- the front and one byte were taken, of which there are few
pub TakesAtMost-with_byte : (bytes front rest : List ℕ) (b most : ℕ) (left : Option (List ℕ)) → bytes ≡ front ++ b ∷ rest → left ≡ Some rest → length front + 1 ≤ most → TakesAtMost bytes left most
TakesAtMost-with_byte bytes front rest b most left e is few = record {
  front = front ++ b ∷ [];
  rest = rest;
  front_of = e ∙ sym (append_assoc front (b ∷ []) rest);
  left_is = is;
  few = simp length-append few;
}

-- the front was taken, and no more
pub TakesAtMost-front : (bytes front rest : List ℕ) (most : ℕ) (left : Option (List ℕ)) → bytes ≡ front ++ rest → left ≡ Some rest → length front ≤ most → TakesAtMost bytes left most
TakesAtMost-front bytes front rest most left e is few = record { front = front; rest = rest; front_of = e; left_is = is; few = few }

-- all was taken
pub TakesAtMost-all : (bytes front : List ℕ) (most : ℕ) (left : Option (List ℕ)) → bytes ≡ front → left ≡ Some [] → length front ≤ most → TakesAtMost bytes left most
TakesAtMost-all bytes front most left e is few = TakesAtMost-front bytes front [] most left (e ∙ sym (append-nil front)) is few
