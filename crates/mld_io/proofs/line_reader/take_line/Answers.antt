-- What each answer says of the bytes that the source tells.
use Rattle.std.proofs.Common.{◌≡◌, ℕ, List, [], ◌∷◌, ◌++◌, Ok, Option, refl, ap, ◌∙◌, subst, arith, length-append}
use Rattle.std.proofs.lemmas.Result.{err_from_is_err_and}
use Rattle.mld_io.specs.Reads.{TakesByte}
use Rattle.mld_io.proofs.LineSteps.{ReadSoFar-push, IsCutShort-from_part, more_bytes, no_more_bytes, IsLine-from_lf, IsLine-from_end, IsTooLarge-from_all, IsTooLarge-from_line, IsEnd-from_start, TakesAtMost-with_byte, TakesAtMost-front, TakesAtMost-all}
use Rattle.mld_io.proofs.line_reader.take_line.Goals as goal

-- what a `let` of an answer knows of the byte that was taken
at_option : (bytes : List ℕ) (o o' : Option ℕ) (left : Option (List ℕ)) → o ≡ o' → TakesByte bytes (Ok o) left → TakesByte bytes (Ok o') left
at_option bytes o o' left e took = subst (λ (x : Option ℕ). TakesByte bytes (Ok x) left) e took

pub returns-in_err-byte-clause-line : goal.returns-in_err-byte-clause-line
returns-in_err-byte-clause-line g c = λ bytes e.
    let s = c.loop-bytes.invariant.left bytes e in
    let p = err_from_is_err_and c.from_residual-in_err-byte.result c.from_residual-in_err-byte.ensures.1 in
    rw (p.1, p.2) (IsCutShort-from_part _ _ bytes c.loop-bytes.bytes.items s.rest _ s.no_end s.front_of (c.in_err-byte.ensures.byte s.rest s.left_is) (omega arith) (omega arith))

pub returns-then-size-room-clause-line : goal.returns-then-size-room-clause-line
returns-then-size-room-clause-line g c = λ bytes e.
    let s = c.loop-bytes.invariant.left bytes e in
    let front = c.loop-bytes.bytes.items in
    let m = more_bytes bytes front c.in-Some.byte _ _ s (at_option _ _ _ _ c.in-Some.is (c.in_ok-byte.ensures.byte s.rest s.left_is)) in
    IsTooLarge-from_all _ bytes front m.0 c.in-Some.byte _ s.no_end m.1 m.2 (omega arith) (omega arith) (omega arith)

pub returns-then-byte-eq-LF-clause-line : goal.returns-then-byte-eq-LF-clause-line
returns-then-byte-eq-LF-clause-line g c = λ bytes e.
    let s = c.loop-bytes.invariant.left bytes e in
    let front = c.loop-bytes.bytes.items in
    let m = more_bytes bytes front c.in-Some.byte _ _ s (at_option _ _ _ _ c.in-Some.is (c.in_ok-byte.ensures.byte s.rest s.left_is)) in
    rw c.from_vec.ensures (IsLine-from_lf _ bytes front m.0 _ _ _ s.no_end (m.1 ∙ ap (λ b. front ++ b ∷ m.0) c.if-byte-eq-LF.true) m.2 (omega arith) (omega arith) (omega arith) c.requires.goes_on)

pub returns-then-len-line-clause-line : goal.returns-then-len-line-clause-line
returns-then-len-line-clause-line g c = λ bytes e.
    let s = c.loop-bytes.invariant.left bytes e in
    let front = c.loop-bytes.bytes.items in
    let m = more_bytes bytes front c.in-Some.byte _ _ s (at_option _ _ _ _ c.in-Some.is (c.in_ok-byte.ensures.byte s.rest s.left_is)) in
    IsTooLarge-from_line _ bytes front m.0 c.in-Some.byte _ s.no_end c.if-byte-eq-LF.false m.1 m.2 (omega arith) (omega arith) (omega arith)

pub loop-bytes-preserved : goal.loop-bytes-preserved
loop-bytes-preserved g c = record {
  size = omega (arith, c.in_ok-push.ensures.len);
  in_room = omega arith;
  in_line = omega (arith, c.in_ok-push.ensures.len);
  taken = c.loop-bytes.invariant.taken;
  left = λ bytes e.
      let s = c.loop-bytes.invariant.left bytes e in
      let front = c.loop-bytes.bytes.items in
      let m = more_bytes bytes front c.in-Some.byte _ _ s (at_option _ _ _ _ c.in-Some.is (c.in_ok-byte.ensures.byte s.rest s.left_is)) in
      rw c.in_ok-push.ensures.items (ReadSoFar-push bytes front m.0 c.in-Some.byte _ s.no_end c.if-byte-eq-LF.false m.1 m.2);
  no_fault = c.in_ok-byte.ensures.cause.good ∙ c.loop-bytes.invariant.no_fault;
}

pub returns-in_err-push-clause-line : goal.returns-in_err-push-clause-line
returns-in_err-push-clause-line g c = λ bytes e.
    let s = c.loop-bytes.invariant.left bytes e in
    let front = c.loop-bytes.bytes.items in
    let m = more_bytes bytes front c.in-Some.byte _ _ s (at_option _ _ _ _ c.in-Some.is (c.in_ok-byte.ensures.byte s.rest s.left_is)) in
    let more = ReadSoFar-push bytes front m.0 c.in-Some.byte _ s.no_end c.if-byte-eq-LF.false m.1 m.2 in
    let p = err_from_is_err_and c.from_residual-in_err-push.result c.from_residual-in_err-push.ensures.1 in
    let size = length-append front (c.in-Some.byte ∷ []) in
    rw (p.1, p.2) (IsCutShort-from_part _ _ bytes (front ++ c.in-Some.byte ∷ []) more.rest _ more.no_end more.front_of more.left_is (omega (arith, size)) (omega (arith, size)))

pub returns-then-size-eq0-clause-line : goal.returns-then-size-eq0-clause-line
returns-then-size-eq0-clause-line g c = λ bytes e.
    let s = c.loop-bytes.invariant.left bytes e in
    let front = c.loop-bytes.bytes.items in
    let m = no_more_bytes bytes front _ _ s (at_option _ _ _ _ c.in_default.is (c.in_ok-byte.ensures.byte s.rest s.left_is)) in
    IsEnd-from_start bytes front _ m.0 m.1 (omega arith)

pub returns-clause-line : goal.returns-clause-line
returns-clause-line g c = λ bytes e.
    let s = c.loop-bytes.invariant.left bytes e in
    let front = c.loop-bytes.bytes.items in
    let m = no_more_bytes bytes front _ _ s (at_option _ _ _ _ c.in_default.is (c.in_ok-byte.ensures.byte s.rest s.left_is)) in
    rw c.from_vec-2.ensures (IsLine-from_end _ bytes front _ _ _ s.no_end m.0 m.1 (omega arith) (omega arith) (omega arith) (omega arith) refl)

pub returns-then-size-room-clause-frugal : goal.returns-then-size-room-clause-frugal
returns-then-size-room-clause-frugal g c = λ bytes e.
    let s = c.loop-bytes.invariant.left bytes e in
    let front = c.loop-bytes.bytes.items in
    let m = more_bytes bytes front c.in-Some.byte _ _ s (at_option _ _ _ _ c.in-Some.is (c.in_ok-byte.ensures.byte s.rest s.left_is)) in
    TakesAtMost-with_byte bytes front m.0 c.in-Some.byte _ _ m.1 m.2 (omega arith)

pub returns-then-byte-eq-LF-clause-frugal : goal.returns-then-byte-eq-LF-clause-frugal
returns-then-byte-eq-LF-clause-frugal g c = λ bytes e.
    let s = c.loop-bytes.invariant.left bytes e in
    let front = c.loop-bytes.bytes.items in
    let m = more_bytes bytes front c.in-Some.byte _ _ s (at_option _ _ _ _ c.in-Some.is (c.in_ok-byte.ensures.byte s.rest s.left_is)) in
    TakesAtMost-with_byte bytes front m.0 c.in-Some.byte _ _ m.1 m.2 (omega arith)

pub returns-then-len-line-clause-frugal : goal.returns-then-len-line-clause-frugal
returns-then-len-line-clause-frugal g c = λ bytes e.
    let s = c.loop-bytes.invariant.left bytes e in
    let front = c.loop-bytes.bytes.items in
    let m = more_bytes bytes front c.in-Some.byte _ _ s (at_option _ _ _ _ c.in-Some.is (c.in_ok-byte.ensures.byte s.rest s.left_is)) in
    TakesAtMost-with_byte bytes front m.0 c.in-Some.byte _ _ m.1 m.2 (omega arith)

pub returns-in_err-push-clause-frugal : goal.returns-in_err-push-clause-frugal
returns-in_err-push-clause-frugal g c = λ bytes e.
    let s = c.loop-bytes.invariant.left bytes e in
    let front = c.loop-bytes.bytes.items in
    let m = more_bytes bytes front c.in-Some.byte _ _ s (at_option _ _ _ _ c.in-Some.is (c.in_ok-byte.ensures.byte s.rest s.left_is)) in
    TakesAtMost-with_byte bytes front m.0 c.in-Some.byte _ _ m.1 m.2 (omega arith)

pub returns-in_err-byte-clause-frugal : goal.returns-in_err-byte-clause-frugal
returns-in_err-byte-clause-frugal g c = λ bytes e.
    let s = c.loop-bytes.invariant.left bytes e in
    let front = c.loop-bytes.bytes.items in
    TakesAtMost-front bytes front s.rest _ _ s.front_of (c.in_err-byte.ensures.byte s.rest s.left_is) (omega arith)

pub returns-then-size-eq0-clause-frugal : goal.returns-then-size-eq0-clause-frugal
returns-then-size-eq0-clause-frugal g c = λ bytes e.
    let s = c.loop-bytes.invariant.left bytes e in
    let front = c.loop-bytes.bytes.items in
    let m = no_more_bytes bytes front _ _ s (at_option _ _ _ _ c.in_default.is (c.in_ok-byte.ensures.byte s.rest s.left_is)) in
    TakesAtMost-all bytes front _ _ m.0 m.1 (omega arith)

pub returns-clause-frugal : goal.returns-clause-frugal
returns-clause-frugal g c = λ bytes e.
    let s = c.loop-bytes.invariant.left bytes e in
    let front = c.loop-bytes.bytes.items in
    let m = no_more_bytes bytes front _ _ s (at_option _ _ _ _ c.in_default.is (c.in_ok-byte.ensures.byte s.rest s.left_is)) in
    TakesAtMost-all bytes front _ _ m.0 m.1 (omega arith)
