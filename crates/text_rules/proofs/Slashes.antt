-- Where the slashes of a text are.
use Rattle.std.proofs.Common.{◌≡◌, ◌≢◌, ℕ, suc, ◌+◌, ◌<◌, List, [], ◌∷◌, ◌++◌, length, get_or, take, drop, Bool, true, false, ◌||◌, ◌&&◌, not, cond, Option, Some, None, MatchOption, refl, ap, sym, ◌∙◌, arith}
use Rattle.std.specs.Borrow.{Bor}
use Rattle.std.specs.List.{list_any, position_or_len, before_first, after_first}
use Rattle.std.specs.Option.{unwrap_or}
use Rattle.std.proofs.lemmas.List.{drop_more, take_more, take-append-drop, get_or-drop, length-drop}
use Rattle.std.proofs.lemmas.List.Sums.{position_or_len_is, fails_before_first}
use Rattle.std.proofs.lemmas.List.Splits.{slice_split_first, slice_split_none}
use Rattle.std.proofs.lemmas.Bool.{eq-eqb, ne_eqb}
use Rattle.text_rules.specs.Iri.{is_letter, is_scheme_byte, ends_scheme, has_scheme}
use Rattle.text_rules.specs.References.{is_slash, is_colon}
use Rattle.text_rules.specs.Dots.{segments}
use Rattle.text_rules.specs.Output.{without_last}
use Rattle.text_rules.specs.Resolution.{directory}

or_false : (a b : Bool) → (a || b) ≡ false → b ≡ false
or_false false b h = h
or_false true b h = cc

or_true : (a b : Bool) → b ≡ true → (a || b) ≡ true
or_true true b h = refl
or_true false b h = h

-- no byte of a text is a slash
pub any_none : (text : List ℕ) → ((i : ℕ) → i < length text → get_or text i 0 ≢ 47) → list_any is_slash text ≡ false
any_none [] h = refl
any_none (byte ∷ bytes) h = rw (ne_eqb byte 47 (h 0 (omega arith))) (any_none bytes (λ i k. h (suc i) (omega arith)))

-- one is
any-append : (front rest : List ℕ) → list_any is_slash (front ++ 47 ∷ rest) ≡ true
any-append [] rest = refl
any-append (byte ∷ front) rest = or_true (is_slash byte) (list_any is_slash (front ++ 47 ∷ rest)) (any-append front rest)

-- without a slash, nothing stands up to one
pub without_last-none : (text : List ℕ) → list_any is_slash text ≡ false → without_last text ≡ []
without_last-none [] h = refl
without_last-none (byte ∷ bytes) h = rw (or_false (is_slash byte) (list_any is_slash bytes) h) refl

pub directory-none : (text : List ℕ) → list_any is_slash text ≡ false → directory text ≡ []
directory-none [] h = refl
directory-none (byte ∷ bytes) h = rw h refl

-- what stands before the last slash, and up to it
pub without_last-append : (front rest : List ℕ) → list_any is_slash rest ≡ false → without_last (front ++ 47 ∷ rest) ≡ front
without_last-append [] rest h = rw h refl
without_last-append (byte ∷ front) rest h = rw (any-append front rest) (ap (λ bytes. byte ∷ bytes) (without_last-append front rest h))

pub directory-append : (front rest : List ℕ) → list_any is_slash rest ≡ false → directory (front ++ 47 ∷ rest) ≡ front ++ 47 ∷ []
directory-append [] rest h = rw (directory-none rest h) refl
directory-append (byte ∷ front) rest h = rw (any-append (byte ∷ front) rest) (ap (λ bytes. byte ∷ bytes) (directory-append front rest h))

-- a text with its last slash at a place
pub record IsLastSlash (text : List ℕ) (place : ℕ) : Type 0 where
  pub within : place < length text
  pub slash : get_or text place 0 ≡ 47
  pub last : (i : ℕ) → place < i → i < length text → get_or text i 0 ≢ 47

cut_there : (text : List ℕ) (place : ℕ) → IsLastSlash text place → text ≡ take place text ++ 47 ∷ drop (place + 1) text
cut_there text place h =
    let byte : drop place text ≡ 47 ∷ drop (place + 1) text = drop_more text place 0 h.within ∙ ap (λ b. b ∷ drop (place + 1) text) h.slash in
    sym (take-append-drop place text) ∙ ap (λ rest. take place text ++ rest) byte

none_behind : (text : List ℕ) (place : ℕ) → IsLastSlash text place → list_any is_slash (drop (place + 1) text) ≡ false
none_behind text place h = any_none (drop (place + 1) text) (λ i k e. h.last (place + 1 + i) (omega arith) (omega (arith, length-drop (place + 1) text)) (sym (get_or-drop (place + 1) text i 0) ∙ e))

pub without_last-at : (text : List ℕ) (place : ℕ) → IsLastSlash text place → without_last text ≡ take place text
without_last-at text place h = ap without_last (cut_there text place h) ∙ without_last-append (take place text) (drop (place + 1) text) (none_behind text place h)

pub directory-at : (text : List ℕ) (place : ℕ) → IsLastSlash text place → directory text ≡ take (place + 1) text
directory-at text place h =
    let more : take (place + 1) text ≡ take place text ++ 47 ∷ [] = take_more text place 0 h.within ∙ ap (λ b. take place text ++ b ∷ []) h.slash in
    ap directory (cut_there text place h) ∙ directory-append (take place text) (drop (place + 1) text) (none_behind text place h) ∙ sym more

-- what `rfind` says of a slash
pub last_slash : (text : List ℕ) (r : Option ℕ)
    → MatchOption r ((i : ℕ) → i < length text → get_or text i 0 ≢ 47) (λ k. (k < length text) × (get_or text k 0 ≡ 47) × ((i : ℕ) → k < i → i < length text → get_or text i 0 ≢ 47))
    → MatchOption r (list_any is_slash text ≡ false) (λ k. IsLastSlash text k)
last_slash text None h = any_none text h
last_slash text (Some k) h = record { within = h.0; slash = h.1; last = h.2 }

pub cut_last : (text : List ℕ) (r : Option ℕ) → MatchOption r (list_any is_slash text ≡ false) (λ k. IsLastSlash text k) → take (unwrap_or r 0) text ≡ without_last text
cut_last text None h = sym (without_last-none text h)
cut_last text (Some k) h = sym (without_last-at text k h)

-- what `find` says of a slash
pub first_slash : (text : List ℕ) (r : Option ℕ)
    → MatchOption r ((i : ℕ) → i < length text → get_or text i 0 ≢ 47) (λ k. (k < length text) × (get_or text k 0 ≡ 47) × ((i : ℕ) → i < k → get_or text i 0 ≢ 47))
    → unwrap_or r (length text) ≡ position_or_len is_slash text
first_slash text None h = sym (position_or_len_is is_slash text (length text) 0 (omega arith) (λ k lt. ne_eqb (get_or text k 0) 47 (h k lt)) (λ lt. absurd (omega arith)))
first_slash text (Some k) h = sym (position_or_len_is is_slash text k 0 (omega arith) (λ i lt. ne_eqb (get_or text i 0) 47 (h.2 i lt)) (λ lt. eq-eqb (get_or text k 0) 47 h.1))

-- what `split_once` says of a slash
pub cut_first : (path : List ℕ) (r : Option (Bor (List ℕ) × Bor (List ℕ)))
    → MatchOption r (position_or_len is_slash path ≡ length path) (λ x. (position_or_len is_slash path < length path) × (x.0.now ≡ before_first is_slash path) × (x.1.now ≡ after_first is_slash path))
    → MatchOption r (segments path ≡ path ∷ []) (λ x. segments path ≡ x.0.now ∷ segments x.1.now)
cut_first path None h = slice_split_none is_slash path (λ k d lt. fails_before_first is_slash path k d (omega arith))
cut_first path (Some x) h = rw (h.1, h.2) (slice_split_first is_slash path 0 h.0)

-- a text without a colon has no scheme
and_false : (a b : Bool) → b ≡ false → (a && b) ≡ false
and_false true b h = h
and_false false b h = refl

not_colon : (bytes : List ℕ) (colon : Bool) → cond (not colon) (1 + position_or_len is_colon bytes) 0 ≡ suc (length bytes) → (colon ≡ false) × (position_or_len is_colon bytes ≡ length bytes)
not_colon bytes true h = absurd (omega arith)
not_colon bytes false h = (refl, omega arith)

no_end : (bytes : List ℕ) → position_or_len is_colon bytes ≡ length bytes → ends_scheme bytes ≡ false
no_end [] h = refl
no_end (byte ∷ bytes) h =
    let n = not_colon bytes (is_colon byte) h in
    rw n.0 (and_false (is_scheme_byte byte) (ends_scheme bytes) (no_end bytes n.1))

pub no_colon : (text : List ℕ) → position_or_len is_colon text ≡ length text → has_scheme text ≡ false
no_colon [] h = refl
no_colon (byte ∷ bytes) h = and_false (is_letter byte) (ends_scheme bytes) (no_end bytes (not_colon bytes (is_colon byte) h).1)
