-- The text that grows is that of the segments that are kept.
use Rattle.std.proofs.Common.{◌≡◌, ℕ, ◌++◌, List, [], ◌∷◌, drop, reverse, Bool, true, false, cond, refl, ap, sym, subst, ◌∙◌, append_assoc}
use Rattle.std.specs.List.{list_any, onto_first, concat}
use Rattle.std.proofs.lemmas.List.{reverse-append}
use Rattle.text_rules.specs.References.{is_slash}
use Rattle.text_rules.specs.Dots.{is_dot, is_two_dots, is_dots, keep, keep_all, kept_text, segments}
use Rattle.text_rules.specs.Output.{without_last, add_segment, add_segments}
use Rattle.text_rules.proofs.Slashes.{without_last-append, without_last-none}

-- no segment has a slash
abbrev pub AllLack : List (List ℕ) → Type 0
AllLack [] = Unit {0}
AllLack (segment ∷ others) = (list_any is_slash segment ≡ false) × AllLack others

onto_lacks : (byte : ℕ) (parts : List (List ℕ)) → is_slash byte ≡ false → AllLack parts → AllLack (onto_first byte parts)
onto_lacks byte [] e h = (rw e refl, tt)
onto_lacks byte (part ∷ parts) e h = (rw e h.0, h.1)

split_lacks : (byte : ℕ) (parts : List (List ℕ)) (b : Bool) → is_slash byte ≡ b → AllLack parts → AllLack (cond b ([] ∷ parts) (onto_first byte parts))
split_lacks byte parts true e h = (refl, h)
split_lacks byte parts false e h = onto_lacks byte parts e h

pub segments_lack : (path : List ℕ) → AllLack (segments path)
segments_lack [] = (refl, tt)
segments_lack (byte ∷ bytes) = split_lacks byte (segments bytes) (is_slash byte) refl (segments_lack bytes)

-- the text of what is kept, the last one first
abbrev pub text_of : List (List ℕ) → List ℕ
text_of kept = concat (reverse kept)

concat-append : (xs ys : List (List ℕ)) → concat (xs ++ ys) ≡ concat xs ++ concat ys
concat-append [] ys = refl
concat-append (x ∷ xs) ys = ap (λ zs. x ++ zs) (concat-append xs ys) ∙ sym (append_assoc x (concat xs) (concat ys))

append-nil : (xs : List ℕ) → xs ++ [] ≡ xs
append-nil [] = refl
append-nil (x ∷ xs) = ap (λ ys. x ∷ ys) (append-nil xs)

text_of-cons : (piece : List ℕ) (kept : List (List ℕ)) → text_of (piece ∷ kept) ≡ text_of kept ++ piece
text_of-cons piece kept = ap concat (reverse-append (piece ∷ []) kept) ∙ concat-append (reverse kept) (piece ∷ []) ∙ ap (λ p. text_of kept ++ p) (append-nil piece)

-- each kept piece is what the text has behind its last slash, with the slash
abbrev pub IsKept : List (List ℕ) → Type 0
IsKept [] = Unit {0}
IsKept (piece ∷ kept) = (without_last (text_of (piece ∷ kept)) ≡ text_of kept) × IsKept kept

pub first_kept : (segment : List ℕ) → list_any is_slash segment ≡ false → IsKept (segment ∷ [])
first_kept segment h = (ap without_last (text_of-cons segment []) ∙ without_last-none segment h, tt)

piece_kept : (segment : List ℕ) (kept : List (List ℕ)) → list_any is_slash segment ≡ false → IsKept kept → IsKept ((47 ∷ segment) ∷ kept)
piece_kept segment kept h k = (ap without_last (text_of-cons (47 ∷ segment) kept) ∙ without_last-append (text_of kept) segment h, k)

rest_kept : (kept : List (List ℕ)) → IsKept kept → IsKept (drop 1 kept)
rest_kept [] k = tt
rest_kept (piece ∷ kept) k = k.1

dropped : (kept : List (List ℕ)) → IsKept kept → without_last (text_of kept) ≡ text_of (drop 1 kept)
dropped [] k = refl
dropped (piece ∷ kept) k = k.0

-- one segment more
keep_cases : (kept : List (List ℕ)) (segment : List ℕ) (dot two : Bool) → IsKept kept → list_any is_slash segment ≡ false
    → IsKept (cond dot kept (cond two (drop 1 kept) ((47 ∷ segment) ∷ kept)))
keep_cases kept segment true two k h = k
keep_cases kept segment false true k h = rest_kept kept k
keep_cases kept segment false false k h = piece_kept segment kept h k

add_cases : (kept : List (List ℕ)) (segment : List ℕ) (dot two : Bool) → IsKept kept
    → cond dot (text_of kept) (cond two (without_last (text_of kept)) (text_of kept ++ 47 ∷ segment)) ≡ text_of (cond dot kept (cond two (drop 1 kept) ((47 ∷ segment) ∷ kept)))
add_cases kept segment true two k = refl
add_cases kept segment false true k = dropped kept k
add_cases kept segment false false k = sym (text_of-cons (47 ∷ segment) kept)

keep_kept : (kept : List (List ℕ)) (segment : List ℕ) → IsKept kept → list_any is_slash segment ≡ false → IsKept (keep kept segment)
keep_kept kept segment k h = keep_cases kept segment (is_dot segment) (is_two_dots segment) k h

add_kept : (kept : List (List ℕ)) (segment : List ℕ) → IsKept kept → add_segment (text_of kept) segment ≡ text_of (keep kept segment)
add_kept kept segment k = add_cases kept segment (is_dot segment) (is_two_dots segment) k

last_cases : (kept : List (List ℕ)) (text : List ℕ) (dots : Bool) → text ≡ text_of kept
    → cond dots (text ++ 47 ∷ []) text ≡ text_of (cond dots ((47 ∷ []) ∷ kept) kept)
last_cases kept text true e = ap (λ t. t ++ 47 ∷ []) e ∙ sym (text_of-cons (47 ∷ []) kept)
last_cases kept text false e = e

-- all segments
pub all_kept : (kept parts : List (List ℕ)) → IsKept kept → AllLack parts → add_segments (text_of kept) parts ≡ text_of (keep_all kept parts)
all_kept kept [] k h = refl
all_kept kept (segment ∷ []) k h = last_cases (keep kept segment) (add_segment (text_of kept) segment) (is_dots segment) (add_kept kept segment k)
all_kept kept (segment ∷ next ∷ others) k h =
    ap (λ text. add_segments text (next ∷ others)) (add_kept kept segment k) ∙ all_kept (keep kept segment) (next ∷ others) (keep_kept kept segment k h.0) h.1

-- a path has a segment
has_segment : (byte : ℕ) (parts : List (List ℕ)) (b : Bool) → (segment : List ℕ) × (others : List (List ℕ)) × (cond b ([] ∷ parts) (onto_first byte parts) ≡ segment ∷ others)
has_segment byte parts true = ([], parts, refl)
has_segment byte [] false = (byte ∷ [], [], refl)
has_segment byte (part ∷ parts) false = (byte ∷ part, parts, refl)

some_segment : (path : List ℕ) → (segment : List ℕ) × (others : List (List ℕ)) × (segments path ≡ segment ∷ others)
some_segment [] = ([], [], refl)
some_segment (byte ∷ bytes) = has_segment byte (segments bytes) (is_slash byte)

-- a segment that isn't the last
pub add_first : (output segment path : List ℕ) → add_segments output (segment ∷ segments path) ≡ add_segments (add_segment output segment) (segments path)
add_first output segment path =
    let some = some_segment path in
    rw some.2 refl

-- the output that begins with the first segment and gets the others
pub removed : (first others path : List ℕ) → segments path ≡ first ∷ segments others → add_segments first (segments others) ≡ kept_text (segments path)
removed first others path e =
    let lack : AllLack (first ∷ segments others) = subst AllLack e (segments_lack path) in
    let begun : text_of (first ∷ []) ≡ first = text_of-cons first [] in
    ap (λ text. add_segments text (segments others)) (sym begun)
    ∙ all_kept (first ∷ []) (segments others) (first_kept first lack.0) lack.1
    ∙ sym (ap kept_text e)
