-- A plain text that a base resolves to an IRI stands at that IRI's end, behind a byte that isn't plain.
use Rattle.std.proofs.Common.{◌≡◌, ◌∙◌, ℕ, suc, ◌+◌, ◌-◌, ◌<◌, List, [], ◌∷◌, ◌++◌, length, get_or, take, drop, reverse, Bool, true, false, cond, not, ◌&&◌, ◌||◌, Option, Some, None, refl, sym, ap, subst, append_assoc, append-nil, length-append, IsTrue, codes, nat_lt, arith}
use Rattle.std.specs.List.{list_all, list_any, suffix_len, position_or_len, before_first, after_first, onto_first, concat}
use Rattle.std.proofs.lemmas.List.{reverse-append, get_or-append_right}
use Rattle.std.proofs.lemmas.List.Sums.{AllPass-from_list_all, suffix_len_is}
use Rattle.std.proofs.lemmas.Bool.{and_parts, and_from, or_parts, or_from}
use Rattle.std.proofs.lemmas.Bool.Decides.{nat_tests}
use Rattle.std.proofs.Math.Seq.{drop-append-add, get_or-append_seam}
use Rattle.text_rules.proofs.Slashes.{directory-append, directory-none, no_colon}
use Rattle.std.specs.Option.{option_map}
use Rattle.std.proofs.lemmas.List.{take_all}
use Rattle.text_rules.specs.Iri.{has_scheme}
use Rattle.text_rules.specs.Dots.{segments, is_dot, is_two_dots, is_dots, without_front, keep, keep_all, kept_text, remove_dot_segments}
use Rattle.text_rules.specs.References.{Parts, is_slash, is_colon, is_hash, is_question_mark, split, scheme_of, authority_of, path_of, behind_scheme, begins_authority, recomposed, behind as found_behind, delimited as delimited_by}
use Rattle.text_rules.specs.Resolution.{is_empty, directory, merged, transformed, resolved}
use Rattle.rdf_terms.specs.Literal.{is_same}
use Rattle.jsonld_context.proofs.TextLaws.{itself}
use Rattle.jsonld_context.specs.ShortForms.{if_passes, plain_id}
use Rattle.text_rules.specs.TextForms.{is_plain_letter, is_plain, plain_end}

-- ---- plain ends

-- nothing stands before a text, or a byte that isn't plain
pub data Front (text : List ℕ) : Type 0 where
  nothing : text ≡ [] → Front text
  delimited : (front : List ℕ) (byte : ℕ) → text ≡ front ++ byte ∷ [] → is_plain_letter byte ≡ false → Front text

module _ (text : List ℕ) (plain : list_all is_plain_letter text ≡ true) where
  size_at : (front : List ℕ) → (0 < length front → is_plain_letter (get_or (front ++ text) (length front - 1) 0) ≡ false)
      → suffix_len is_plain_letter (front ++ text) ≡ length (front ++ text) - length front
  size_at front ends =
      suffix_len_is is_plain_letter (front ++ text) (length front) 0 (omega (arith, length-append front text))
      (λ k above below.
      ap is_plain_letter (get_or-append_right front text (length front) k 0 refl above)
      ∙ AllPass-from_list_all is_plain_letter text plain (k - length front) 0 (omega (arith, length-append front text)))
      ends

  end_at : (front : List ℕ) → (0 < length front → is_plain_letter (get_or (front ++ text) (length front - 1) 0) ≡ false) → plain_end (front ++ text) ≡ text
  end_at front ends =
      let size = length-append front text in
      let is : length (front ++ text) - suffix_len is_plain_letter (front ++ text) ≡ length front + 0 = omega (arith, size_at front ends) in
      ap (λ n. drop n (front ++ text)) is ∙ drop-append-add front text 0

  -- a text behind such a front is the plain end of both
  pub end_behind : (front : List ℕ) → Front front → plain_end (front ++ text) ≡ text
  end_behind front (nothing none) = end_at front (λ some. absurd (omega (arith, ap length none)))
  end_behind front (delimited before byte is other) =
      end_at front (λ some.
      let size : length front ≡ length before + 1 = ap length is ∙ length-append before (byte ∷ []) in
      let place : length front - 1 ≡ length before = omega arith in
      let whole : front ++ text ≡ before ++ byte ∷ text = ap (λ start. start ++ text) is ∙ append_assoc before (byte ∷ []) text in
      ap (λ n. is_plain_letter (get_or (front ++ text) n 0)) place
      ∙ (ap (λ all. is_plain_letter (get_or all (length before) 0)) whole
      ∙ (ap is_plain_letter (get_or-append_seam before byte text 0) ∙ other)))

-- ---- segments

some_at : (byte : ℕ) (parts : List (List ℕ)) (b : Bool) → (first : List ℕ) × (others : List (List ℕ)) × (cond b ([] ∷ parts) (onto_first byte parts) ≡ first ∷ others)
some_at byte parts true = ([], parts, refl)
some_at byte [] false = (byte ∷ [], [], refl)
some_at byte (part ∷ parts) false = (byte ∷ part, parts, refl)

-- a path has a segment
some_segment : (path : List ℕ) → (first : List ℕ) × (others : List (List ℕ)) × (segments path ≡ first ∷ others)
some_segment [] = ([], [], refl)
some_segment (byte ∷ bytes) = some_at byte (segments bytes) (is_slash byte)

split_more : (byte : ℕ) (b : Bool) (parts more : List (List ℕ)) (first : List ℕ) (others : List (List ℕ)) → parts ≡ first ∷ others
    → cond b ([] ∷ (parts ++ more)) (onto_first byte (parts ++ more)) ≡ cond b ([] ∷ parts) (onto_first byte parts) ++ more
split_more byte true parts more first others is = refl
split_more byte false [] more first others is = cc is
split_more byte false (part ∷ parts) more first others is = refl

-- a text without a slash is one segment
pub one_segment : (text : List ℕ) → list_any is_slash text ≡ false → segments text ≡ text ∷ []
one_segment [] h = refl
one_segment (byte ∷ bytes) h =
    let parts = or_parts (is_slash byte) (list_any is_slash bytes) h in
    ap (λ b. cond b ([] ∷ segments bytes) (onto_first byte (segments bytes))) parts.0 ∙ ap (onto_first byte) (one_segment bytes parts.1)

-- and the last one behind a slash
pub segments_more : (path text : List ℕ) → segments text ≡ text ∷ [] → segments (path ++ 47 ∷ text) ≡ segments path ++ text ∷ []
segments_more [] text one = ap (λ parts. [] ∷ parts) one
segments_more (byte ∷ path) text one =
    let some = some_segment path in
    ap (λ parts. cond (is_slash byte) ([] ∷ parts) (onto_first byte parts)) (segments_more path text one)
    ∙ split_more byte (is_slash byte) (segments path) (text ∷ []) some.0 some.1 some.2

concat_more : (parts : List (List ℕ)) (piece : List ℕ) → concat (parts ++ piece ∷ []) ≡ concat parts ++ piece
concat_more [] piece = append-nil piece
concat_more (part ∷ parts) piece = ap (λ more. part ++ more) (concat_more parts piece) ∙ sym (append_assoc part (concat parts) piece)

-- the text of pieces that are kept, the last one first
pub kept_more : (kept : List (List ℕ)) (piece : List ℕ) → concat (reverse (piece ∷ kept)) ≡ concat (reverse kept) ++ piece
kept_more kept piece = ap concat (reverse-append (piece ∷ []) kept) ∙ concat_more (reverse kept) piece

-- the text of a path ends with a last segment: it is that, or a slash stands before it
data Ends (whole text : List ℕ) : Type 0 where
  alone : whole ≡ text → Ends whole text
  behind : (front : List ℕ) → whole ≡ front ++ 47 ∷ text → Ends whole text

module _ (text : List ℕ) (stays : is_dots text ≡ false) where
  pub keep_at : (kept : List (List ℕ)) (dot two : Bool) → (dot || two) ≡ false → cond dot kept (cond two (drop 1 kept) ((47 ∷ text) ∷ kept)) ≡ (47 ∷ text) ∷ kept
  keep_at kept true two h = cc h
  keep_at kept false true h = cc h
  keep_at kept false false h = refl

  kept_last : (kept parts : List (List ℕ)) → (rest : List (List ℕ)) × (keep_all kept (parts ++ text ∷ []) ≡ (47 ∷ text) ∷ rest)
  kept_last kept [] = (kept, ap (λ b. cond b ((47 ∷ []) ∷ keep kept text) (keep kept text)) stays ∙ keep_at kept (is_dot text) (is_two_dots text) stays)
  kept_last kept (part ∷ []) = kept_last (keep kept part) []
  kept_last kept (part ∷ next ∷ parts) = kept_last (keep kept part) (next ∷ parts)

  behind_slash : (first : List ℕ) (parts : List (List ℕ)) → (front : List ℕ) × (kept_text (first ∷ (parts ++ text ∷ [])) ≡ front ++ 47 ∷ text)
  behind_slash first parts =
      let last = kept_last (first ∷ []) parts in
      (concat (reverse last.0), ap (λ kept. concat (reverse kept)) last.1 ∙ kept_more last.0 (47 ∷ text))

  without_at : (part : List ℕ) (parts : List (List ℕ)) (dots : Bool) → Ends (kept_text (without_front (parts ++ text ∷ []))) text
      → Ends (kept_text (cond dots (without_front (parts ++ text ∷ [])) (part ∷ (parts ++ text ∷ [])))) text
  without_at part parts true h = h
  without_at part parts false h = let found = behind_slash part parts in behind found.0 found.1

  kept_ends : (parts : List (List ℕ)) → Ends (kept_text (without_front (parts ++ text ∷ []))) text
  kept_ends [] = alone (ap (λ b. kept_text (cond b [] (text ∷ []))) stays ∙ append-nil text)
  kept_ends (part ∷ parts) = without_at part parts (is_dots part) (kept_ends parts)

  -- without dot segments it still ends so
  removed_ends : (path : List ℕ) (parts : List (List ℕ)) → segments path ≡ parts ++ text ∷ [] → Ends (remove_dot_segments path) text
  unfolding remove_dot_segments
  removed_ends path parts is = subst (λ (all : List (List ℕ)). Ends (kept_text (without_front all)) text) (sym is) (kept_ends parts)

  -- and has its slash where the path begins with one
  removed_rooted : (path : List ℕ) (parts : List (List ℕ)) → segments path ≡ [] ∷ (parts ++ text ∷ [])
      → (front : List ℕ) × (remove_dot_segments path ≡ front ++ 47 ∷ text)
  unfolding remove_dot_segments
  removed_rooted path parts is = let found = behind_slash [] parts in (found.0, ap (λ all. kept_text (without_front all)) is ∙ found.1)

-- ---- directories

-- where the last slash of a text is
pub data Slashes (text : List ℕ) : Type 0 where
  without : list_any is_slash text ≡ false → Slashes text
  last : (front rest : List ℕ) → text ≡ front ++ 47 ∷ rest → list_any is_slash rest ≡ false → Slashes text

is_slash_byte : (byte : ℕ) → is_slash byte ≡ true → byte ≡ 47
is_slash_byte byte h = grind (arith, nat_tests)

slashes_at : (byte : ℕ) (bytes : List ℕ) (b : Bool) → is_slash byte ≡ b → Slashes bytes → Slashes (byte ∷ bytes)
slashes_at byte bytes true is (without none) = last [] bytes (ap (λ c. c ∷ bytes) (is_slash_byte byte is)) none
slashes_at byte bytes false is (without none) = without (or_from (is_slash byte) (list_any is_slash bytes) is none)
slashes_at byte bytes true is (last front rest e none) = last (byte ∷ front) rest (ap (λ more. byte ∷ more) e) none
slashes_at byte bytes false is (last front rest e none) = last (byte ∷ front) rest (ap (λ more. byte ∷ more) e) none

pub slashes : (text : List ℕ) → Slashes text
slashes [] = without refl
slashes (byte ∷ bytes) = slashes_at byte bytes (is_slash byte) refl (slashes bytes)

-- ---- paths

-- a path that is empty, or begins with a slash
data Rooted (path : List ℕ) : Type 0 where
  empty : path ≡ [] → Rooted path
  rooted : (rest : List ℕ) → path ≡ 47 ∷ rest → Rooted path

module _ (byte : ℕ) (bytes : List ℕ) (plain : is_plain (byte ∷ bytes) ≡ true) where
  abbrev letters : List ℕ
  letters = byte ∷ bytes

  no_slashes : (any : List ℕ) → list_all is_plain_letter any ≡ true → list_any is_slash any ≡ false
  no_slashes [] h = refl
  no_slashes (first ∷ rest) h =
      let parts = and_parts (is_plain_letter first) (list_all is_plain_letter rest) h in
      or_from (is_slash first) (list_any is_slash rest) (grind (arith, nat_tests)) (no_slashes rest parts.1)

  pub one : segments letters ≡ letters ∷ []
  one = one_segment letters (no_slashes letters plain)

  first_plain : is_plain_letter byte ≡ true
  first_plain = (and_parts (is_plain_letter byte) (list_all is_plain_letter bytes) plain).0

  pub stays_so : is_dots letters ≡ false
  stays_so = let h = first_plain in grind (arith, nat_tests)

  -- a plain text in the place of a path's last segment
  relative : (path : List ℕ) → Slashes path → Ends (remove_dot_segments (directory path ++ letters)) letters
  relative path (without none) =
      subst (λ (all : List ℕ). Ends (remove_dot_segments (all ++ letters)) letters) (sym (directory-none path none)) (removed_ends letters stays_so letters [] one)
  relative path (last front rest is none) =
      let at : directory path ++ letters ≡ front ++ 47 ∷ letters =
      ap (λ all. directory all ++ letters) is ∙ (ap (λ all. all ++ letters) (directory-append front rest none) ∙ append_assoc front (47 ∷ []) letters) in
      removed_ends letters stays_so (directory path ++ letters) (segments front) (ap segments at ∙ segments_more front letters one)

  root_at : (front rest path : List ℕ) → 47 ∷ path ≡ front ++ 47 ∷ rest → (others : List (List ℕ)) × (segments front ≡ [] ∷ others)
  root_at [] rest path is = ([], refl)
  root_at (first ∷ front) rest path is =
      let e : first ≡ 47 = cc in
      (segments front, ap (λ c. segments (c ∷ front)) e)

  absolute : (path : List ℕ) → Slashes (47 ∷ path) → (front : List ℕ) × (remove_dot_segments (directory (47 ∷ path) ++ letters) ≡ front ++ 47 ∷ letters)
  absolute path (without none) = absurd (cc none)
  absolute path (last front rest is none) =
      let at : directory (47 ∷ path) ++ letters ≡ front ++ 47 ∷ letters =
      ap (λ all. directory all ++ letters) is ∙ (ap (λ all. all ++ letters) (directory-append front rest none) ∙ append_assoc front (47 ∷ []) letters) in
      let root = root_at front rest path is in
      removed_rooted letters stays_so (directory (47 ∷ path) ++ letters) root.0
      (ap segments at ∙ (segments_more front letters one ∙ ap (λ parts. parts ++ letters ∷ []) root.1))

  -- behind an authority
  behind_authority : (path : List ℕ) → Rooted path
      → (front : List ℕ) × (remove_dot_segments (cond (is_empty path) (47 ∷ letters) (directory path ++ letters)) ≡ front ++ 47 ∷ letters)
  behind_authority path (empty none) =
      let found = removed_rooted letters stays_so (47 ∷ letters) [] (ap (λ parts. [] ∷ parts) one) in
      (found.0, ap (λ all. remove_dot_segments (cond (is_empty all) (47 ∷ letters) (directory all ++ letters))) none ∙ found.1)
  behind_authority path (rooted rest is) =
      let found = absolute rest (slashes (47 ∷ rest)) in
      (found.0, ap (λ all. remove_dot_segments (cond (is_empty all) (47 ∷ letters) (directory all ++ letters))) is ∙ found.1)

-- ---- references

rooted_at : (byte : ℕ) (bytes : List ℕ) (b : Bool) → is_slash byte ≡ b → Rooted (drop (position_or_len is_slash bytes) bytes)
    → Rooted (drop (cond (not b) (1 + position_or_len is_slash bytes) 0) (byte ∷ bytes))
rooted_at byte bytes true is h = rooted bytes (ap (λ c. c ∷ bytes) (is_slash_byte byte is))
rooted_at byte bytes false is h =
    let next : 1 + position_or_len is_slash bytes ≡ suc (position_or_len is_slash bytes) = omega arith in
    subst Rooted (sym (ap (λ n. drop n (byte ∷ bytes)) next)) h

rooted_drop : (text : List ℕ) → Rooted (drop (position_or_len is_slash text) text)
rooted_drop [] = empty refl
rooted_drop (byte ∷ bytes) = rooted_at byte bytes (is_slash byte) refl (rooted_drop bytes)

path_rooted : (text found name : List ℕ) (begins : Bool) → cond begins (Some found) None ≡ Some name
    → Rooted (cond begins (drop (position_or_len is_slash (drop 2 text)) (drop 2 text)) text)
path_rooted text found name true h = rooted_drop (drop 2 text)
path_rooted text found name false h = cc h

-- behind an authority a path is empty or begins with a slash
split_rooted : (base name : List ℕ) → (split base).authority ≡ Some name → Rooted (split base).path
unfolding split
split_rooted base name h =
    let text = behind_scheme (before_first is_question_mark (before_first is_hash base)) in
    path_rooted text (before_first is_slash (drop 2 text)) name (begins_authority text) h

whole : (text : List ℕ) (n : ℕ) → n ≡ length text → take n text ≡ text
whole text n is = ap (λ k. take k text) is ∙ take_all (length text) text (omega arith)

lacks : (test : ℕ → Bool) → ((b : ℕ) → is_plain_letter b ≡ true → test b ≡ false) → (text : List ℕ) → list_all is_plain_letter text ≡ true
    → position_or_len test text ≡ length text
lacks test apart [] h = refl
lacks test apart (first ∷ rest) h =
    let parts = and_parts (is_plain_letter first) (list_all is_plain_letter rest) h in
    let next : 1 + length rest ≡ suc (length rest) = omega arith in
    ap (λ b. cond (not b) (1 + position_or_len test rest) 0) (apart first parts.0) ∙ (ap (λ n. 1 + n) (lacks test apart rest parts.1) ∙ next)

none_behind : (test : ℕ → Bool) (text : List ℕ) → position_or_len test text ≡ length text → found_behind test text ≡ None
none_behind test text h =
    let out : nat_lt (position_or_len test text) (length text) ≡ false = grind (arith, nat_tests) in
    ap (λ b. option_map (λ place. drop (place + 1) text) (cond b (Some (position_or_len test text)) None)) out

-- what stands before a path
abbrev pub start : Option (List ℕ) → Option (List ℕ) → List ℕ
start scheme authority = delimited_by [] scheme (codes ":") ++ delimited_by (codes "//") authority []

pub written : (scheme authority : Option (List ℕ)) (path : List ℕ)
    → recomposed (record { scheme = scheme; authority = authority; path = path; query = None; fragment = None }) ≡ start scheme authority ++ path
unfolding recomposed
written scheme authority path =
    ap (λ end. delimited_by [] scheme (codes ":") ++ (delimited_by (codes "//") authority [] ++ end)) (append-nil path)
    ∙ sym (append_assoc (delimited_by [] scheme (codes ":")) (delimited_by (codes "//") authority []) path)

-- a text that ends with another, which stands behind such a front
record Stands (whole text : List ℕ) : Type 0 where
  front : List ℕ
  good : Front front
  is : whole ≡ front ++ text

slash_stands : (before front text whole : List ℕ) → whole ≡ front ++ 47 ∷ text → Stands (before ++ whole) text
slash_stands before front text whole is =
    record {
      front = (before ++ front) ++ 47 ∷ [];
      good = delimited (before ++ front) 47 refl refl;
      is = ap (λ end. before ++ end) is ∙ (sym (append_assoc before front (47 ∷ text)) ∙ sym (append_assoc (before ++ front) (47 ∷ []) text));
    }

scheme_stands : (scheme : Option (List ℕ)) (text whole : List ℕ) → whole ≡ text → Stands (start scheme None ++ whole) text
scheme_stands None text whole is = record { front = []; good = nothing refl; is = is }
scheme_stands (Some name) text whole is =
    record { front = start (Some name) None; good = delimited name 58 (append-nil (name ++ 58 ∷ [])) refl; is = ap (λ end. start (Some name) None ++ end) is }

module _ (byte : ℕ) (bytes : List ℕ) (plain : is_plain (byte ∷ bytes) ≡ true) where
  abbrev whole_text : List ℕ
  whole_text = byte ∷ bytes

  abbrev plain_parts : Parts
  plain_parts = record { scheme = None; authority = None; path = whole_text; query = None; fragment = None }

  no_fragment : position_or_len is_hash whole_text ≡ length whole_text
  no_fragment = lacks is_hash (λ b h. grind (arith, nat_tests)) whole_text plain

  no_query : position_or_len is_question_mark whole_text ≡ length whole_text
  no_query = lacks is_question_mark (λ b h. grind (arith, nat_tests)) whole_text plain

  uncut : before_first is_question_mark (before_first is_hash whole_text) ≡ whole_text
  uncut = ap (before_first is_question_mark) (whole whole_text (position_or_len is_hash whole_text) no_fragment) ∙ whole whole_text (position_or_len is_question_mark whole_text) no_query

  no_scheme : has_scheme whole_text ≡ false
  no_scheme = no_colon whole_text (lacks is_colon (λ b h. grind (arith, nat_tests)) whole_text plain)

  schemeless : behind_scheme whole_text ≡ whole_text
  schemeless = ap (λ b. cond b (after_first is_colon whole_text) whole_text) no_scheme

  not_slash : is_slash byte ≡ false
  not_slash = let h = first_plain byte bytes plain in grind (arith, nat_tests)

  no_authority : begins_authority whole_text ≡ false
  no_authority = let h = first_plain byte bytes plain in grind (arith, nat_tests)

  -- a plain text is a path alone
  pub split_plain : split whole_text ≡ plain_parts
  unfolding split
  split_plain =
      let scheme : scheme_of (before_first is_question_mark (before_first is_hash whole_text)) ≡ None =
      ap scheme_of uncut ∙ ap (λ b. cond b (Some (before_first is_colon whole_text)) None) no_scheme in
      let authority : authority_of (behind_scheme (before_first is_question_mark (before_first is_hash whole_text))) ≡ None =
      ap (λ t. authority_of (behind_scheme t)) uncut ∙ (ap authority_of schemeless ∙ ap (λ b. cond b (Some (before_first is_slash (drop 2 whole_text))) None) no_authority) in
      let path : path_of (behind_scheme (before_first is_question_mark (before_first is_hash whole_text))) ≡ whole_text =
      ap (λ t. path_of (behind_scheme t)) uncut
      ∙ (ap path_of schemeless ∙ ap (λ b. cond b (drop (position_or_len is_slash (drop 2 whole_text)) (drop 2 whole_text)) whole_text) no_authority) in
      let query : found_behind is_question_mark (before_first is_hash whole_text) ≡ None =
      ap (found_behind is_question_mark) (whole whole_text (position_or_len is_hash whole_text) no_fragment) ∙ none_behind is_question_mark whole_text no_query in
      let fragment : found_behind is_hash whole_text ≡ None = none_behind is_hash whole_text no_fragment in
      λ i. record { scheme = scheme i; authority = authority i; path = path i; query = query i; fragment = fragment i }

  -- it takes the place of the last segment of a base's path
  pub placed : (base : Parts) → transformed base plain_parts
      ≡ record { scheme = base.scheme; authority = base.authority; path = remove_dot_segments (merged base whole_text); query = None; fragment = None }
  unfolding transformed
  placed base =
      ap (λ b. record { scheme = base.scheme; authority = base.authority; path = remove_dot_segments (cond b whole_text (merged base whole_text)); query = None; fragment = None })
      not_slash

  alone_or_behind : (scheme : Option (List ℕ)) (path : List ℕ) → Ends path whole_text → Stands (start scheme None ++ path) whole_text
  alone_or_behind scheme path (alone is) = scheme_stands scheme whole_text path is
  alone_or_behind scheme path (behind front is) = slash_stands (start scheme None) front whole_text path is

  stands_at : (scheme authority : Option (List ℕ)) (path : List ℕ) (query fragment : Option (List ℕ)) → ((name : List ℕ) → authority ≡ Some name → Rooted path)
      → Stands (start scheme authority ++ remove_dot_segments (merged (record { scheme = scheme; authority = authority; path = path; query = query; fragment = fragment }) whole_text)) whole_text
  stands_at scheme None path query fragment roots = alone_or_behind scheme _ (relative byte bytes plain path (slashes path))
  stands_at scheme (Some name) path query fragment roots =
      let found = behind_authority byte bytes plain path (roots name refl) in
      slash_stands (start scheme (Some name)) found.0 whole_text _ found.1

  ends : (base : List ℕ) → plain_end (resolved base whole_text) ≡ whole_text
  ends base =
      let parts = split base in
      let stands = stands_at parts.scheme parts.authority parts.path parts.query parts.fragment (split_rooted base) in
      let is : resolved base whole_text ≡ stands.front ++ whole_text =
      ap (λ reference. recomposed (transformed parts reference)) split_plain
      ∙ (ap recomposed (placed parts) ∙ (written parts.scheme parts.authority (remove_dot_segments (merged parts whole_text)) ∙ stands.is)) in
      ap plain_end is ∙ end_behind whole_text plain stands.front stands.good

-- a plain text is the plain end of what a base resolves it to
pub plain_resolved : (base text : List ℕ) → IsTrue (is_plain text) → plain_end (resolved base text) ≡ text
plain_resolved base [] plain = absurd (cc plain)
plain_resolved base (byte ∷ bytes) plain = ends byte bytes plain base

-- so it is the text that is found for that IRI
pub plain_found : (base text : List ℕ) → IsTrue (is_plain text) → plain_id base (resolved base text) ≡ Some text
plain_found base text plain =
    let iri = resolved base text in
    let test = λ (other : List ℕ). is_plain other && is_same (resolved base other) iri in
    ap (if_passes test) (plain_resolved base text plain)
    ∙ ap (λ b. cond b (Some text) None) (and_from (is_plain text) (is_same iri iri) plain (itself iri))
