-- A base resolves a plain text to its folder with that text behind it, so the plain text of an id stands behind the folder.
use Rattle.std.proofs.Common.{◌≡◌, ◌∙◌, ℕ, ◌+◌, List, [], ◌∷◌, ◌++◌, length, drop, reverse, Bool, true, false, cond, ◌&&◌, Option, Some, None, refl, sym, ap, subst, append_assoc, append-nil, IsTrue, nat_eq, Bor, IfSome}
use Rattle.std.specs.List.{list_any, starts_with, concat}
use Rattle.std.specs.Option.{is_some, option_and_then, option_copied, option_or, unwrap_or}
use Rattle.std.proofs.lemmas.Bool.{and_parts, true≢false}
use Rattle.std.proofs.lemmas.Bool.Decides.{Decides-eqb}
use Rattle.std.proofs.lemmas.Slice.Eq.{starts_is}
use Rattle.std.proofs.Math.Seq.{drop-append-add}
use Rattle.text_rules.proofs.Slashes.{directory-append, directory-none}
use Rattle.text_rules.specs.Dots.{segments, is_dot, is_two_dots, is_dots, without_front, keep, keep_all, kept_text, remove_dot_segments}
use Rattle.text_rules.specs.References.{Parts, is_slash, split, recomposed}
use Rattle.text_rules.specs.Resolution.{is_empty, directory, merged, transformed, resolved, folder_of}
use Rattle.text_rules.specs.TextForms.{is_plain, plain_end}
use Rattle.rdf_terms.specs.Literal.{is_same}
use Rattle.jsonld_context.specs.Context.{ContextValue}
use Rattle.jsonld_context.specs.ShortForms.{if_passes, plain_id, least_compact, id_form, compact_id}
use Rattle.jsonld_context.specs.FormsFound.{plain_behind}
use Rattle.jsonld_context.proofs.PlainEnds.{Slashes, slashes, without, last, one_segment, segments_more, kept_more, keep_at, one, stays_so, start, written, split_plain, placed, plain_found}
use Rattle.jsonld_context.proofs.TextLaws.{same}

-- ---- segments

-- the segment `.`
abbrev dot : List ℕ
dot = 46 ∷ []

one_dot : segments dot ≡ dot ∷ []
one_dot = one_segment dot refl

module _ (text : List ℕ) (stays : is_dots text ≡ false) where
  -- where the last segment is `.`, the same is kept before it
  kept_both : (kept parts : List (List ℕ)) → (rest : List (List ℕ)) × (keep_all kept (parts ++ text ∷ []) ≡ (47 ∷ text) ∷ rest)
      × (keep_all kept (parts ++ dot ∷ []) ≡ (47 ∷ []) ∷ rest)
  kept_both kept [] =
      (kept, ap (λ b. cond b ((47 ∷ []) ∷ keep kept text) (keep kept text)) stays ∙ keep_at text stays kept (is_dot text) (is_two_dots text) stays, refl)
  kept_both kept (part ∷ []) = kept_both (keep kept part) []
  kept_both kept (part ∷ next ∷ parts) = kept_both (keep kept part) (next ∷ parts)

  behind_both : (first : List ℕ) (parts : List (List ℕ)) → kept_text (first ∷ (parts ++ text ∷ [])) ≡ kept_text (first ∷ (parts ++ dot ∷ [])) ++ text
  behind_both first parts =
      let both = kept_both (first ∷ []) parts in
      let front = concat (reverse both.0) in
      let own : kept_text (first ∷ (parts ++ text ∷ [])) ≡ front ++ 47 ∷ text = ap (λ kept. concat (reverse kept)) both.1 ∙ kept_more both.0 (47 ∷ text) in
      let other : kept_text (first ∷ (parts ++ dot ∷ [])) ≡ front ++ 47 ∷ [] = ap (λ kept. concat (reverse kept)) both.2 ∙ kept_more both.0 (47 ∷ []) in
      own ∙ (sym (append_assoc front (47 ∷ []) text) ∙ sym (ap (λ all. all ++ text) other))

  without_both : (part : List ℕ) (parts : List (List ℕ)) (dots : Bool)
      → kept_text (without_front (parts ++ text ∷ [])) ≡ kept_text (without_front (parts ++ dot ∷ [])) ++ text
      → kept_text (cond dots (without_front (parts ++ text ∷ [])) (part ∷ (parts ++ text ∷ [])))
      ≡ kept_text (cond dots (without_front (parts ++ dot ∷ [])) (part ∷ (parts ++ dot ∷ []))) ++ text
  without_both part parts true h = h
  without_both part parts false h = behind_both part parts

  kept_front : (parts : List (List ℕ)) → kept_text (without_front (parts ++ text ∷ [])) ≡ kept_text (without_front (parts ++ dot ∷ [])) ++ text
  kept_front [] = ap (λ b. kept_text (cond b [] (text ∷ []))) stays ∙ append-nil text
  kept_front (part ∷ parts) = without_both part parts (is_dots part) (kept_front parts)

  removed_both : (path dotted : List ℕ) (parts : List (List ℕ)) → segments path ≡ parts ++ text ∷ [] → segments dotted ≡ parts ++ dot ∷ []
      → remove_dot_segments path ≡ remove_dot_segments dotted ++ text
  unfolding remove_dot_segments
  removed_both path dotted parts is also =
      ap (λ all. kept_text (without_front all)) is ∙ (kept_front parts ∙ sym (ap (λ all. kept_text (without_front all) ++ text) also))

-- ---- paths

-- a text in the place of a path's last segment
placed_at : (path front rest text : List ℕ) → path ≡ front ++ 47 ∷ rest → list_any is_slash rest ≡ false → directory path ++ text ≡ front ++ 47 ∷ text
placed_at path front rest text is none =
    ap (λ all. directory all ++ text) is ∙ (ap (λ all. all ++ text) (directory-append front rest none) ∙ append_assoc front (47 ∷ []) text)

module _ (byte : ℕ) (bytes : List ℕ) (plain : is_plain (byte ∷ bytes) ≡ true) where
  abbrev letters : List ℕ
  letters = byte ∷ bytes

  alone : segments letters ≡ letters ∷ []
  alone = one byte bytes plain

  stays_dotless : is_dots letters ≡ false
  stays_dotless = stays_so byte bytes plain

  directory_both : (path : List ℕ) → Slashes path → remove_dot_segments (directory path ++ letters) ≡ remove_dot_segments (directory path ++ dot) ++ letters
  directory_both path (without none) =
      subst (λ (all : List ℕ). remove_dot_segments (all ++ letters) ≡ remove_dot_segments (all ++ dot) ++ letters) (sym (directory-none path none))
      (removed_both letters stays_dotless letters dot [] alone one_dot)
  directory_both path (last front rest is none) =
      removed_both letters stays_dotless (directory path ++ letters) (directory path ++ dot) (segments front)
      (ap segments (placed_at path front rest letters is none) ∙ segments_more front letters alone)
      (ap segments (placed_at path front rest dot is none) ∙ segments_more front dot one_dot)

  merged_at : (rooted : Bool) (path : List ℕ) → remove_dot_segments (cond rooted (47 ∷ letters) (directory path ++ letters))
      ≡ remove_dot_segments (cond rooted (47 ∷ dot) (directory path ++ dot)) ++ letters
  merged_at true path = removed_both letters stays_dotless (47 ∷ letters) (47 ∷ dot) ([] ∷ []) (ap (λ parts. [] ∷ parts) alone) (ap (λ parts. [] ∷ parts) one_dot)
  merged_at false path = directory_both path (slashes path)

  merged_both : (base : Parts) → remove_dot_segments (merged base letters) ≡ remove_dot_segments (merged base dot) ++ letters
  merged_both base = merged_at (is_some base.authority && is_empty base.path) base.path

  -- ---- references

  abbrev dot_parts : Parts
  dot_parts = record { scheme = None; authority = None; path = dot; query = None; fragment = None }

  split_dot : split dot ≡ dot_parts
  unfolding split
  split_dot = refl

  placed_dot : (base : Parts) → transformed base dot_parts
      ≡ record { scheme = base.scheme; authority = base.authority; path = remove_dot_segments (merged base dot); query = None; fragment = None }
  unfolding transformed
  placed_dot base = refl

  behind_folder : (base : List ℕ) → resolved base letters ≡ folder_of base ++ letters
  behind_folder base =
      let parts = split base in
      let front = start parts.scheme parts.authority in
      let own : resolved base letters ≡ front ++ remove_dot_segments (merged parts letters) =
      ap (λ reference. recomposed (transformed parts reference)) (split_plain byte bytes plain)
      ∙ (ap recomposed (placed byte bytes plain parts) ∙ written parts.scheme parts.authority (remove_dot_segments (merged parts letters))) in
      let folder : folder_of base ≡ front ++ remove_dot_segments (merged parts dot) =
      ap (λ reference. recomposed (transformed parts reference)) split_dot
      ∙ (ap recomposed (placed_dot parts) ∙ written parts.scheme parts.authority (remove_dot_segments (merged parts dot))) in
      own ∙ (ap (λ end. front ++ end) (merged_both parts) ∙ (sym (append_assoc front (remove_dot_segments (merged parts dot)) letters) ∙ sym (ap (λ all. all ++ letters) folder)))

-- a base resolves a plain text to its folder with the text behind it
pub resolved_plain : (base text : List ℕ) → IsTrue (is_plain text) → resolved base text ≡ folder_of base ++ text
resolved_plain base [] plain = absurd (cc plain)
resolved_plain base (byte ∷ bytes) plain = behind_folder byte bytes plain base

-- ---- ids

module _ (base iri : List ℕ) where
  abbrev folder : List ℕ
  folder = folder_of base

  -- where no plain text stands behind the folder, none is the id
  missing_at : (b : Bool) → (is_plain (plain_end iri) && is_same (resolved base (plain_end iri)) iri) ≡ b
      → ((text : List ℕ) → is_plain text ≡ true → iri ≡ folder ++ text → ⊥) → cond b (Some (plain_end iri)) None ≡ None
  missing_at true is apart =
      let parts = and_parts (is_plain (plain_end iri)) (is_same (resolved base (plain_end iri)) iri) is in
      absurd (apart (plain_end iri) parts.0 (sym (same (resolved base (plain_end iri)) iri parts.1) ∙ resolved_plain base (plain_end iri) parts.0))
  missing_at false is apart = refl

  missing : ((text : List ℕ) → is_plain text ≡ true → iri ≡ folder ++ text → ⊥) → plain_id base iri ≡ None
  missing apart = missing_at (is_plain (plain_end iri) && is_same (resolved base (plain_end iri)) iri) refl apart

  passing_at : (rest : List ℕ) (b : Bool) → iri ≡ folder ++ rest → is_plain rest ≡ b → cond b (Some rest) None ≡ plain_id base iri
  passing_at rest true is plain = sym (ap (plain_id base) (is ∙ sym (resolved_plain base rest plain)) ∙ plain_found base rest plain)
  passing_at rest false is plain =
      sym (missing (λ text good also.
      let same_rest : rest ≡ text = sym (drop-append-add folder rest 0) ∙ (ap (drop (length folder + 0)) (sym is ∙ also) ∙ drop-append-add folder text 0) in
      true≢false (sym good ∙ (sym (ap is_plain same_rest) ∙ plain))))

  behind_at : (b : Bool) → b ≡ starts_with nat_eq iri folder
      → option_and_then (if_passes is_plain) (cond b (Some (drop (length folder) iri)) None) ≡ plain_id base iri
  behind_at true begins = passing_at (drop (length folder) iri) (is_plain (drop (length folder) iri)) ((starts_is Decides-eqb iri folder true begins).0 refl) refl
  behind_at false begins = sym (missing (λ text good also. true≢false (sym ((starts_is Decides-eqb iri folder false begins).1 text also))))

-- the plain text behind the folder is the one that the base resolves to the IRI
pub folder_finds : (base front iri : List ℕ) → front ≡ folder_of base → plain_behind front iri ≡ plain_id base iri
folder_finds base front iri is = ap (λ folder. plain_behind folder iri) is ∙ behind_at base iri (starts_with nat_eq iri (folder_of base)) refl

-- where there is one, it is the id
pub plain_is : (context : ContextValue) (iri : List ℕ) (found : Option (Bor (List ℕ))) → option_copied found ≡ plain_id context.base iri
    → IfSome found (λ text. text.now ≡ compact_id context iri)
unfolding id_form
plain_is context iri None is = tt
plain_is context iri (Some text) is = ap (λ id. unwrap_or (option_or id (least_compact context.terms iri)) iri) is
