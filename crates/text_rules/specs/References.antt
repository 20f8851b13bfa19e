-- The parts of a reference (RFC 3986 section 3), how a text is split into them (appendix B), and their text (section 5.3).
use Rattle.std.specs.Prelude.{ℕ, List, [], ◌++◌, Bool, ◌==◌, ◌+◌, nat_eq, Option, Some, None, drop, if◌then◌else◌, codes}
use Rattle.std.specs.List.{before_first, after_first, position, position_or_len, starts_with}
use Rattle.std.specs.Option.{option_map}
use Rattle.text_rules.specs.Iri.{has_scheme}

-- RFC 3986 section 3: what a reference is made of; an absent part isn't an empty one, and the path is always there
pub record Parts : Type 0 where
  pub scheme : Option (List ℕ)
  pub authority : Option (List ℕ)
  pub path : List ℕ
  pub query : Option (List ℕ)
  pub fragment : Option (List ℕ)

-- RFC 3986 section 2.2, the delimiters: `/` between the segments of a path
abbrev pub slash : ℕ
slash = 47

abbrev pub is_slash : ℕ → Bool
is_slash byte = byte == slash

-- `:` behind a scheme
abbrev pub is_colon : ℕ → Bool
is_colon byte = byte == 58

-- `?` before a query
abbrev pub is_question_mark : ℕ → Bool
is_question_mark byte = byte == 63

-- `#` before a fragment
abbrev pub is_hash : ℕ → Bool
is_hash byte = byte == 35

-- what stands behind the first byte that passes, where one does
abbrev pub behind : (ℕ → Bool) → List ℕ → Option (List ℕ)
behind test text = option_map (λ place. drop (place + 1) text) (position test text)

-- RFC 3986 section 3.1: a scheme stands before the first `:`
abbrev pub scheme_of : List ℕ → Option (List ℕ)
scheme_of text = if has_scheme text then Some (before_first is_colon text) else None

-- what stands behind it
abbrev pub behind_scheme : List ℕ → List ℕ
behind_scheme text = if has_scheme text then after_first is_colon text else text

-- RFC 3986 section 3.2: an authority stands behind `//`, up to the next `/`
abbrev pub begins_authority : List ℕ → Bool
begins_authority text = starts_with nat_eq text (codes "//")

-- the authority, where there is one
abbrev pub authority_of : List ℕ → Option (List ℕ)
authority_of text = if begins_authority text then Some (before_first is_slash (drop 2 text)) else None

-- RFC 3986 section 3.3: the path is the rest
abbrev pub path_of : List ℕ → List ℕ
path_of text = if begins_authority text then drop (position_or_len is_slash (drop 2 text)) (drop 2 text) else text

-- RFC 3986 appendix B: the fragment stands behind the first `#`, and the query behind the first `?` before that
unfoldable pub split : List ℕ → Parts
split text =
    let no_fragment = before_first is_hash text in
    let no_query = before_first is_question_mark no_fragment in
    record {
      scheme = scheme_of no_query;
      authority = authority_of (behind_scheme no_query);
      path = path_of (behind_scheme no_query);
      query = behind is_question_mark no_fragment;
      fragment = behind is_hash text;
    }

-- a part between its delimiters, or nothing where it is absent
abbrev pub delimited : List ℕ → Option (List ℕ) → List ℕ → List ℕ
delimited front None back = []
delimited front (Some part) back = front ++ (part ++ back)

-- RFC 3986 section 5.3: the text of the parts
unfoldable pub recomposed : Parts → List ℕ
recomposed parts =
    delimited [] parts.scheme (codes ":")
    ++ (delimited (codes "//") parts.authority []
    ++ (parts.path
    ++ (delimited (codes "?") parts.query []
    ++ delimited (codes "#") parts.fragment [])))
