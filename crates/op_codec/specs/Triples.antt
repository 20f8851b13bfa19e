-- Triples as bytes: the length of their written form, and its bytes. No other spelling of a triple is taken.
use Rattle.std.specs.Prelude.{ℕ, ◌&&◌, List, Option, Some, None, if◌then◌else◌}
use Rattle.std.specs.Str.{is_utf8}
use Rattle.mld_bytes.specs.Bytes.{piece_bytes}
use Rattle.rdf_terms.specs.declared.terms.Triple.{Triple}
use Rattle.rdf_terms.specs.Building.{is_within}
use Rattle.rdf_terms.specs.Literal.{is_same}
use Rattle.rdf_terms.specs.TripleReading.{ReadingEnd, Spelled, Stopped, Before, Subject, run}
use Rattle.rdf_terms.specs.Spelling.{triple_text}
use Rattle.op_codec.specs.Reading.{Reading, Found, Fault, chain, read_u32, read_piece}

-- a triple as it is stored
abbrev pub stored_triple : Triple → List ℕ
stored_triple triple = piece_bytes (triple_text triple)

-- the triple that a text spells, where it is within the limits and is written so
abbrev pub written_triple : List ℕ → ReadingEnd → Option Triple
written_triple text (Spelled triple) = if is_within triple && is_same (triple_text triple) text then Some triple else None
written_triple text (Stopped left) = None

-- the triple whose written form a text is
unfoldable pub triple_of : List ℕ → Option Triple
triple_of text = if is_utf8 text then written_triple text (run text (Before Subject)) else None

-- a triple that was found, or none, where its text begins
abbrev pub found_at : ℕ → Option Triple → ℕ → List ℕ → Reading Triple
found_at place None next rest = Fault place
found_at place (Some triple) next rest = Found triple next rest

-- a triple
unfoldable pub read_stored : ℕ → List ℕ → Reading Triple
read_stored place bytes =
    chain (read_u32 place bytes) (λ size next rest.
    chain (read_piece size next rest) (λ text end left. found_at next (triple_of text) end left))
