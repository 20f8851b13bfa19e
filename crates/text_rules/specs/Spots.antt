-- Where in a term's text a character stands, and what may stand there (N-Triples 1.1, IRIREF and STRING_LITERAL_QUOTE;
-- RFC 3986 section 3.1).
use Rattle.std.specs.Prelude.{ℕ, Bool, false, not, ◌&&◌, ◌||◌, ◌==◌, nat_lt, Option, Some, None, if◌then◌else◌}
use lib.Utf8.{scalar}
use Rattle.text_rules.specs.declared.spots.Spot.{Spot}
use Rattle.text_rules.specs.declared.spots.Spot.TheVariants.{SchemeStart, Scheme, IriRest, Lexical}
use Rattle.text_rules.specs.Iri.{is_letter, is_scheme_byte, is_excluded}
use Rattle.text_rules.specs.Marks.{line_feed, carriage_return, quote, colon, greater, backslash}

-- what may stand between the quotes of a literal as it is
abbrev pub is_plain_byte : ℕ → Bool
is_plain_byte byte = not (byte == quote || byte == backslash || byte == line_feed || byte == carriage_return)

-- where the next character stands, behind a character of this code
abbrev pub spot_behind : Spot → ℕ → Option Spot
spot_behind SchemeStart code = if is_letter code then Some Scheme else None
spot_behind Scheme code = if code == colon then Some IriRest else (if is_scheme_byte code then Some Scheme else None)
spot_behind IriRest code = if is_excluded code then None else Some IriRest
spot_behind Lexical code = Some Lexical

-- the same behind a byte that stands for itself
abbrev pub after_plain : Spot → ℕ → Option Spot
after_plain SchemeStart byte = spot_behind SchemeStart byte
after_plain Scheme byte = spot_behind Scheme byte
after_plain IriRest byte = spot_behind IriRest byte
after_plain Lexical byte = if is_plain_byte byte then Some Lexical else None

-- the byte is the mark that closes the term
abbrev pub closes : Spot → ℕ → Bool
closes SchemeStart byte = false
closes Scheme byte = false
closes IriRest byte = byte == greater
closes Lexical byte = byte == quote

-- of the codes from low to high, sixteen or more in a row, some character may stand here
abbrev pub may_hold : Spot → ℕ → ℕ → Bool
may_hold SchemeStart low high = nat_lt low 128 && nat_lt 64 high
may_hold Scheme low high = nat_lt low 128 && nat_lt 32 high
may_hold IriRest low high = scalar low && nat_lt 32 high
may_hold Lexical low high = scalar low
