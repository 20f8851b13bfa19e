-- Terms by their hashes. The private table of terms cites it: how its numbers are ordered, where a term is looked for, and what the
-- table keeps.
use Rattle.std.specs.Prelude.{◌≡◌, ℕ, ◌/◌, ◌^◌, List, [], Option, None, Some, Bool, fold}
use Rattle.std.specs.Cmp.Lexicographic.{slice_cmp}
use Rattle.std.specs.Hash.FoldHasher as folding
use Rattle.std.specs.List.{slice_get}
use Rattle.std.specs.Ordering.{nat_cmp, ordering_then, is_lt}
use Rattle.std.specs.declared.cmp.Ordering.{Ordering}
use Rattle.chunked_list.specs.NumberTexts.{numbers_text}
use Rattle.rdf_terms.specs.declared.terms.Term.{Term}
use Rattle.rdf_terms.specs.declared.terms.Term.TheVariants as terms
use Rattle.rdf_terms.specs.Hashed.{term_fed}
use Rattle.rdf_terms.specs.Spelling.{term_text}
use Rattle.number_tables.specs.declared.hashed.HashedNumber.{HashedNumber}
use Rattle.number_tables.specs.declared.hashed.Wanted.{Wanted}
use Rattle.number_tables.specs.declared.hashed.Wanted.TheVariants as wanted

-- what a hasher of a fixed seed makes of what is fed to it: the upper half of its 64 bits
unfoldable pub hash_fed : List (List ℕ) → ℕ
hash_fed writes = folding.finish (fold folding.write folding.initial writes) / 2 ^ 32

-- the hash of a term
unfoldable pub term_hash : Term → ℕ
term_hash term = hash_fed (term_fed term)

-- the text of a hash: that of the hash and 0, since texts of numbers have two
abbrev pub hash_text : ℕ → List ℕ
hash_text hash = numbers_text hash 0

-- the text of a term that may be there; none is the least of all
abbrev pub hashed_term_text : Option Term → List ℕ
hashed_term_text None = []
hashed_term_text (Some term) = term_text term

-- the text of the term that has a number
abbrev pub term_text_at : List Term → ℕ → List ℕ
term_text_at terms number = hashed_term_text (slice_get terms number)

-- a number with its hash against a hash and a text: by the hashes first, and then by the texts
abbrev pub sought_cmp : List Term → HashedNumber → ℕ → List ℕ → Ordering
sought_cmp terms a hash text = ordering_then (nat_cmp a.hash hash) (slice_cmp nat_cmp (term_text_at terms a.number) text)

-- two numbers: by their hashes, then by the texts of their terms, and then by themselves
abbrev pub hashed_cmp : List Term → HashedNumber → HashedNumber → Ordering
hashed_cmp terms a b = ordering_then (sought_cmp terms a b.hash (term_text_at terms b.number)) (nat_cmp a.number b.number)

-- a number with its hash is in front of what is sought
abbrev pub is_before_sought : List Term → ℕ → List ℕ → HashedNumber → Bool
is_before_sought terms hash text a = is_lt (sought_cmp terms a hash text)

-- the term that is looked up
abbrev pub wanted_term : Wanted → Term
wanted_term (wanted.Iri iri) = terms.Iri iri.now
wanted_term (wanted.Term term) = term.now

-- the number is that of a term, and stands with that term's hash
abbrev pub IsHashed : List Term → HashedNumber → Type 0
IsHashed terms place = (term : Term) × (slice_get terms place.number ≡ Some term) × (place.hash ≡ term_hash term)
