-- The base and the vocabulary of a domain are absolute IRIs.
use Rattle.std.proofs.Common.{◌≡◌, ℕ, ◌≤◌, List, [], ◌∷◌, ◌++◌, length, Bool, true, ◌&&◌, not, IsTrue, codes, nat_le, refl, ◌∙◌, length-append, arith}
use Rattle.std.specs.List.{list_all}
use Rattle.std.proofs.lemmas.Bool.{and_parts, and_from}
use Rattle.std.proofs.lemmas.Bool.Decides.{nat_tests}
use Rattle.std.proofs.lemmas.List.Folds.{list_all-append}
use Rattle.text_rules.specs.Domain.{is_domain, is_domain_byte}
use Rattle.text_rules.specs.Iri.{is_excluded, is_iri, is_absolute}

abbrev is_allowed : ℕ → Bool
is_allowed byte = not (is_excluded byte)

allowed : (byte : ℕ) → is_domain_byte byte ≡ true → is_allowed byte ≡ true
allowed byte h = grind (arith, nat_tests)

all_allowed : (bytes : List ℕ) → list_all is_domain_byte bytes ≡ true → list_all is_allowed bytes ≡ true
all_allowed [] h = refl
all_allowed (byte ∷ bytes) h =
    let parts = and_parts (is_domain_byte byte) (list_all is_domain_byte bytes) h in
    and_from (is_allowed byte) (list_all is_allowed bytes) (allowed byte parts.0) (all_allowed bytes parts.1)

le_yes : (a b : ℕ) → nat_le a b ≡ true → a ≤ b
le_yes a b h = grind (arith, nat_tests)

le_test : (a b : ℕ) → a ≤ b → nat_le a b ≡ true
le_test a b h = grind (arith, nat_tests)

-- the root of a domain, and what stands behind it
pub rooted_absolute : (domain back : List ℕ) → IsTrue (is_domain domain) → list_all is_allowed back ≡ true → length back ≤ 2
    → IsTrue (is_absolute (codes "http://" ++ domain ++ back))
unfolding is_iri is_domain
rooted_absolute domain back h free short =
    let tests = and_parts (nat_le 1 (length domain) && nat_le (length domain) 200) (list_all is_domain_byte domain) h in
    let within : length domain ≤ 200 = le_yes (length domain) 200 (and_parts (nat_le 1 (length domain)) (nat_le (length domain) 200) tests.0).1 in
    let size : length (codes "http://" ++ domain ++ back) ≤ 2048 =
    omega (arith, length-append (codes "http://" ++ domain) back, length-append (codes "http://") domain) in
    let front : list_all is_allowed (codes "http://" ++ domain) ≡ true =
    list_all-append is_allowed (codes "http://") domain ∙ and_from true (list_all is_allowed domain) refl (all_allowed domain tests.1) in
    let all : list_all is_allowed (codes "http://" ++ domain ++ back) ≡ true =
    list_all-append is_allowed (codes "http://" ++ domain) back ∙ and_from (list_all is_allowed (codes "http://" ++ domain)) (list_all is_allowed back) front free in
    and_from (nat_le (length (codes "http://" ++ domain ++ back)) 2048) _ (le_test _ 2048 size) all
