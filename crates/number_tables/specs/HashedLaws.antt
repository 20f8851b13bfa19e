-- The order of hashed numbers is total and tells different ones apart, and where two hashes differ, their texts decide. The private
-- order and the place of a sought term name these laws.
use Rattle.std.specs.Prelude.{◌≡◌, ℕ, List, true, false, refl}
use Rattle.std.proofs.Common.{◌∙◌, ap, sym}
use Rattle.std.proofs.lemmas.Bool.{false≢true}
use Rattle.std.proofs.lemmas.Cmp.{nat_cmp_total, nat_list_cmp_total, on_total, then_total}
use Rattle.std.proofs.lemmas.Map.Lookups.{CmpEqualImpliesEq, exact_unsigned}
use Rattle.std.specs.Cmp.{IsTotalOrder, nat_cmp_is}
use Rattle.std.specs.Cmp.Lexicographic.{slice_cmp}
use Rattle.std.specs.Ordering.{nat_cmp, ordering_then, is_lt, is_eq}
use Rattle.std.specs.declared.cmp.Ordering.{Ordering}
use Rattle.std.specs.declared.cmp.Ordering.TheVariants.{Less, Equal, Greater}
use Rattle.chunked_list.specs.NumberLaws.{numbers_compared}
use Rattle.rdf_terms.specs.declared.terms.Term.{Term}
use Rattle.rdf_terms.specs.OrderLaws.{both_equal}
use Rattle.number_tables.specs.declared.hashed.HashedNumber.{HashedNumber}
use Rattle.number_tables.specs.HashedTerms.{hash_text, term_text_at, sought_cmp, hashed_cmp, is_before_sought}

-- a hash and a text against a hash and a text
abbrev pub cmp_by_key : ℕ × List ℕ → ℕ × List ℕ → Ordering
cmp_by_key a b = ordering_then (nat_cmp a.0 b.0) (slice_cmp nat_cmp a.1 b.1)

pub keyed_total : IsTotalOrder cmp_by_key
keyed_total = then_total (on_total (λ (a : ℕ × List ℕ). a.0) nat_cmp_total) (on_total (λ (a : ℕ × List ℕ). a.1) nat_list_cmp_total)

-- the order is total
pub hashed_total : (terms : List Term) → IsTotalOrder (hashed_cmp terms)
hashed_total terms =
    then_total (on_total {K = HashedNumber} {J = ℕ × List ℕ} (λ a. (a.hash, term_text_at terms a.number)) keyed_total)
    (on_total (λ (a : HashedNumber). a.number) nat_cmp_total)

-- and what it finds equal is the same
pub hashed_exact : (terms : List Term) → CmpEqualImpliesEq (hashed_cmp terms)
hashed_exact terms a b h =
    let all = both_equal (sought_cmp terms a b.hash (term_text_at terms b.number)) (nat_cmp a.number b.number) h in
    let sought = both_equal (nat_cmp a.hash b.hash) (slice_cmp nat_cmp (term_text_at terms a.number) (term_text_at terms b.number)) all.0 in
    let hash = exact_unsigned a.hash b.hash sought.0 in
    let number = exact_unsigned a.number b.number all.1 in
    λ i. record { hash = hash i; number = number i }

-- the first of two orders, where it finds a difference
told_first : (o p r : Ordering) → ¬ (r ≡ Equal) → o ≡ r → ordering_then o p ≡ r
told_first Less p r n e = e
told_first Equal p r n e = absurd (n (sym e))
told_first Greater p r n e = e

then_end : (o : Ordering) → ordering_then o Equal ≡ o
then_end Less = refl
then_end Equal = refl
then_end Greater = refl

-- what the texts of two hashes say, these say
hash_told : (a b : ℕ) (r : Ordering) → slice_cmp nat_cmp (hash_text a) (hash_text b) ≡ r → nat_cmp a b ≡ r
hash_told a b r e = sym (then_end (nat_cmp a b)) ∙ ap (ordering_then (nat_cmp a b)) (nat_cmp_is 0 0 Equal refl) ∙ sym (numbers_compared a 0 b 0) ∙ e

sought_by_text : (terms : List Term) (a : HashedNumber) (hash : ℕ) (text : List ℕ) (r : Ordering) → ¬ (r ≡ Equal)
    → slice_cmp nat_cmp (hash_text a.hash) (hash_text hash) ≡ r → sought_cmp terms a hash text ≡ r
sought_by_text terms a hash text r n e =
    told_first (nat_cmp a.hash hash) (slice_cmp nat_cmp (term_text_at terms a.number) text) r n (hash_told a.hash hash r e)

-- what the texts of two hashes say, the order says
pub hashed_by_text : (terms : List Term) (a b : HashedNumber) (r : Ordering) → ¬ (r ≡ Equal)
    → slice_cmp nat_cmp (hash_text a.hash) (hash_text b.hash) ≡ r → hashed_cmp terms a b ≡ r
hashed_by_text terms a b r n e =
    told_first (sought_cmp terms a b.hash (term_text_at terms b.number)) (nat_cmp a.number b.number) r n
    (sought_by_text terms a b.hash (term_text_at terms b.number) r n e)

-- and so it is of a number and what is sought
pub sought_below : (terms : List Term) (hash : ℕ) (text : List ℕ) (a : HashedNumber) → slice_cmp nat_cmp (hash_text a.hash) (hash_text hash) ≡ Less
    → is_before_sought terms hash text a ≡ true
sought_below terms hash text a e = ap is_lt (sought_by_text terms a hash text Less (λ q. false≢true (sym (ap is_lt q))) e)

pub sought_above : (terms : List Term) (hash : ℕ) (text : List ℕ) (a : HashedNumber) → slice_cmp nat_cmp (hash_text a.hash) (hash_text hash) ≡ Greater
    → is_before_sought terms hash text a ≡ false
sought_above terms hash text a e = ap is_lt (sought_by_text terms a hash text Greater (λ q. false≢true (ap is_eq q)) e)
