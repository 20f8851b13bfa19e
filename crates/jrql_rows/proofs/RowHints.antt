-- The texts of places in rows: what they share, and their first bytes.
use Rattle.std.proofs.Common.{◌≡◌, ℕ, zero, suc, List, [], true, false, take, drop, refl, sym}
use Rattle.std.specs.Option.{is_some}
use Rattle.rdf_terms.specs.declared.terms.Term.{Term}
use Rattle.rdf_terms.specs.ReplyOrder.{integer_of}
use Rattle.graph_index.specs.hinted_chunks.Leading.{leading}
use Rattle.graph_index.specs.hinted_chunks.TermFronts.{term_front}
use Rattle.graph_index.proofs.of_hinted_chunks.Sharing.{same_at_none}
use Rattle.graph_index.proofs.of_hinted_chunks.Topping.{leading_none}
use Rattle.jrql_rows.specs.RowFronts.{reply_front}

-- nothing has no byte
pub no_hint : (place : ℕ) → 0 ≡ leading 8 (drop place [])
no_hint place = sym (leading_none 8 place)

-- an integer's is 0
pub integer_hint : (term : Term) (place : ℕ) → is_some (integer_of term) ≡ true → 0 ≡ leading 8 (drop place (reply_front term))
integer_hint term zero e = rw e refl
integer_hint term (suc place) e = rw e (no_hint place)

pub other_hint : (term : Term) (place hint : ℕ) → is_some (integer_of term) ≡ false → hint ≡ leading 8 (drop place (term_front term)) → hint ≡ leading 8 (drop place (reply_front term))
other_hint term place hint e h = rw e h

-- no byte is shared with what may be anything
pub none_shared : (a b : List ℕ) → take 0 a ≡ take 0 b
none_shared a b = same_at_none a b

pub others_shared : (term other : Term) (shared : ℕ) → is_some (integer_of term) ≡ false → is_some (integer_of other) ≡ false → take shared (term_front term) ≡ take shared (term_front other)
    → take shared (reply_front term) ≡ take shared (reply_front other)
others_shared term other shared e f h = rw (e, f) h
