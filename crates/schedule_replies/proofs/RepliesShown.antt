-- The text of a clone's pairs, and words behind an output.
use Rattle.std.proofs.Common.{◌≡◌, ◌∙◌, ◌<◌, refl, Option, Some, sym, arith, zero, suc, ◌+◌, append-nil, ℕ, ◌≤◌, List, [], ◌∷◌, ◌++◌, codes, length, take, ap, if◌then◌else◌, Result, Ok, Err, OnOk, OnErr, is_ok, subst}
use Rattle.std.specs.Fmt.{decimal}
use Rattle.std.specs.List.{flat_map, range_with_len, slice_get}
use Rattle.std.specs.Option.{option_map, option_to_list}
use Rattle.std.proofs.lemmas.Grind.{flat_map-append}
use Rattle.std.proofs.lemmas.List.{append_assoc, take_all}
use Rattle.rdf_terms.specs.Kept.{KeepsStart}
use Rattle.rdf_terms.proofs.Appending.{keeps_further}
use Rattle.tree_clock.specs.declared.dots.Range.{Range}
use Rattle.mld_ops.specs.PairLists.{pair_lent}
use Rattle.mld_ops.specs.declared.pair_lists.PairRef.{PairRef}
use Rattle.mld_ops.specs.declared.tagged.Tagged.{Tagged}
use Rattle.schedule_model.specs.Characters.{line_end}
use Rattle.schedule_model.specs.ReplyText.{reply_text, pair_line, spaced_range, spaced_message}
use Rattle.mld_model.specs.Reply.{Shows, Answer}

-- a head and a line for each pair, in two steps
pub pairs_shown : (old mid out head : List ℕ) (pairs : List Tagged)
    → mid ≡ old ++ head → head ≡ codes "has " ++ (decimal (length pairs) ++ line_end ∷ []) → out ≡ mid ++ flat_map pair_line pairs
    → out ≡ old ++ reply_text (Shows pairs)
unfolding reply_text
pairs_shown old mid out head pairs m h o =
    let first : List ℕ = codes "has " ++ (decimal (length pairs) ++ line_end ∷ []) in
    let lines : List ℕ = flat_map pair_line pairs in
    o ∙ ap (λ w. w ++ lines) (m ∙ ap (λ w. old ++ w) h)
    ∙ append_assoc old first lines
    ∙ ap (λ w. old ++ w) (append_assoc (codes "has ") (decimal (length pairs) ++ line_end ∷ []) lines ∙ ap (λ w. codes "has " ++ w) (append_assoc (decimal (length pairs)) (line_end ∷ []) lines))

-- one pair more
pub lines_more : (old out new : List ℕ) (pairs : List Tagged) (place : ℕ) → place < length pairs
    → out ≡ old ++ flat_map pair_line (take place pairs) → new ≡ out ++ flat_map pair_line (option_to_list (slice_get pairs place))
    → new ≡ old ++ flat_map pair_line (take (place + 1) pairs)
lines_more old out new pairs place within o n =
    n ∙ ap (λ w. w ++ flat_map pair_line (option_to_list (slice_get pairs place))) o
    ∙ append_assoc old (flat_map pair_line (take place pairs)) (flat_map pair_line (option_to_list (slice_get pairs place)))
    ∙ ap (λ w. old ++ w) (sym (flat_map-append pair_line (take place pairs) (option_to_list (slice_get pairs place))))
    ∙ ap (λ (ps : List Tagged). old ++ flat_map pair_line ps) (sym (one_more pairs place within))
  where
    one_more : (pairs : List Tagged) (place : ℕ) → place < length pairs → take (place + 1) pairs ≡ take place pairs ++ option_to_list (slice_get pairs place)
    one_more [] place within = absurd (omega (arith, within))
    one_more (pair ∷ pairs) zero within = refl
    one_more (pair ∷ pairs) (suc place) within =
        let e : suc place + 1 ≡ suc (place + 1) = omega arith in rw e (ap (λ (ps : List Tagged). pair ∷ ps) (one_more pairs place (omega (arith, within))))

-- the line of a pair that is lent
pub line_shown : (old new : List ℕ) (found : Option PairRef) (at : Option Tagged) (lent : PairRef) → found ≡ Some lent → option_map pair_lent found ≡ at
    → new ≡ old ++ pair_line (pair_lent lent) → new ≡ old ++ flat_map pair_line (option_to_list at)
line_shown old new found at lent is same pushed =
    let there : at ≡ Some (pair_lent lent) = sym same ∙ ap (λ (o : Option PairRef). option_map pair_lent o) is in
    rw there (pushed ∙ ap (λ w. old ++ w) (sym (append-nil (pair_line (pair_lent lent)))))

-- a word, each range behind a space, and the end of the line, in three steps
pub ranges_shown : (old mid out new word : List ℕ) (ranges : List Range) (i : ℕ) → length ranges ≤ i
    → mid ≡ old ++ word → out ≡ mid ++ flat_map spaced_range (take i ranges) → new ≡ out ++ line_end ∷ []
    → new ≡ old ++ (word ++ (flat_map spaced_range ranges ++ line_end ∷ []))
ranges_shown old mid out new word ranges i l m o n =
    let text : List ℕ = flat_map spaced_range ranges in
    n ∙ ap (λ w. w ++ line_end ∷ []) (o ∙ ap (λ w. w ++ flat_map spaced_range (take i ranges)) m
    ∙ ap (λ rs. (old ++ word) ++ flat_map spaced_range rs) (take_all i ranges l))
    ∙ append_assoc (old ++ word) text (line_end ∷ [])
    ∙ append_assoc old word (text ++ line_end ∷ [])

-- the numbers of messages, one more of them
pub numbers_more : (first n : ℕ) → flat_map spaced_message (range_with_len first (n + 1)) ≡ flat_map spaced_message (range_with_len first n) ++ spaced_message (first + n)
numbers_more first zero =
    let same : first + 0 ≡ first = omega arith in
    append-nil (spaced_message first) ∙ ap spaced_message (sym same)
numbers_more first (suc n) =
    let counted : suc n + 1 ≡ suc (n + 1) = omega arith in
    let placed : first + 1 + n ≡ first + suc n = omega arith in
    rw counted (ap (λ (text : List ℕ). spaced_message first ++ text) (numbers_more (first + 1) n)
    ∙ sym (append_assoc (spaced_message first) (flat_map spaced_message (range_with_len (first + 1) n)) (spaced_message (first + 1 + n)))
    ∙ ap (λ (k : ℕ). (spaced_message first ++ flat_map spaced_message (range_with_len (first + 1) n)) ++ spaced_message k) placed)

-- a word, each number behind a space, and the end of the line, in three steps
pub numbers_shown : (old mid out new head : List ℕ) (first count i : ℕ) → i ≡ count
    → mid ≡ old ++ head → head ≡ codes "answer" → out ≡ mid ++ flat_map spaced_message (range_with_len first i) → new ≡ out ++ line_end ∷ []
    → new ≡ old ++ reply_text (Answer (range_with_len first count))
unfolding reply_text
numbers_shown old mid out new head first count i l m h o n =
    let text : List ℕ = flat_map spaced_message (range_with_len first count) in
    n ∙ ap (λ w. w ++ line_end ∷ []) (o ∙ ap (λ w. w ++ flat_map spaced_message (range_with_len first i)) (m ∙ ap (λ w. old ++ w) h)
    ∙ ap (λ (k : ℕ). (old ++ codes "answer") ++ flat_map spaced_message (range_with_len first k)) l)
    ∙ append_assoc (old ++ codes "answer") text (line_end ∷ [])
    ∙ append_assoc old (codes "answer") (text ++ line_end ∷ [])

-- bytes that are a word's, put behind an output
pub word_pushed : {X E : Type 0} (r : Result X E) (old new text word : List ℕ) → new ≡ (if is_ok r then old ++ text else old) → text ≡ word → OnOk r (new ≡ old ++ word)
word_pushed (Ok x) old new text word h t = h ∙ ap (λ w. old ++ w) t
word_pushed (Err e) old new text word h t = tt

-- what stood in front of what was added still stands there
pub still_stands : (old added mid new : List ℕ) → mid ≡ old ++ added → KeepsStart mid new → KeepsStart old new
still_stands old added mid new is keeps = keeps_further old added new (subst (λ (l : List ℕ). KeepsStart l new) is keeps)

-- so it does where a piece is refused
pub still_in_front : {X E : Type 0} (r : Result X E) (old added mid new : List ℕ) → mid ≡ old ++ added → KeepsStart mid new → OnErr r (KeepsStart old new)
still_in_front (Ok x) old added mid new is keeps = tt
still_in_front (Err e) old added mid new is keeps = still_stands old added mid new is keeps
