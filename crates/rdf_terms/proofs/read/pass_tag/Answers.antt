use Rattle.std.proofs.Common.{◌≡◌, ℕ, length, get_or, Bool, ◌<◌, sym, ap, subst, ◌∙◌, arith}
use Rattle.text_rules.specs.BytePlaces.{HasByte}
use Rattle.rdf_terms.proofs.Stops.{byte_of}
use Rattle.rdf_terms.proofs.TagSteps.{IsTagSoFar, tag_begun, dash_more, dash_stops, character_more, ends_at, ends_all}
use Rattle.rdf_terms.proofs.read.pass_tag.Goals as goal
use Rattle.rdf_terms.proofs.read.pass_tag.Goals.{then-byte-eq45+else-not-full, else-byte-eq45+then-is_tag_character}

pub loop-i-init : goal.loop-i-init
loop-i-init c = tag_begun c.args.text.now c.args.at c.requires

pub returns-then-not-full : goal.returns-then-not-full
returns-then-not-full c =
    let text = c.args.text.now in
    let i = c.loop-i.i in
    let inside : i < length text = omega arith in
    let here = byte_of text c.as_bytes-bytes.result.now i c.as_bytes-bytes.ensures.value inside in
    dash_stops text c.args.at i c.loop-i.dashed (subst (λ (f : Bool). IsTagSoFar text c.args.at i c.loop-i.dashed f) c.if-not-full.true c.loop-i.invariant)
    (subst (λ (b : ℕ). HasByte text i b) c.if-byte-eq45.true here)

pub returns-else-is_tag_character : goal.returns-else-is_tag_character
returns-else-is_tag_character c =
    let text = c.args.text.now in
    let i = c.loop-i.i in
    let inside : i < length text = omega arith in
    let here = byte_of text c.as_bytes-bytes.result.now i c.as_bytes-bytes.ensures.value inside in
    ends_at text c.args.at i (get_or c.as_bytes-bytes.result.now i 0) c.loop-i.dashed c.loop-i.full c.end_of_tag.result c.loop-i.invariant here c.if-byte-eq45.false
    (sym c.is_tag_character.ensures ∙ c.if-is_tag_character.false) c.end_of_tag.ensures

pub loop-i-preserved : goal.loop-i-preserved
loop-i-preserved c =
    let text = c.args.text.now in
    let i = c.loop-i.i in
    let inside : i < length text = omega arith in
    let here = byte_of text c.as_bytes-bytes.result.now i c.as_bytes-bytes.ensures.value inside in
    elim c.if-byte-eq45.branch [
      | then-byte-eq45+else-not-full w ↦ rw (w.dashed-is, w.full-is)
          (dash_more text c.args.at i c.loop-i.dashed (subst (λ (f : Bool). IsTagSoFar text c.args.at i c.loop-i.dashed f) w.if-not-full.false c.loop-i.invariant)
          (subst (λ (b : ℕ). HasByte text i b) w.if-byte-eq45.true here))
      | else-byte-eq45+then-is_tag_character w ↦ rw (w.dashed-is, w.full-is)
          (character_more text c.args.at i (get_or c.as_bytes-bytes.result.now i 0) c.loop-i.dashed c.loop-i.full c.loop-i.invariant here w.if-byte-eq45.false
          (sym w.is_tag_character.ensures ∙ w.if-is_tag_character.true))
    ]

pub returns : goal.returns
returns c =
    let text = c.args.text.now in
    let bytes = c.as_bytes-bytes.result.now in
    let same : length bytes ≡ length text = ap length c.as_bytes-bytes.ensures.value in
    let last : c.loop-i.i ≡ length bytes = omega arith in
    ends_all text c.args.at (length bytes) c.loop-i.dashed c.loop-i.full c.end_of_tag-2.result
    (subst (λ (n : ℕ). IsTagSoFar text c.args.at n c.loop-i.dashed c.loop-i.full) last c.loop-i.invariant) (omega arith) c.end_of_tag-2.ensures
