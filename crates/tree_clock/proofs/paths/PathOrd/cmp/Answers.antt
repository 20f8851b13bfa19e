use Rattle.std.proofs.Common.{◌≡◌, sym, ◌∙◌, ap, length, take, arith}
use Rattle.std.specs.Cmp.Lexicographic.{slice_cmp}
use Rattle.std.specs.Ordering.{nat_cmp, ordering_then}
use Rattle.tree_clock.specs.Letters.{length-letters}
use Rattle.tree_clock.proofs.PathLemmas.{letters-cmp, slice_cmp-take}
use Rattle.tree_clock.proofs.paths.PathOrd.cmp.Goals as goal

pub front-requires : goal.front-requires
front-requires c =
    let e = sym (length-letters c.self.inside.len c.self.inside.bits) ∙ ap length c.self.view_is in
    omega arith

pub front-requires-2 : goal.front-requires-2
front-requires-2 c =
    let e = sym (length-letters c.other.inside.len c.other.inside.bits) ∙ ap length c.other.view_is in
    omega arith

pub returns : goal.returns
returns c =
    let n = c.min-common.result in
    let P = c.args.self.now in
    let Q = c.args.other.now in
    let e : c.self.inside.len ≡ length P = sym (length-letters c.self.inside.len c.self.inside.bits) ∙ ap length c.self.view_is in
    let f : c.other.inside.len ≡ length Q = sym (length-letters c.other.inside.len c.other.inside.bits) ∙ ap length c.other.view_is in
    let fronts : c.cmp.result ≡ slice_cmp nat_cmp (take n P) (take n Q) =
    c.cmp.ensures ∙ sym (letters-cmp n c.front.result c.front-2.result c.front.ensures.below c.front-2.ensures.below)
    ∙ (λ i. slice_cmp nat_cmp (c.front.ensures.letters i) (c.front-2.ensures.letters i)) in
    let lens : c.cmp-2.result ≡ nat_cmp (length P) (length Q) = c.cmp-2.ensures ∙ (λ i. nat_cmp (e i) (f i)) in
    c.then.ensures ∙ (λ i. ordering_then (fronts i) (lens i)) ∙ sym (slice_cmp-take n P Q (omega arith))
