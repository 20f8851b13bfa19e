-- The pairs of a range.
use Rattle.std.proofs.Common.{◌≡◌, ◌∙◌, ℕ, ◌≤◌, List, true, ◌&&◌, nat_eq, nat_le, IsTrue, ◌↔◌, Result, Ok, Err, IfOk, sym, subst, inl, inr, arith}
use Rattle.std.proofs.lemmas.Bool.{and_parts, and_from, true≢false}
use Rattle.std.proofs.lemmas.Bool.Decides.{leb_tells}
use Rattle.std.specs.Cmp.Lexicographic.{pointwise, bytes_decides}
use Rattle.std.specs.List.{filter}
use Rattle.tree_clock.specs.declared.dots.Dot.{Dot}
use Rattle.tree_clock.specs.declared.dots.Range.{Range}
use Rattle.tree_clock.specs.Dot.{IsIn}
use Rattle.tree_clock.specs.Lists.{IsAscending}
use Rattle.mld_ops.specs.declared.tagged.Tagged.{Tagged}
use Rattle.mld_ops.specs.Applies.{IsOfRange}
use Rattle.mld_ops.proofs.AscendingLaws.{has_filter, ascending_filter}
use Rattle.mld_ops.specs.Tagged.{tagged_cmp}
use Rattle.graph_index.specs.Matching.{is_within_range}

le_yes : (a b : ℕ) → nat_le a b ≡ true → a ≤ b
le_yes a b h = elim (leb_tells a b) [ inl p ↦ p.1 | inr p ↦ absurd (true≢false (sym h ∙ p.0)) ]

le_test : (a b : ℕ) → a ≤ b → nat_le a b ≡ true
le_test a b h = elim (leb_tells a b) [ inl p ↦ p.0 | inr p ↦ absurd (omega (arith, h, p.1)) ]

-- the test tells whether a dot is one of a range
in_tells : (range : Range) (dot : Dot) → IsTrue (is_within_range range dot) ↔ IsIn range dot
in_tells range dot = (
  λ h.
      let p = and_parts (pointwise nat_eq dot.path range.path) (nat_le range.first dot.tick && nat_le dot.tick range.last) h in
      let q = and_parts (nat_le range.first dot.tick) (nat_le dot.tick range.last) p.1 in
      record { path = (bytes_decides dot.path range.path).0 p.0; above = le_yes range.first dot.tick q.0; below = le_yes dot.tick range.last q.1 },
  λ h. and_from (pointwise nat_eq dot.path range.path) (nat_le range.first dot.tick && nat_le dot.tick range.last)
      ((bytes_decides dot.path range.path).1 h.path)
      (and_from (nat_le range.first dot.tick) (nat_le dot.tick range.last) (le_test range.first dot.tick h.above) (le_test dot.tick range.last h.below)),
)

-- the pairs that pass the test are those of the range
pub of_range : (range : Range) (pairs found : List Tagged) → IsAscending tagged_cmp pairs → found ≡ filter (λ pair. is_within_range range pair.dot) pairs → IsOfRange range pairs found
of_range range pairs found a e =
    subst (IsOfRange range pairs) (sym e) (record {
      ascending = ascending_filter tagged_cmp (λ pair. is_within_range range pair.dot) pairs a;
      members = λ pair. let f = has_filter (λ p. is_within_range range p.dot) pairs pair in (
        λ h. let g = f.0 h in (g.0, (in_tells range pair.dot).0 g.1),
        λ h. f.1 (h.0, (in_tells range pair.dot).1 h.1),
      );
    })

pub ok_weaker : {A E : Type 0} {P Q : A → Type 0} (r : Result A E) → ((a : A) → P a → Q a) → IfOk r P → IfOk r Q
ok_weaker (Ok a) f h = f a h
ok_weaker (Err e) f h = tt
