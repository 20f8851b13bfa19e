-- Laws of the ranges that are released once more dots are known.
use Rattle.std.proofs.Common.{◌≡◌, List, [], ◌∷◌, refl, sym, ◌∙◌, ap, subst}
use Rattle.tree_clock.specs.declared.dots.Dot.{Dot}
use Rattle.tree_clock.specs.declared.dots.Range.{Range}
use Rattle.tree_clock.specs.Lists.{Has}
use Rattle.tree_clock.specs.Dot.{Knows}
use Rattle.mld_ops.specs.History.{Operation}
use Rattle.mld_ops.specs.Picking.{TakesFirst}
use Rattle.mld_ops.proofs.PickingLaws.{drops_one, first_one, none_no_first, rest_members, kept_members}
use Rattle.mld_model.specs.Clone.{Stored, known_of, with_range, IsKnown, IsReady, Releases}
use Rattle.mld_model.proofs.KnownLaws.{known_with-old}

-- ranges of this history
module _ (history : List Operation) where
  -- what is released is one list, and so is what is left
  pub releases_once : (stored : Stored) (held taken other : List Range) (after next : Stored) (left rest : List Range) → Releases history stored held taken after left
      → Releases history stored held other next rest → (taken ≡ other) × (after ≡ next) × (left ≡ rest)
  releases_once stored held [] [] after next left rest p q =
      (refl, p.2 ∙ sym q.2, drops_one (IsKnown (known_of stored)) held left rest p.0 q.0)
  releases_once stored held [] (range ∷ other) after next left rest p q =
      let same : left ≡ q.0 = drops_one (IsKnown (known_of stored)) held left q.0 p.0 q.2 in
      absurd (none_no_first (IsReady history (known_of stored)) left range q.1 p.1
      (subst (λ (ranges : List Range). TakesFirst (IsReady history (known_of stored)) ranges range q.1) (sym same) q.3))
  releases_once stored held (range ∷ taken) [] after next left rest p q =
      let same : rest ≡ p.0 = drops_one (IsKnown (known_of stored)) held rest p.0 q.0 p.2 in
      absurd (none_no_first (IsReady history (known_of stored)) rest range p.1 q.1
      (subst (λ (ranges : List Range). TakesFirst (IsReady history (known_of stored)) ranges range p.1) (sym same) p.3))
  releases_once stored held (range ∷ taken) (second ∷ other) after next left rest p q =
      let same : q.0 ≡ p.0 = drops_one (IsKnown (known_of stored)) held q.0 p.0 q.2 p.2 in
      let first = first_one (IsReady history (known_of stored)) p.0 range second p.1 q.1 p.3
      (subst (λ (ranges : List Range). TakesFirst (IsReady history (known_of stored)) ranges second q.1) same q.3) in
      let goes : Releases history (with_range stored range) q.1 other next rest =
      subst (λ (r : Range). Releases history (with_range stored r) q.1 other next rest) (sym first.0) q.4 in
      let on : Releases history (with_range stored range) p.1 other next rest =
      subst (λ (ranges : List Range). Releases history (with_range stored range) ranges other next rest) (sym first.1) goes in
      let more = releases_once (with_range stored range) p.1 taken other after next left rest p.4 on in
      ((λ i. first.0 i ∷ more.0 i), more.1, more.2)

  -- the clone keeps its path
  pub releases_path : (stored : Stored) (held taken : List Range) (after : Stored) (left : List Range) → Releases history stored held taken after left
      → after.path ≡ stored.path
  releases_path stored held [] after left p = ap (λ (s : Stored). s.path) p.2
  releases_path stored held (range ∷ taken) after left p = releases_path (with_range stored range) p.1 taken after left p.4

  -- what it knew it still knows
  pub releases_known : (stored : Stored) (held taken : List Range) (after : Stored) (left : List Range) → Releases history stored held taken after left → (dot : Dot)
      → Knows (known_of stored) dot → Knows (known_of after) dot
  releases_known stored held [] after left p dot known = subst (λ (s : Stored). Knows (known_of s) dot) (sym p.2) known
  releases_known stored held (range ∷ taken) after left p dot known =
      releases_known (with_range stored range) p.1 taken after left p.4 dot (known_with-old stored range dot known)

  -- what is still held back was held back
  pub releases_left : (stored : Stored) (held taken : List Range) (after : Stored) (left : List Range) → Releases history stored held taken after left → (range : Range)
      → Has left range → Has held range
  releases_left stored held [] after left p range h = kept_members (IsKnown (known_of stored)) held left p.0 range h
  releases_left stored held (first ∷ taken) after left p range h =
      kept_members (IsKnown (known_of stored)) held p.0 p.2 range
      (rest_members (IsReady history (known_of stored)) p.0 first p.1 p.3 range (releases_left (with_range stored first) p.1 taken after left p.4 range h))
