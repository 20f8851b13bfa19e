-- Inserts of one path, and the same as pairs.
use Rattle.std.proofs.Common.{◌≡◌, ℕ, ◌<◌, ◌≤◌, List, [], ◌∷◌, map, ◌↔◌, inl, inr, refl, sym, ◌∙◌, ap, subst, arith}
use Rattle.std.proofs.lemmas.Cmp.{tied_itself}
use Rattle.std.specs.Ordering.{nat_cmp, ordering_then}
use Rattle.std.specs.declared.cmp.Ordering.{Ordering}
use Rattle.std.specs.declared.cmp.Ordering.TheVariants.{Less}
use Rattle.rdf_terms.specs.declared.terms.Triple.{Triple}
use Rattle.rdf_terms.specs.Order.{triple_cmp}
use Rattle.tree_clock.specs.DotLaws.{path_total}
use Rattle.tree_clock.specs.Lists.{Has, IsAscending}
use Rattle.mld_ops.specs.declared.tagged.Tagged.{Tagged}
use Rattle.mld_ops.specs.Tagged.{tagged_cmp, insert_cmp}
use Rattle.mld_ops.proofs.AscendingLaws.{below_from_members, below_member}
use Rattle.mld_ops.proofs.OperationLaws.{same_dot}
use Rattle.mld_ops.specs.History.{dot_at}
use Rattle.mld_ops.specs.Entry.{EntryValue}
use Rattle.op_fusion.specs.Fusion.{pair_at}
use Rattle.op_fusion.specs.FusionPairs.{InsertsWithin}
use Rattle.op_fusion.proofs.Lists.{has_map, Image, map_has, Picked, Picks}

-- an insert as a pair of a path, and a pair as an insert
abbrev pub as_pair : List ℕ → Triple × ℕ → Tagged
as_pair path insert = pair_at path insert.0 insert.1

abbrev pub as_insert : Tagged → Triple × ℕ
as_insert pair = (pair.triple, pair.dot.tick)

-- pairs of one path are ordered as inserts
same_order : (path : List ℕ) (a b : Triple × ℕ) → tagged_cmp (as_pair path a) (as_pair path b) ≡ insert_cmp a b
same_order path a b = ap (λ (o : Ordering). ordering_then (triple_cmp a.0 b.0) (ordering_then o (nat_cmp a.1 b.1))) (tied_itself path_total path)

pub pairs_rise : (path : List ℕ) (a b : Triple × ℕ) → insert_cmp a b ≡ Less → tagged_cmp (as_pair path a) (as_pair path b) ≡ Less
pairs_rise path a b h = same_order path a b ∙ h

-- a pair of the path is its insert's pair
pub pair_is : (path : List ℕ) (pair : Tagged) → pair.dot.path ≡ path → pair ≡ as_pair path (as_insert pair)
pair_is path pair e = λ i. record { triple = pair.triple; dot = same_dot pair.dot (dot_at path pair.dot.tick) e refl i }

inserts_rise : (path : List ℕ) (a b : Tagged) → a.dot.path ≡ path → b.dot.path ≡ path → tagged_cmp a b ≡ Less → insert_cmp (as_insert a) (as_insert b) ≡ Less
inserts_rise path a b e f h =
    sym (same_order path (as_insert a) (as_insert b))
    ∙ subst (λ (w : Tagged). tagged_cmp (as_pair path (as_insert a)) w ≡ Less) (pair_is path b f) (subst (λ (w : Tagged). tagged_cmp w b ≡ Less) (pair_is path a e) h)

-- ascending pairs of one path, as inserts
pub inserts_ascend : (path : List ℕ) (pairs : List Tagged) → IsAscending tagged_cmp pairs → ((pair : Tagged) → Has pairs pair → pair.dot.path ≡ path)
    → IsAscending insert_cmp (map as_insert pairs)
inserts_ascend path [] a own = tt
inserts_ascend path (pair ∷ pairs) a own = (
  below_from_members insert_cmp (as_insert pair) (map as_insert pairs) (λ insert h.
      let i : Image as_insert pairs insert = map_has as_insert pairs insert h in
      subst (λ (w : Triple × ℕ). insert_cmp (as_insert pair) w ≡ Less) i.is
      (inserts_rise path pair i.of (own pair (inl refl)) (own i.of (inr i.stands)) (below_member tagged_cmp pair pairs i.of a.0 i.stands))),
  inserts_ascend path pairs a.1 (λ other h. own other (inr h)),
)

pub has_inserts : (path : List ℕ) (pairs : List Tagged) → ((pair : Tagged) → Has pairs pair → pair.dot.path ≡ path)
    → (triple : Triple) (tick : ℕ) → Has (map as_insert pairs) (triple, tick) ↔ Has pairs (pair_at path triple tick)
has_inserts path pairs own triple tick = (
  λ h.
      let i : Image as_insert pairs (triple, tick) = map_has as_insert pairs (triple, tick) h in
      subst (λ (w : Tagged). Has pairs w) (pair_is path i.of (own i.of i.stands) ∙ ap (as_pair path) i.is) i.stands,
  λ h. has_map as_insert pairs (pair_at path triple tick) h,
)

-- what a loop over the inserts of an entry keeps
abbrev pub IsWithin : ℕ → ℕ → Triple × ℕ → Type 0
IsWithin low high insert = (low < insert.1) × (insert.1 ≤ high)

pub within_members : (entry : EntryValue) (path : List ℕ) (inserts : List (Triple × ℕ)) (low high : ℕ) (pairs : List Tagged) → path ≡ entry.range.path → inserts ≡ entry.inserts
    → Picks tagged_cmp (as_pair path) (IsWithin low high) inserts pairs → (pair : Tagged) → Has pairs pair ↔ InsertsWithin entry low high pair
within_members entry path inserts low high pairs e f q pair =
    let P : List ℕ → Type 0 = λ w. Picks tagged_cmp (as_pair w) (IsWithin low high) inserts pairs in
    let Q : List (Triple × ℕ) → Type 0 = λ w. Picks tagged_cmp (as_pair entry.range.path) (IsWithin low high) w pairs in
    let p : Picks tagged_cmp (as_pair entry.range.path) (IsWithin low high) entry.inserts pairs = subst Q f (subst P e q) in (
      λ h.
          let m : Picked (as_pair entry.range.path) (IsWithin low high) entry.inserts pair = (p.members pair).0 h in
          record {
            at = sym (ap (λ (w : Tagged). w.dot.path) m.is);
            above = omega (arith, m.passes.0, ap (λ (w : Tagged). w.dot.tick) m.is);
            within = omega (arith, m.passes.1, ap (λ (w : Tagged). w.dot.tick) m.is);
            stands = subst (λ (w : Tagged). Has entry.inserts (as_insert w)) m.is m.stands;
          },
      λ i. (p.members pair).1 (record {
        of = as_insert pair;
        stands = i.stands;
        passes = (i.above, i.within);
        is = sym (pair_is entry.range.path pair i.at);
      }),
    )
