-- What becomes of a graph by a list, and by a cut.
use Rattle.std.proofs.Common.{◌≡◌, ◌∙◌, ℕ, ◌≤◌, List, [], ◌∷◌, ◌↔◌, ◌⊎◌, slice_index_or, slice_set, sym, subst, ap, inl, inr, arith}
use Rattle.tree_clock.specs.Lists.{Has, IsAscending}
use Rattle.mld_ops.specs.Applies.{Applies}
use Rattle.mld_ops.specs.declared.cuts.Cut.{Cut}
use Rattle.mld_ops.specs.declared.pair_lists.PairRow.{PairRow}
use Rattle.mld_ops.specs.declared.tagged.Tagged.{Tagged}
use Rattle.mld_ops.specs.Tagged.{tagged_cmp}
use Rattle.pair_orders.specs.declared.keys.Numbers.{Numbers}
use Rattle.graph_index.specs.GraphParts.{AreParts, graph_value, graph_parts}
use Rattle.graph_index.specs.Graphs.{GraphValue, Fits, entry_pair, in_order_of, pairs_of}
use Rattle.graph_index.specs.TermNumbers.{HaveOwnNumbers, KeepsNumbers, TablesValue}
use Rattle.graph_index.specs.declared.parts.Parts.{Parts}
use Rattle.graph_index.proofs.Numbers.{kept_numbered}
use Rattle.graph_index.proofs.Putting.{order_members, order_ascends, order_is}
use Rattle.graph_index.proofs.Sorting.{has_image, image_has}

-- a cut that fits does so where there is as much room, and what has a number has the same
pub fits_grown : (cut : Cut) (old new : GraphValue) → old.room ≤ new.room → KeepsNumbers old.tables new.tables → Fits cut old → Fits cut new
fits_grown cut old new room grown f = record {
  adds = let a = f.adds in omega (arith, a, room);
  numbered = λ pair h. kept_numbered old.tables new.tables pair grown (f.numbered pair h);
}

-- a graph whose parts take what fitted into it
pub fits_first : (list : List Parts) (some new : Parts) (value : GraphValue) → AreParts list → graph_value list ≡ value
    → ((cut : Cut) → Fits cut (graph_parts (slice_index_or list 0 some)) → Fits cut (graph_parts new)) → (cut : Cut) → Fits cut value → Fits cut (graph_value (slice_set list 0 new))
fits_first [] some new value are e kept cut f = absurd are
fits_first (parts ∷ _) some new value are e kept cut f = kept cut (subst (λ (v : GraphValue). Fits cut v) (sym e) f)

-- and whose pairs stay
pub pairs_first : (list : List Parts) (some new : Parts) (value : GraphValue) → AreParts list → graph_value list ≡ value
    → (graph_parts new).pairs ≡ (graph_parts (slice_index_or list 0 some)).pairs → (graph_value (slice_set list 0 new)).pairs ≡ value.pairs
pairs_first [] some new value are e same = absurd are
pairs_first (parts ∷ _) some new value are e same = same ∙ ap (λ (v : GraphValue). v.pairs) e

-- the pairs of an ascending list, all with their numbers
pub made_is : (paths : List (List ℕ)) (pairs entries : List (Numbers × PairRow)) (list : List Tagged) → IsAscending tagged_cmp list → ((entry : Numbers × PairRow) → Has pairs entry ↔ Has entries entry)
    → ((pair : Tagged) → Has (pairs_of paths entries) pair ↔ Has list pair) → in_order_of (pairs_of paths pairs) ≡ list
made_is paths pairs entries list a are same = sym (order_is (pairs_of paths pairs) list a (λ pair. (
  λ h.
      let i = image_has (entry_pair paths) entries pair ((same pair).1 h) in
      subst (λ (w : Tagged). Has (pairs_of paths pairs) w) i.2 (has_image (entry_pair paths) pairs i.0 ((are i.0).1 i.1)),
  λ h.
      let i = image_has (entry_pair paths) pairs pair h in
      (same pair).0 (subst (λ (w : Tagged). Has (pairs_of paths entries) w) i.2 (has_image (entry_pair paths) entries i.0 ((are i.0).0 i.1))),
)))

-- those of entries in order
pub all_is : (paths : List (List ℕ)) (pairs entries : List (Numbers × PairRow)) (list : List Tagged) → IsAscending tagged_cmp list → ((entry : Numbers × PairRow) → Has pairs entry ↔ Has entries entry)
    → pairs_of paths entries ≡ list → in_order_of (pairs_of paths pairs) ≡ list
all_is paths pairs entries list a are same =
    made_is paths pairs entries list a are (λ pair. subst (λ (zs : List Tagged). Has (pairs_of paths entries) pair ↔ Has zs pair) same (λ h. h, λ h. h))

-- what is built has its own numbers where the entries have
pub built_own : (tables : TablesValue) (pairs entries : List (Numbers × PairRow)) → ((entry : Numbers × PairRow) → Has pairs entry ↔ Has entries entry) → HaveOwnNumbers tables entries → HaveOwnNumbers tables pairs
built_own tables pairs entries are own entry h = own entry ((are entry).0 h)

-- a graph's pairs ascend
pub value_ascends : (list : List Parts) (value : GraphValue) → graph_value list ≡ value → IsAscending tagged_cmp value.pairs
value_ascends list value e = subst (λ (v : GraphValue). IsAscending tagged_cmp v.pairs) e (by list)
  where
    by : (list : List Parts) → IsAscending tagged_cmp (graph_value list).pairs
    by [] = tt
    by (parts ∷ _) = order_ascends (pairs_of parts.tables.paths parts.numbered.pairs)

-- the first of a graph's parts has its pairs
pub first_value : (list : List Parts) (some own : Parts) (value : GraphValue) → AreParts list → graph_value list ≡ value → own ≡ slice_index_or list 0 some → (graph_parts own).pairs ≡ value.pairs
first_value [] some own value are e is = absurd are
first_value (parts ∷ _) some own value are e is = ap (λ (p : Parts). (graph_parts p).pairs) is ∙ ap (λ (v : GraphValue). v.pairs) e

pub first_own : (list : List Parts) (some own : Parts) → AreParts list → own ≡ slice_index_or list 0 some → HaveOwnNumbers own.tables own.numbered.pairs
first_own [] some own are is = absurd are
first_own (parts ∷ _) some own are is = subst (λ (p : Parts). HaveOwnNumbers p.tables p.numbered.pairs) (sym is) are

-- pairs that lose some, and then gain others
pub applied : (paths : List (List ℕ)) (old lost new : List (Numbers × PairRow)) (drops adds before : List Tagged) → in_order_of (pairs_of paths old) ≡ before
    → ((pair : Tagged) → Has (pairs_of paths lost) pair ↔ (Has (pairs_of paths old) pair × ¬ Has drops pair))
    → ((pair : Tagged) → Has (pairs_of paths new) pair ↔ (Has (pairs_of paths lost) pair ⊎ Has adds pair)) → Applies drops adds before (in_order_of (pairs_of paths new))
applied paths old lost new drops adds before e lose gain = record {
  ascending = order_ascends (pairs_of paths new);
  members = λ pair.
      let m = order_members (pairs_of paths new) pair in
      let b = order_members (pairs_of paths old) pair in (
        λ h. elim ((gain pair).0 (m.0 h)) [
          | inl k ↦ let g = (lose pair).0 k in inl (subst (λ (zs : List Tagged). Has zs pair) e (b.1 g.0), g.1)
          | inr k ↦ inr k
        ],
        λ h. m.1 ((gain pair).1 (elim h [
          | inl k ↦ inl ((lose pair).1 (b.0 (subst (λ (zs : List Tagged). Has zs pair) (sym e) k.0), k.1))
          | inr k ↦ inr k
        ])),
      );
}
