-- The invariant of an entry as a test.
use Rattle.std.proofs.Common.{◌≡◌, ◌⊎◌, inl, inr, ℕ, ◌≤◌, List, [], ◌∷◌, Bool, true, false, not, ◌&&◌, None, drop, leb, refl, ◌∙◌}
use Rattle.std.proofs.lemmas.Bool.{cases_Bool, leb-true, le-leb}
use Rattle.std.proofs.lemmas.Bool.Decides.{Decides-and, Decides-not, Decides-like, Decides-eqb}
use Rattle.std.specs.Bool.{Decides}
use Rattle.std.specs.List.{AllByRecursion, list_all}
use Rattle.std.specs.Ordering.{is_lt}
use Rattle.std.specs.declared.cmp.Ordering.{Ordering}
use Rattle.std.specs.declared.cmp.Ordering.TheVariants.{Less}
use Rattle.mld_ops.specs.Entry.{EntryValue, IsEntry}
use Rattle.mld_ops.specs.Tagged.{tagged_cmp, insert_cmp}
use Rattle.mld_ops.specs.declared.tagged.Tagged.{Tagged}
use Rattle.rdf_terms.specs.declared.terms.Triple.{Triple}
use Rattle.tree_clock.specs.Clock.{ticks_of, Covers, IsClock}
use Rattle.tree_clock.specs.Dot.{IsIn}
use Rattle.tree_clock.specs.DotLaws.{path_eq-Decides}
use Rattle.tree_clock.specs.Lists.{IsBelowAll, IsAscending}
use Rattle.tree_clock.specs.declared.dots.Dot.{Dot}
use Rattle.tree_clock.specs.declared.dots.Range.{Range}
use Rattle.op_codec.specs.Entries.{is_ascending, is_in, is_entry, entry_at, read_range, read_inserts, read_entry}
use Rattle.op_codec.specs.Agreement.{IsRead}
use Rattle.op_codec.specs.Clocks.{read_clock}
use Rattle.op_codec.specs.PairBytes.{is_dot_of, read_pairs}
use Rattle.op_codec.specs.Reading.{Found, Fault}
use Rattle.op_codec.proofs.ClockReading.{less_from_test}

-- the test of an order of numbers
at_most : (a b : ℕ) → Decides (leb a b) (a ≤ b)
at_most a b = (leb-true a b, le-leb a b)

-- the test of an order
less : (o : Ordering) → Decides (is_lt o) (o ≡ Less)
less o = (less_from_test o, λ e. ap_is_lt o e)
  where
    ap_is_lt : (p : Ordering) → p ≡ Less → is_lt p ≡ true
    ap_is_lt p e = λ i. is_lt (e i)

-- a test of each item
all_items : {X : Type 0} (p : X → Bool) (P : X → Type 0) → ((x : X) → Decides (p x) (P x)) → (xs : List X) → Decides (list_all p xs) (AllByRecursion P xs)
all_items p P each [] = (λ _. tt, λ _. refl)
all_items p P each (x ∷ xs) = Decides-and (p x) (list_all p xs) (each x) (all_items p P each xs)

-- an item below all
below_items : {X : Type 0} (order : X → X → Ordering) (x : X) (ys : List X) → Decides (list_all (λ later. is_lt (order x later)) ys) (IsBelowAll order x ys)
below_items order x [] = (λ _. tt, λ _. refl)
below_items order x (y ∷ ys) =
    Decides-and (is_lt (order x y)) (list_all (λ later. is_lt (order x later)) ys) (less (order x y)) (below_items order x ys)

-- the test of a strict order
pub ascending_items : {X : Type 0} (order : X → X → Ordering) (xs : List X) → Decides (is_ascending order xs) (IsAscending order xs)
ascending_items order [] = (λ _. tt, λ _. refl)
ascending_items order (x ∷ xs) =
    Decides-and (list_all (λ later. is_lt (order x later)) xs) (is_ascending order xs) (below_items order x xs) (ascending_items order xs)

-- the test of a clock's dots
pub dot_of_clock : (ticks : List (List ℕ × ℕ)) (dot : Dot) → Decides (is_dot_of ticks dot) (Covers ticks dot)
dot_of_clock ticks dot =
    Decides-like (is_dot_of ticks dot) (λ p. record { positive = p.0; within = p.1 }) (λ c. (c.positive, c.within))
    (Decides-and (leb 1 dot.tick) (leb dot.tick (ticks_of ticks dot.path)) (at_most 1 dot.tick) (at_most dot.tick (ticks_of ticks dot.path)))

-- the test of a range's dots
dot_of_range : (range : Range) (dot : Dot) → Decides (is_in range dot) (IsIn range dot)
dot_of_range range dot =
    Decides-like (is_in range dot) (λ p. record { path = p.0.0; above = p.0.1; below = p.1 }) (λ c. ((c.path, c.above), c.below))
    (Decides-and _ _ (Decides-and _ _ (path_eq-Decides dot.path range.path) (at_most range.first dot.tick)) (at_most dot.tick range.last))

-- the test of an entry
pub entry_decided : (entry : EntryValue) → IsClock entry.time → Decides (is_entry entry) (IsEntry entry)
unfolding is_entry
entry_decided entry clock =
    let r = entry.range in
    Decides-like (is_entry entry)
    (λ p. record { first = p.0.0.0.0; last = p.0.0.0.1; clock = clock; own = p.0.0.1; deletes_ascend = p.0.1.0.0; deletes_covered = p.0.1.0.1; deletes_outside = p.0.1.1; inserts_ascend = p.1.0; inserts_inside = p.1.1 })
    (λ e. ((((e.first, e.last), e.own), ((e.deletes_ascend, e.deletes_covered), e.deletes_outside)), (e.inserts_ascend, e.inserts_inside)))
    (Decides-and _ _
    (Decides-and _ _
    (Decides-and _ _ (Decides-and _ _ (at_most 1 r.first) (at_most r.first r.last)) (Decides-eqb (ticks_of entry.time r.path) r.last))
    (Decides-and _ _
    (Decides-and _ _ (ascending_items tagged_cmp entry.deletes)
    (all_items (λ (pair : Tagged). is_dot_of entry.time pair.dot) (λ (pair : Tagged). Covers entry.time pair.dot) (λ pair. dot_of_clock entry.time pair.dot) entry.deletes))
    (all_items (λ (pair : Tagged). not (is_in r pair.dot)) (λ (pair : Tagged). ¬ IsIn r pair.dot) (λ pair. Decides-not (is_in r pair.dot) (dot_of_range r pair.dot)) entry.deletes)))
    (Decides-and _ _ (ascending_items insert_cmp entry.inserts)
    (all_items (λ (insert : Triple × ℕ). leb r.first insert.1 && leb insert.1 r.last) (λ (insert : Triple × ℕ). (r.first ≤ insert.1) × (insert.1 ≤ r.last)) (λ insert. Decides-and _ _ (at_most r.first insert.1) (at_most insert.1 r.last)) entry.inserts)))

-- parts of an entry are that entry
pub entry_found : (place next : ℕ) (entry : EntryValue) (rest : List ℕ) → IsEntry entry → entry_at place entry next rest ≡ Found entry next rest
entry_found place next entry rest h = let t = (entry_decided entry h.clock).1 h in rw t

-- parts of no entry are a fault where they begin
pub entry_refused : (place next : ℕ) (entry : EntryValue) (rest : List ℕ) → IsClock entry.time → ¬ IsEntry entry → entry_at place entry next rest ≡ Fault place
entry_refused place next entry rest clock n = by (cases_Bool (is_entry entry))
  where
    by : (is_entry entry ≡ true) ⊎ (is_entry entry ≡ false) → entry_at place entry next rest ≡ Fault place
    by (inl t) = absurd (n ((entry_decided entry clock).0 t))
    by (inr f) = rw f

-- the parts of an entry, one behind the other
pub record HasParts (input : List ℕ) (at : ℕ) (entry : EntryValue) (end : ℕ) : Type 0 where
  pub first : ℕ
  pub second : ℕ
  pub third : ℕ
  pub range : IsRead (read_range at (drop at input)) input entry.range first
  pub time : IsRead (read_clock first (drop first input)) input entry.time second
  pub deletes : IsRead (read_pairs None second (drop second input)) input entry.deletes third
  pub inserts : IsRead (read_inserts third (drop third input)) input entry.inserts end

-- what they are read as
parts_read : (input : List ℕ) (at : ℕ) (entry : EntryValue) (end : ℕ) → HasParts input at entry end → read_entry at (drop at input) ≡ entry_at at entry end (drop end input)
unfolding read_entry
parts_read input at entry end h = rw (h.range.found, h.time.found, h.deletes.found, h.inserts.found)

-- the parts of an entry are read as that entry
pub entry_read : (input : List ℕ) (at : ℕ) (entry : EntryValue) (end : ℕ) → HasParts input at entry end → IsEntry entry → IsRead (read_entry at (drop at input)) input entry end
entry_read input at entry end h e = record {
  found = parts_read input at entry end h ∙ entry_found at end entry (drop end input) e;
  within = h.inserts.within;
}

-- the parts of no entry are refused where they begin
pub entry_missed : (input : List ℕ) (at : ℕ) (entry : EntryValue) (end : ℕ) → HasParts input at entry end → IsClock entry.time → ¬ IsEntry entry → read_entry at (drop at input) ≡ Fault at
entry_missed input at entry end h clock n = parts_read input at entry end h ∙ entry_refused at end entry (drop end input) clock n
