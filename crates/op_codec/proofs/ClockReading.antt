-- How a clock is read path by path.
use Rattle.std.proofs.Common.{◌≡◌, ℕ, suc, ◌-◌, ◌≤◌, List, [], ◌∷◌, ◌++◌, true, false, Option, Some, None, length, drop, refl, sym, ap, ◌∙◌, subst, inl, arith}
use Rattle.std.proofs.lemmas.Bool.{true≢false}
use Rattle.std.proofs.lemmas.Cmp.{on_total}
use Rattle.std.specs.Cmp.{IsTotalOrder}
use Rattle.std.specs.List.{AllByRecursion, slice_get}
use Rattle.std.specs.Ordering.{is_lt}
use Rattle.std.specs.declared.cmp.Ordering.{Ordering}
use Rattle.std.specs.declared.cmp.Ordering.TheVariants.{Less, Equal, Greater}
use Rattle.mld_ops.proofs.AscendingLaws.{below_member, has_right, below_all_after}
use Rattle.tree_clock.specs.Clock.{ticks_of, entry_cmp, IsClock, RaisesTo}
use Rattle.tree_clock.proofs.ClockLaws.{ticks_of-head, ticks_of-tail, less_apart, by_order, clock_from_ticks}
use Rattle.tree_clock.specs.DotLaws.{path_total}
use Rattle.tree_clock.specs.Lists.{IsAscending}
use Rattle.tree_clock.specs.Path.{path_cmp}
use Rattle.tree_clock.specs.declared.dots.Dot.{Dot}
use Rattle.op_codec.specs.declared.faults.CodecFault.{CodecFault}
use Rattle.op_codec.specs.declared.faults.CodecFault.TheVariants.{NotInGrammar}
use Rattle.op_codec.specs.Agreement.{IsRead, IsRefused, TakesItem, MissesItem}
use Rattle.op_codec.specs.Clocks.{read_dot, read_ticks, path_of_ticks, last_path}
use Rattle.op_codec.specs.StoredLists.{is_above, is_above_one}
use Rattle.op_codec.specs.Reading.{Reading, Found, chain}
use Rattle.op_codec.proofs.ListLaws.{item_taken, item_unfit, item_refused, refused_later}

-- what the test of an order says
pub less_from_test : (o : Ordering) → is_lt o ≡ true → o ≡ Less
less_from_test Less h = refl
less_from_test Equal h = absurd (true≢false (sym h))
less_from_test Greater h = absurd (true≢false (sym h))

-- the last of two items and more
pub last_of_more : {X : Type 0} (x y : X) (ys : List X) → slice_get (x ∷ y ∷ ys) (length (x ∷ y ∷ ys) - 1) ≡ slice_get (y ∷ ys) (length (y ∷ ys) - 1)
last_of_more x y ys =
    let e : length (x ∷ y ∷ ys) - 1 ≡ suc (length (y ∷ ys) - 1) = omega arith in ap (slice_get (x ∷ y ∷ ys)) e

-- the last of a list with one item more is that item
pub last_of_push : {X : Type 0} (xs : List X) (x : X) → slice_get (xs ++ x ∷ []) (length (xs ++ x ∷ []) - 1) ≡ Some x
last_of_push [] x = refl
last_of_push (y ∷ []) x = refl
last_of_push (y ∷ z ∷ zs) x = last_of_more y z (zs ++ x ∷ []) ∙ last_of_push (z ∷ zs) x

-- an ascending list with an item above its last one ascends
pub ascending_push : {X : Type 0} (order : X → X → Ordering) → IsTotalOrder order → (xs : List X) (x : X) → IsAscending order xs → is_above order xs x ≡ true → IsAscending order (xs ++ x ∷ [])
ascending_push order total [] x a h = (tt, tt)
ascending_push order total (y ∷ []) x a h = ((less_from_test (order y x) h, tt), (tt, tt))
ascending_push order total (y ∷ z ∷ zs) x a h =
    let back = ascending_push order total (z ∷ zs) x a.1 (sym (ap (λ o. is_above_one order o x) (last_of_more y z zs)) ∙ h) in
    ((a.0.0, below_all_after order total y z (zs ++ x ∷ []) a.0.0 back.0), back)

-- the order of a clock's paths is total
pub entry_total : IsTotalOrder entry_cmp
entry_total = on_total (λ (entry : List ℕ × ℕ). entry.0) path_total

-- one with a tick more
all_push : {X : Type 0} (P : X → Type 0) (xs : List X) (x : X) → AllByRecursion P xs → P x → AllByRecursion P (xs ++ x ∷ [])
all_push P [] x a p = (p, tt)
all_push P (y ∷ ys) x a p = (a.0, all_push P ys x a.1 p)

-- the ticks of the path at the end
ticks_of_last : (ticks : List (List ℕ × ℕ)) (path : List ℕ) (tick : ℕ) → IsAscending entry_cmp (ticks ++ (path, tick) ∷ []) → (ticks_of ticks path ≡ 0) × (ticks_of (ticks ++ (path, tick) ∷ []) path ≡ tick)
ticks_of_last [] path tick a = (refl, ticks_of-head path tick [])
ticks_of_last (entry ∷ ticks) path tick a =
    let less = below_member entry_cmp entry (ticks ++ (path, tick) ∷ []) (path, tick) a.0 (has_right ticks ((path, tick) ∷ []) (path, tick) (inl refl)) in
    let apart = less_apart entry.0 path less in
    let rest = ticks_of_last ticks path tick a.1 in
    (ticks_of-tail entry ticks path apart ∙ rest.0, ticks_of-tail entry (ticks ++ (path, tick) ∷ []) path apart ∙ rest.1)

-- the ticks of another path
ticks_of_others : (ticks : List (List ℕ × ℕ)) (path : List ℕ) (tick : ℕ) (other : List ℕ) → ¬ (path ≡ other) → ticks_of (ticks ++ (path, tick) ∷ []) other ≡ ticks_of ticks other
ticks_of_others [] path tick other n = ticks_of-tail (path, tick) [] other n
ticks_of_others (entry ∷ ticks) path tick other n = by (ticks_of_others ticks path tick other n)
  where
    by : ticks_of (ticks ++ (path, tick) ∷ []) other ≡ ticks_of ticks other → ticks_of ((entry ∷ ticks) ++ (path, tick) ∷ []) other ≡ ticks_of (entry ∷ ticks) other
    by rest =
        let apart : ¬ (entry.0 ≡ other) → ticks_of ((entry ∷ ticks) ++ (path, tick) ∷ []) other ≡ ticks_of (entry ∷ ticks) other =
        λ m. ticks_of-tail entry (ticks ++ (path, tick) ∷ []) other m ∙ rest ∙ sym (ticks_of-tail entry ticks other m) in
        by_order entry.0 other
        (λ l. apart (less_apart entry.0 other l))
        (λ e. subst (λ (p : List ℕ). ticks_of ((entry ∷ ticks) ++ (path, tick) ∷ []) p ≡ ticks_of (entry ∷ ticks) p) e
        (ticks_of-head entry.0 entry.1 (ticks ++ (path, tick) ∷ []) ∙ sym (ticks_of-head entry.0 entry.1 ticks)))
        (λ l. apart (λ e. less_apart other entry.0 l (sym e)))

-- the test of a clock's next path, by its last path
pub above_last : (ticks : List (List ℕ × ℕ)) (path : List ℕ) (tick : ℕ) → is_above entry_cmp ticks (path, tick) ≡ is_above_one path_cmp (last_path ticks) path
above_last ticks path tick = by (slice_get ticks (length ticks - 1))
  where
    by : (last : Option (List ℕ × ℕ)) → is_above_one entry_cmp last (path, tick) ≡ is_above_one path_cmp (path_of_ticks last) path
    by None = refl
    by (Some entry) = refl

-- a clock whose ticks are raised at a path above the others has one path more
pub raised_last : (old new : List (List ℕ × ℕ)) (dot : Dot) → IsClock old → IsClock new → RaisesTo old new dot → is_above_one path_cmp (last_path old) dot.path ≡ true → 1 ≤ dot.tick
    → new ≡ old ++ (dot.path, dot.tick) ∷ []
raised_last old new dot was is raises above positive =
    let ascends : IsAscending entry_cmp (old ++ (dot.path, dot.tick) ∷ []) = ascending_push entry_cmp entry_total old (dot.path, dot.tick) was.ascending (above_last old dot.path dot.tick ∙ above) in
    let last = ticks_of_last old dot.path dot.tick ascends in
    clock_from_ticks new (old ++ (dot.path, dot.tick) ∷ []) is
    (record { ascending = ascends; positive = all_push (λ (entry : List ℕ × ℕ). 1 ≤ entry.1) old (dot.path, dot.tick) was.positive positive })
    (λ path. by_order path dot.path
    (λ l. other path (less_apart path dot.path l))
    (λ e. subst (λ (p : List ℕ). ticks_of new p ≡ ticks_of (old ++ (dot.path, dot.tick) ∷ []) p) (sym e) (raises.at ∙ (let z = last.0 in omega arith) ∙ sym last.1))
    (λ l. other path (λ e. less_apart dot.path path l (sym e))))
  where
    other : (path : List ℕ) → ¬ (path ≡ dot.path) → ticks_of new path ≡ ticks_of (old ++ (dot.path, dot.tick) ∷ []) path
    other path n = raises.others path n ∙ sym (ticks_of_others old dot.path dot.tick path (λ e. n (sym e)))

module _ (input : List ℕ) (ticks : List (List ℕ × ℕ)) (place : ℕ) where
  -- a dot that is read is ticks that are read
  ticks_read : (dot : Dot) (next : ℕ) → IsRead (read_dot place (drop place input)) input dot next → IsRead (read_ticks place (drop place input)) input (dot.path, dot.tick) next
  ticks_read dot next r = record {
    found = ap (λ (r : Reading Dot). chain r (λ dot next rest. Found (dot.path, dot.tick) next rest)) r.found;
    within = r.within;
  }

  -- ticks above the others are taken
  pub ticks_taken : (dot : Dot) (next : ℕ) → IsRead (read_dot place (drop place input)) input dot next → is_above_one path_cmp (last_path ticks) dot.path ≡ true
      → TakesItem read_ticks (is_above entry_cmp) input ticks place (ticks ++ (dot.path, dot.tick) ∷ []) next
  ticks_taken dot next r h =
      item_taken read_ticks (is_above entry_cmp) input ticks place (dot.path, dot.tick) next (ticks_read dot next r) (above_last ticks dot.path dot.tick ∙ h)

  -- ticks that aren't above the others are a fault where they begin
  pub ticks_unfit : (dot : Dot) (next : ℕ) → IsRead (read_dot place (drop place input)) input dot next → is_above_one path_cmp (last_path ticks) dot.path ≡ false
      → MissesItem read_ticks (is_above entry_cmp) input ticks place (NotInGrammar place)
  ticks_unfit dot next r h =
      item_unfit read_ticks (is_above entry_cmp) input ticks place (dot.path, dot.tick) next (ticks_read dot next r) (above_last ticks dot.path dot.tick ∙ h)

  -- ticks that can't be read are a fault where their dot's is
  pub ticks_refused : (fault : CodecFault) → IsRefused (read_dot place (drop place input)) fault → MissesItem read_ticks (is_above entry_cmp) input ticks place fault
  ticks_refused fault h =
      item_refused read_ticks (is_above entry_cmp) input ticks place fault (refused_later (read_dot place (drop place input)) (λ dot next rest. Found (dot.path, dot.tick) next rest) fault h)

-- the last path of a clock with one path more
pub last_path_push : (ticks : List (List ℕ × ℕ)) (path : List ℕ) (tick : ℕ) → Some path ≡ last_path (ticks ++ (path, tick) ∷ [])
last_path_push ticks path tick = sym (ap path_of_ticks (last_of_push ticks (path, tick)))
