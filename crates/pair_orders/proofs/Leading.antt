-- Where the wanted places lead in an order, what compares as equal is what has them.
use Rattle.std.proofs.Common.{◌≡◌, ◌∙◌, ℕ, ◌-◌, ◌≤◌, List, length, take, drop, Bool, true, not, ◌&&◌, nat_eq, Option, None, Some, refl, sym, ap}
use Rattle.std.proofs.Math.Bool.{and_comm, and_assoc}
use Rattle.std.proofs.lemmas.Option.{none-some}
use Rattle.std.specs.Cmp.{unsigned_tied}
use Rattle.std.specs.Ordering.{nat_cmp, ordering_then, is_eq, is_gt, is_ge}
use Rattle.std.specs.declared.cmp.Ordering.{Ordering}
use Rattle.std.specs.declared.cmp.Ordering.TheVariants.{Less, Equal, Greater}
use Rattle.mld_ops.specs.declared.pair_lists.PairRow.{PairRow}
use Rattle.pair_orders.specs.Keys.{places_cmp, wanted_then, is_wanted, has_places, key_numbers, AreLeading, LeadsIn}
use Rattle.pair_orders.specs.Orders.{IsOrder, IsDividedAt, entries_with, is_before_places, is_up_to_places}
use Rattle.pair_orders.specs.PairEntries.{entries_of}
use Rattle.pair_orders.proofs.Finding.{filter_places}
use Rattle.pair_orders.proofs.Holding.{entries_filter, length_entries}
use Rattle.pair_orders.proofs.Pieces.{has_piece, length_piece}
use Rattle.pair_orders.specs.declared.keys.Key.{Key}
use Rattle.pair_orders.specs.declared.keys.Places.{Places}
use Rattle.pair_orders.specs.declared.keys.Shape.{Shape}
use Rattle.pair_orders.specs.declared.keys.Shape.TheVariants.{Dot, Subject, Predicate, Object}

-- a number that is wanted first
then_tied : (o p : Ordering) → is_eq (ordering_then o p) ≡ (is_eq o && is_eq p)
then_tied Less p = refl
then_tied Equal p = refl
then_tied Greater p = refl

wanted_tied : (w a : ℕ) (p : Ordering) (rest : Bool) → rest ≡ is_eq p → (nat_eq w a && rest) ≡ is_eq (ordering_then (nat_cmp w a) p)
wanted_tied w a p rest e =
    ap (λ b. nat_eq w a && b) e ∙ ap (λ b. b && is_eq p) (sym (unsigned_tied w a)) ∙ sym (then_tied (nat_cmp w a) p)

last_tied : (w a : ℕ) → nat_eq w a ≡ is_eq (ordering_then (nat_cmp w a) Equal)
last_tied w a = sym (unsigned_tied w a) ∙ same (nat_cmp w a)
  where
    same : (o : Ordering) → is_eq o ≡ is_eq (ordering_then o Equal)
    same Less = refl
    same Equal = refl
    same Greater = refl

-- where no place is wanted, each key has them
none_wanted : (v w x : Option ℕ) (a b c : ℕ) → v ≡ None → w ≡ None → x ≡ None → (is_wanted v a && (is_wanted w b && is_wanted x c)) ≡ true
none_wanted v w x a b c d e f = rw (d, e, f) refl

three_tied : (v w x : Option ℕ) (a b c : ℕ) → AreLeading v w x
    → (is_wanted v a && (is_wanted w b && is_wanted x c)) ≡ is_eq (wanted_then v a (wanted_then w b (wanted_then x c Equal)))
three_tied None w x a b c l = none_wanted None w x a b c refl (l.second_is refl) (l.third_is (l.second_is refl))
three_tied (Some v) None None a b c l = wanted_tied v a _ true refl
three_tied (Some v) None (Some x) a b c l = absurd (none-some x (sym (l.third_is refl)))
three_tied (Some v) (Some w) None a b c l = wanted_tied v a _ _ (wanted_tied w b _ true refl)
three_tied (Some v) (Some w) (Some x) a b c l = wanted_tied v a _ _ (wanted_tied w b _ _ (last_tied x c))

turned : (a b c : Bool) → (a && (b && c)) ≡ (b && (c && a))
turned a b c = and_comm a (b && c) ∙ and_assoc b c a

pub has_tied : (shape : Shape) (wanted : Places) (key : Key) → LeadsIn shape wanted → has_places wanted (key_numbers key) ≡ is_eq (places_cmp shape wanted key)
has_tied Dot wanted key l = none_wanted wanted.s wanted.p wanted.o key.s key.p key.o l.0 l.1 l.2
has_tied Subject wanted key l = three_tied wanted.s wanted.p wanted.o key.s key.p key.o l
has_tied Predicate wanted key l =
    turned (is_wanted wanted.s key.s) (is_wanted wanted.p key.p) (is_wanted wanted.o key.o)
    ∙ three_tied wanted.p wanted.o wanted.s key.p key.o key.s l
has_tied Object wanted key l =
    sym (turned (is_wanted wanted.o key.o) (is_wanted wanted.s key.s) (is_wanted wanted.p key.p))
    ∙ three_tied wanted.o wanted.s wanted.p key.o key.s key.p l

-- and that is neither in front nor behind
pub has_between : (shape : Shape) (wanted : Places) (key : Key) → LeadsIn shape wanted
    → has_places wanted (key_numbers key) ≡ (not (is_before_places shape wanted key) && is_up_to_places shape wanted key)
has_between shape wanted key l = has_tied shape wanted key l ∙ by_cases (places_cmp shape wanted key)
  where
    by_cases : (o : Ordering) → is_eq o ≡ (not (is_gt o) && is_ge o)
    by_cases Less = refl
    by_cases Equal = refl
    by_cases Greater = refl

-- so the pairs that have them are those of the keys between two places
module _ (slots : List (Option PairRow)) (shape : Shape) (wanted : Places) (keys : List Key) (from to : ℕ) (leads : LeadsIn shape wanted) (order : from ≤ to)
    (end : to ≤ length keys) (before : IsDividedAt (is_before_places shape wanted) keys from) (upto : IsDividedAt (is_up_to_places shape wanted) keys to) where
  pub entries_between : entries_with wanted (entries_of slots keys) ≡ entries_of slots (take (to - from) (drop from keys))
  entries_between =
      sym (entries_filter slots (has_places wanted) keys)
      ∙ ap (entries_of slots)
      (filter_places (is_before_places shape wanted) (is_up_to_places shape wanted) (λ key. has_places wanted (key_numbers key)) (λ key. has_between shape wanted key leads)
      keys from to order end before upto)

  pub count_between : IsOrder shape keys slots → length (entries_with wanted (entries_of slots keys)) ≡ to - from
  count_between is =
      ap length entries_between
      ∙ length_entries slots (take (to - from) (drop from keys)) (λ key h. is.occupied key (has_piece keys (take (to - from) (drop from keys)) from (to - from) key refl h))
      ∙ length_piece keys from to order end
