-- What the key at a place tells of the keys with wanted places, where all in front of it are in front of these.
use Rattle.std.proofs.Common.{◌≡◌, ◌∙◌, ℕ, ◌+◌, ◌<◌, ◌≤◌, List, true, get_or, length, sym, ap, arith}
use Rattle.std.specs.List.{AllWithin}
use Rattle.std.specs.Ordering.{is_gt, is_ge}
use Rattle.std.specs.declared.cmp.Ordering.{Ordering}
use Rattle.std.specs.declared.cmp.Ordering.TheVariants.{Less, Equal, Greater}
use Rattle.tree_clock.specs.Lists.{IsAscending}
use Rattle.pair_orders.specs.Keys.{shape_cmp, places_cmp}
use Rattle.pair_orders.specs.Orders.{IsSpan, IsDividedAt, binary_digits, is_before_places, is_up_to_places}
use Rattle.pair_orders.specs.declared.keys.Key.{Key}
use Rattle.pair_orders.specs.declared.keys.Places.{Places}
use Rattle.pair_orders.specs.declared.keys.Shape.{Shape}
use Rattle.pair_orders.proofs.Dividing.{before_divides, up_to_divides, before_up_to}
use Rattle.pair_orders.proofs.Halving.{half_digits}
use Rattle.pair_orders.proofs.Narrowing.{one_more, stops_at}

-- a list of some keys has a digit at least
pub some_digits : (n : ℕ) → 0 < n → 1 ≤ binary_digits n
some_digits n l = let h = half_digits n l in omega (arith, h)

module _ (shape : Shape) (wanted : Places) (keys : List Key) (ascending : IsAscending (shape_cmp shape) keys) (at : ℕ) (end : at ≤ length keys)
    (front : AllWithin (λ key. is_before_places shape wanted key ≡ true) keys 0 at) where
  up_to_front : AllWithin (λ key. is_up_to_places shape wanted key ≡ true) keys 0 at
  up_to_front = λ k d a b. before_up_to shape wanted (get_or keys k d) (front k d a b)

  -- where it is the end, no key has them
  pub span_none : at ≡ length keys → IsSpan shape wanted keys at at
  span_none e = record {
    order = omega arith;
    end = end;
    before = (front, λ k d a b. absurd (omega (arith, e, a, b)));
    up_to = (up_to_front, λ k d a b. absurd (omega (arith, e, a, b)));
  }

  module _ (told : Ordering) (is : (none : Key) → told ≡ places_cmp shape wanted (get_or keys at none)) where
    -- where the key there is behind them, none has them either
    pub span_behind : told ≡ Less → IsSpan shape wanted keys at at
    span_behind e = record {
      order = omega arith;
      end = end;
      before = (front, stops_at (is_before_places shape wanted) keys at (before_divides shape wanted keys ascending) (λ l none. ap is_gt (sym (is none) ∙ e)));
      up_to = (up_to_front, stops_at (is_up_to_places shape wanted) keys at (up_to_divides shape wanted keys ascending) (λ l none. ap is_ge (sym (is none) ∙ e)));
    }

    -- where it has them, it is the first
    pub span_begun : told ≡ Equal → (to : ℕ) → at + 1 ≤ to → to ≤ length keys → IsDividedAt (is_up_to_places shape wanted) keys to → IsSpan shape wanted keys at to
    span_begun e to l m up_to = record {
      order = omega (arith, l);
      end = m;
      before = (front, stops_at (is_before_places shape wanted) keys at (before_divides shape wanted keys ascending) (λ l none. ap is_gt (sym (is none) ∙ e)));
      up_to = up_to;
    }

    pub up_to_next : told ≡ Equal → at < length keys → AllWithin (λ key. is_up_to_places shape wanted key ≡ true) keys 0 (at + 1)
    up_to_next e l = one_more (is_up_to_places shape wanted) keys at (up_to_divides shape wanted keys ascending) l (λ none. ap is_ge (sym (is none) ∙ e))

    -- where it is in front of them, they are behind it
    pub before_next : told ≡ Greater → at < length keys → AllWithin (λ key. is_before_places shape wanted key ≡ true) keys 0 (at + 1)
    before_next e l = one_more (is_before_places shape wanted) keys at (before_divides shape wanted keys ascending) l (λ none. ap is_gt (sym (is none) ∙ e))
