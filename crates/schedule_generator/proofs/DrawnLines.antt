-- Each command line of a generated schedule is one of its seven commands.
use Rattle.std.proofs.Common.{refl, ℕ, zero, suc, ◌+◌, ◌<◌, ◌≤◌, ◌^◌, ◌/◌, codes, All, Bool, true, false, if◌then◌else◌, nat_le, ◌==◌, arith}
use Rattle.std.proofs.lemmas.Nat.{mod_below}
use Rattle.std.proofs.lemmas.List.Elements.{All-nil, All-cons}
use Rattle.schedule_generator.specs.Generated.{DrawnLine, next_state, drawn, change, delivery, of_clone, of_clone_and, one_of_three, drawn_line, lines_from}
use Rattle.schedule_generator.specs.DrawnCommands.{IsDrawn, adds, removes, delivers, asks, compacts, truncates, compares}

-- a draw gives a number below its count
pub below : (count x : ℕ) → 0 < count → drawn count x < count
unfolding drawn
below count x some = mod_below (next_state x / 2 ^ 33) count some

-- a line that is one of two
either_line : (first : Bool) (a b : DrawnLine) → IsDrawn a.line → IsDrawn b.line → IsDrawn (if first then a else b).line
either_line true a b h k = h
either_line false a b h k = k

an_add : (x : ℕ) → IsDrawn (change (codes "add") x).line
unfolding change
an_add x = adds (drawn 4 x) _ _ _ (below 4 x (omega arith)) (below 50 _ (omega arith)) (below 5 _ (omega arith)) (below 20 _ (omega arith)) refl

a_remove : (x : ℕ) → IsDrawn (change (codes "remove") x).line
unfolding change
a_remove x = removes (drawn 4 x) _ _ _ (below 4 x (omega arith)) (below 50 _ (omega arith)) (below 5 _ (omega arith)) (below 20 _ (omega arith)) refl

a_delivery : (number x : ℕ) → 0 < number → number < 2 ^ 64 → IsDrawn (delivery number x).line
unfolding delivery
a_delivery number x some small =
    let less : drawn number x < number = below number x some in
    delivers (drawn number x + 1) _ (omega (arith, less, small)) (below 4 _ (omega arith)) refl

an_ask : (x : ℕ) → IsDrawn (of_clone (codes "ask") x).line
unfolding of_clone
an_ask x = asks _ (below 4 x (omega arith)) refl

a_compact : (x : ℕ) → IsDrawn (of_clone (codes "compact") x).line
unfolding of_clone
a_compact x = compacts _ (below 4 x (omega arith)) refl

a_truncate : (x : ℕ) → IsDrawn (of_clone_and (codes "truncate") 20 x).line
unfolding of_clone_and
a_truncate x = truncates _ _ (below 4 x (omega arith)) (below 20 _ (omega arith)) refl

a_compare : (x : ℕ) → IsDrawn (of_clone_and (codes "compare") 4 x).line
unfolding of_clone_and
a_compare x = compares _ _ (below 4 x (omega arith)) (below 4 _ (omega arith)) refl

a_third : (x : ℕ) → IsDrawn (one_of_three x).line
unfolding one_of_three
a_third x =
    either_line (drawn 3 x == 0) _ _ (a_compact (next_state x)) (either_line (drawn 3 x == 1) _ _ (a_truncate (next_state x)) (a_compare (next_state x)))

-- so is a line of any number
pub a_line : (number x : ℕ) → 0 < number → number < 2 ^ 64 → IsDrawn (drawn_line number x).line
unfolding drawn_line
a_line number x some small =
    let next : ℕ = next_state x in
    either_line (nat_le (drawn 10 x) 4) _ _ (an_add next) (either_line (drawn 10 x == 5) _ _ (a_remove next)
    (either_line (nat_le (drawn 10 x) 7) _ _ (a_delivery number next some small) (either_line (drawn 10 x == 8) _ _ (an_ask next) (a_third next))))

-- and all lines
pub all_drawn : (count number x : ℕ) → 0 < number → number + count ≤ 2 ^ 64 → All IsDrawn (lines_from number x count)
all_drawn zero number x some small = All-nil IsDrawn
all_drawn (suc count) number x some small =
    All-cons IsDrawn (drawn_line number x).line (lines_from (number + 1) (drawn_line number x).state count) (a_line number x some (omega (arith, small)))
    (all_drawn count (number + 1) (drawn_line number x).state (omega arith) (omega (arith, small)))
