-- Entries in a row: which stand side by side, how long a run is, and what its halves are fused to.
use Rattle.std.proofs.Common.{◌≡◌, ◌∙◌, ℕ, ◌+◌, ◌-◌, ◌<◌, ◌≤◌, List, [], ◌∷◌, ◌++◌, inl, inr, refl, sym, ap, subst, arith, length, length-append, append_assoc, append-nil, take, drop, get_or}
use Rattle.std.proofs.lemmas.List.{take_more, take_all, drop_more, length-drop, take-append-drop}
use Rattle.tree_clock.specs.declared.dots.Range.{Range}
use Rattle.tree_clock.specs.Lists.{Has}
use Rattle.mld_ops.specs.Entry.{EntryValue, IsEntry}
use Rattle.mld_ops.specs.Held.{ranges_of}
use Rattle.mld_ops.proofs.AscendingLaws.{has_append}
use Rattle.op_fusion.specs.Fusion.{AreNeighbours, joined, Fused}
use Rattle.op_fusion.specs.Compacting.{IsRun, EndsRun, IsFusedRun, alone, both, AreFusedRuns, HasNeighbours, AreInRow, IsRunLength}
use Rattle.op_fusion.proofs.Runs.{fused_run_ranges, near_all}

-- ---- neighbours

rest_is : (a c : EntryValue) (xs ys : List EntryValue) → a ∷ xs ≡ c ∷ ys → xs ≡ ys
rest_is a c xs ys same = cc

first_is : (a b c d : EntryValue) (xs ys : List EntryValue) → a ∷ b ∷ xs ≡ c ∷ d ∷ ys → c ≡ a
first_is a b c d xs ys same = cc

second_is : (a b c d : EntryValue) (xs ys : List EntryValue) → a ∷ b ∷ xs ≡ c ∷ d ∷ ys → d ≡ b
second_is a b c d xs ys same = cc

-- the first two entries aren't neighbours, so those that are stand behind the first
pub behind_first : (front : List EntryValue) (one two first second : EntryValue) (more rest : List EntryValue) → one ∷ two ∷ more ≡ front ++ first ∷ second ∷ rest
    → AreNeighbours first.range second.range → ¬ AreNeighbours one.range two.range → HasNeighbours (two ∷ more)
behind_first [] one two first second more rest same near apart =
    absurd (apart (subst (λ (e : EntryValue). AreNeighbours one.range e.range) (second_is one two first second more rest same)
    (subst (λ (e : EntryValue). AreNeighbours e.range second.range) (first_is one two first second more rest same) near)))
behind_first (x ∷ front) one two first second more rest same near apart = record {
  front = front;
  first = first;
  second = second;
  rest = rest;
  stand = rest_is one x (two ∷ more) (front ++ first ∷ second ∷ rest) same;
  near = near;
}

-- two at least stand side by side where there are neighbours
pub few_lack : (entries : List EntryValue) → length entries ≤ 1 → ¬ HasNeighbours entries
few_lack entries few has =
    let same = ap (λ (es : List EntryValue). length es) has.stand in
    let both = length-append has.front (has.first ∷ has.second ∷ has.rest) in
    omega (arith, few, same, both)

-- where there are neighbours, there are such from a place on
pub record AreBehind (entries : List EntryValue) (place : ℕ) : Type 0 where
  pub above : 1 ≤ place
  pub behind : HasNeighbours entries → HasNeighbours (drop (place - 1) entries)

-- the first entries, up to a place, are in a row
pub record AreInRowUpTo (entries : List EntryValue) (place : ℕ) : Type 0 where
  pub above : 1 ≤ place
  pub row : AreInRow (take place entries)

-- ---- rows

row_begins : (entries : List EntryValue) → AreInRow (take 1 entries)
row_begins [] = tt
row_begins (first ∷ rest) = tt

pub row_left : (left right : List EntryValue) → AreInRow (left ++ right) → AreInRow left
row_left [] right row = tt
row_left (first ∷ []) right row = tt
row_left (first ∷ next ∷ left) right row = (row.0, row_left (next ∷ left) right row.1)

pub row_right : (left right : List EntryValue) → AreInRow (left ++ right) → AreInRow right
row_right [] right row = row
row_right (first ∷ []) [] row = tt
row_right (first ∷ []) (next ∷ right) row = row.1
row_right (first ∷ next ∷ left) right row = row_right (next ∷ left) right row.1

row_more : (front : List EntryValue) (last next : EntryValue) → AreInRow (front ++ last ∷ []) → AreNeighbours last.range next.range
    → AreInRow (front ++ last ∷ next ∷ [])
row_more [] last next row near = (near, tt)
row_more (first ∷ []) last next row near = (row.0, (near, tt))
row_more (first ∷ other ∷ front) last next row near = (row.0, row_more (other ∷ front) last next row.1 near)

module _ (entries : List EntryValue) (place : ℕ) (one two : EntryValue) (above : 1 ≤ place) (within : place < length entries)
    (one_is : one ≡ get_or entries (place - 1) one) (two_is : two ≡ get_or entries place two) where
  -- what is left from a place on
  left_two : drop place entries ≡ two ∷ drop (place + 1) entries
  left_two = drop_more entries place two within ∙ (λ i. sym two_is i ∷ drop (place + 1) entries)

  left_one : drop (place - 1) entries ≡ one ∷ two ∷ drop (place + 1) entries
  left_one =
      let next : place - 1 + 1 ≡ place = omega (arith, above) in
      drop_more entries (place - 1) one (omega (arith, above, within)) ∙ (λ i. sym one_is i ∷ drop (next i) entries)
      ∙ ap (λ (es : List EntryValue). one ∷ es) left_two

  -- what stands before it
  up_to_one : take place entries ≡ take (place - 1) entries ++ one ∷ []
  up_to_one =
      let next : place - 1 + 1 ≡ place = omega (arith, above) in
      ap (λ (n : ℕ). take n entries) (sym next) ∙ take_more entries (place - 1) one (omega (arith, above, within))
      ∙ (λ i. take (place - 1) entries ++ sym one_is i ∷ [])

  up_to_two : take (place + 1) entries ≡ take (place - 1) entries ++ one ∷ two ∷ []
  up_to_two =
      take_more entries place two within ∙ (λ i. up_to_one i ++ sym two_is i ∷ []) ∙ append_assoc (take (place - 1) entries) (one ∷ []) (two ∷ [])

  -- neighbours at two places side by side
  pub stand_at : AreNeighbours one.range two.range → HasNeighbours entries
  stand_at near = record {
    front = take (place - 1) entries;
    first = one;
    second = two;
    rest = drop (place + 1) entries;
    stand = sym (take-append-drop (place - 1) entries) ∙ ap (λ (es : List EntryValue). take (place - 1) entries ++ es) left_one;
    near = near;
  }

  -- none there, so they stand further on
  pub stand_behind : (HasNeighbours entries → HasNeighbours (drop (place - 1) entries)) → ¬ AreNeighbours one.range two.range
      → HasNeighbours entries → HasNeighbours (drop (place + 1 - 1) entries)
  stand_behind so_far apart has =
      let left = subst HasNeighbours left_one (so_far has) in
      let next : place ≡ place + 1 - 1 = omega arith in
      subst (λ (n : ℕ). HasNeighbours (drop n entries)) next
      (subst HasNeighbours (sym left_two)
      (behind_first left.front one two left.first left.second (drop (place + 1) entries) left.rest left.stand left.near apart))

  -- a row goes on
  pub row_goes_on : AreInRow (take place entries) → AreNeighbours one.range two.range → AreInRow (take (place + 1) entries)
  row_goes_on row near = subst AreInRow (sym up_to_two) (row_more (take (place - 1) entries) one two (subst AreInRow up_to_one row) near)

  -- or it ends
  pub row_ends : AreInRow (take place entries) → ¬ AreNeighbours one.range two.range → IsRunLength entries place
  row_ends row apart = record {
    some = above;
    within = omega (arith, within);
    row = row;
    longest = λ less more. apart (row_right (take (place - 1) entries) (one ∷ two ∷ []) (subst AreInRow up_to_two more)).0;
  }

-- none at all
pub all_lack : (entries : List EntryValue) (place : ℕ) → 1 ≤ place → length entries ≤ place → (HasNeighbours entries → HasNeighbours (drop (place - 1) entries))
    → ¬ HasNeighbours entries
all_lack entries place above past so_far has =
    let few = length-drop (place - 1) entries in
    few_lack (drop (place - 1) entries) (omega (arith, above, past, few)) (so_far has)

pub begun_row : (entries : List EntryValue) → AreInRowUpTo entries 1
begun_row entries = record { above = omega arith; row = row_begins entries }

-- all are in a row
pub all_in_row : (entries : List EntryValue) (place : ℕ) → 1 ≤ length entries → length entries ≤ place → AreInRow (take place entries)
    → IsRunLength entries (length entries)
all_in_row entries place some past row = record {
  some = some;
  within = omega arith;
  row = subst AreInRow (take_all place entries past ∙ sym (take_all (length entries) entries (omega arith))) row;
  longest = λ less. absurd (omega (arith, less));
}

-- ---- fused rows

-- the last of the ranges
abbrev last_range : Range → List Range → Range
last_range first [] = first
last_range first (next ∷ ranges) = last_range next ranges

-- the range of a run ends as its last range does
ends_alike : (first other : Range) (run : List Range) (whole : Range) → IsRun first run whole → first.path ≡ other.path → first.last ≡ other.last
    → (whole.path ≡ (last_range other run).path) × (whole.last ≡ (last_range other run).last)
ends_alike first other [] whole is path last = (ap (λ (range : Range). range.path) is ∙ path, ap (λ (range : Range). range.last) is ∙ last)
ends_alike first other (next ∷ run) whole is path last = ends_alike (joined first next) next run whole is.1 is.0.path refl

-- so what is behind a run is a neighbour of its last range where it is one of the whole
near_alike : (one other next : Range) → one.path ≡ other.path → one.last ≡ other.last → AreNeighbours other next → AreNeighbours one next
near_alike one other next path last near =
    record { path = path ∙ near.path; joins = omega (arith, last, near.joins); beyond = omega (arith, last, near.beyond) }

row_meets : (first : EntryValue) (run : List EntryValue) (next : EntryValue) (rest : List EntryValue) → AreInRow (first ∷ (run ++ next ∷ rest))
    → AreNeighbours (last_range first.range (ranges_of run)) next.range
row_meets first [] next rest row = row.0
row_meets first (other ∷ run) next rest row = row_meets other run next rest row.1

row_grows : (first : EntryValue) (run : List EntryValue) (next : EntryValue) → AreInRow (first ∷ run)
    → AreNeighbours (last_range first.range (ranges_of run)) next.range → AreInRow (first ∷ (run ++ next ∷ []))
row_grows first [] next row near = (near, tt)
row_grows first (other ∷ run) next row near = (row.0, row_grows other run next row.1 near)

-- what stands behind a part of a row is a neighbour of what the part is fused to
meets_whole : (left : List EntryValue) (first next : EntryValue) (right : List EntryValue) → IsFusedRun left first → AreInRow (left ++ next ∷ right)
    → AreNeighbours first.range next.range
meets_whole [] first next right is row = absurd (fused_run_ranges [] first is)
meets_whole (head ∷ run) first next right is row =
    let ends = ends_alike head.range head.range (ranges_of run) first.range (fused_run_ranges (head ∷ run) first is) refl refl in
    near_alike first.range (last_range head.range (ranges_of run)) next.range ends.0 ends.1 (row_meets head run next right row)

-- and such a neighbour makes the row longer
grows_whole : (left : List EntryValue) (first next : EntryValue) → IsFusedRun left first → AreInRow left → AreNeighbours first.range next.range
    → AreInRow (left ++ next ∷ [])
grows_whole [] first next is row near = absurd (fused_run_ranges [] first is)
grows_whole (head ∷ run) first next is row near =
    let ends = ends_alike head.range head.range (ranges_of run) first.range (fused_run_ranges (head ∷ run) first is) refl refl in
    row_grows head run next row (near_alike (last_range head.range (ranges_of run)) first.range next.range (sym ends.0) (sym ends.1) near)

-- the halves of a row, each fused to one
module _ (left right : List EntryValue) (first second : EntryValue) (row : AreInRow (left ++ right)) (one : IsFusedRun left first) (two : IsFusedRun right second) where
  pub halves_near : AreNeighbours first.range second.range
  halves_near = near_by right row two
    where
      near_by : (entries : List EntryValue) → AreInRow (left ++ entries) → IsFusedRun entries second → AreNeighbours first.range second.range
      near_by [] goes_on is = absurd (fused_run_ranges [] second is)
      near_by (next ∷ rest) goes_on is = near_all first.range next rest second (meets_whole left first next rest one goes_on) is

  pub halves_fused : (fused : EntryValue) → Fused first second fused → IsFusedRun (left ++ right) fused
  halves_fused fused f = fused_by right row two
    where
      fused_by : (entries : List EntryValue) → AreInRow (left ++ entries) → IsFusedRun entries second → IsFusedRun (left ++ entries) fused
      fused_by [] goes_on is = absurd (fused_run_ranges [] second is)
      fused_by (next ∷ rest) goes_on is = both left first next rest second fused one is (meets_whole left first next rest one goes_on) f

-- a list that is cut at a place
pub halves_are : (entries left right : List EntryValue) (place : ℕ) → left ≡ take place entries → right ≡ drop place entries → entries ≡ left ++ right
halves_are entries left right place front back = sym (take-append-drop place entries) ∙ (λ i. sym front i ++ sym back i)

-- a list of one entry
pub one_alone : (entries : List EntryValue) (entry whole : EntryValue) → length entries ≡ 1 → entry ≡ get_or entries 0 entry → whole ≡ entry → IsFusedRun entries whole
one_alone [] entry whole one is same = absurd (omega (arith, one))
one_alone (first ∷ []) entry whole one is same = subst (IsFusedRun (first ∷ [])) (sym (same ∙ is)) (alone first)
one_alone (first ∷ next ∷ rest) entry whole one is same = absurd (omega (arith, one))

-- ---- a list that is used up, run after run

-- whatever the rest is compacted to, the entries are compacted to the runs so far and that
pub record AreCompacting (entries rest runs : List EntryValue) : Type 0 where
  pub fused : (others : List EntryValue) → AreFusedRuns rest others → AreFusedRuns entries (runs ++ others)
  pub are : ((entry : EntryValue) → Has rest entry → IsEntry entry) → (entry : EntryValue) → Has entries entry → IsEntry entry

pub begun_compacting : (entries : List EntryValue) → AreCompacting entries entries []
begun_compacting entries = record { fused = λ others fused. fused; are = λ all. all }

-- a longest run ends
run_is_over : (entries run : List EntryValue) (behind : List EntryValue) (count : ℕ) (whole : EntryValue) → IsRunLength entries count → run ≡ take count entries
    → behind ≡ drop count entries → IsFusedRun run whole → EndsRun whole.range (ranges_of behind)
run_is_over entries run [] count whole longest front rest is = tt
run_is_over entries run (next ∷ behind) count whole longest front rest is =
    let less : count < length entries = omega (arith, length-drop count entries, ap (λ (es : List EntryValue). length es) rest) in
    let next_is : get_or entries count next ≡ next = head_is (sym (drop_more entries count next less) ∙ sym rest) in
    λ near. longest.longest less (subst AreInRow
    (ap (λ (es : List EntryValue). es ++ next ∷ []) front ∙ (λ i. take count entries ++ sym next_is i ∷ []) ∙ sym (take_more entries count next less))
    (grows_whole run whole next is (subst AreInRow (sym front) longest.row) near))
  where
    head_is : {a b : EntryValue} {xs ys : List EntryValue} → a ∷ xs ≡ b ∷ ys → a ≡ b
    head_is same = cc

pub one_more_run : (entries rest runs run behind : List EntryValue) (count : ℕ) (whole : EntryValue) → AreCompacting entries rest runs → IsRunLength rest count
    → run ≡ take count rest → behind ≡ drop count rest → IsFusedRun run whole → ((entry : EntryValue) → Has run entry → IsEntry entry)
    → AreCompacting entries behind (runs ++ whole ∷ [])
one_more_run entries rest runs run behind count whole so_far longest front back is all =
    let split : rest ≡ run ++ behind = halves_are rest run behind count front back in record {
      fused = λ others more.
          subst (AreFusedRuns entries) (sym (append_assoc runs (whole ∷ []) others))
          (so_far.fused (whole ∷ others) (run, behind, split, is, run_is_over rest run behind count whole longest front back is, more));
      are = λ rested. so_far.are (λ entry h. elim (has_append run behind entry (subst (λ (es : List EntryValue). Has es entry) split h)) [
        | inl k ↦ all entry k
        | inr k ↦ rested entry k
      ]);
    }

pub all_compacted : (entries rest runs : List EntryValue) → length rest ≡ 0 → AreCompacting entries rest runs
    → AreFusedRuns entries runs × ((entry : EntryValue) → Has entries entry → IsEntry entry)
all_compacted entries [] runs none so_far = (
  subst (AreFusedRuns entries) (append-nil runs) (so_far.fused [] refl),
  so_far.are (λ entry h. absurd h),
)
all_compacted entries (next ∷ rest) runs none so_far = absurd (omega (arith, none))
