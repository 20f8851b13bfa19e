-- Texts of clocks: the last dots of their paths, with a comma between each two, read from the front.
use Rattle.std.proofs.Common.{◌≡◌, ◌≢◌, ℕ, ◌≤◌, List, [], ◌∷◌, ◌++◌, Option, Some, None, codes, refl, sym, ◌∙◌, ap, subst, inl, inr, arith, drop}
use Rattle.std.proofs.lemmas.List.{append-nil, append_assoc}
use Rattle.std.specs.List.{AllByRecursion}
use Rattle.std.specs.declared.cmp.Ordering.TheVariants.{Less}
use Rattle.tree_clock.specs.Clock.{ClockValue, ticks_of, entry_cmp, IsClock, RaisesTo}
use Rattle.tree_clock.specs.Dot.{dot_text}
use Rattle.tree_clock.specs.DotLaws.{path_total}
use Rattle.tree_clock.specs.Lists.{Has, IsAscending}
use Rattle.tree_clock.specs.Path.{path_cmp}
use Rattle.tree_clock.specs.declared.dots.Dot.{Dot}
use Rattle.tree_clock.proofs.ClockLaws.{ticks_of-head, ticks_of-tail, less_apart, by_order, clock_from_ticks}
use Rattle.mld_ops.specs.History.{dot_at}
use Rattle.mld_ops.proofs.AscendingLaws.{has_append, has_right, below_member, below_across, ascending_append}
use Rattle.schedule_text.specs.schedule_model.Lacking.{Lacks}
use Rattle.dot_texts.specs.DotForms.{ends_of, MayBeDot, IsDotText, IsClockText, IsFirstPart, IsAboveLast, comma, behind_commas, dots_text, behind_mark}
use Rattle.dot_texts.proofs.DotTexts.{dot_lacks, one_dot}

abbrev Ticks : Type 0
Ticks = List (List ℕ × ℕ)

-- ---- texts that are parted by commas

-- the text is empty, or begins with a comma
abbrev BeginsCut : List ℕ → Type 0
BeginsCut [] = Unit {0}
BeginsCut (byte ∷ rest) = byte ≡ comma

-- a first part and what follows it are told apart in one way
one_part : (a b x y : List ℕ) → Lacks comma a → Lacks comma b → BeginsCut x → BeginsCut y → a ++ x ≡ b ++ y → (a ≡ b) × (x ≡ y)
one_part [] [] x y h k p q e = (refl, e)
one_part [] (second ∷ b) [] y h k p q e = absurd (cc (e))
one_part [] (second ∷ b) (byte ∷ x) y h k p q e = let same : byte ≡ second = cc (e) in absurd (k.0 (sym same ∙ p))
one_part (first ∷ a) [] x [] h k p q e = absurd (cc (e))
one_part (first ∷ a) [] x (byte ∷ y) h k p q e = let same : first ≡ byte = cc (e) in absurd (h.0 (same ∙ q))
one_part (first ∷ a) (second ∷ b) x y h k p q e =
    let rest : a ++ x ≡ b ++ y = cc (e) in
    let alike : first ≡ second = cc (e) in
    let parts = one_part a b x y h.1 k.1 p q rest in
    (cc (alike, parts.0), parts.1)

rest_cut : (rest : Option (List ℕ)) → BeginsCut (behind_mark comma rest)
rest_cut None = tt
rest_cut (Some rest) = refl

dots_cut : (dots : List Dot) → BeginsCut (behind_commas dots)
dots_cut [] = tt
dots_cut (dot ∷ dots) = refl

-- the last dot of a path
abbrev dot_of : List ℕ × ℕ → Dot
dot_of entry = dot_at entry.0 entry.1

-- of two clocks' texts one is a front of the other: so are the clocks
pub record GoesOn (ticks other : Ticks) (tail : List ℕ) : Type 0 where
  pub more : Ticks
  pub whole : other ≡ ticks ++ more
  pub rest : tail ≡ behind_commas (ends_of more)

same_entry : (entry other : List ℕ × ℕ) → dot_of entry ≡ dot_of other → entry ≡ other
same_entry entry other e = λ i. ((e i).path, (e i).tick)

pub goes_on : (ticks other : Ticks) (tail : List ℕ) → AllByRecursion MayBeDot (ends_of ticks) → AllByRecursion MayBeDot (ends_of other) → BeginsCut tail
    → behind_commas (ends_of ticks) ++ tail ≡ behind_commas (ends_of other) → GoesOn ticks other tail
goes_on [] other tail p q cut e = record { more = other; whole = refl; rest = e }
goes_on (entry ∷ ticks) [] tail p q cut e = absurd (cc (e))
goes_on (entry ∷ ticks) (first ∷ other) tail p q cut e =
    let tails : (dot_text (dot_of entry) ++ behind_commas (ends_of ticks)) ++ tail ≡ dot_text (dot_of first) ++ behind_commas (ends_of other) = ap (drop 1) e in
    let parted : dot_text (dot_of entry) ++ (behind_commas (ends_of ticks) ++ tail) ≡ dot_text (dot_of first) ++ behind_commas (ends_of other) =
    sym (append_assoc (dot_text (dot_of entry)) (behind_commas (ends_of ticks)) tail) ∙ tails in
    let parts = one_part (dot_text (dot_of entry)) (dot_text (dot_of first)) (behind_commas (ends_of ticks) ++ tail) (behind_commas (ends_of other))
    (dot_lacks (dot_of entry) p.0) (dot_lacks (dot_of first) q.0) (tail_cut (ends_of ticks)) (dots_cut (ends_of other)) parted in
    let same : entry ≡ first = same_entry entry first (one_dot (dot_of entry) (dot_of first) p.0 q.0 parts.0) in
    further same (goes_on ticks other tail p.1 q.1 cut parts.1)
  where
    tail_cut : (dots : List Dot) → BeginsCut (behind_commas dots ++ tail)
    tail_cut [] = cut
    tail_cut (dot ∷ dots) = refl

    further : entry ≡ first → GoesOn ticks other tail → GoesOn (entry ∷ ticks) (first ∷ other) tail
    further same on = record {
      more = on.more;
      whole = ap (λ (rest : Ticks). first ∷ rest) on.whole ∙ ap (λ (one : List ℕ × ℕ). one ∷ (ticks ++ on.more)) (sym same);
      rest = on.rest;
    }

-- ---- a text is one clock

-- what is written in front of a clock's text where a comma stands before its first dot too
written_first : (entry : List ℕ × ℕ) (ticks : Ticks) → comma ∷ dots_text (ends_of (entry ∷ ticks)) ≡ behind_commas (ends_of (entry ∷ ticks))
written_first entry ticks = refl

no_dash : (entry : List ℕ × ℕ) (ticks : Ticks) → codes "-" ≢ dots_text (ends_of (entry ∷ ticks))
no_dash entry ticks e = let first : ◌≡◌ {A = ℕ} 45 114 = cc (e) in omega (arith, first)

nothing_more : (ticks other : Ticks) → GoesOn ticks other [] → ticks ≡ other
nothing_more ticks other on = by on.more on.whole on.rest
  where
    by : (more : Ticks) → other ≡ ticks ++ more → [] ≡ behind_commas (ends_of more) → ticks ≡ other
    by [] whole rest = sym (whole ∙ append-nil ticks)
    by (entry ∷ more) whole rest = absurd (cc (rest))

one_ticks : (ticks other : Ticks) → AllByRecursion MayBeDot (ends_of ticks) → AllByRecursion MayBeDot (ends_of other)
    → dots_text (ends_of ticks) ≡ dots_text (ends_of other) → ticks ≡ other
one_ticks [] [] p q e = refl
one_ticks [] (entry ∷ other) p q e = absurd (no_dash entry other e)
one_ticks (entry ∷ ticks) [] p q e = absurd (no_dash entry ticks (sym e))
one_ticks (entry ∷ ticks) (first ∷ other) p q e =
    nothing_more (entry ∷ ticks) (first ∷ other)
    (goes_on (entry ∷ ticks) (first ∷ other) [] p q tt
    (append-nil (behind_commas (ends_of (entry ∷ ticks))) ∙ ap (λ (t : List ℕ). comma ∷ t) e))

pub one_clock : (text : List ℕ) (clock other : ClockValue) → IsClockText text clock → IsClockText text other → clock.ticks ≡ other.ticks
one_clock text clock other p q = one_ticks clock.ticks other.ticks p.each q.each (sym p.spelled ∙ q.spelled)

-- ---- ticks behind those of a clock

-- the path of the last ticks, if there are any
abbrev pub EndsWith : Ticks → Option (List ℕ) → Type 0
EndsWith ticks None = ticks ≡ []
EndsWith ticks (Some path) = (front : Ticks) × (tick : ℕ) × (ticks ≡ front ++ (path, tick) ∷ [])

below_next : (front : Ticks) (path : List ℕ) (tick : ℕ) (next entry : List ℕ × ℕ) → IsAscending entry_cmp (front ++ (path, tick) ∷ []) → path_cmp path next.0 ≡ Less
    → Has (front ++ (path, tick) ∷ []) entry → entry_cmp entry next ≡ Less
below_next front path tick next entry ascending less has = elim (has_append front ((path, tick) ∷ []) entry has) [
  | inl before ↦ path_total.trans entry.0 path next.0
      (below_across entry_cmp front ((path, tick) ∷ []) entry (path, tick) ascending before (inl refl)) less
  | inr at ↦ by at
]
  where
    by : Has ((path, tick) ∷ []) entry → entry_cmp entry next ≡ Less
    by (inl e) = subst (λ (one : List ℕ × ℕ). entry_cmp one next ≡ Less) e less
    by (inr none) = absurd none

ascends_behind : (ticks : Ticks) (last : Option (List ℕ)) (next : List ℕ × ℕ) → IsAscending entry_cmp ticks → EndsWith ticks last → IsAboveLast last next.0
    → IsAscending entry_cmp (ticks ++ next ∷ [])
ascends_behind ticks None next ascending ends above = subst (λ (t : Ticks). IsAscending entry_cmp (t ++ next ∷ [])) (sym ends) (tt, tt)
ascends_behind ticks (Some path) next ascending ends above =
    ascending_append entry_cmp ticks (next ∷ []) ascending (tt, tt) (λ entry other has is. by entry other has is)
  where
    front_ascends : IsAscending entry_cmp (ends.0 ++ (path, ends.1) ∷ [])
    front_ascends = subst (λ (t : Ticks). IsAscending entry_cmp t) ends.2 ascending

    by : (entry other : List ℕ × ℕ) → Has ticks entry → Has (next ∷ []) other → entry_cmp entry other ≡ Less
    by entry other has (inr none) = absurd none
    by entry other has (inl e) =
        subst (λ (one : List ℕ × ℕ). entry_cmp entry one ≡ Less) e
        (below_next ends.0 path ends.1 next entry front_ascends above (subst (λ (t : Ticks). Has t entry) ends.2 has))

-- and where they ascend, the path of the next is above
pub above_behind : (ticks : Ticks) (last : Option (List ℕ)) (next : List ℕ × ℕ) (rest : Ticks) → EndsWith ticks last → IsAscending entry_cmp (ticks ++ next ∷ rest)
    → IsAboveLast last next.0
above_behind ticks None next rest ends ascending = tt
above_behind ticks (Some path) next rest ends ascending =
    below_across entry_cmp ticks (next ∷ rest) (path, ends.1) next ascending
    (subst (λ (t : Ticks). Has t (path, ends.1)) (sym ends.2) (has_right ends.0 ((path, ends.1) ∷ []) (path, ends.1) (inl refl))) (inl refl)

all_push : {X : Type 0} (P : X → Type 0) (xs : List X) (x : X) → AllByRecursion P xs → P x → AllByRecursion P (xs ++ x ∷ [])
all_push P [] x a p = (p, tt)
all_push P (y ∷ ys) x a p = (a.0, all_push P ys x a.1 p)

-- the ticks of the path at the end
ticks_of_last : (ticks : Ticks) (next : List ℕ × ℕ) → IsAscending entry_cmp (ticks ++ next ∷ []) → (ticks_of ticks next.0 ≡ 0) × (ticks_of (ticks ++ next ∷ []) next.0 ≡ next.1)
ticks_of_last [] next a = (refl, ticks_of-head next.0 next.1 [])
ticks_of_last (entry ∷ ticks) next a =
    let less = below_member entry_cmp entry (ticks ++ next ∷ []) next a.0 (has_right ticks (next ∷ []) next (inl refl)) in
    let apart = less_apart entry.0 next.0 less in
    let rest = ticks_of_last ticks next a.1 in
    (ticks_of-tail entry ticks next.0 apart ∙ rest.0, ticks_of-tail entry (ticks ++ next ∷ []) next.0 apart ∙ rest.1)

-- those of another path
ticks_of_others : (ticks : Ticks) (next : List ℕ × ℕ) (other : List ℕ) → ¬ (next.0 ≡ other) → ticks_of (ticks ++ next ∷ []) other ≡ ticks_of ticks other
ticks_of_others [] next other n = ticks_of-tail next [] other n
ticks_of_others (entry ∷ ticks) next other n = by (ticks_of_others ticks next other n)
  where
    by : ticks_of (ticks ++ next ∷ []) other ≡ ticks_of ticks other → ticks_of ((entry ∷ ticks) ++ next ∷ []) other ≡ ticks_of (entry ∷ ticks) other
    by rest =
        let apart : ¬ (entry.0 ≡ other) → ticks_of ((entry ∷ ticks) ++ next ∷ []) other ≡ ticks_of (entry ∷ ticks) other =
        λ m. ticks_of-tail entry (ticks ++ next ∷ []) other m ∙ rest ∙ sym (ticks_of-tail entry ticks other m) in
        by_order entry.0 other
        (λ l. apart (less_apart entry.0 other l))
        (λ e. subst (λ (p : List ℕ). ticks_of ((entry ∷ ticks) ++ next ∷ []) p ≡ ticks_of (entry ∷ ticks) p) e
        (ticks_of-head entry.0 entry.1 (ticks ++ next ∷ []) ∙ sym (ticks_of-head entry.0 entry.1 ticks)))
        (λ l. apart (λ e. less_apart other entry.0 l (sym e)))

-- a clock that is raised at a path above its last one has one path more
raised_behind : (old new : Ticks) (last : Option (List ℕ)) (dot : Dot) → IsClock old → IsClock new → RaisesTo old new dot → EndsWith old last → IsAboveLast last dot.path
    → 1 ≤ dot.tick → new ≡ old ++ (dot.path, dot.tick) ∷ []
raised_behind old new last dot was is raises ends above positive =
    let next : List ℕ × ℕ = (dot.path, dot.tick) in
    let ascends : IsAscending entry_cmp (old ++ next ∷ []) = ascends_behind old last next was.ascending ends above in
    let at = ticks_of_last old next ascends in
    clock_from_ticks new (old ++ next ∷ []) is
    (record { ascending = ascends; positive = all_push (λ (entry : List ℕ × ℕ). 1 ≤ entry.1) old next was.positive positive })
    (λ path. by_order path dot.path
    (λ l. other path (less_apart path dot.path l))
    (λ e. subst (λ (p : List ℕ). ticks_of new p ≡ ticks_of (old ++ next ∷ []) p) (sym e) (raises.at ∙ (let z = at.0 in omega arith) ∙ sym at.1))
    (λ l. other path (λ e. less_apart dot.path path l (sym e))))
  where
    other : (path : List ℕ) → ¬ (path ≡ dot.path) → ticks_of new path ≡ ticks_of (old ++ (dot.path, dot.tick) ∷ []) path
    other path n = raises.others path n ∙ sym (ticks_of_others old (dot.path, dot.tick) path (λ e. n (sym e)))

-- ---- a clock that is read from its front

-- the dots of the clock that is read so far, and then what is left, are a text with a comma before it
pub record ReadsClock (text left : List ℕ) (ticks : Ticks) (last : Option (List ℕ)) : Type 0 where
  pub whole : comma ∷ text ≡ behind_commas (ends_of ticks) ++ left
  pub ordered : IsClock ticks
  pub each : AllByRecursion MayBeDot (ends_of ticks)
  pub ends : EndsWith ticks last

pub clock_begun : (text : List ℕ) (ticks : Ticks) → ticks ≡ [] → ReadsClock text (comma ∷ text) ticks None
clock_begun text ticks none = record {
  whole = ap (λ (t : Ticks). behind_commas (ends_of t) ++ comma ∷ text) (sym none);
  ordered = subst (λ (t : Ticks). IsClock t) (sym none) (record { ascending = tt; positive = tt });
  each = subst (λ (t : Ticks). AllByRecursion MayBeDot (ends_of t)) (sym none) tt;
  ends = none;
}

dots_push : (ticks : Ticks) (next : List ℕ × ℕ) (left : List ℕ)
    → behind_commas (ends_of (ticks ++ next ∷ [])) ++ left ≡ behind_commas (ends_of ticks) ++ comma ∷ (dot_text (dot_of next) ++ left)
dots_push [] next left = ap (λ (t : List ℕ). comma ∷ t) (ap (λ (t : List ℕ). t ++ left) (append-nil (dot_text (dot_of next))))
dots_push (entry ∷ ticks) next left =
    ap (λ (t : List ℕ). comma ∷ t)
    (append_assoc (dot_text (dot_of entry)) (behind_commas (ends_of (ticks ++ next ∷ []))) left
    ∙ ap (λ (t : List ℕ). dot_text (dot_of entry) ++ t) (dots_push ticks next left)
    ∙ sym (append_assoc (dot_text (dot_of entry)) (behind_commas (ends_of ticks)) (comma ∷ (dot_text (dot_of next) ++ left))))

all_dots_push : (ticks : Ticks) (next : List ℕ × ℕ) → AllByRecursion MayBeDot (ends_of ticks) → MayBeDot (dot_of next) → AllByRecursion MayBeDot (ends_of (ticks ++ next ∷ []))
all_dots_push [] next a p = (p, tt)
all_dots_push (entry ∷ ticks) next a p = (a.0, all_dots_push ticks next a.1 p)

-- one dot more is read
pub clock_more : (text rest part : List ℕ) (left : Option (List ℕ)) (ticks new : Ticks) (last : Option (List ℕ)) (dot : Dot) → ReadsClock text (comma ∷ rest) ticks last
    → IsFirstPart comma rest part left → IsDotText part dot → IsAboveLast last dot.path → RaisesTo ticks new dot → IsClock new
    → ReadsClock text (behind_mark comma left) new (Some dot.path)
clock_more text rest part left ticks new last dot reads first is above raises clock =
    let next : List ℕ × ℕ = (dot.path, dot.tick) in
    let grown : new ≡ ticks ++ next ∷ [] = raised_behind ticks new last dot reads.ordered clock raises reads.ends above is.is.tick.positive in
    record {
      whole = reads.whole
          ∙ ap (λ (t : List ℕ). behind_commas (ends_of ticks) ++ comma ∷ t) (first.whole ∙ ap (λ (t : List ℕ). t ++ behind_mark comma left) is.spelled)
          ∙ sym (dots_push ticks next (behind_mark comma left))
          ∙ ap (λ (t : Ticks). behind_commas (ends_of t) ++ behind_mark comma left) (sym grown);
      ordered = clock;
      each = subst (λ (t : Ticks). AllByRecursion MayBeDot (ends_of t)) (sym grown) (all_dots_push ticks next reads.each is.is);
      ends = (ticks, dot.tick, grown);
    }

-- nothing is left
pub clock_read : (text : List ℕ) (clock : ClockValue) (last : Option (List ℕ)) → ReadsClock text [] clock.ticks last → IsClockText text clock
clock_read text clock last reads = record {
  ordered = reads.ordered;
  each = reads.each;
  spelled = by clock.ticks (reads.whole ∙ append-nil (behind_commas (ends_of clock.ticks)));
}
  where
    by : (ticks : Ticks) → comma ∷ text ≡ behind_commas (ends_of ticks) → text ≡ dots_text (ends_of ticks)
    by [] e = absurd (cc (e))
    by (entry ∷ ticks) e = ap (drop 1) e

pub dash_read : (text : List ℕ) (clock : ClockValue) → clock.ticks ≡ [] → text ≡ codes "-" → IsClockText text clock
dash_read text clock none e =
    let blank = clock_begun text clock.ticks none in
    record { ordered = blank.ordered; each = blank.each; spelled = e ∙ ap (λ (t : Ticks). dots_text (ends_of t)) (sym none) }

-- ---- a text that is no clock

-- the first dot that is left is one of a clock with this text
record HasNext (text rest part : List ℕ) (ticks : Ticks) (clock : ClockValue) : Type 0 where
  next : List ℕ × ℕ
  more : Ticks
  whole : clock.ticks ≡ ticks ++ next ∷ more
  is : IsDotText part (dot_of next)

all_right : {X : Type 0} (P : X → Type 0) (xs ys : List X) → AllByRecursion P (xs ++ ys) → AllByRecursion P ys
all_right P [] ys a = a
all_right P (x ∷ xs) ys a = all_right P xs ys a.1

dots_append : (ticks more : Ticks) → ends_of (ticks ++ more) ≡ ends_of ticks ++ ends_of more
dots_append [] more = refl
dots_append (entry ∷ ticks) more = ap (λ (dots : List Dot). dot_of entry ∷ dots) (dots_append ticks more)

spelled_behind : (text : List ℕ) (ticks : Ticks) → text ≢ codes "-" → text ≡ dots_text (ends_of ticks) → comma ∷ text ≡ behind_commas (ends_of ticks)
spelled_behind text [] other e = absurd (other e)
spelled_behind text (entry ∷ ticks) other e = ap (λ (t : List ℕ). comma ∷ t) e

has_next : (text rest part : List ℕ) (left : Option (List ℕ)) (ticks : Ticks) (last : Option (List ℕ)) (clock : ClockValue) → text ≢ codes "-"
    → ReadsClock text (comma ∷ rest) ticks last → IsFirstPart comma rest part left → IsClockText text clock → HasNext text rest part ticks clock
has_next text rest part left ticks last clock other reads first is =
    let on = goes_on ticks clock.ticks (comma ∷ rest) reads.each is.each refl (sym reads.whole ∙ spelled_behind text clock.ticks other is.spelled) in
    by on.more on.whole on.rest
  where
    by : (more : Ticks) → clock.ticks ≡ ticks ++ more → comma ∷ rest ≡ behind_commas (ends_of more) → HasNext text rest part ticks clock
    by [] whole e = absurd (cc (e))
    by (next ∷ more) whole e =
        let all : AllByRecursion MayBeDot (ends_of ticks ++ ends_of (next ∷ more)) =
        subst (λ (dots : List Dot). AllByRecursion MayBeDot dots) (dots_append ticks (next ∷ more)) (subst (λ (t : Ticks). AllByRecursion MayBeDot (ends_of t)) whole is.each) in
        let dot_is : MayBeDot (dot_of next) = (all_right MayBeDot (ends_of ticks) (ends_of (next ∷ more)) all).0 in
        let tails : part ++ behind_mark comma left ≡ dot_text (dot_of next) ++ behind_commas (ends_of more) = sym first.whole ∙ ap (drop 1) e in
        let parts = one_part part (dot_text (dot_of next)) (behind_mark comma left) (behind_commas (ends_of more)) first.lacks (dot_lacks (dot_of next) dot_is)
        (rest_cut left) (dots_cut (ends_of more)) tails in
        record { next = next; more = more; whole = whole; is = record { is = dot_is; spelled = parts.0 } }

-- the next part is no dot
pub no_next_dot : (text rest part : List ℕ) (left : Option (List ℕ)) (ticks : Ticks) (last : Option (List ℕ)) → text ≢ codes "-"
    → ReadsClock text (comma ∷ rest) ticks last → IsFirstPart comma rest part left → ((dot : Dot) → ¬ IsDotText part dot) → (clock : ClockValue) → ¬ IsClockText text clock
no_next_dot text rest part left ticks last other reads first none clock is =
    let has = has_next text rest part left ticks last clock other reads first is in
    none (dot_of has.next) has.is

-- or its path isn't above the last one
pub no_dot_above : (text rest part : List ℕ) (left : Option (List ℕ)) (ticks : Ticks) (last : Option (List ℕ)) (dot : Dot) → text ≢ codes "-"
    → ReadsClock text (comma ∷ rest) ticks last → IsFirstPart comma rest part left → IsDotText part dot → ¬ IsAboveLast last dot.path
    → (clock : ClockValue) → ¬ IsClockText text clock
no_dot_above text rest part left ticks last dot other reads first read low clock is =
    let has = has_next text rest part left ticks last clock other reads first is in
    let same : dot ≡ dot_of has.next = one_dot dot (dot_of has.next) read.is has.is.is (sym read.spelled ∙ has.is.spelled) in
    low (subst (λ (d : Dot). IsAboveLast last d.path) (sym same)
    (above_behind ticks last has.next has.more reads.ends (subst (λ (t : Ticks). IsAscending entry_cmp t) has.whole is.ordered.ascending)))
