-- Beginnings of histories, and what a mark more makes of their lists.
use Rattle.std.proofs.Common.{◌≡◌, ℕ, ◌≤◌, ◌+◌, Bool, true, false, List, [], ◌∷◌, ◌++◌, length, refl, ap, sym, ◌∙◌, subst, arith, inl, inr, append_assoc, append-nil, length-append, true≢false}
use mathlib.Core.List.{IsPrefix}
use Rattle.shared_reads.specs.declared.marks.Change.{Change}
use Rattle.shared_reads.specs.declared.marks.Front.{Front}
use Rattle.shared_reads.specs.declared.marks.Mark.{Mark}
use Rattle.shared_reads.specs.declared.marks.Mark.TheVariants.{Changed, Ended}
use Rattle.shared_reads.specs.Fronts.{IsFrontOf, IsHistory, IsLonger, list_told, nothing, onwards, finished}

-- ---- beginnings of one list

-- of two beginnings of one list the shorter begins the longer
pub prefix_shorter : {A : Type 0} (xs ys zs : List A) → IsPrefix xs zs → IsPrefix ys zs → length xs ≤ length ys → IsPrefix xs ys
prefix_shorter [] ys zs p q le = (ys, refl)
prefix_shorter (x ∷ xs) [] zs p q le = absurd (omega arith)
prefix_shorter (x ∷ xs) (y ∷ ys) [] p q le = absurd (cc (p.1))
prefix_shorter (x ∷ xs) (y ∷ ys) (z ∷ zs) p q le =
    let heads : x ≡ y = cc (p.1, q.1) in
    let rest = prefix_shorter xs ys zs (p.0, cc (p.1)) (q.0, cc (q.1)) (omega arith) in
    (rest.0, cc (heads, rest.1))

-- a beginning as long as the whole is the whole
pub prefix_whole : {A : Type 0} (xs ys : List A) → IsPrefix xs ys → length ys ≤ length xs → xs ≡ ys
prefix_whole [] [] p le = refl
prefix_whole [] (y ∷ ys) p le = absurd (omega arith)
prefix_whole (x ∷ xs) [] p le = absurd (cc (p.1))
prefix_whole (x ∷ xs) (y ∷ ys) p le =
    let rest = prefix_whole xs ys (p.0, cc (p.1)) (omega arith) in cc (p.1, rest)

-- ---- the lists that histories tell

-- a list begins itself
pub front_itself : (front : Front) → IsFrontOf front front
front_itself front = record { begins = ([], append-nil front.changes); ends = λ e. refl }

-- what is behind a change
behind_change : (change : Change) (whole front : Front) → IsFrontOf whole front
    → IsFrontOf (record { changes = change ∷ whole.changes; finished = whole.finished }) (record { changes = change ∷ front.changes; finished = front.finished })
behind_change change whole front is = record {
  begins = (is.begins.0, ap (λ (cs : List Change). change ∷ cs) is.begins.1);
  ends = λ e. ap (λ (f : Front). record { changes = change ∷ f.changes; finished = f.finished }) (is.ends e);
}

changed_head : (one other : Mark) (xs ys : List Mark) → ◌≡◌ {A = List Mark} (one ∷ xs) (other ∷ ys) → (one ≡ other) × (xs ≡ ys)
changed_head one other xs ys e = (cc e, cc e)

-- what begins a history begins its list
pub prefix_front : (xs ys : List Mark) → IsPrefix xs ys → IsHistory ys → IsFrontOf (list_told ys) (list_told xs)
prefix_front [] ys p h = record { begins = ((list_told ys).changes, refl); ends = λ e. absurd (true≢false (sym e)) }
prefix_front (Changed c ∷ xs) [] p h = absurd (cc (p.1))
prefix_front (Changed c ∷ xs) (Changed d ∷ ys) p h =
    let same = changed_head (Changed c) (Changed d) (xs ++ p.0) ys p.1 in
    let heads : c ≡ d = cc (same.0) in
    subst (λ (b : Change). IsFrontOf (list_told (Changed b ∷ ys)) (list_told (Changed c ∷ xs))) heads
    (behind_change c (list_told ys) (list_told xs) (prefix_front xs ys (p.0, same.1) h))
prefix_front (Changed c ∷ xs) (Ended ∷ ys) p h = let same = changed_head (Changed c) Ended (xs ++ p.0) ys p.1 in absurd (cc (same.0))
prefix_front (Ended ∷ xs) [] p h = absurd (cc (p.1))
prefix_front (Ended ∷ xs) (Changed d ∷ ys) p h = let same = changed_head Ended (Changed d) (xs ++ p.0) ys p.1 in absurd (cc (same.0))
prefix_front (Ended ∷ xs) (Ended ∷ ys) p h = front_itself (finished nothing)

-- a mark behind an unfinished history
pub front_onwards : (marks : List Mark) (mark : Mark) → (list_told marks).finished ≡ false → list_told (marks ++ mark ∷ []) ≡ onwards (list_told marks) mark
front_onwards [] (Changed c) going = refl
front_onwards [] Ended going = refl
front_onwards (Changed d ∷ marks) (Changed c) going =
    ap (λ (f : Front). record { changes = d ∷ f.changes; finished = f.finished }) (front_onwards marks (Changed c) going)
front_onwards (Changed d ∷ marks) Ended going =
    ap (λ (f : Front). record { changes = d ∷ f.changes; finished = f.finished }) (front_onwards marks Ended going)
front_onwards (Ended ∷ marks) mark going = absurd (true≢false going)

pub history_onwards : (marks : List Mark) (mark : Mark) → IsHistory marks → (list_told marks).finished ≡ false → IsHistory (marks ++ mark ∷ [])
history_onwards [] (Changed c) h going = tt
history_onwards [] Ended h going = refl
history_onwards (Changed d ∷ marks) mark h going = history_onwards marks mark h going
history_onwards (Ended ∷ marks) mark h going = absurd (true≢false going)

-- of two beginnings of one history the shorter has the list that begins the other's
pub front_shorter : (xs ys zs : List Mark) → IsPrefix xs zs → IsPrefix ys zs → IsHistory ys → length xs ≤ length ys → IsFrontOf (list_told ys) (list_told xs)
front_shorter xs ys zs p q h le = prefix_front xs ys (prefix_shorter xs ys zs p q le) h

-- the longer of two
pub longer_first : (xs ys zs : List Mark) → IsPrefix xs zs → IsPrefix ys zs → IsHistory xs → length ys ≤ length xs → IsLonger (list_told xs) (list_told ys) (list_told xs)
longer_first xs ys zs p q h le = record { one_begins = front_itself (list_told xs); other_begins = front_shorter ys xs zs q p h le; either = inl refl }

pub longer_second : (xs ys zs : List Mark) → IsPrefix xs zs → IsPrefix ys zs → IsHistory ys → length xs ≤ length ys → IsLonger (list_told xs) (list_told ys) (list_told ys)
longer_second xs ys zs p q h le = record { one_begins = front_shorter xs ys zs p q h le; other_begins = front_itself (list_told ys); either = inr refl }
