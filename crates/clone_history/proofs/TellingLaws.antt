-- Whether the state of a clone at a clock can be told, by what its calls lend.
use Rattle.std.proofs.Common.{◌≡◌, ◌∙◌, ℕ, List, ◌↔◌, Bool, true, false, IsTrue, Result, Ok, Err, IsErrOf, Option, Some, sym, ap, subst}
use Rattle.std.proofs.lemmas.Bool.{false≢true}
use Rattle.tree_clock.specs.declared.dots.Dot.{Dot}
use Rattle.tree_clock.specs.declared.dots.Range.{Range}
use Rattle.tree_clock.specs.Clock.{Covers}
use Rattle.mld_ops.specs.Entry.{EntryValue}
use Rattle.mld_ops.specs.Picking.{HasNone}
use Rattle.mld_model.specs.Local.{LocalClone}
use Rattle.clone_core.specs.journal_store.declared.faults.Why.{Why}
use Rattle.clone_history.specs.KeptMembers.{IsFirstMember}
use Rattle.clone_history.specs.PastStates.{IsPartOf, IsSplitAt, IsOpenIn, IsUnknownTo, KnowsClock, EndsBetween, last_dots}
use Rattle.clone_history.specs.declared.faults.PastFault.{PastFault}
use Rattle.clone_history.specs.declared.faults.PastFault.TheVariants as past

-- ---- dots that are known

module _ (clone : LocalClone) (ticks known ends : List (List ℕ × ℕ)) (known_is : known ≡ clone.ticks) (ends_are : ends ≡ ticks) where
  pub first_unknown : (dot : Dot) → IsFirstMember (λ d. ¬ Covers known d) (last_dots ends) dot → IsFirstMember (IsUnknownTo clone) (last_dots ticks) dot
  first_unknown dot first =
      subst (λ (ks : List (List ℕ × ℕ)). IsFirstMember (λ d. ¬ Covers ks d) (last_dots ticks) dot) known_is
      (subst (λ (es : List (List ℕ × ℕ)). IsFirstMember (λ d. ¬ Covers known d) (last_dots es) dot) ends_are first)

  pub all_known : HasNone (λ d. ¬ Covers known d) (last_dots ends) → KnowsClock clone ticks
  all_known none =
      subst (λ (ks : List (List ℕ × ℕ)). HasNone (λ d. ¬ Covers ks d) (last_dots ticks)) known_is
      (subst (λ (es : List (List ℕ × ℕ)). HasNone (λ d. ¬ Covers known d) (last_dots es)) ends_are none)

-- ---- the base

module _ (base lent clock : List (List ℕ × ℕ)) (answer : Bool) (base_is : lent ≡ base) (tells : IsTrue answer ↔ IsPartOf lent clock) where
  pub is_part : answer ≡ true → IsPartOf base clock
  is_part said = subst (λ (ts : List (List ℕ × ℕ)). IsPartOf ts clock) base_is (tells.0 said)

  pub is_no_part : answer ≡ false → ¬ IsPartOf base clock
  is_no_part none part = false≢true (sym none ∙ tells.1 (subst (λ (ts : List (List ℕ × ℕ)). IsPartOf ts clock) (sym base_is) part))

-- ---- splits, and entries that are open

module _ (clone : LocalClone) (ticks base : List (List ℕ × ℕ)) (journal : List EntryValue) (base_is : base ≡ clone.base) (journal_is : journal ≡ clone.entries) where
  pub first_split : (dot : Dot) → IsFirstMember (IsSplitAt base journal) (last_dots ticks) dot → IsFirstMember (IsSplitAt clone.base clone.entries) (last_dots ticks) dot
  first_split dot first =
      subst (λ (es : List EntryValue). IsFirstMember (IsSplitAt clone.base es) (last_dots ticks) dot) journal_is
      (subst (λ (ts : List (List ℕ × ℕ)). IsFirstMember (IsSplitAt ts journal) (last_dots ticks) dot) base_is first)

  pub none_split : HasNone (IsSplitAt base journal) (last_dots ticks) → EndsBetween clone ticks
  none_split none =
      subst (λ (es : List EntryValue). HasNone (IsSplitAt clone.base es) (last_dots ticks)) journal_is
      (subst (λ (ts : List (List ℕ × ℕ)). HasNone (IsSplitAt ts journal) (last_dots ticks)) base_is none)

module _ (clone : LocalClone) (ticks : List (List ℕ × ℕ)) (journal : List EntryValue) (journal_is : journal ≡ clone.entries) where
  pub first_open : (range : Range) → (entry : EntryValue) × IsFirstMember (IsOpenIn ticks) journal entry × (range ≡ entry.range)
      → (entry : EntryValue) × IsFirstMember (IsOpenIn ticks) clone.entries entry × (range ≡ entry.range)
  first_open range first =
      subst (λ (es : List EntryValue). (entry : EntryValue) × IsFirstMember (IsOpenIn ticks) es entry × (range ≡ entry.range)) journal_is first

  pub none_open : HasNone (IsOpenIn ticks) journal → HasNone (IsOpenIn ticks) clone.entries
  none_open none = subst (λ (es : List EntryValue). HasNone (IsOpenIn ticks) es) journal_is none

-- ---- clones that are open

-- the fault of a result
abbrev past_of : {T : Type 0} → Result T PastFault → PastFault
past_of (Ok given) = past.NoMemory
past_of (Err fault) = fault

-- a fault says the same whatever would have been given
pub closed_alike : {T U : Type 0} (fault : PastFault) (closed : Option Why) → ((why : Why) → IsErrOf {T = T} (Err fault) (past.Closed why) ↔ (closed ≡ Some why))
    → (why : Why) → IsErrOf {T = U} (Err fault) (past.Closed why) ↔ (closed ≡ Some why)
closed_alike {T} {U} fault closed tells why = (
  λ e. let same : fault ≡ past.Closed why = ap past_of e in (tells why).0 (ap (λ (f : PastFault). Err f) same),
  λ is. let same : fault ≡ past.Closed why = ap past_of ((tells why).1 is) in ap (λ (f : PastFault). Err f) same,
)

-- what was given was given by an open clone
pub open_gives : {T : Type 0} (given : T) (closed : Option Why) → ((why : Why) → IsErrOf {T = T} (Ok given) (past.Closed why) ↔ (closed ≡ Some why))
    → (why : Why) → ¬ (closed ≡ Some why)
open_gives given closed tells why is = let no = (tells why).1 is in cc

-- want of memory doesn't say that a clone is closed
memory_opens : {U : Type 0} (fault : PastFault) (why : Why) → fault ≡ past.NoMemory → ¬ IsErrOf {T = U} (Err fault) (past.Closed why)
memory_opens fault why memory e = let same : fault ≡ past.Closed why = ap past_of e in let no : past.NoMemory ≡ past.Closed why = sym memory ∙ same in cc

pub open_ends : {T U : Type 0} (given : T) (fault : PastFault) (closed : Option Why) → ((why : Why) → IsErrOf {T = T} (Ok given) (past.Closed why) ↔ (closed ≡ Some why))
    → fault ≡ past.NoMemory → (why : Why) → IsErrOf {T = U} (Err fault) (past.Closed why) ↔ (closed ≡ Some why)
open_ends given fault closed tells memory why = (
  λ e. absurd (memory_opens fault why memory e),
  λ is. absurd (open_gives given closed tells why is),
)

pub open_gives_too : {T U : Type 0} (given : T) (other : U) (closed : Option Why) → ((why : Why) → IsErrOf {T = T} (Ok given) (past.Closed why) ↔ (closed ≡ Some why))
    → (why : Why) → IsErrOf {T = U} (Ok other) (past.Closed why) ↔ (closed ≡ Some why)
open_gives_too given other closed tells why = (λ e. absurd (let no = e in cc), λ is. absurd (open_gives given closed tells why is))
