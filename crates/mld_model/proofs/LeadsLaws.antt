-- What taking entries in order leads to: it goes on from what a front of them leads to, it is one, and it stands for what their ranges mean.
use Rattle.std.proofs.Common.{◌≡◌, ℕ, max, List, [], ◌∷◌, ◌++◌, refl, sym, ◌∙◌, ap, subst, inl, inr, arith, append-nil, append_assoc}
use Rattle.std.specs.List.{AllZip}
use Rattle.tree_clock.specs.declared.dots.Dot.{Dot}
use Rattle.tree_clock.specs.declared.dots.Range.{Range}
use Rattle.tree_clock.specs.Lists.{Has, IsAscending}
use Rattle.tree_clock.specs.Clock.{ticks_of, Covers, RaisesTo}
use Rattle.tree_clock.proofs.ClockLaws.{by_order, less_apart}
use Rattle.mld_ops.specs.declared.tagged.Tagged.{Tagged}
use Rattle.mld_ops.specs.Tagged.{tagged_cmp}
use Rattle.mld_ops.specs.Entry.{EntryValue, IsEntry}
use Rattle.mld_ops.specs.Cut.{IsCutOf}
use Rattle.mld_ops.specs.History.{Operation, IsLawful}
use Rattle.mld_ops.specs.Ready.{last_dot, IsReadyEntry}
use Rattle.mld_ops.proofs.AscendingLaws.{same_ascending}
use Rattle.mld_ops.proofs.TaggedLaws.{tagged_total, tagged_exact}
use Rattle.mld_model.specs.Local.{LeadsTo}
use Rattle.mld_model.specs.Sound.{IsSoundJournal}
use Rattle.mld_model.specs.StandsFor.{EntryStandsFor}
use Rattle.mld_model.proofs.CompactedLaws.{covered_behind}
use Rattle.mld_model.proofs.JournalLaws.{journal_done}
use Rattle.mld_model.proofs.LocalLaws.{KnowsAs, taker_knows}

-- ---- a front of the entries, and the rest

-- where a list of entries leads from what it led to before, with another list behind it
pub record LeadsOver (ticks : List (List ℕ × ℕ)) (pairs : List Tagged) (front rest : List EntryValue) (after : List (List ℕ × ℕ)) (new : List Tagged) : Type 0 where
  pub middle : List (List ℕ × ℕ)
  pub half : List Tagged
  pub first : LeadsTo ticks pairs front middle half
  pub then : LeadsTo middle half rest after new

-- entries lead where their rest leads from what their front leads to
pub leads_over : (ticks : List (List ℕ × ℕ)) (pairs : List Tagged) (front rest : List EntryValue) (after : List (List ℕ × ℕ)) (new : List Tagged)
    → LeadsTo ticks pairs (front ++ rest) after new → LeadsOver ticks pairs front rest after new
leads_over ticks pairs [] rest after new leads = record { middle = ticks; half = pairs; first = (refl, refl); then = leads }
leads_over ticks pairs (entry ∷ front) rest after new leads =
    let over : LeadsOver leads.0 leads.1 front rest after new = leads_over leads.0 leads.1 front rest after new leads.5 in
    record {
      middle = over.middle;
      half = over.half;
      first = (leads.0, leads.1, leads.2, leads.3, leads.4, over.first);
      then = over.then;
    }

-- ---- by what ticks each path has

-- ticks that are the same at each path
abbrev pub AreSameTicks : List (List ℕ × ℕ) → List (List ℕ × ℕ) → Type 0
AreSameTicks ticks other = (path : List ℕ) → ticks_of ticks path ≡ ticks_of other path

-- such ticks have the same dots
same_covers : (ticks other : List (List ℕ × ℕ)) (dot : Dot) → AreSameTicks ticks other → Covers ticks dot → Covers other dot
same_covers ticks other dot same covered = record { positive = covered.positive; within = let w = covered.within in let e = same dot.path in omega (arith, w, e) }

-- and are the same once both are raised to one dot
raised_alike : (ticks other next after : List (List ℕ × ℕ)) (dot : Dot) → AreSameTicks ticks other → RaisesTo ticks next dot → RaisesTo other after dot
    → AreSameTicks next after
raised_alike ticks other next after dot same one two path =
    let away : ¬ (path ≡ dot.path) → ticks_of next path ≡ ticks_of after path = λ apart. one.others path apart ∙ same path ∙ sym (two.others path apart) in
    let at : ticks_of next dot.path ≡ ticks_of after dot.path = one.at ∙ ap (λ n. max n dot.tick) (same dot.path) ∙ sym two.at in
    by_order path dot.path
    (λ below. away (less_apart path dot.path below))
    (λ is. ap (ticks_of next) is ∙ at ∙ ap (ticks_of after) (sym is))
    (λ below. away (λ is. less_apart dot.path path below (sym is)))

-- what is raised from one is raised from the other
raises_from : (ticks other next : List (List ℕ × ℕ)) (dot : Dot) → AreSameTicks ticks other → RaisesTo ticks next dot → RaisesTo other next dot
raises_from ticks other next dot same raises = record {
  at = raises.at ∙ ap (λ n. max n dot.tick) (same dot.path);
  others = λ path apart. raises.others path apart ∙ same path;
}

-- an entry is ready for one where it is ready for the other
ready_from : (ticks other : List (List ℕ × ℕ)) (entry : EntryValue) → AreSameTicks ticks other → IsReadyEntry ticks entry → IsReadyEntry other entry
ready_from ticks other entry same ready = record {
  unknown = λ k. ready.unknown (same_covers other ticks (last_dot entry.range) (λ path. sym (same path)) k);
  before = let b = ready.before in let e = same entry.range.path in omega (arith, b, e);
  time = λ dot covered outside. same_covers ticks other dot same (ready.time dot covered outside);
}

-- the pairs behind an entry are one list
cut_once : (entry : EntryValue) (known : ℕ) (old one other : List Tagged) → IsCutOf entry known old one → IsCutOf entry known old other → one ≡ other
cut_once entry known old one other a b =
    same_ascending tagged_cmp tagged_total tagged_exact one other a.ascending b.ascending
    (λ pair h. (b.members pair).1 ((a.members pair).0 h)) (λ pair h. (a.members pair).1 ((b.members pair).0 h))

-- what entries lead to is one
pub leads_once : (ticks other : List (List ℕ × ℕ)) (pairs : List Tagged) (entries : List EntryValue) (after next : List (List ℕ × ℕ)) (new end : List Tagged)
    → AreSameTicks ticks other → LeadsTo ticks pairs entries after new → LeadsTo other pairs entries next end → AreSameTicks after next × (new ≡ end)
leads_once ticks other pairs [] after next new end same one two =
    ((λ path. ap (λ (ts : List (List ℕ × ℕ)). ticks_of ts path) one.0 ∙ same path ∙ ap (λ (ts : List (List ℕ × ℕ)). ticks_of ts path) (sym two.0)), one.1 ∙ sym two.1)
leads_once ticks other pairs (entry ∷ entries) after next new end same one two =
    let dot : Dot = last_dot entry.range in
    let cut : IsCutOf entry (ticks_of ticks entry.range.path) pairs two.1 =
    subst (λ (known : ℕ). IsCutOf entry known pairs two.1) (sym (same entry.range.path)) two.4 in
    let half : one.1 ≡ two.1 = cut_once entry (ticks_of ticks entry.range.path) pairs one.1 two.1 one.4 cut in
    leads_once one.0 two.0 one.1 entries after next new end (raised_alike ticks other one.0 two.0 dot same one.3 two.3) one.5
    (subst (λ (ps : List Tagged). LeadsTo two.0 ps entries next end) (sym half) two.5)

-- some entries lead to the same from ticks that are the same at each path
pub leads_from : (ticks other : List (List ℕ × ℕ)) (pairs : List Tagged) (entry : EntryValue) (entries : List EntryValue) (after : List (List ℕ × ℕ)) (new : List Tagged)
    → AreSameTicks ticks other → LeadsTo ticks pairs (entry ∷ entries) after new → LeadsTo other pairs (entry ∷ entries) after new
leads_from ticks other pairs entry entries after new same leads = (
  leads.0,
  leads.1,
  ready_from ticks other entry same leads.2,
  raises_from ticks other leads.0 (last_dot entry.range) same leads.3,
  subst (λ (known : ℕ). IsCutOf entry known pairs leads.1) (same entry.range.path) leads.4,
  leads.5,
)

-- ---- the pairs

-- the pairs still ascend
pub leads_ascend : (ticks : List (List ℕ × ℕ)) (pairs : List Tagged) (entries : List EntryValue) (after : List (List ℕ × ℕ)) (new : List Tagged)
    → LeadsTo ticks pairs entries after new → IsAscending tagged_cmp pairs → IsAscending tagged_cmp new
leads_ascend ticks pairs [] after new leads ascending = subst (λ (ps : List Tagged). IsAscending tagged_cmp ps) (sym leads.1) ascending
leads_ascend ticks pairs (entry ∷ entries) after new leads ascending = leads_ascend leads.0 leads.1 entries after new leads.5 leads.4.ascending

-- and the clock still has their dots
pub leads_cover : (ticks : List (List ℕ × ℕ)) (pairs : List Tagged) (entries : List EntryValue) (after : List (List ℕ × ℕ)) (new : List Tagged)
    → ((entry : EntryValue) → Has entries entry → IsEntry entry) → LeadsTo ticks pairs entries after new → ((pair : Tagged) → Has pairs pair → Covers ticks pair.dot)
    → (pair : Tagged) → Has new pair → Covers after pair.dot
leads_cover ticks pairs [] after new all leads covered pair h =
    subst (λ (ts : List (List ℕ × ℕ)). Covers ts pair.dot) (sym leads.0) (covered pair (subst (λ (ps : List Tagged). Has ps pair) leads.1 h))
leads_cover ticks pairs (entry ∷ entries) after new all leads covered pair h =
    leads_cover leads.0 leads.1 entries after new (λ one k. all one (inr k)) leads.5
    (covered_behind ticks leads.0 entry pairs leads.1 (all entry (inl refl)) leads.3 leads.4 covered) pair h

-- ---- the meaning

-- entries that stand for the ranges of a sound journal lead from what its known dots mean to what these mean with the ranges
pub leads_knows : (history : List Operation) (known ranges : List Range) (ticks : List (List ℕ × ℕ)) (pairs : List Tagged) (entries : List EntryValue)
    (after : List (List ℕ × ℕ)) (new : List Tagged)
    → IsLawful history → IsSoundJournal history known ranges → AllZip (EntryStandsFor history) entries ranges → KnowsAs history known ticks pairs
    → LeadsTo ticks pairs entries after new → KnowsAs history (known ++ ranges) after new
leads_knows history known [] ticks pairs [] after new lawful sound all knows leads =
    subst (λ (dots : List Range). KnowsAs history dots after new) (sym (append-nil known))
    (subst (λ (ts : List (List ℕ × ℕ)). KnowsAs history known ts new) (sym leads.0) (subst (λ (ps : List Tagged). KnowsAs history known ticks ps) (sym leads.1) knows))
leads_knows history known (range ∷ ranges) ticks pairs (entry ∷ entries) after new lawful sound all knows leads =
    let next : KnowsAs history (known ++ range ∷ []) leads.0 leads.1 =
    taker_knows history known ticks pairs range entry leads.0 leads.1 knows all.0 (journal_done history known (range ∷ ranges) sound range (inl refl)) lawful sound.0
    leads.2 leads.3 leads.4 in
    subst (λ (dots : List Range). KnowsAs history dots after new) (append_assoc known (range ∷ []) ranges)
    (leads_knows history (known ++ range ∷ []) ranges leads.0 leads.1 entries after new lawful sound.2 all.1 next leads.5)
leads_knows history known [] ticks pairs (entry ∷ entries) after new lawful sound all knows leads = absurd all
leads_knows history known (range ∷ ranges) ticks pairs [] after new lawful sound all knows leads = absurd all
