-- The state of a clone of a sound world at a clock is what the dots of the clock mean.
use Rattle.std.proofs.Common.{ℕ, List, [], ◌∷◌, ◌++◌, inl, inr, refl, sym, subst, arith}
use Rattle.std.specs.List.{AllZip}
use Rattle.tree_clock.specs.declared.dots.Range.{Range}
use Rattle.tree_clock.specs.Lists.{Has}
use Rattle.mld_ops.specs.declared.tagged.Tagged.{Tagged}
use Rattle.mld_ops.specs.Entry.{EntryValue}
use Rattle.mld_ops.specs.History.{Operation, IsClosed, IsLawful}
use Rattle.mld_ops.specs.Ready.{last_dot, IsKnownEntry}
use Rattle.mld_ops.proofs.MeaningLaws.{same_known}
use Rattle.op_fusion.specs.FusionLaws.{MayTake}
use Rattle.op_fusion.proofs.TakenRanges.{taken_is_closed}
use Rattle.mld_model.specs.Clone.{Stored}
use Rattle.mld_model.specs.Local.{LocalClone, LeadsTo}
use Rattle.mld_model.specs.Sound.{IsDoneRange, IsSoundClone}
use Rattle.mld_model.specs.StandsFor.{EntryStandsFor, kept_by}
use Rattle.mld_model.proofs.JournalLaws.{journal_over, journal_done}
use Rattle.mld_model.proofs.LocalLaws.{KnowsAs, taker_knows}
use Rattle.mld_model.proofs.SoundLaws.{live_sound}
use Rattle.clone_history.specs.PastStates.{IsStateAt, MeansAsDots}
use Rattle.clone_history.proofs.KeptLists.{pairs_kept}

-- some dots, which a clock and pairs are those of one who knows
record KnowsSome (history : List Operation) (ticks : List (List ℕ × ℕ)) (pairs : List Tagged) : Type 0 where
  dots : List Range
  knows : KnowsAs history dots ticks pairs

-- entries that stand for ranges that are done lead from what closed dots mean to what some dots mean
taken_knows : (history : List Operation) (known ranges : List Range) (ticks : List (List ℕ × ℕ)) (pairs : List Tagged) (entries : List EntryValue)
    (after : List (List ℕ × ℕ)) (new : List Tagged) → IsLawful history → IsClosed history known → ((range : Range) → Has ranges range → IsDoneRange history range)
    → AllZip (EntryStandsFor history) entries ranges → KnowsAs history known ticks pairs → LeadsTo ticks pairs entries after new → KnowsSome history after new
taken_knows history known [] ticks pairs [] after new lawful closed done all knows leads = record {
  dots = known;
  knows = subst (λ (ts : List (List ℕ × ℕ)). KnowsAs history known ts new) (sym leads.0) (subst (λ (ps : List Tagged). KnowsAs history known ticks ps) (sym leads.1) knows);
}
taken_knows history known (range ∷ ranges) ticks pairs (entry ∷ entries) after new lawful closed done all knows leads =
    let own : IsDoneRange history range = done range (inl refl) in
    let may : MayTake history known ticks range entry = record {
      lawful = lawful;
      closed = closed;
      alike = knows.known;
      first = own.positive;
      last = own.some;
      done = own.done (last_dot range) (record { path = refl; above = own.some; below = omega arith });
      net = all.0;
      ready = leads.2;
    } in
    taken_knows history (known ++ range ∷ []) ranges leads.0 leads.1 entries after new lawful (taken_is_closed history known ticks range entry may)
    (λ other h. done other (inr h)) all.1
    (taker_knows history known ticks pairs range entry leads.0 leads.1 knows all.0 own lawful closed leads.2 leads.3 leads.4) leads.5
taken_knows history known [] ticks pairs (entry ∷ entries) after new lawful closed done all knows leads = absurd all
taken_knows history known (range ∷ ranges) ticks pairs [] after new lawful closed done all knows leads = absurd all

-- so is the state at a clock
pub past_means : (clone : LocalClone) (ticks : List (List ℕ × ℕ)) (pairs : List Tagged) → IsStateAt clone ticks pairs → MeansAsDots clone ticks pairs
past_means clone ticks pairs state world number dots sound live alike =
    let stored : Stored = kept_by clone live.base live.journal in
    let own : IsSoundClone world.history stored = live_sound world number stored live.held sound live.live in
    let picked = pairs_kept (EntryStandsFor world.history) (IsKnownEntry ticks) clone.entries live.journal state.entries live.stands.kept.entries state.kept in
    let some : KnowsSome world.history ticks pairs =
    taken_knows world.history live.base picked.0 clone.base clone.base_pairs state.entries ticks pairs sound.lawful
    (journal_over world.history live.base live.journal own.journal)
    (λ range h. journal_done world.history live.base live.journal own.journal range (picked.2 range h)) picked.1
    (record { known = live.stands.kept.base; pairs = live.stands.kept.base_pairs }) state.leads in
    same_known world.history some.dots dots pairs (λ dot k. (alike dot).0 ((some.knows.known dot).1 k)) (λ dot k. (some.knows.known dot).0 ((alike dot).1 k)) some.knows.pairs
