-- A snapshot is merged in memory, and what it releases is taken.
use Rattle.std.proofs.Common.{◌≡◌, ◌∙◌, ℕ, List, [], ◌∷◌, ◌++◌, sym, ap, subst, inl, inr}
use Rattle.std.specs.List.{AllByRecursion}
use Rattle.tree_clock.specs.Lists.{Has, IsAscending}
use Rattle.mld_ops.specs.declared.tagged.Tagged.{Tagged}
use Rattle.mld_ops.specs.Applies.{Applies}
use Rattle.mld_ops.specs.Entry.{EntryValue, IsEntry}
use Rattle.mld_ops.specs.Held.{ranges_of}
use Rattle.mld_ops.specs.Tagged.{tagged_cmp}
use Rattle.mld_model.specs.Local.{LeadsTo, LocallyReleases}
use Rattle.mld_model.proofs.LeadsLaws.{leads_cover}
use Rattle.suset.specs.SnapshotJoin.{CoversAll}
use Rattle.clone_parts.specs.Merges.{IsReleasedFrom}
use Rattle.clone_parts.specs.Plans.{IsGrownFrom, TakesNothing, PlansReleases, left_of}
use Rattle.clone_parts.specs.declared.merges.Released.{Released}
use Rattle.clone_parts.specs.declared.plans.Growing.{Growing}
use Rattle.clone_parts.proofs.Planning.{nothing_from}

each_entry : (entries : List EntryValue) → AllByRecursion IsEntry entries → (entry : EntryValue) → Has entries entry → IsEntry entry
each_entry [] all entry h = absurd h
each_entry (first ∷ entries) all entry (inl same) = subst IsEntry same all.0
each_entry (first ∷ entries) all entry (inr h) = each_entry entries all.1 entry h

-- a plan that began with nothing, and has grown by what its clock releases, once its cut is applied to the pairs
pub released_from : (ticks : List (List ℕ × ℕ)) (pairs : List Tagged) (held : List EntryValue) (empty all : Growing) (after : Released)
    → IsAscending tagged_cmp pairs → CoversAll ticks pairs → TakesNothing ticks empty → PlansReleases pairs empty held all (left_of after.left held)
    → Applies all.drops all.adds pairs after.pairs.pairs
    → after.clock ≡ all.clock → after.entries.items ≡ all.entries.items → after.ranges ≡ all.ranges → IsReleasedFrom ticks pairs held after
released_from ticks pairs held empty all after ascending covered e r applies clock entries ranges =
    let grown : IsGrownFrom ticks pairs all = r.leads ticks ascending (nothing_from ticks pairs empty ascending e) in
    let ticks_are = ap (λ k. k.ticks) clock in
    let are = subst (λ (es : List EntryValue). AllByRecursion IsEntry es) (sym entries) grown.are_entries in
    let leads = subst (λ (es : List EntryValue). LeadsTo ticks pairs es after.clock.ticks after.pairs.pairs) (sym entries)
    (subst (λ (ts : List (List ℕ × ℕ)). LeadsTo ticks pairs all.entries.items ts after.pairs.pairs) (sym ticks_are) (grown.leads after.pairs.pairs applies)) in
    let taken : r.taken ≡ after.entries.items = sym (entries ∙ r.entries ∙ ap (λ (es : List EntryValue). es ++ r.taken) e.entries) in
    record {
      are_entries = are;
      releases = subst (λ (es : List EntryValue). LocallyReleases ticks held es after.clock.ticks (left_of after.left held)) taken
          (subst (λ (ts : List (List ℕ × ℕ)). LocallyReleases ticks held r.taken ts (left_of after.left held)) (sym ticks_are)
          (subst (λ (ts : List (List ℕ × ℕ)). LocallyReleases ts held r.taken all.clock.ticks (left_of after.left held)) e.clock r.releases));
      leads = leads;
      covered = leads_cover ticks pairs after.entries.items after.clock.ticks after.pairs.pairs (each_entry after.entries.items are) leads covered;
      ranges = ranges ∙ grown.ranges ∙ ap ranges_of (sym entries);
    }
