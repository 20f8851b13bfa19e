-- What a clone alone answers to a message stands for what the model's clone answers.
use Rattle.std.proofs.Common.{◌≡◌, ◌≢◌, ℕ, ◌<◌, ◌≤◌, List, [], ◌∷◌, ◌++◌, ◌↔◌, refl, sym, ◌∙◌, ap, arith, subst, map, append-nil}
use Rattle.std.specs.List.{AllZip}
use Rattle.tree_clock.specs.Path.{one_letter}
use Rattle.tree_clock.specs.declared.dots.Dot.{Dot}
use Rattle.tree_clock.specs.declared.dots.Range.{Range}
use Rattle.tree_clock.specs.Lists.{Has}
use Rattle.tree_clock.specs.Dot.{Knows}
use Rattle.tree_clock.specs.Clock.{Covers}
use Rattle.mld_ops.specs.Entry.{EntryValue}
use Rattle.mld_ops.specs.Held.{ranges_of}
use Rattle.mld_ops.specs.History.{Operation}
use Rattle.mld_ops.specs.Messages.{GiveValue, MessageValue, CarriesEntry, CarriesWant, CarriesSnapshot, CarriesAsk, CarriesGive}
use Rattle.mld_ops.specs.Picking.{DropsThose}
use Rattle.mld_ops.specs.Ready.{IsKnownEntry}
use Rattle.mld_ops.proofs.PickingLaws.{pairs_drop}
use Rattle.mld_model.specs.Clone.{Asking, Stored, known_of, IsKnown, IsHeldBack, AreKnownTo}
use Rattle.mld_model.specs.CloneStep.{leaves_it, Takes, joined_with}
use Rattle.mld_model.specs.Local.{LocalAsker, LocalClone, LocallyForks, LocallyTruncates, MustBeHeld, IsSameOne, joined_clone}
use Rattle.mld_model.specs.Reply.{Ignored}
use Rattle.mld_model.specs.StandsFor.{EntryStandsFor, LocalStandsFor, SnapshotStandsFor, GiveStandsFor, MessageStandsFor, IsCloneOf, IsAskerOf, id_of}
use Rattle.mld_model.specs.World.{World, Message, RangeOf, Want, SnapshotOf, JoinAsk, JoinGive, clone_count}
use Rattle.mld_model.proofs.CompactedStands.{same_ranges}
use Rattle.mld_model.proofs.LocalLaws.{known_alike, ready_alike}
use Rattle.mld_model.proofs.StandsForLaws.{same_number}

-- ---- an entry

-- the entry would have to be held back in the model too
pub must_be_held : (world : World) (live : LocalClone) (stored : Stored) (held : List Range) (range : Range) (entry : EntryValue) → LocalStandsFor world.history live stored held
    → EntryStandsFor world.history entry range → 1 ≤ range.first → MustBeHeld live entry → IsHeldBack world.history (known_of stored) range
must_be_held world live stored held range entry stands entry_stands positive must = record {
  unknown = λ k. must.unknown ((known_alike world.history live.ticks (known_of stored) stands.known range entry entry_stands).1 k);
  unready = λ r. must.unready ((ready_alike world.history live.ticks (known_of stored) stands.known range entry entry_stands positive).1 r);
}

-- a range is held just where an entry of it is
pub held_alike : (history : List Operation) (entries : List EntryValue) (ranges : List Range) (entry : EntryValue) (range : Range) → AllZip (EntryStandsFor history) entries ranges
    → entry.range ≡ range → Has (ranges_of entries) entry.range ↔ Has ranges range
held_alike history entries ranges entry range all same = (
  λ h. subst (λ (r : Range). Has ranges r) same (subst (λ (rs : List Range). Has rs entry.range) (same_ranges history entries ranges all) h),
  λ h. subst (λ (rs : List Range). Has rs entry.range) (sym (same_ranges history entries ranges all)) (subst (λ (r : Range). Has ranges r) (sym same) h),
)

-- ---- a want

-- entries that stand for ranges do so as messages
pub entries_sent : (history : List Operation) (entries : List EntryValue) (ranges : List Range) → AllZip (EntryStandsFor history) entries ranges
    → AllZip (MessageStandsFor history) (map CarriesEntry entries) (map RangeOf ranges)
entries_sent history [] [] all = tt
entries_sent history (entry ∷ entries) (range ∷ ranges) all = (all.0, entries_sent history entries ranges all.1)
entries_sent history [] (range ∷ ranges) all = absurd all
entries_sent history (entry ∷ entries) [] all = absurd all

-- ranges for which some entries stand are some
pub some_ranges : (history : List Operation) (entries : List EntryValue) (ranges : List Range) → AllZip (EntryStandsFor history) entries ranges → entries ≢ [] → ranges ≢ []
some_ranges history [] ranges all some none = some refl
some_ranges history (entry ∷ entries) [] all some none = all
some_ranges history (entry ∷ entries) (range ∷ ranges) all some none = cc

-- and those for which none stand are none
pub no_ranges : (history : List Operation) (ranges : List Range) → AllZip (EntryStandsFor history) [] ranges → ranges ≡ []
no_ranges history [] all = refl
no_ranges history (range ∷ ranges) all = absurd all

-- what a live clone answers to a want, in the model
module _ (history : List Operation) (live : LocalClone) (stored : Stored) (held dots : List Range) (ticks : List (List ℕ × ℕ)) (entries : List EntryValue)
    (stands : LocalStandsFor history live stored held) (alike : (dot : Dot) → Covers ticks dot ↔ Knows dots dot) where
  pub base_known_to : ((dot : Dot) → Covers live.base dot → Covers ticks dot) → AreKnownTo stored.base dots
  base_known_to within dot known = (alike dot).0 (within dot ((stands.kept.base dot).1 known))

  pub ranges_left : DropsThose (IsKnownEntry ticks) live.entries entries
      → (ranges : List Range) × DropsThose (IsKnown dots) stored.journal ranges × AllZip (EntryStandsFor history) entries ranges
  ranges_left drops =
      pairs_drop (EntryStandsFor history) (IsKnownEntry ticks) (IsKnown dots) (λ entry range net. known_alike history ticks dots alike range entry net)
      live.entries stored.journal entries stands.kept.entries drops

-- ---- a leaf

-- the ids of two clones of a world are equal just where their numbers are
pub number_of_id : (one other : ℕ) → one < clone_count → other < clone_count → id_of one ≡ id_of other → one ≡ other
number_of_id one other below under same = same_number one other (omega (arith, below)) (omega (arith, under)) same

-- the numbers of two clones differ where their ids do
pub others_ask : (world : World) (number asked : ℕ) (id : List ℕ) (live : LocalClone) → IsCloneOf world number live → id ≡ id_of asked → id ≢ live.id → asked ≢ number
others_ask world number asked id live is of differs same = differs (of ∙ ap id_of same ∙ sym is.id)

-- the leaf that a clone gives stands for the one that the model's clone gives
pub give_stands : (world : World) (asked : ℕ) (id : List ℕ) (live new : LocalClone) (give : GiveValue) (stored : Stored) (held : List Range) → LocallyForks live id new give
    → id ≡ id_of asked → LocalStandsFor world.history live stored held → GiveStandsFor world.history give asked (stored.path ++ one_letter ∷ []) (known_of stored)
give_stands world asked id live new give stored held gives is stands =
    subst (λ (g : GiveValue). GiveStandsFor world.history g asked (stored.path ++ one_letter ∷ []) (known_of stored)) (sym gives.right) (record {
      id = is;
      leaf = ap (λ path. path ++ one_letter ∷ []) stands.kept.path;
      snapshot = record { known = stands.known; pairs = stands.pairs };
    })

-- a clone that took a leaf stands for what the model's clone keeps then
pub joined_stands : (history : List Operation) (asker : LocalAsker) (give : GiveValue) (number : ℕ) (path : List ℕ) (dots : List Range)
    → GiveStandsFor history give number path dots → LocalStandsFor history (joined_clone asker give) (joined_with path dots) []
joined_stands history asker give number path dots stands =
    let same : SnapshotStandsFor history give.snapshot (dots ++ []) = subst (λ (d : List Range). SnapshotStandsFor history give.snapshot d) (sym (append-nil dots)) stands.snapshot in
    record {
      kept = record { path = stands.leaf; base = stands.snapshot.known; base_pairs = stands.snapshot.pairs; entries = tt };
      held = tt;
      known = same.known;
      pairs = same.pairs;
    }

-- what one who asks does with a message that gives it no leaf
pub passed_over : (world : World) (number : ℕ) (asker : LocalAsker) (what : MessageValue) (other : Message) → IsAskerOf world number asker
    → ((give : GiveValue) → what ≡ CarriesGive give → give.id ≢ asker.id) → MessageStandsFor world.history what other → Takes world number other Asking Ignored world
passed_over world number asker (CarriesGive give) (JoinGive id path dots) is none relates = leaves_it (λ same. none give refl (relates.id ∙ ap id_of same ∙ sym is.id)) (refl, refl)
passed_over world number asker (CarriesEntry entry) (RangeOf range) is none relates = (refl, refl)
passed_over world number asker (CarriesWant ticks) (Want dots) is none relates = (refl, refl)
passed_over world number asker (CarriesSnapshot snapshot) (SnapshotOf dots) is none relates = (refl, refl)
passed_over world number asker (CarriesAsk id) (JoinAsk asked) is none relates = (refl, refl)
passed_over world number asker what other is none relates = absurd relates

-- ---- who the clone is

-- a clone that merged is still the one of its number
pub merged_clone_of : (world : World) (number : ℕ) (old new : LocalClone) → IsSameOne old new → IsCloneOf world number old → IsCloneOf world number new
merged_clone_of world number old new same is = record {
  id = same.id ∙ is.id;
  domain = same.domain ∙ is.domain;
  properties = same.properties ∙ is.properties;
}

-- nor is one that truncated its journal another
pub truncated_clone_of : (world : World) (number keep : ℕ) (old new : LocalClone) → LocallyTruncates old keep new → IsCloneOf world number old → IsCloneOf world number new
truncated_clone_of world number keep old new truncates is = record {
  id = ap (λ (clone : LocalClone). clone.id) truncates.rest ∙ is.id;
  domain = ap (λ (clone : LocalClone). clone.domain) truncates.rest ∙ is.domain;
  properties = ap (λ (clone : LocalClone). clone.properties) truncates.rest ∙ is.properties;
}
