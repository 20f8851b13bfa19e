-- A live clone that merges a snapshot, truncates its journal, or sends a snapshot keeps the world sound.
use Rattle.std.proofs.Common.{◌≡◌, ℕ, ◌-◌, List, [], ◌∷◌, ◌++◌, inl, inr, refl, sym, ◌∙◌, ap, subst, length, take, drop, append-nil, append_assoc}
use Rattle.std.proofs.lemmas.List.{take-append-drop}
use Rattle.tree_clock.specs.declared.dots.Dot.{Dot}
use Rattle.tree_clock.specs.declared.dots.Range.{Range}
use Rattle.tree_clock.specs.Dot.{Knows}
use Rattle.tree_clock.specs.DotLaws.{Knows-append}
use Rattle.mld_ops.specs.History.{Operation, IsClosed}
use Rattle.mld_model.specs.Clone.{Live, Stored, known_of, merged_with, truncated_to, Releases}
use Rattle.mld_model.specs.World.{World, SnapshotOf, clone_at, with_clone}
use Rattle.mld_model.specs.Sound.{IsSoundJournal, IsSoundClone, IsSound}
use Rattle.mld_model.proofs.ReleaseLaws.{releases_path, releases_left}
use Rattle.mld_model.proofs.SendingLaws.{said_sound}
use Rattle.mld_model.proofs.SoundLaws.{changed_sound, live_sound, releases_sound}

-- ---- truncating

-- a clone that truncates its journal knows the same dots, in the same order
pub known_truncated : (stored : Stored) (keep : ℕ) → known_of (truncated_to stored keep) ≡ known_of stored
known_truncated stored keep =
    let count : ℕ = length stored.journal - keep in
    append_assoc stored.base (take count stored.journal) (drop count stored.journal) ∙ ap (λ (ranges : List Range). stored.base ++ ranges) (take-append-drop count stored.journal)

module _ (history : List Operation) where
  -- what lies behind the front of a sound journal is sound over the dots that are known then
  pub journal_behind : (known front rest : List Range) → IsSoundJournal history known (front ++ rest) → IsSoundJournal history (known ++ front) rest
  journal_behind known [] rest sound = subst (λ (dots : List Range). IsSoundJournal history dots rest) (sym (append-nil known)) sound
  journal_behind known (range ∷ front) rest sound =
      subst (λ (dots : List Range). IsSoundJournal history dots rest) (append_assoc known (range ∷ []) front) (journal_behind (known ++ range ∷ []) front rest sound.2)

  -- a sound clone that truncates its journal is sound
  pub truncated_clone : (stored : Stored) (keep : ℕ) → IsSoundClone history stored → IsSoundClone history (truncated_to stored keep)
  truncated_clone stored keep sound =
      let count : ℕ = length stored.journal - keep in
      let same : known_of stored ≡ known_of (truncated_to stored keep) = sym (known_truncated stored keep) in
      let whole : IsSoundJournal history stored.base (take count stored.journal ++ drop count stored.journal) =
      subst (λ (ranges : List Range). IsSoundJournal history stored.base ranges) (sym (take-append-drop count stored.journal)) sound.journal in
      record {
        closed = subst (λ (dots : List Range). IsClosed history dots) same sound.closed;
        journal = journal_behind stored.base (take count stored.journal) (drop count stored.journal) whole;
        own = λ operation stands path. subst (λ (dots : List Range). Knows dots operation.dot) same (sound.own operation stands path);
        above = λ operation stands goes_on. subst (λ (dots : List Range). Knows dots operation.dot) same (sound.above operation stands goes_on);
        below = sound.below;
      }

  -- ---- merging

  -- the dots of two closed sets are closed
  pub closed_together : (known others : List Range) → IsClosed history known → IsClosed history others → IsClosed history (known ++ others)
  closed_together known others one other = record {
    done = λ dot k. elim ((Knows-append known others dot).0 k) [ inl m ↦ one.done dot m | inr m ↦ other.done dot m ];
    causes = λ operation stands k dot cause. (Knows-append known others dot).1 (elim ((Knows-append known others operation.dot).0 k) [
      | inl m ↦ inl (one.causes operation stands m dot cause)
      | inr m ↦ inr (other.causes operation stands m dot cause)
    ]);
  }

  -- a sound clone that merges closed dots is sound
  pub merged_clone : (stored : Stored) (dots : List Range) → IsClosed history dots → IsSoundClone history stored → IsSoundClone history (merged_with stored dots)
  merged_clone stored dots closed sound =
      let base : List Range = known_of stored ++ dots in
      let whole : IsClosed history base = closed_together (known_of stored) dots sound.closed closed in
      let same : base ≡ known_of (merged_with stored dots) = sym (append-nil base) in
      let still : (dot : Dot) → Knows (known_of stored) dot → Knows (known_of (merged_with stored dots)) dot =
      λ dot k. subst (λ (known : List Range). Knows known dot) same ((Knows-append (known_of stored) dots dot).1 (inl k)) in
      record {
        closed = subst (λ (known : List Range). IsClosed history known) same whole;
        journal = whole;
        own = λ operation stands path. still operation.dot (sound.own operation stands path);
        above = λ operation stands goes_on. still operation.dot (sound.above operation stands goes_on);
        below = sound.below;
      }

-- ---- worlds

-- a live clone of a sound world that truncates its journal keeps the world sound
pub truncated_sound : (world : World) (number : ℕ) (stored : Stored) (held : List Range) (keep : ℕ) → IsSound world → clone_at world number ≡ Live stored held
    → IsSound (with_clone world number (Live (truncated_to stored keep) held))
truncated_sound world number stored held keep sound live =
    changed_sound world number stored held sound live (truncated_to stored keep) held refl
    (truncated_clone world.history stored keep (live_sound world number stored held sound live)) (sound.held number stored held live)

-- a live clone of a sound world that merges closed dots, and takes what is released then, keeps the world sound
pub merged_sound : (world : World) (number : ℕ) (stored : Stored) (held dots taken : List Range) (after : Stored) (left : List Range) → IsSound world
    → clone_at world number ≡ Live stored held → IsClosed world.history dots → Releases world.history (merged_with stored dots) held taken after left
    → IsSound (with_clone world number (Live after left))
merged_sound world number stored held dots taken after left sound live closed releases =
    changed_sound world number stored held sound live after left (releases_path world.history (merged_with stored dots) held taken after left releases)
    (releases_sound world.history (merged_with stored dots) held taken after left sound.lawful
    (merged_clone world.history stored dots closed (live_sound world number stored held sound live)) (sound.held number stored held live) releases)
    (λ one h. sound.held number stored held live one (releases_left world.history (merged_with stored dots) held taken after left releases one h))

-- a live clone that sends a snapshot of all that it knows keeps the world sound
pub snapshot_sent_sound : (world : World) (number : ℕ) (stored : Stored) (held : List Range) → IsSound world → clone_at world number ≡ Live stored held
    → IsSound (record world { messages = world.messages ++ SnapshotOf (known_of stored) ∷ [] })
snapshot_sent_sound world number stored held sound live =
    said_sound world (SnapshotOf (known_of stored)) sound (live_sound world number stored held sound live).closed (λ id path dots same. cc)
