-- Joining from a snapshot.
use Rattle.std.proofs.Common.{◌≡◌, ◌∙◌, ℕ, ◌<◌, List, [], ◌∷◌, ◌++◌, length, sym, ap, subst, inl, inr}
use Rattle.mld_ops.specs.declared.messages.Give.{Give}
use Rattle.mld_ops.specs.declared.messages.Message.{Message}
use Rattle.mld_ops.specs.declared.messages.Message.TheVariants as message
use Rattle.mld_ops.specs.declared.messages.Snapshot.{Snapshot}
use Rattle.mld_ops.specs.Messages.{SnapshotValue, GiveValue, snapshot_value, give_value, message_value, IsGoodSnapshot, IsGoodMessage}
use Rattle.tree_clock.specs.Limits.{path_limit}
use Rattle.tree_clock.specs.Path.{zero_letter, one_letter}
use Rattle.tree_clock.specs.Lists.{Has}
use Rattle.mld_model.specs.Local.{LocalClone, LocalAsker, IsLocal, snapshot_of, joined_clone}
use Rattle.clone_parts.proofs.MakingLaws.{local_ascends}
use Rattle.clone_core.specs.Banked.{BankedAsker}
use Rattle.clone_core.specs.Joining.{LocallyGives, AreGood, IsGiveFor, LocallyAdopts, TakesGive}
use Rattle.clone_core.specs.declared.askers.Adopted.{Adopted}
use Rattle.clone_core.specs.declared.askers.Adopted.TheVariants as adopted

-- the clone that begins with a copy of the snapshot at the given path is the one that joins
pub joins_as : (asker : LocalAsker) (give : Give) (base : SnapshotValue) (id path : List ℕ) (new : LocalClone) → base ≡ snapshot_value give.snapshot
    → path ≡ give.path → new ≡ joined_clone asker (record { id = id; path = path; snapshot = base }) → new ≡ joined_clone asker (give_value give)
joins_as asker give base id path new copy at e =
    e ∙ (λ i. joined_clone asker (record { id = id; path = at i; snapshot = copy i }))

-- the member of a list of one
only : {X : Type 0} (x y : X) → Has (x ∷ []) y → x ≡ y
only x y (inl e) = e
only x y (inr none) = absurd none

-- what a clone knows and has may be given
pub has_good : (clone : LocalClone) → IsLocal clone → IsGoodSnapshot (snapshot_of clone)
has_good clone local = record { ascending = local_ascends clone local; covered = local.covered }

-- the clone that keeps the left half of its path forked for who asks, where it gives the right half with a snapshot
pub forks_as : (old : LocalClone) (id left right : List ℕ) (snapshot : Snapshot) (messages : List Message) → length old.path < path_limit
    → snapshot_value snapshot ≡ snapshot_of old → left ≡ old.path ++ zero_letter ∷ [] → right ≡ old.path ++ one_letter ∷ []
    → messages ≡ message.JoinGive (record { id = id; path = right; snapshot = snapshot }) ∷ [] → LocallyGives old id messages (record old { path = left })
forks_as old id left right snapshot messages room have l r e = (
  record { id = id; path = right; snapshot = snapshot },
  e,
  record {
    room = room;
    left = ap (λ (path : List ℕ). record old { path = path }) l;
    right = λ i. record { id = id; path = r i; snapshot = have i };
  },
)

-- what a clone gives is good
pub gives_good : (old new : LocalClone) (id : List ℕ) (messages : List Message) → IsLocal old → LocallyGives old id messages new → AreGood messages
gives_good old new id messages local gives sent has =
    let is : message.JoinGive gives.0 ≡ sent = only (message.JoinGive gives.0) sent (subst (λ (ms : List Message). Has ms sent) gives.1 has) in
    let have = ap (λ (give : GiveValue). give.snapshot) gives.2.right in
    subst (λ (one : Message). IsGoodMessage (message_value one)) is (subst (λ (s : SnapshotValue). IsGoodSnapshot s) (sym have) (has_good old local))

-- a fork changes nothing that a clone keeps to
pub forked_local : (old : LocalClone) (left : List ℕ) → IsLocal old → IsLocal (record old { path = left })
forked_local old left local = record {
  named = local.named;
  base = local.base;
  base_pairs = local.base_pairs;
  base_covered = local.base_covered;
  leads = local.leads;
  covered = local.covered;
  held = local.held;
}

-- one who asks took what the message gave it
pub adopts_as : {B : Type 0} (old : BankedAsker B) (sent : Message) (give : Give) (result : Adopted B) → IsGiveFor old.asker sent give → TakesGive old give result → LocallyAdopts old sent result
adopts_as old sent give (adopted.Joined new) is h = (give, is, h.0, h.1, h.2)
adopts_as old sent give (adopted.Ignored same) is h = absurd h
adopts_as old sent give (adopted.Refused fault banks) is h = (give, is)

-- what a good message gives may be taken
pub gives_taken : (asker : LocalAsker) (sent : Message) (give : Give) → IsGiveFor asker sent give → IsGoodMessage (message_value sent) → IsGoodSnapshot (snapshot_value give.snapshot)
gives_taken asker sent give is good = subst (λ (m : Message). IsGoodMessage (message_value m)) is.is good
