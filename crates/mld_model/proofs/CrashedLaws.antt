-- A world in which no less is kept and no more was said is sound where the other is; so is one after a crash.
use Rattle.std.specs.Prelude.{Option, Some, None, MatchOption, slice_get}
use Rattle.std.proofs.Common.{◌≡◌, ◌≢◌, ℕ, zero, suc, ◌<◌, List, [], ◌∷◌, ◌++◌, inl, inr, refl, sym, ◌∙◌, ap, subst, length, append-nil}
use Rattle.std.proofs.lemmas.Bool.{cases_eq}
use Rattle.std.proofs.lemmas.List.{get_or-set_same, get_or-set_other, length-set}
use Rattle.tree_clock.specs.declared.dots.Range.{Range}
use Rattle.tree_clock.specs.Lists.{Has}
use Rattle.mld_ops.specs.History.{Operation, IsLawful}
use Rattle.mld_model.specs.Clone.{Clone, Absent, Live, Stored, kept_of}
use Rattle.mld_model.specs.World.{World, Message, JoinGive, clone_at, with_clone}
use Rattle.mld_model.specs.Sound.{Keeps, IsSoundClone, IsDoneRange, IsSoundMessage, IsOpenGive, IsSoundGive, IsSound}
use Rattle.mld_model.specs.Durable.{DurableStep, kept_after, history_after}
use Rattle.mld_model.specs.CrashFronts.{down_with, with_clone_down, after_crash}
use Rattle.mld_model.proofs.SoundLaws.{changed_sound}
use Rattle.mld_model.proofs.FrontLaws.{StandsBetween}

-- ---- worlds that keep the same

-- the other world has the same history, its clones keep the same, and it has nothing held back and nothing sent that the first hasn't
pub record KeepsAlike (world other : World) : Type 0 where
  pub history : other.history ≡ world.history
  pub count : length other.clones ≡ length world.clones
  pub kept : (number : ℕ) → kept_of (clone_at other number) ≡ kept_of (clone_at world number)
  pub held : (number : ℕ) (stored : Stored) (held : List Range) → clone_at other number ≡ Live stored held → clone_at world number ≡ Live stored held
  pub more : List Message
  pub said : world.messages ≡ other.messages ++ more

-- what stands at a place stands there in front of more
place_in_front : (messages more : List Message) (place : ℕ) (message : Message) → slice_get messages place ≡ Some message
    → slice_get (messages ++ more) place ≡ Some message
place_in_front [] more place message is = absurd (cc is)
place_in_front (first ∷ messages) more zero message is = is
place_in_front (first ∷ messages) more (suc place) message is = place_in_front messages more place message is

has_in_front : (messages more : List Message) (message : Message) → Has messages message → Has (messages ++ more) message
has_in_front [] more message has = absurd has
has_in_front (first ∷ messages) more message (inl same) = inl same
has_in_front (first ∷ messages) more message (inr has) = inr (has_in_front messages more message has)

module _ (world other : World) (alike : KeepsAlike world other) where
  -- who keeps something there keeps it here
  keeps_here : (number : ℕ) (stored : Stored) → Keeps (clone_at other number) stored → Keeps (clone_at world number) stored
  keeps_here number stored = subst (λ (kept : Option Stored). MatchOption kept ⊥ (λ it. it ≡ stored)) (alike.kept number)

  pub keeps_there : (number : ℕ) (stored : Stored) → Keeps (clone_at world number) stored → Keeps (clone_at other number) stored
  keeps_there number stored = subst (λ (kept : Option Stored). MatchOption kept ⊥ (λ it. it ≡ stored)) (sym (alike.kept number))

  -- a leaf that is open there is open here
  opened_here : (place id : ℕ) (path : List ℕ) (dots : List Range) → IsOpenGive other place id path dots → IsOpenGive world place id path dots
  opened_here place id path dots opened = record {
    sent = subst (λ (messages : List Message). slice_get messages place ≡ Some (JoinGive id path dots)) (sym alike.said)
        (place_in_front other.messages alike.more place (JoinGive id path dots) opened.sent);
    waits = λ stored keeps. opened.waits stored (keeps_there id stored keeps);
  }

  -- so it is sound
  pub alike_sound : IsSound world → IsSound other
  alike_sound sound =
      let past : world.history ≡ other.history = sym alike.history in
      record {
        lawful = subst IsLawful past sound.lawful;
        count = alike.count ∙ sound.count;
        apart = λ one second stored kept differ here there. sound.apart one second stored kept differ (keeps_here one stored here) (keeps_here second kept there);
        clones = λ number stored keeps. subst (λ (h : List Operation). IsSoundClone h stored) past (sound.clones number stored (keeps_here number stored keeps));
        held = λ number stored held live range h. subst (λ (hs : List Operation). IsDoneRange hs range) past (sound.held number stored held (alike.held number stored held live) range h);
        gives_held = λ place id path dots number stored opened keeps.
            sound.gives_held place id path dots number stored (opened_here place id path dots opened) (keeps_here number stored keeps);
        gives_apart = λ place id path dots second third leaf known differ opened too.
            sound.gives_apart place id path dots second third leaf known differ (opened_here place id path dots opened) (opened_here second third leaf known too);
        gives = λ place id path dots opened. subst (λ (h : List Operation). IsSoundGive h path dots) past (sound.gives place id path dots (opened_here place id path dots opened));
        messages = λ message sent. subst (λ (h : List Operation). IsSoundMessage h message) past (sound.messages message
            (subst (λ (ms : List Message). Has ms message) (sym alike.said) (has_in_front other.messages alike.more message sent)));
      }

-- ---- a clone that is down

-- it keeps what it is down with
pub down_keeps : (kept : Option Stored) → kept_of (down_with kept) ≡ kept
down_keeps None = refl
down_keeps (Some stored) = refl

-- and isn't live
pub down_not_live : (kept : Option Stored) (stored : Stored) (held : List Range) → down_with kept ≢ Live stored held
down_not_live None stored held is = cc
down_not_live (Some other) stored held is = cc

-- ---- a world after a crash

-- The clone of the number is in the list. In some world the same was done, and what it keeps there is what these steps leave; more may have been
-- sent.
pub record StandsAs (world like : World) (number : ℕ) (steps : List DurableStep) : Type 0 where
  pub history : like.history ≡ history_after world.history steps
  pub kept : kept_of (clone_at like number) ≡ kept_after (kept_of (clone_at world number)) steps
  pub others : (other : ℕ) → other ≢ number → clone_at like other ≡ clone_at world other
  pub count : length like.clones ≡ length world.clones
  pub more : List Message
  pub said : like.messages ≡ world.messages ++ more

module _ (world like : World) (number : ℕ) (steps : List DurableStep) (inside : number < length world.clones) (stands : StandsAs world like number steps) where
  crashed_at : clone_at (after_crash world number steps) number ≡ down_with (kept_after (kept_of (clone_at world number)) steps)
  crashed_at = get_or-set_same world.clones number (down_with (kept_after (kept_of (clone_at world number)) steps)) Absent inside

  crashed_other : (other : ℕ) → other ≢ number → clone_at (after_crash world number steps) other ≡ clone_at world other
  crashed_other other differs = get_or-set_other world.clones number other (down_with (kept_after (kept_of (clone_at world number)) steps)) Absent differs

  crashed_kept : (other : ℕ) → kept_of (clone_at (after_crash world number steps) other) ≡ kept_of (clone_at like other)
  crashed_kept other = elim (cases_eq other number) [
    | inl here ↦ subst (λ (k : ℕ). kept_of (clone_at (after_crash world number steps) k) ≡ kept_of (clone_at like k)) (sym here)
        (ap kept_of crashed_at ∙ down_keeps (kept_after (kept_of (clone_at world number)) steps) ∙ sym stands.kept)
    | inr differs ↦ ap kept_of (crashed_other other differs ∙ sym (stands.others other differs))
  ]

  crashed_held : (other : ℕ) (stored : Stored) (held : List Range) → clone_at (after_crash world number steps) other ≡ Live stored held
      → clone_at like other ≡ Live stored held
  crashed_held other stored held live = elim (cases_eq other number) [
    | inl here ↦ absurd (down_not_live (kept_after (kept_of (clone_at world number)) steps) stored held
        (sym crashed_at ∙ subst (λ (k : ℕ). clone_at (after_crash world number steps) k ≡ Live stored held) here live))
    | inr differs ↦ stands.others other differs ∙ sym (crashed_other other differs) ∙ live
  ]

  -- the world after the crash keeps what that one keeps
  pub crashed_alike : KeepsAlike like (after_crash world number steps)
  crashed_alike = record {
    history = sym stands.history;
    count = length-set world.clones number (down_with (kept_after (kept_of (clone_at world number)) steps)) ∙ sym stands.count;
    kept = crashed_kept;
    held = crashed_held;
    more = stands.more;
    said = stands.said;
  }

  -- so it is sound where that one is
  pub crashed_sound : IsSound like → IsSound (after_crash world number steps)
  crashed_sound = alike_sound like (after_crash world number steps) crashed_alike

-- where no step stands the world stands as it was
pub stands_as_it_was : (world : World) (number : ℕ) → StandsAs world world number []
stands_as_it_was world number =
    record { history = refl; kept = refl; others = λ other differs. refl; count = refl; more = []; said = sym (append-nil world.messages) }

-- a live clone that took some of the ranges stands as one that keeps what is between
module _ (world : World) (number : ℕ) (stored : Stored) (held : List Range) (live : clone_at world number ≡ Live stored held)
    (inside : number < length world.clones) (front : List DurableStep) (p : StandsBetween (IsSound world) world.history stored front) where
  pub stands_as_between : StandsAs world (with_clone world number (Live p.between [])) number front
  stands_as_between = record {
    history = sym p.made;
    kept = ap kept_of (get_or-set_same world.clones number (Live p.between []) Absent inside) ∙ sym p.kept
        ∙ ap (λ (c : Clone). kept_after (kept_of c) front) (sym live);
    others = λ other differs. get_or-set_other world.clones number other (Live p.between []) Absent differs;
    count = length-set world.clones number (Live p.between []);
    more = [];
    said = sym (append-nil world.messages);
  }

  pub between_sound : IsSound world → IsSound (with_clone world number (Live p.between []))
  between_sound sound = changed_sound world number stored held sound live p.between [] p.path (p.sound sound) (λ range h. absurd h)

-- and a world whose clone is down with what it keeps is sound
pub down_sound : (world : World) (number : ℕ) → number < length world.clones → IsSound world → IsSound (with_clone_down world number)
down_sound world number inside = crashed_sound world world number [] inside (stands_as_it_was world number)
