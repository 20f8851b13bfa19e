-- Sending messages that give no leaf keeps a world sound.
use Rattle.std.proofs.Common.{◌≡◌, ℕ, List, [], ◌∷◌, ◌++◌, inl, inr, refl, sym, subst, map, append-nil, append_assoc}
use Rattle.tree_clock.specs.declared.dots.Range.{Range}
use Rattle.tree_clock.specs.Lists.{Has}
use Rattle.mld_ops.proofs.AscendingLaws.{has_append}
use Rattle.mld_model.specs.Clone.{Live, Stored, known_of}
use Rattle.mld_model.specs.World.{World, Message, RangeOf, Want, JoinGive, clone_at}
use Rattle.mld_model.specs.Sound.{IsDoneRange, IsSoundMessage, IsOpenGive, IsSound}
use Rattle.mld_model.proofs.LeafLaws.{given_before}
use Rattle.mld_model.proofs.SoundLaws.{live_sound}

-- one message was sent
pub said_sound : (world : World) (message : Message) → IsSound world → IsSoundMessage world.history message
    → ((id : ℕ) (path : List ℕ) (dots : List Range) → ¬ (message ≡ JoinGive id path dots)) → IsSound (record world { messages = world.messages ++ message ∷ [] })
said_sound world message sound good none =
    let was_open : (place id : ℕ) (path : List ℕ) (dots : List Range) → IsOpenGive (record world { messages = world.messages ++ message ∷ [] }) place id path dots
    → IsOpenGive world place id path dots
    = λ place id path dots opened. record { sent = given_before world.messages message place id path dots (none id path dots) opened.sent; waits = opened.waits } in
    record {
      lawful = sound.lawful;
      count = sound.count;
      apart = sound.apart;
      clones = sound.clones;
      held = sound.held;
      gives_held = λ place id path dots number stored opened. sound.gives_held place id path dots number stored (was_open place id path dots opened);
      gives_apart = λ place id path dots second other leaf known differ opened too.
          sound.gives_apart place id path dots second other leaf known differ (was_open place id path dots opened) (was_open second other leaf known too);
      gives = λ place id path dots opened. sound.gives place id path dots (was_open place id path dots opened);
      messages = λ sent h. elim (has_append world.messages (message ∷ []) sent h) [
        | inl old ↦ sound.messages sent old
        | inr new ↦ elim new [ inl is ↦ subst (IsSoundMessage world.history) is good | inr past ↦ absurd past ]
      ];
    }

-- a live clone asked for what it lacks
pub wanted_sound : (world : World) (number : ℕ) (stored : Stored) (held : List Range) → IsSound world → clone_at world number ≡ Live stored held
    → IsSound (record world { messages = world.messages ++ Want (known_of stored) ∷ [] })
wanted_sound world number stored held sound live =
    said_sound world (Want (known_of stored)) sound (live_sound world number stored held sound live).closed.done (λ id path dots same. cc)

-- ranges that are done were sent
pub ranges_sent_sound : (ranges : List Range) (world : World) → IsSound world → ((range : Range) → Has ranges range → IsDoneRange world.history range)
    → IsSound (record world { messages = world.messages ++ map RangeOf ranges })
ranges_sent_sound [] world sound done = subst (λ (messages : List Message). IsSound (record world { messages = messages })) (sym (append-nil world.messages)) sound
ranges_sent_sound (range ∷ ranges) world sound done =
    subst (λ (messages : List Message). IsSound (record world { messages = messages })) (append_assoc world.messages (RangeOf range ∷ []) (map RangeOf ranges))
    (ranges_sent_sound ranges (record world { messages = world.messages ++ RangeOf range ∷ [] })
    (said_sound world (RangeOf range) sound (done range (inl refl)) (λ id path dots same. cc)) (λ one h. done one (inr h)))
