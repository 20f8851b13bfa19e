-- Frames that are taken, one more, and those that are dropped.
use Rattle.std.proofs.Common.{◌≡◌, ◌⊎◌, true, false, List, [], ◌∷◌, ◌++◌, Option, None, Some, sym, ◌∙◌, subst, inl, inr, append_assoc, append-nil}
use Rattle.std.proofs.lemmas.Bool.{false≢true}
use Rattle.node_model.specs.clone_parts.KeptSteps.{KeptStep}
use Rattle.wire_frames.specs.declared.kinds.Frame.{Frame}
use Rattle.node_model.specs.declared.connections.Connection.{Connection}
use Rattle.node_model.specs.Exchanges.{ExchangeValue}
use Rattle.node_model.specs.Keepers.{Keeper}
use Rattle.node_model.specs.FrameSteps.{FrameStep, FramesStep, no_more, are_dropped, and_then}

some_none : (one : Connection) → ¬ (◌≡◌ {A = Option Connection} (Some one) None)
some_none one h = cc

-- an exchange that goes on drops no frame
not_dropped : (exchange : ExchangeValue) (one : Connection) → exchange.halted ≡ false → exchange.at_hand ≡ Some one
    → ¬ ((exchange.halted ≡ true) ⊎ (exchange.at_hand ≡ None))
not_dropped exchange one goes hand (inl halted) = false≢true (sym goes ∙ halted)
not_dropped exchange one goes hand (inr none) = some_none one (sym hand ∙ none)

-- one frame more is taken
pub frames_more : (keeper : Keeper) (frames : List Frame) (exchange : ExchangeValue) (steps : List KeptStep) (middle : Keeper) (between : ExchangeValue)
    → FramesStep keeper frames exchange steps middle between → (one : Connection) (frame : Frame) → between.halted ≡ false → between.at_hand ≡ Some one
    → (more : List KeptStep) (next : Keeper) (after : ExchangeValue) → FrameStep middle one frame between more next after
    → FramesStep keeper (frames ++ frame ∷ []) exchange (steps ++ more) next after
frames_more keeper frames exchange steps middle between (no_more k e) one frame goes hand more next after does =
    subst (λ (s : List KeptStep). FramesStep k (frame ∷ []) e s next after) (append-nil more)
    (and_then k one frame [] e goes hand more next after does [] next after (no_more next after))
frames_more keeper frames exchange steps middle between (are_dropped k fs e why) one frame goes hand more next after does =
    absurd (not_dropped e one goes hand why)
frames_more keeper frames exchange steps middle between (and_then k c f fs e fresh held first inner along does_one rest end last does_rest) one frame goes hand more next after does =
    subst (λ (s : List KeptStep). FramesStep k (f ∷ (fs ++ frame ∷ [])) e s next after) (sym (append_assoc first rest more))
    (and_then k c f (fs ++ frame ∷ []) e fresh held first inner along does_one (rest ++ more) next after
    (frames_more inner fs along rest end last does_rest one frame goes hand more next after does))

-- the rest is dropped
pub frames_end : (keeper : Keeper) (frames : List Frame) (exchange : ExchangeValue) (steps : List KeptStep) (middle : Keeper) (between : ExchangeValue)
    → FramesStep keeper frames exchange steps middle between → (between.halted ≡ true) ⊎ (between.at_hand ≡ None) → (rest : List Frame)
    → FramesStep keeper (frames ++ rest) exchange steps middle between
frames_end keeper frames exchange steps middle between (no_more k e) why rest = are_dropped k rest e why
frames_end keeper frames exchange steps middle between (are_dropped k fs e early) why rest = are_dropped k (fs ++ rest) e early
frames_end keeper frames exchange steps middle between (and_then k c f fs e fresh held first inner along does_one later end last does_rest) why rest =
    and_then k c f (fs ++ rest) e fresh held first inner along does_one later end last (frames_end inner fs along later end last does_rest why rest)
