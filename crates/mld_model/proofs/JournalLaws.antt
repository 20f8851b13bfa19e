-- Laws of sound journals.
use Rattle.std.specs.Prelude.{◌≡◌, ◌-◌, List, [], ◌∷◌, ◌++◌}
use Rattle.std.proofs.Common.{inl, inr, refl, sym, ◌∙◌, ap, arith, subst, append-nil, append_assoc}
use Rattle.std.proofs.lemmas.Bool.{cases_lt}
use Rattle.tree_clock.specs.declared.dots.Dot.{Dot}
use Rattle.tree_clock.specs.declared.dots.Range.{Range}
use Rattle.tree_clock.specs.Lists.{Has}
use Rattle.tree_clock.specs.Dot.{Knows}
use Rattle.mld_ops.specs.History.{Operation, IsDone, IsClosed, IsNext, IsLawful, dot_at}
use Rattle.mld_ops.specs.Effect.{range_of}
use Rattle.mld_ops.proofs.OperationLaws.{one_operation, range_of_has, knows_last}
use Rattle.mld_ops.specs.Net.{IsTime}
use Rattle.mld_ops.specs.Ready.{last_dot}
use Rattle.mld_model.specs.Sound.{MayFollow, IsSoundJournal, IsDoneRange}
use Rattle.mld_model.proofs.HistoryLaws.{IsClosed-more, done_not_fresh}

-- a journal of this history
module _ (history : List Operation) where
  -- the dots that a journal is over are closed
  pub journal_over : (known journal : List Range) → IsSoundJournal history known journal → IsClosed history known
  journal_over known [] sound = sound
  journal_over known (range ∷ journal) sound = sound.0

  -- and so are they with all dots of the journal
  pub journal_closed : (known journal : List Range) → IsSoundJournal history known journal → IsClosed history (known ++ journal)
  journal_closed known [] sound = subst (λ (dots : List Range). IsClosed history dots) (sym (append-nil known)) sound
  journal_closed known (range ∷ journal) sound =
      subst (λ (dots : List Range). IsClosed history dots) (append_assoc known (range ∷ []) journal) (journal_closed (known ++ range ∷ []) journal sound.2)

  -- the front of a sound journal is sound
  pub journal_front : (known front rest : List Range) → IsSoundJournal history known (front ++ rest) → IsSoundJournal history known front
  journal_front known [] rest sound = journal_over known rest sound
  journal_front known (range ∷ front) rest sound = (sound.0, sound.1, journal_front (known ++ range ∷ []) front rest sound.2)

  -- a sound journal with one more range at its end is sound
  pub journal_with : (known journal : List Range) (range : Range) → IsSoundJournal history known journal → MayFollow history (known ++ journal) range
      → IsClosed history ((known ++ journal) ++ range ∷ []) → IsSoundJournal history known (journal ++ range ∷ [])
  journal_with known [] range sound follows closed = (
    sound,
    subst (λ (dots : List Range). MayFollow history dots range) (append-nil known) follows,
    subst (λ (dots : List Range). IsClosed history (dots ++ range ∷ [])) (append-nil known) closed,
  )
  journal_with known (first ∷ journal) range sound follows closed =
      let same = sym (append_assoc known (first ∷ []) journal) in (
        sound.0,
        sound.1,
        journal_with (known ++ first ∷ []) journal range sound.2 (subst (λ (dots : List Range). MayFollow history dots range) same follows) (subst (λ (dots : List Range). IsClosed history (dots ++ range ∷ [])) same closed),
      )

-- and in a history with one more operation
module _ (history : List Operation) (next : Operation) where
  -- the time of a range whose last dot is done stays the same when an operation is made
  pub IsTime-same : (range : Range) (dot : Dot) → IsNext history next → IsDone history (last_dot range) → IsTime (next ∷ history) range dot → IsTime history range dot
  IsTime-same range dot is_next done time = elim time.stands [
    | inl is ↦ absurd (done_not_fresh history next (last_dot range) is_next done (sym time.is ∙ sym (ap (λ (o : Operation). o.dot) is)))
    | inr earlier ↦ record { last = time.last; stands = earlier; is = time.is; cause = time.cause }
  ]

  -- so what may follow still may
  pub MayFollow-more : (known : List Range) (range : Range) → IsNext history next → IsDone history (last_dot range) → MayFollow history known range
      → MayFollow (next ∷ history) known range
  MayFollow-more known range is_next done follows = record {
    positive = follows.positive;
    some = follows.some;
    ready = record {
      unknown = follows.ready.unknown;
      time = λ dot time outside. follows.ready.time dot (IsTime-same range dot is_next done time) outside;
      before = follows.ready.before;
    };
  }

  -- a sound journal stays sound when an operation is made
  pub journal_more : (known journal : List Range) → IsNext history next → IsSoundJournal history known journal → IsSoundJournal (next ∷ history) known journal
  journal_more known [] is_next sound = IsClosed-more history next known is_next sound
  journal_more known (range ∷ journal) is_next sound =
      let done : IsDone history (last_dot range) =
      (journal_over history (known ++ range ∷ []) journal sound.2).done (last_dot range)
      (knows_last known range (last_dot range) (record { path = refl; above = sound.1.some; below = omega arith })) in (
        IsClosed-more history next known is_next sound.0,
        MayFollow-more known range is_next done sound.1,
        journal_more (known ++ range ∷ []) journal is_next sound.2,
      )

  -- the range of an operation that was just made may follow where its causes are known
  pub own_may_follow : (known : List Range) → IsLawful history → IsNext history next → IsClosed history known → ((dot : Dot) → Knows next.causes dot → Knows known dot)
      → MayFollow (next ∷ history) known (range_of next.dot)
  own_may_follow known lawful is_next closed causes = record {
    positive = is_next.tick;
    some = omega arith;
    ready = record {
      unknown = λ k. done_not_fresh history next next.dot is_next (closed.done next.dot k) refl;
      time = λ dot time outside.
          let same : time.last ≡ next = one_operation (next ∷ history) time.last next (is_next, lawful) time.stands (inl refl) time.is in
          elim time.cause [
            | inl cause ↦ causes dot (subst (λ (o : Operation). Knows o.causes dot) same cause)
            | inr own ↦ absurd (outside (range_of_has next.dot dot own))
          ];
      before = elim (cases_lt 1 next.dot.tick) [
        | inl later ↦ inr (causes (dot_at next.dot.path (next.dot.tick - 1)) (is_next.ticks (next.dot.tick - 1) (omega arith) (omega arith)))
        | inr first ↦ inl (omega (arith, first, is_next.tick))
      ];
    };
  }

-- each range of a sound journal has dots, all of them done
pub journal_done : (history : List Operation) (known journal : List Range) → IsSoundJournal history known journal
    → (range : Range) → Has journal range → IsDoneRange history range
journal_done history known [] sound range h = absurd h
journal_done history known (first ∷ journal) sound range (inl is) = subst (IsDoneRange history) is (record {
  positive = sound.1.positive;
  some = sound.1.some;
  done = λ dot inside. (journal_over history (known ++ first ∷ []) journal sound.2).done dot (knows_last known first dot inside);
})
journal_done history known (first ∷ journal) sound range (inr h) = journal_done history (known ++ first ∷ []) journal sound.2 range h
