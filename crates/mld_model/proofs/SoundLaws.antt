-- Laws of sound worlds: making or taking an operation, and holding a range back, keep a world sound.
use Rattle.std.proofs.Common.{◌≡◌, ℕ, ◌+◌, ◌<◌, ◌≤◌, List, [], ◌∷◌, ◌++◌, inl, inr, refl, sym, ◌∙◌, ap, arith, subst, length, length-append}
use Rattle.std.proofs.lemmas.Bool.{cases_lt}
use Rattle.std.proofs.lemmas.List.{length-set}
use Rattle.tree_clock.specs.declared.dots.Dot.{Dot}
use Rattle.tree_clock.specs.declared.dots.Range.{Range}
use Rattle.tree_clock.specs.Lists.{Has}
use Rattle.tree_clock.specs.Path.{IsPrefix, IsProperPrefix, AreApart}
use Rattle.tree_clock.specs.Dot.{IsIn, Knows}
use Rattle.tree_clock.specs.DotLaws.{IsIn_or_not}
use Rattle.rdf_terms.specs.declared.terms.Triple.{Triple}
use Rattle.mld_ops.specs.declared.tagged.Tagged.{Tagged}
use Rattle.mld_ops.specs.History.{Operation, IsDone, IsInserted, IsClosed, IsNext, IsLawful, dot_at}
use Rattle.mld_ops.specs.Effect.{range_of}
use Rattle.mld_ops.proofs.OperationLaws.{same_dot, range_of_has, before, closed_with_taken, knows_more, knows_still, knows_last}
use Rattle.mld_ops.proofs.AscendingLaws.{has_append}
use Rattle.mld_ops.specs.Net.{IsTime}
use Rattle.mld_ops.proofs.PickingLaws.{first_is, first_member, rest_members, kept_members}
use Rattle.mld_ops.specs.Ready.{last_dot}
use Rattle.mld_model.specs.Clone.{Live, Stored, known_of, with_range, IsKnown, IsReady, Releases}
use Rattle.mld_model.specs.World.{World, Message, RangeOf, Want, SnapshotOf, JoinAsk, JoinGive, clone_at, with_clone}
use Rattle.mld_model.specs.CloneStep.{IsNextTick, after_operation}
use Rattle.mld_model.specs.Sound.{Keeps, IsSoundClone, IsDoneRange, IsSoundMessage, IsOpenGive, IsSoundGive, IsSound}
use Rattle.mld_model.proofs.ReleaseLaws.{releases_path, releases_left}
use Rattle.mld_model.proofs.KnownLaws.{known_with, known_with-old, known_with-new}
use Rattle.mld_model.proofs.JournalLaws.{journal_with, journal_more, own_may_follow}
use Rattle.mld_model.proofs.HistoryLaws.{IsDone-more, IsClosed-more, causes_closed}
use Rattle.mld_model.proofs.LeafLaws.{keeps_after, apart_differ, leaves_apart_with, live_keeps, leaf_apart, leaf_apart_same, held_after, given_before, open_before, gives_held_with}

-- an operation that a sound clone makes may come next
pub made_is_next : (history : List Operation) (stored : Stored) (tick : ℕ) (deletes : List Tagged) (inserts : List Triple)
    → IsSoundClone history stored → IsNextTick (known_of stored) stored.path tick
    → ((pair : Tagged) → Has deletes pair → Knows (known_of stored) pair.dot)
    → ((pair : Tagged) → Has deletes pair → IsInserted history pair)
    → IsNext history (record { dot = dot_at stored.path tick; causes = known_of stored; deletes = deletes; inserts = inserts })
made_is_next history stored tick deletes inserts sound is_next covered inserted = record {
  fresh = λ other stands same.
      let P : Dot → Type 0 = λ d. Knows (known_of stored) d in
      let known : Knows (known_of stored) (dot_at stored.path tick) = subst P same (sound.own other stands (ap (λ (d : Dot). d.path) same)) in
      let below : (1 ≤ tick) × (tick < tick) = (is_next.after tick).0 known in
      omega (arith, below.1);
  tick = is_next.positive;
  causes = sound.closed;
  ticks = λ other positive before. (is_next.after other).1 (positive, before);
  above = sound.above;
  below = sound.below;
  deletes = covered;
  deletes_inserted = inserted;
}

-- a list of length 0 is empty
pub empty_list : (xs : List ℕ) → length xs ≡ 0 → xs ≡ []
empty_list [] h = refl
empty_list (x ∷ xs) h = absurd (omega (arith, h))

-- no path goes on from itself by something
pub no_proper_prefix : (path : List ℕ) → ¬ IsProperPrefix path path
no_proper_prefix path (rest, some, same) =
    let e : length path ≡ length path + length rest = ap length same ∙ length-append path rest in
    some (empty_list rest (omega arith))

-- a history, and an operation that comes next
module _ (history : List Operation) (next : Operation) where
  -- a clone that keeps what it kept stays sound when another makes an operation at a path apart from its own
  pub other_stays_sound : (stored : Stored) → IsNext history next → AreApart next.dot.path stored.path → IsSoundClone history stored → IsSoundClone (next ∷ history) stored
  other_stays_sound stored is_next apart sound = record {
    closed = IsClosed-more history next (known_of stored) is_next sound.closed;
    journal = journal_more history next stored.base stored.journal is_next sound.journal;
    own = λ operation stands same. elim stands [
      | inl is ↦ absurd (apart_differ next.dot.path stored.path apart (ap (λ (o : Operation). o.dot.path) is ∙ same))
      | inr earlier ↦ sound.own operation earlier same
    ];
    above = λ operation stands goes_on. elim stands [
      | inl is ↦ let P : Operation → Type 0 = λ o. IsProperPrefix o.dot.path stored.path in
          let q : IsProperPrefix next.dot.path stored.path = subst P (sym is) goes_on in
          absurd (apart.not_below (q.0, q.2))
      | inr earlier ↦ sound.above operation earlier goes_on
    ];
    below = λ operation stands goes_on. elim stands [
      | inl is ↦ let P : Operation → Type 0 = λ o. IsProperPrefix stored.path o.dot.path in
          let q : IsProperPrefix stored.path next.dot.path = subst P (sym is) goes_on in
          absurd (apart.not_above (q.0, q.2))
      | inr earlier ↦ sound.below operation earlier goes_on
    ];
  }

  -- the clone that makes an operation stays sound
  pub maker_stays_sound : (stored : Stored) → next.dot.path ≡ stored.path → next.causes ≡ known_of stored → IsLawful history → IsNext history next
      → IsSoundClone history stored → IsSoundClone (next ∷ history) (with_range stored (range_of next.dot))
  maker_stays_sound stored path causes lawful is_next sound =
      let range : Range = range_of next.dot in
      let inside : IsIn range next.dot = range_of_has next.dot next.dot refl in
      let ready : (dot : Dot) → Knows next.causes dot → Knows (known_of stored) dot = λ dot k. (let P : List Range → Type 0 = λ l. Knows l dot in subst P causes k) in
      let closed : IsClosed (next ∷ history) (known_of stored ++ range ∷ []) =
      closed_with_taken (next ∷ history) (known_of stored) next (is_next, lawful) (IsClosed-more history next (known_of stored) is_next sound.closed) (inl refl) ready in
      record {
        closed = (let P : List Range → Type 0 = IsClosed (next ∷ history) in subst P (sym (known_with stored range)) closed);
        journal = journal_with (next ∷ history) stored.base stored.journal range (journal_more history next stored.base stored.journal is_next sound.journal) (own_may_follow history next (known_of stored) lawful is_next sound.closed ready) closed;
        own = λ operation stands same. elim stands [
          | inl is ↦ let P : Operation → Type 0 = λ o. IsIn range o.dot in known_with-new stored range operation.dot (subst P is inside)
          | inr earlier ↦ known_with-old stored range operation.dot (sound.own operation earlier same)
        ];
        above = λ operation stands goes_on. elim stands [
          | inl is ↦ let P : Operation → Type 0 = λ o. IsProperPrefix o.dot.path stored.path in
              let Q : List ℕ → Type 0 = λ p. IsProperPrefix p stored.path in
              absurd (no_proper_prefix stored.path (subst Q path (subst P (sym is) goes_on)))
          | inr earlier ↦ known_with-old stored range operation.dot (sound.above operation earlier goes_on)
        ];
        below = λ operation stands goes_on. elim stands [
          | inl is ↦ let P : Operation → Type 0 = λ o. IsProperPrefix stored.path o.dot.path in
              let Q : List ℕ → Type 0 = λ p. IsProperPrefix stored.path p in
              absurd (no_proper_prefix stored.path (subst Q path (subst P (sym is) goes_on)))
          | inr earlier ↦ sound.below operation earlier goes_on
        ];
      }

  -- a range that is done stays done
  pub IsDoneRange-more : (range : Range) → IsDoneRange history range → IsDoneRange (next ∷ history) range
  IsDoneRange-more range done = record {
    positive = done.positive;
    some = done.some;
    done = λ dot inside. IsDone-more history next dot (done.done dot inside);
  }

  -- what was sent stays as good when an operation is made
  pub IsSoundMessage-more : (message : Message) → IsNext history next → IsSoundMessage history message → IsSoundMessage (next ∷ history) message
  IsSoundMessage-more (RangeOf range) is_next sound = IsDoneRange-more range sound
  IsSoundMessage-more (Want dots) is_next sound = λ dot h. IsDone-more history next dot (sound dot h)
  IsSoundMessage-more (SnapshotOf dots) is_next sound = IsClosed-more history next dots is_next sound
  IsSoundMessage-more (JoinAsk id) is_next sound = sound
  IsSoundMessage-more (JoinGive id path dots) is_next sound = (sound.0, IsClosed-more history next dots is_next sound.1)

  -- and so does a leaf that is given and open, when an operation is made at a path apart from it
  IsSoundGive-more : (path : List ℕ) (dots : List Range) → AreApart path next.dot.path → IsSoundGive history path dots → IsSoundGive (next ∷ history) path dots
  IsSoundGive-more path dots apart give = record {
    above = λ operation stands goes_on. elim stands [
      | inl is ↦ let P : Operation → Type 0 = λ o. IsProperPrefix o.dot.path path in
          let q : IsProperPrefix next.dot.path path = subst P (sym is) goes_on in
          absurd (apart.not_above (q.0, q.2))
      | inr earlier ↦ give.above operation earlier goes_on
    ];
    below = λ operation stands goes_on. elim stands [
      | inl is ↦ let P : Operation → Type 0 = λ o. IsPrefix path o.dot.path in absurd (apart.not_below (subst P (sym is) goes_on))
      | inr earlier ↦ give.below operation earlier goes_on
    ];
  }

-- a clone that takes a ready range stays sound
pub taker_stays_sound : (history : List Operation) (stored : Stored) (range : Range) → IsLawful history
    → IsDoneRange history range → IsReady history (known_of stored) range → IsSoundClone history stored
    → IsSoundClone history (with_range stored range)
taker_stays_sound history stored range lawful sent ready sound =
    let last : IsDone history (last_dot range) = sent.done (last_dot range) (record { path = refl; above = sent.some; below = omega arith }) in
    let ends : IsIn range last.operation.dot = (let P : Dot → Type 0 = λ d. IsIn range d in subst P (sym last.is) (record { path = refl; above = sent.some; below = omega arith })) in
    let timed : (operation : Operation) → Has history operation → IsIn range operation.dot → (dot : Dot) → Knows operation.causes dot → IsTime history range dot
    = λ operation stands inside dot cause. elim (cases_lt operation.dot.tick range.last) [
      | inl sooner ↦
          let reached : operation.dot.tick < last.operation.dot.tick = omega (arith, sooner, ap (λ (d : Dot). d.tick) last.is) in
          let e : dot_at last.operation.dot.path operation.dot.tick ≡ operation.dot = same_dot (dot_at last.operation.dot.path operation.dot.tick) operation.dot (ends.path ∙ sym inside.path) refl in
          let P : Dot → Type 0 = λ d. Knows last.operation.causes d in
          let known : Knows last.operation.causes operation.dot = subst P e ((before history last.operation lawful last.stands).next.ticks operation.dot.tick (before history operation lawful stands).next.tick reached) in
          record { last = last.operation; stands = last.stands; is = last.is; cause = inl ((causes_closed history last.operation lawful last.stands).causes operation stands known dot cause) }
      | inr end ↦ record { last = operation; stands = stands; is = same_dot operation.dot (last_dot range) inside.path (omega (arith, end, inside.below)); cause = inl cause }
    ] in
    let closed : IsClosed history (known_of stored ++ range ∷ []) = record {
      done = λ dot h. elim (knows_more (known_of stored) range dot h) [ inl old ↦ sound.closed.done dot old | inr new ↦ sent.done dot new ];
      causes = λ operation stands h dot cause. elim (knows_more (known_of stored) range operation.dot h) [
        | inl old ↦ knows_still (known_of stored) range dot (sound.closed.causes operation stands old dot cause)
        | inr new ↦ elim (IsIn_or_not range dot) [
          | inl inside ↦ knows_last (known_of stored) range dot inside
          | inr outside ↦ knows_still (known_of stored) range dot (ready.time dot (timed operation stands new dot cause) outside)
        ]
      ];
    } in
    record {
      closed = (let P : List Range → Type 0 = IsClosed history in subst P (sym (known_with stored range)) closed);
      journal = journal_with history stored.base stored.journal range sound.journal (record { positive = sent.positive; some = sent.some; ready = ready }) closed;
      own = λ operation stands same. known_with-old stored range operation.dot (sound.own operation stands same);
      above = λ operation stands goes_on. known_with-old stored range operation.dot (sound.above operation stands goes_on);
      below = sound.below;
    }

-- and so does one that takes what is released then
pub releases_sound : (history : List Operation) (stored : Stored) (held taken : List Range) (after : Stored) (left : List Range) → IsLawful history
    → IsSoundClone history stored → ((range : Range) → Has held range → IsDoneRange history range)
    → Releases history stored held taken after left → IsSoundClone history after
releases_sound history stored held [] after left lawful sound done p = subst (IsSoundClone history) (sym p.2) sound
releases_sound history stored held (range ∷ taken) after left lawful sound done p =
    let kept : (one : Range) → Has p.0 one → IsDoneRange history one = λ one h. done one (kept_members (IsKnown (known_of stored)) held p.0 p.2 one h) in
    let ready : IsReady history (known_of stored) range = first_is (IsReady history (known_of stored)) p.0 range p.1 p.3 in
    let member : Has p.0 range = first_member (IsReady history (known_of stored)) p.0 range p.1 p.3 in
    releases_sound history (with_range stored range) p.1 taken after left lawful
    (taker_stays_sound history stored range lawful (kept range member) ready sound)
    (λ one h. kept one (rest_members (IsReady history (known_of stored)) p.0 range p.1 p.3 one h))
    p.4

-- what a live clone of a sound world does
module _ (world : World) (number : ℕ) (stored : Stored) (held : List Range) (sound : IsSound world) (live : clone_at world number ≡ Live stored held) where
  -- making an operation keeps a world sound
  pub made_sound : (tick : ℕ) (deletes : List Tagged) (inserts : List Triple) → IsNextTick (known_of stored) stored.path tick
      → ((pair : Tagged) → Has deletes pair → Knows (known_of stored) pair.dot) → ((pair : Tagged) → Has deletes pair → IsInserted world.history pair)
      → IsSound (after_operation world number stored held (record { dot = dot_at stored.path tick; causes = known_of stored; deletes = deletes; inserts = inserts }))
  made_sound tick deletes inserts is_next covered inserted =
      let operation : Operation = record { dot = dot_at stored.path tick; causes = known_of stored; deletes = deletes; inserts = inserts } in
      let range : Range = range_of (dot_at stored.path tick) in
      let keeps : Keeps (clone_at world number) stored = live_keeps world number stored held live in
      let maker : IsSoundClone world.history stored = sound.clones number stored keeps in
      let next : IsNext world.history operation = made_is_next world.history stored tick deletes inserts maker is_next covered inserted in
      let made : IsSoundClone (operation ∷ world.history) (with_range stored range) = maker_stays_sound world.history operation stored refl refl sound.lawful next maker in
      let messages : List Message = world.messages ++ RangeOf range ∷ [] in
      let was_open : (place id : ℕ) (path : List ℕ) (dots : List Range) → IsOpenGive (after_operation world number stored held operation) place id path dots → IsOpenGive world place id path dots
      = λ place id path dots. open_before world number (Live (with_range stored range) held) (operation ∷ world.history) messages place id path dots
      (λ kept holds. (with_range stored range, refl)) (given_before world.messages (RangeOf range) place id path dots (λ e. cc)) in
      record {
        lawful = (next, sound.lawful);
        count = length-set world.clones number (Live (with_range stored range) held) ∙ sound.count;
        apart = leaves_apart_with world number (with_range stored range) held sound (leaf_apart world number stored held sound live);
        clones = λ one first one_keeps. elim (keeps_after world.clones number (with_range stored range) held one first one_keeps) [
          | inl a ↦ let P : Stored → Type 0 = λ s. IsSoundClone (operation ∷ world.history) s in subst P a.1 made
          | inr a ↦ other_stays_sound world.history operation first next (sound.apart number one stored first (λ e. a.0 (sym e)) keeps a.1) (sound.clones one first a.1)
        ];
        held = held_after (operation ∷ world.history) world.clones number (with_range stored range) held
            (λ other kept back at one h. IsDoneRange-more world.history operation one (sound.held other kept back at one h))
            (λ one h. IsDoneRange-more world.history operation one (sound.held number stored held live one h));
        gives_held = λ place id path dots other first opened. let old = was_open place id path dots opened in
            gives_held_with world number (with_range stored range) held place id path dots sound old (sound.gives_held place id path dots number stored old keeps) other first;
        gives_apart = λ place id path dots second other leaf known differ opened too.
            sound.gives_apart place id path dots second other leaf known differ (was_open place id path dots opened) (was_open second other leaf known too);
        gives = λ place id path dots opened. let old = was_open place id path dots opened in
            IsSoundGive-more world.history operation path dots (sound.gives_held place id path dots number stored old keeps) (sound.gives place id path dots old);
        messages = λ message sent. elim (has_append world.messages (RangeOf range ∷ []) message sent) [
          | inl old ↦ IsSoundMessage-more world.history operation message next (sound.messages message old)
          | inr new ↦ elim new [
            | inl is ↦ let P : Message → Type 0 = λ m. IsSoundMessage (operation ∷ world.history) m in
                subst P is (record { positive = is_next.positive; some = omega arith; done = λ dot inside. record { operation = operation; stands = inl refl; is = same_dot operation.dot dot (sym inside.path) (omega (arith, inside.above, inside.below)) } })
            | inr none ↦ absurd none
          ]
        ];
      }

  -- a world stays sound where a live clone at the same path keeps and holds back something else that is sound
  pub changed_sound : (next : Stored) (left : List Range) → next.path ≡ stored.path → IsSoundClone world.history next
      → ((range : Range) → Has left range → IsDoneRange world.history range) → IsSound (with_clone world number (Live next left))
  changed_sound next left path whole done =
      let was_open : (place id : ℕ) (leaf : List ℕ) (dots : List Range) → IsOpenGive (with_clone world number (Live next left)) place id leaf dots → IsOpenGive world place id leaf dots
      = λ place id leaf dots. open_before world number (Live next left) world.history world.messages place id leaf dots (λ kept holds. (next, refl)) (λ sent. sent) in
      record {
        lawful = sound.lawful;
        count = length-set world.clones number (Live next left) ∙ sound.count;
        apart = leaves_apart_with world number next left sound (leaf_apart_same world number stored held sound live next path);
        clones = λ one first one_keeps. elim (keeps_after world.clones number next left one first one_keeps) [
          | inl a ↦ subst (IsSoundClone world.history) a.1 whole
          | inr a ↦ sound.clones one first a.1
        ];
        held = held_after world.history world.clones number next left sound.held done;
        gives_held = λ place id leaf dots other first opened. let old = was_open place id leaf dots opened in
            gives_held_with world number next left place id leaf dots sound old
            (subst (λ (p : List ℕ). AreApart leaf p) (sym path) (sound.gives_held place id leaf dots number stored old (live_keeps world number stored held live))) other first;
        gives_apart = λ place id leaf dots second other others known differ opened too.
            sound.gives_apart place id leaf dots second other others known differ (was_open place id leaf dots opened) (was_open second other others known too);
        gives = λ place id leaf dots opened. sound.gives place id leaf dots (was_open place id leaf dots opened);
        messages = sound.messages;
      }

  -- what a live clone keeps is sound
  pub live_sound : IsSoundClone world.history stored
  live_sound = sound.clones number stored (live_keeps world number stored held live)

  -- taking a ready range, and what is released then, keeps a world sound
  pub taken_sound : (range : Range) (taken : List Range) (after : Stored) (left : List Range) → IsDoneRange world.history range
      → IsReady world.history (known_of stored) range → Releases world.history (with_range stored range) held taken after left
      → IsSound (with_clone world number (Live after left))
  taken_sound range taken after left done ready releases =
      changed_sound after left (releases_path world.history (with_range stored range) held taken after left releases) (releases_sound world.history (with_range stored range) held taken after left sound.lawful
      (taker_stays_sound world.history stored range sound.lawful done ready (live_sound))
      (sound.held number stored held live) releases) (λ one h. sound.held number stored held live one (releases_left world.history (with_range stored range) held taken after left releases one h))

  -- holding back a range that is done keeps a world sound
  pub holding_sound : (range : Range) → IsDoneRange world.history range → IsSound (with_clone world number (Live stored (held ++ range ∷ [])))
  holding_sound range done =
      changed_sound stored (held ++ range ∷ []) refl (live_sound) (λ one h. elim (has_append held (range ∷ []) one h) [
        | inl old ↦ sound.held number stored held live one old
        | inr new ↦ elim new [ inl is ↦ subst (IsDoneRange world.history) is done | inr none ↦ absurd none ]
      ])
