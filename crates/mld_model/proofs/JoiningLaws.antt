-- Laws of sound worlds: asking for a leaf, forking one and taking one keep a world sound.
use Rattle.std.specs.Prelude.{Some, slice_get}
use Rattle.std.proofs.Common.{◌≡◌, ◌≢◌, ℕ, zero, suc, ◌<◌, List, [], ◌∷◌, ◌++◌, ◌⊎◌, inl, inr, refl, sym, ◌∙◌, ap, arith, subst, length, get_or, set, append-nil, append_assoc}
use Rattle.std.proofs.lemmas.Bool.{cases_eq, cases_lt}
use Rattle.std.proofs.lemmas.List.{get_or-set_same, get_or-set_other, get_or_past, length-set}
use Rattle.tree_clock.specs.declared.dots.Range.{Range}
use Rattle.tree_clock.specs.Lists.{Has}
use Rattle.tree_clock.specs.Path.{IsPrefix, IsProperPrefix, AreApart, zero_letter, one_letter}
use Rattle.tree_clock.proofs.PathLaws.{apart_symmetric, apart_below, apart_from_son, sons_apart}
use Rattle.tree_clock.specs.Dot.{Knows}
use Rattle.mld_ops.specs.History.{Operation, IsClosed}
use Rattle.mld_ops.proofs.AscendingLaws.{has_append}
use Rattle.mld_model.specs.Clone.{Clone, Absent, Asking, Live, Stored, known_of}
use Rattle.mld_model.specs.World.{World, Message, JoinAsk, JoinGive, clone_at, clone_count, with_clone, message_at}
use Rattle.mld_model.specs.CloneStep.{after_asking, left_half, after_fork, joined_with}
use Rattle.mld_model.specs.Sound.{Keeps, IsSoundClone, IsSoundMessage, IsOpenGive, IsSoundGive, IsSound}
use Rattle.mld_model.proofs.LeafLaws.{keeps_after, leaves_apart_with, live_keeps, leaf_apart, held_after, sent_at, given_before, open_before, gives_held_with}
use Rattle.mld_model.proofs.SoundLaws.{live_sound}

-- ---- asking

-- a clone that asks holds no leaf, and all others hold what they held
keeps_asking : (clones : List Clone) (number other : ℕ) (stored : Stored) → Keeps (get_or (set clones number Asking) other Absent) stored
    → Keeps (get_or clones other Absent) stored
keeps_asking clones number other stored keeps =
    let P : Clone → Type 0 = λ c. Keeps c stored in
    elim (cases_eq other number) [
      | inl same ↦ elim (cases_lt number (length clones)) [
        | inl inside ↦ absurd (subst P (ap (λ k. get_or (set clones number Asking) k Absent) same ∙ get_or-set_same clones number Asking Absent inside) keeps)
        | inr past ↦ absurd (subst P (get_or_past (set clones number Asking) other Absent (omega (arith, past, same, length-set clones number Asking))) keeps)
      ]
      | inr differs ↦ subst P (get_or-set_other clones number other Asking Absent differs) keeps
    ]

-- and who is live was so
live_asking : (clones : List Clone) (number other : ℕ) (stored : Stored) (held : List Range) → get_or (set clones number Asking) other Absent ≡ Live stored held
    → get_or clones other Absent ≡ Live stored held
live_asking clones number other stored held live = elim (cases_eq other number) [
  | inl same ↦ elim (cases_lt number (length clones)) [
    | inl inside ↦ absurd (none (sym (ap (λ k. get_or (set clones number Asking) k Absent) same ∙ get_or-set_same clones number Asking Absent inside) ∙ live))
    | inr past ↦ absurd (gone (sym (get_or_past (set clones number Asking) other Absent (omega (arith, past, same, length-set clones number Asking))) ∙ live))
  ]
  | inr differs ↦ sym (get_or-set_other clones number other Asking Absent differs) ∙ live
]
  where
    none : ¬ (Asking ≡ Live stored held)
    none same = cc

    gone : ¬ (Absent ≡ Live stored held)
    gone same = cc

-- asking for a leaf keeps a world sound
pub asked_sound : (world : World) (number : ℕ) → IsSound world → number < clone_count → ((stored : Stored) → ¬ Keeps (clone_at world number) stored)
    → IsSound (after_asking world number)
asked_sound world number sound small none =
    let was_open : (place id : ℕ) (path : List ℕ) (dots : List Range) → IsOpenGive (after_asking world number) place id path dots → IsOpenGive world place id path dots
    = λ place id path dots. open_before world number Asking world.history (world.messages ++ JoinAsk number ∷ []) place id path dots
    (λ kept holds. absurd (none kept holds)) (given_before world.messages (JoinAsk number) place id path dots (λ e. cc)) in
    record {
      lawful = sound.lawful;
      count = length-set world.clones number Asking ∙ sound.count;
      apart = λ one other first second differ one_keeps other_keeps.
          sound.apart one other first second differ (keeps_asking world.clones number one first one_keeps) (keeps_asking world.clones number other second other_keeps);
      clones = λ one first keeps. sound.clones one first (keeps_asking world.clones number one first keeps);
      held = λ one first held live. sound.held one first held (live_asking world.clones number one first held live);
      gives_held = λ place id path dots one first opened keeps.
          sound.gives_held place id path dots one first (was_open place id path dots opened) (keeps_asking world.clones number one first keeps);
      gives_apart = λ place id path dots second other leaf known differ opened too.
          sound.gives_apart place id path dots second other leaf known differ (was_open place id path dots opened) (was_open second other leaf known too);
      gives = λ place id path dots opened. sound.gives place id path dots (was_open place id path dots opened);
      messages = λ message sent. elim (has_append world.messages (JoinAsk number ∷ []) message sent) [
        | inl old ↦ sound.messages message old
        | inr new ↦ elim new [ inl is ↦ subst (IsSoundMessage world.history) is small | inr none ↦ absurd none ]
      ];
    }

-- ---- forking

-- a path above a son is above its parent, or is the parent
above_son : (path parent : List ℕ) (letter : ℕ) (rest : List ℕ) → rest ≢ [] → parent ++ letter ∷ [] ≡ path ++ rest → (path ≡ parent) ⊎ IsProperPrefix path parent
above_son [] [] letter rest some is = inl refl
above_son [] (y ∷ parent) letter rest some is = inr (y ∷ parent, (λ e. cc), refl)
above_son (x ∷ []) [] letter rest some is = absurd (some (cc))
above_son (x ∷ y ∷ path) [] letter rest some is = absurd (cc)
above_son (x ∷ path) (y ∷ parent) letter rest some is =
    let head : x ≡ y = cc in
    let tail : parent ++ letter ∷ [] ≡ path ++ rest = cc in
    elim (above_son path parent letter rest some tail) [
      | inl same ↦ inl (λ i. head i ∷ same i)
      | inr goes_on ↦ inr (goes_on.0, goes_on.1, λ i. sym head i ∷ goes_on.2 i)
    ]

-- a path below a son is below its parent
below_son : (parent path : List ℕ) (letter : ℕ) → IsPrefix (parent ++ letter ∷ []) path → IsProperPrefix parent path
below_son parent path letter (rest, is) = (letter ∷ rest, (λ e. cc), is ∙ append_assoc parent (letter ∷ []) rest)

-- each dot above a son of its leaf is known to a sound clone
knows_above : (history : List Operation) (stored : Stored) (letter : ℕ) → IsSoundClone history stored
    → (operation : Operation) → Has history operation → IsProperPrefix operation.dot.path (stored.path ++ letter ∷ []) → Knows (known_of stored) operation.dot
knows_above history stored letter sound operation stands goes_on =
    elim (above_son operation.dot.path stored.path letter goes_on.0 goes_on.1 goes_on.2) [
      | inl same ↦ sound.own operation stands same
      | inr above ↦ sound.above operation stands above
    ]

-- a clone that keeps the left half of its leaf stays sound
left_half_sound : (history : List Operation) (stored : Stored) → IsSoundClone history stored → IsSoundClone history (left_half stored)
left_half_sound history stored sound = record {
  closed = sound.closed;
  journal = sound.journal;
  own = λ operation stands same.
      absurd (sound.below operation stands (below_son stored.path operation.dot.path zero_letter ([], same ∙ sym (append-nil (stored.path ++ zero_letter ∷ [])))));
  above = knows_above history stored zero_letter sound;
  below = λ operation stands goes_on. sound.below operation stands (below_son stored.path operation.dot.path zero_letter (goes_on.0, goes_on.2));
}

-- the right half of a sound clone's leaf can be given with the dots that the clone knows
right_half_sound : (history : List Operation) (stored : Stored) → IsSoundClone history stored → IsSoundGive history (stored.path ++ one_letter ∷ []) (known_of stored)
right_half_sound history stored sound = record {
  above = knows_above history stored one_letter sound;
  below = λ operation stands goes_on. sound.below operation stands (below_son stored.path operation.dot.path one_letter goes_on);
}

-- what one message that gives a leaf has in common with another that is the same
same_give : (id other : ℕ) (path leaf : List ℕ) (dots known : List Range) → JoinGive id path dots ≡ JoinGive other leaf known
    → (id ≡ other) × (path ≡ leaf) × (dots ≡ known)
same_give id other path leaf dots known same = (cc, cc, cc)

-- which leaves are open behind a fork: those that were, and the right half
record IsRightHalf (world : World) (stored : Stored) (place : ℕ) (path : List ℕ) (dots : List Range) : Type 0 where
  last : place ≡ length world.messages
  right : stored.path ++ one_letter ∷ [] ≡ path
  known : known_of stored ≡ dots

open_after_fork : (world : World) (number : ℕ) (stored : Stored) (held : List Range) (asker place id : ℕ) (path : List ℕ) (dots : List Range)
    → IsOpenGive (after_fork world number stored held asker) place id path dots
    → IsOpenGive world place id path dots ⊎ IsRightHalf world stored place path dots
open_after_fork world number stored held asker place id path dots opened =
    elim (sent_at world.messages (JoinGive asker (stored.path ++ one_letter ∷ []) (known_of stored)) place (JoinGive id path dots) opened.sent) [
      | inl old ↦ inl (open_before world number (Live (left_half stored) held) world.history
          (world.messages ++ JoinGive asker (stored.path ++ one_letter ∷ []) (known_of stored) ∷ []) place id path dots
          (λ kept holds. (left_half stored, refl)) (λ sent. old) opened)
      | inr new ↦ let same = same_give asker id (stored.path ++ one_letter ∷ []) path (known_of stored) dots new.1 in
          inr (record { last = new.0; right = same.1; known = same.2 })
    ]

-- a live clone of a sound world
module _ (world : World) (number : ℕ) (stored : Stored) (held : List Range) (sound : IsSound world) (live : clone_at world number ≡ Live stored held) where
  -- forking a leaf for one who asked keeps a world sound
  pub forked_sound : (id : ℕ) → id < clone_count → IsSound (after_fork world number stored held id)
  forked_sound asker small =
      let giver : IsSoundClone world.history stored = live_sound world number stored held sound live in
      let free : (other : ℕ) (kept : Stored) → other ≢ number → Keeps (clone_at world other) kept → AreApart stored.path kept.path = leaf_apart world number stored held sound live in
      let outside : (place id : ℕ) (path : List ℕ) (dots : List Range) → IsOpenGive world place id path dots → AreApart path stored.path
      = λ place id path dots opened. sound.gives_held place id path dots number stored opened (live_keeps world number stored held live) in
      let opens = open_after_fork world number stored held asker in
      record {
        lawful = sound.lawful;
        count = length-set world.clones number (Live (left_half stored) held) ∙ sound.count;
        apart = leaves_apart_with world number (left_half stored) held sound
            (λ other kept differs keeps. apart_from_son stored.path zero_letter kept.path (free other kept differs keeps));
        clones = λ one first keeps. elim (keeps_after world.clones number (left_half stored) held one first keeps) [
          | inl a ↦ subst (IsSoundClone world.history) a.1 (left_half_sound world.history stored giver)
          | inr a ↦ sound.clones one first a.1
        ];
        held = held_after world.history world.clones number (left_half stored) held sound.held (sound.held number stored held live);
        gives_held = λ place id path dots one first opened keeps. elim (opens place id path dots opened) [
          | inl old ↦ gives_held_with world number (left_half stored) held place id path dots sound old
              (apart_below path stored.path (zero_letter ∷ []) (outside place id path dots old)) one first keeps
          | inr new ↦ subst (λ (p : List ℕ). AreApart p first.path) new.right (elim (keeps_after world.clones number (left_half stored) held one first keeps) [
            | inl a ↦ subst (λ (s : Stored). AreApart (stored.path ++ one_letter ∷ []) s.path) a.1 (apart_symmetric (stored.path ++ zero_letter ∷ []) (stored.path ++ one_letter ∷ []) (sons_apart stored.path))
            | inr a ↦ apart_from_son stored.path one_letter first.path (free one first a.0 a.1)
          ])
        ];
        gives_apart = λ place id path dots second other leaf known differ opened too. elim (opens place id path dots opened) [
          | inl old ↦ elim (opens second other leaf known too) [
            | inl older ↦ sound.gives_apart place id path dots second other leaf known differ old older
            | inr new ↦ subst (λ (p : List ℕ). AreApart path p) new.right (apart_below path stored.path (one_letter ∷ []) (outside place id path dots old))
          ]
          | inr new ↦ elim (opens second other leaf known too) [
            | inl old ↦ subst (λ (p : List ℕ). AreApart p leaf) new.right
                (apart_from_son stored.path one_letter leaf (apart_symmetric leaf stored.path (outside second other leaf known old)))
            | inr newer ↦ absurd (differ (new.last ∙ sym newer.last))
          ]
        ];
        gives = λ place id path dots opened. elim (opens place id path dots opened) [
          | inl old ↦ sound.gives place id path dots old
          | inr new ↦ subst (λ (p : List ℕ). IsSoundGive world.history p dots) new.right
              (subst (λ (known : List Range). IsSoundGive world.history (stored.path ++ one_letter ∷ []) known) new.known (right_half_sound world.history stored giver))
        ];
        messages = λ message sent. elim (has_append world.messages (JoinGive asker (stored.path ++ one_letter ∷ []) (known_of stored) ∷ []) message sent) [
          | inl old ↦ sound.messages message old
          | inr new ↦ elim new [ inl is ↦ subst (IsSoundMessage world.history) is (small, giver.closed) | inr none ↦ absurd none ]
        ];
      }

-- ---- taking a leaf

-- a clone that lives with a leaf that was given is sound
joined_clone_sound : (history : List Operation) (path : List ℕ) (dots : List Range) → IsClosed history dots → IsSoundGive history path dots
    → IsSoundClone history (joined_with path dots)
joined_clone_sound history path dots closed give = record {
  closed = subst (IsClosed history) (sym (append-nil dots)) closed;
  journal = closed;
  own = λ operation stands same. absurd (give.below operation stands ([], same ∙ sym (append-nil path)));
  above = λ operation stands goes_on. subst (λ (known : List Range). Knows known operation.dot) (sym (append-nil dots)) (give.above operation stands goes_on);
  below = λ operation stands goes_on. give.below operation stands (goes_on.0, goes_on.2);
}

-- a message that stands at a place was sent
pub stands_at : (messages : List Message) (place : ℕ) (message : Message) → slice_get messages place ≡ Some message → Has messages message
stands_at [] place message is = cc
stands_at (first ∷ messages) zero message is = inl (cc)
stands_at (first ∷ messages) (suc place) message is = inr (stands_at messages place message is)

-- the message of a number stands at a place of those that were sent
pub place_of_message : (world : World) (number : ℕ) (message : Message) → message_at world number ≡ Some message
    → (place : ℕ) × (slice_get world.messages place ≡ Some message)
place_of_message world zero message is = absurd (cc)
place_of_message world (suc before) message is = (before, is)

-- a number at which a clone asks is one of the list's places
pub place_of_asking : (clones : List Clone) (number : ℕ) → get_or clones number Absent ≡ Asking → number < length clones
place_of_asking clones number asks = elim (cases_lt number (length clones)) [
  | inl inside ↦ inside
  | inr past ↦ absurd (none (sym (get_or_past clones number Absent past) ∙ asks))
]
  where
    none : ¬ (Absent ≡ Asking)
    none same = cc

-- which leaves are open once a clone took one: those that were, but none that was given to that clone
open_after_joining : (world : World) (number : ℕ) (path : List ℕ) (dots : List Range) (place id : ℕ) (leaf : List ℕ) (known : List Range)
    → clone_at world number ≡ Asking → IsOpenGive (with_clone world number (Live (joined_with path dots) [])) place id leaf known
    → IsOpenGive world place id leaf known × (id ≢ number)
open_after_joining world number path dots place id leaf known asks opened = (
  open_before world number (Live (joined_with path dots) []) world.history world.messages place id leaf known
      (λ kept holds. (joined_with path dots, refl)) (λ sent. sent) opened,
  λ same. opened.waits (joined_with path dots)
      (subst (λ (c : Clone). Keeps c (joined_with path dots))
      (sym (ap (λ k. get_or (set world.clones number (Live (joined_with path dots) [])) k Absent) same
      ∙ get_or-set_same world.clones number (Live (joined_with path dots) []) Absent (place_of_asking world.clones number asks))) refl),
)

-- taking a leaf that was given keeps a world sound
pub joined_sound : (world : World) (number place : ℕ) (path : List ℕ) (dots : List Range) → IsSound world → clone_at world number ≡ Asking
    → slice_get world.messages place ≡ Some (JoinGive number path dots) → IsSound (with_clone world number (Live (joined_with path dots) []))
joined_sound world number place path dots sound asks sent =
    let next : Stored = joined_with path dots in
    let opened : IsOpenGive world place number path dots = record { sent = sent; waits = λ kept. subst (λ (c : Clone). ¬ Keeps c kept) (sym asks) (λ h. h) } in
    let whole : IsSoundClone world.history next = joined_clone_sound world.history path dots
    (sound.messages (JoinGive number path dots) (stands_at world.messages place (JoinGive number path dots) sent)).1 (sound.gives place number path dots opened) in
    let opens = λ (one id : ℕ) (leaf : List ℕ) (known : List Range). open_after_joining world number path dots one id leaf known asks in
    let outside : (one id : ℕ) (leaf : List ℕ) (known : List Range) → IsOpenGive world one id leaf known → id ≢ number → AreApart leaf path
    = λ one id leaf known old other. sound.gives_apart one id leaf known place number path dots
    (λ same. other (same_give id number leaf path known dots (one_sent world.messages one place (JoinGive id leaf known) (JoinGive number path dots) same old.sent sent)).0) old opened in
    record {
      lawful = sound.lawful;
      count = length-set world.clones number (Live next []) ∙ sound.count;
      apart = leaves_apart_with world number next [] sound (λ other kept differs keeps. sound.gives_held place number path dots other kept opened keeps);
      clones = λ one first keeps. elim (keeps_after world.clones number next [] one first keeps) [
        | inl a ↦ subst (IsSoundClone world.history) a.1 whole
        | inr a ↦ sound.clones one first a.1
      ];
      held = held_after world.history world.clones number next [] sound.held (λ range h. absurd h);
      gives_held = λ one id leaf known other first now keeps. let old = opens one id leaf known now in
          gives_held_with world number next [] one id leaf known sound old.0 (outside one id leaf known old.0 old.1) other first keeps;
      gives_apart = λ one id leaf known second other others dots differ now too.
          sound.gives_apart one id leaf known second other others dots differ (opens one id leaf known now).0 (opens second other others dots too).0;
      gives = λ one id leaf known now. sound.gives one id leaf known (opens one id leaf known now).0;
      messages = sound.messages;
    }
  where
    one_sent : (messages : List Message) (one place : ℕ) (first second : Message) → one ≡ place
        → slice_get messages one ≡ Some first → slice_get messages place ≡ Some second → first ≡ second
    one_sent messages one place first second same a b = cc
