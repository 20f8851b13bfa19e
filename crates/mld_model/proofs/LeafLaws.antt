-- Laws of leaves: who holds one, and which are given and open.
use Rattle.std.specs.Prelude.{Some, slice_get}
use Rattle.std.proofs.Common.{◌≡◌, ◌≢◌, ℕ, zero, suc, ◌<◌, List, [], ◌∷◌, ◌++◌, ◌⊎◌, inl, inr, refl, sym, ◌∙◌, ap, arith, subst, length, get_or, set, append-nil}
use Rattle.std.proofs.lemmas.Bool.{cases_eq, cases_lt}
use Rattle.std.proofs.lemmas.List.{get_or-set_same, get_or-set_other, get_or_past, length-set}
use Rattle.tree_clock.specs.declared.dots.Range.{Range}
use Rattle.tree_clock.specs.Lists.{Has}
use Rattle.tree_clock.specs.Path.{AreApart}
use Rattle.tree_clock.proofs.PathLaws.{apart_symmetric}
use Rattle.mld_ops.specs.History.{Operation}
use Rattle.mld_ops.proofs.OperationLaws.{before}
use Rattle.mld_model.specs.Clone.{Clone, Absent, Live, Stored}
use Rattle.mld_model.specs.World.{World, Message, JoinGive, clone_at, with_clone}
use Rattle.mld_model.specs.Sound.{Keeps, IsDoneRange, IsOpenGive, IsSound}

-- a number at which a clone stands is one of the list's places
pub place_of_clone : (clones : List Clone) (number : ℕ) (stored : Stored) → Keeps (get_or clones number Absent) stored → number < length clones
place_of_clone clones number stored keeps = elim (cases_lt number (length clones)) [
  | inl inside ↦ inside
  | inr past ↦ let P : Clone → Type 0 = λ c. Keeps c stored in absurd (subst P (get_or_past clones number Absent past) keeps)
]

-- who keeps what once one live clone keeps something else
pub keeps_after : (clones : List Clone) (number : ℕ) (next : Stored) (held : List Range) (other : ℕ) (stored : Stored)
    → Keeps (get_or (set clones number (Live next held)) other Absent) stored
    → ((other ≡ number) × (next ≡ stored)) ⊎ ((other ≢ number) × Keeps (get_or clones other Absent) stored)
keeps_after clones number next held other stored keeps =
    let P : Clone → Type 0 = λ c. Keeps c stored in
    elim (cases_eq other number) [
      | inl same ↦ elim (cases_lt number (length clones)) [
        | inl inside ↦ inl (same, subst P (ap (λ k. get_or (set clones number (Live next held)) k Absent) same ∙ get_or-set_same clones number (Live next held) Absent inside) keeps)
        | inr past ↦ absurd (subst P (get_or_past (set clones number (Live next held)) other Absent (omega (arith, length-set clones number (Live next held)))) keeps)
      ]
      | inr differs ↦ inr (differs, subst P (get_or-set_other clones number other (Live next held) Absent differs) keeps)
    ]

-- paths that are apart aren't equal, and neither is a proper prefix of the other
pub apart_differ : (path other : List ℕ) → AreApart path other → path ≢ other
apart_differ path other apart same = apart.not_below ([], sym same ∙ sym (append-nil path))

-- the leaves of a world are still apart once one clone is live at a path apart from those of the others
pub leaves_apart_with : (world : World) (number : ℕ) (next : Stored) (left : List Range) → IsSound world
    → ((other : ℕ) (kept : Stored) → other ≢ number → Keeps (clone_at world other) kept → AreApart next.path kept.path)
    → (one other : ℕ) (first second : Stored) → one ≢ other
    → Keeps (get_or (set world.clones number (Live next left)) one Absent) first
    → Keeps (get_or (set world.clones number (Live next left)) other Absent) second
    → AreApart first.path second.path
leaves_apart_with world number next left sound free one other first second differ one_keeps other_keeps =
    elim (keeps_after world.clones number next left one first one_keeps) [
      | inl a ↦ elim (keeps_after world.clones number next left other second other_keeps) [
        | inl b ↦ absurd (differ (a.0 ∙ sym b.0))
        | inr b ↦ subst (λ (s : Stored). AreApart s.path second.path) a.1 (free other second b.0 b.1)
      ]
      | inr a ↦ elim (keeps_after world.clones number next left other second other_keeps) [
        | inl b ↦ subst (λ (s : Stored). AreApart first.path s.path) b.1 (apart_symmetric next.path first.path (free one first a.0 a.1))
        | inr b ↦ sound.apart one other first second differ a.1 b.1
      ]
    ]

-- what a live clone keeps
pub live_keeps : (world : World) (number : ℕ) (stored : Stored) (held : List Range) → clone_at world number ≡ Live stored held → Keeps (clone_at world number) stored
live_keeps world number stored held live = let K : Clone → Type 0 = λ c. Keeps c stored in subst K (sym live) refl

-- the leaf of a live clone of a sound world
module _ (world : World) (number : ℕ) (stored : Stored) (held : List Range) (sound : IsSound world) (live : clone_at world number ≡ Live stored held) where
  -- the leaf of a live clone is apart from those of the others
  pub leaf_apart : (other : ℕ) (kept : Stored) → other ≢ number → Keeps (clone_at world other) kept → AreApart stored.path kept.path
  leaf_apart other kept differs keeps =
      sound.apart number other stored kept (λ same. differs (sym same)) (live_keeps world number stored held live) keeps

  -- and so it is with another leaf that stands at its path
  pub leaf_apart_same : (next : Stored) → next.path ≡ stored.path → (other : ℕ) (kept : Stored) → other ≢ number → Keeps (clone_at world other) kept
      → AreApart next.path kept.path
  leaf_apart_same next path other kept differs keeps =
      subst (λ (p : List ℕ). AreApart p kept.path) (sym path) (leaf_apart other kept differs keeps)

-- who is live, with what, once one live clone keeps or holds something else
live_after : (clones : List Clone) (number : ℕ) (next : Stored) (left : List Range) (other : ℕ) (stored : Stored) (held : List Range)
    → get_or (set clones number (Live next left)) other Absent ≡ Live stored held
    → (left ≡ held) ⊎ (get_or clones other Absent ≡ Live stored held)
live_after clones number next left other stored held live = elim (cases_eq other number) [
  | inl same ↦ elim (cases_lt number (length clones)) [
    | inl inside ↦ inl (one_held next stored left held (sym (ap (λ k. get_or (set clones number (Live next left)) k Absent) same ∙ get_or-set_same clones number (Live next left) Absent inside) ∙ live))
    | inr past ↦ absurd (no_live stored held (sym (get_or_past (set clones number (Live next left)) other Absent (omega (arith, past, same, length-set clones number (Live next left)))) ∙ live))
  ]
  | inr differs ↦ inr (sym (get_or-set_other clones number other (Live next left) Absent differs) ∙ live)
]
  where
    one_held : (one other : Stored) (first second : List Range) → Live one first ≡ Live other second → first ≡ second
    one_held one other first second same = cc

    no_live : (stored : Stored) (held : List Range) → ¬ (Absent ≡ Live stored held)
    no_live stored held same = cc

-- what each live clone holds back is done, once one of them holds only what is
pub held_after : (history : List Operation) (clones : List Clone) (number : ℕ) (next : Stored) (left : List Range)
    → ((other : ℕ) (stored : Stored) (held : List Range) → get_or clones other Absent ≡ Live stored held → (range : Range) → Has held range → IsDoneRange history range)
    → ((range : Range) → Has left range → IsDoneRange history range)
    → (other : ℕ) (stored : Stored) (held : List Range) → get_or (set clones number (Live next left)) other Absent ≡ Live stored held
    → (range : Range) → Has held range → IsDoneRange history range
held_after history clones number next left done left_done other stored held live range h = elim (live_after clones number next left other stored held live) [
  | inl same ↦ left_done range (subst (λ (ranges : List Range). Has ranges range) (sym same) h)
  | inr before ↦ done other stored held before range h
]

-- what stands at a place of the messages once one more was sent
pub sent_at : (messages : List Message) (last : Message) (place : ℕ) (message : Message) → slice_get (messages ++ last ∷ []) place ≡ Some message
    → (slice_get messages place ≡ Some message) ⊎ ((place ≡ length messages) × (last ≡ message))
sent_at [] last zero message is = inr (refl, cc)
sent_at [] last (suc place) message is = absurd (cc)
sent_at (first ∷ messages) last zero message is = inl is
sent_at (first ∷ messages) last (suc place) message is = elim (sent_at messages last place message is) [
  | inl old ↦ inl old
  | inr new ↦ inr (omega (arith, new.0), new.1)
]

-- a leaf that was given was given before, if what was sent last gives none
pub given_before : (messages : List Message) (last : Message) (place id : ℕ) (path : List ℕ) (dots : List Range) → ¬ (last ≡ JoinGive id path dots)
    → slice_get (messages ++ last ∷ []) place ≡ Some (JoinGive id path dots) → slice_get messages place ≡ Some (JoinGive id path dots)
given_before messages last place id path dots other sent = elim (sent_at messages last place (JoinGive id path dots) sent) [
  | inl old ↦ old
  | inr new ↦ absurd (other new.1)
]

-- who holds no leaf once a clone is in another state held none before, if that clone holds one where it held one
waits_before : (clones : List Clone) (number : ℕ) (now : Clone) (id : ℕ)
    → ((stored : Stored) → Keeps (get_or clones number Absent) stored → (kept : Stored) × Keeps now kept)
    → ((stored : Stored) → ¬ Keeps (get_or (set clones number now) id Absent) stored)
    → (stored : Stored) → ¬ Keeps (get_or clones id Absent) stored
waits_before clones number now id still waits stored keeps = elim (cases_eq id number) [
  | inl same ↦
      let here : Keeps (get_or clones number Absent) stored = subst (λ (k : ℕ). Keeps (get_or clones k Absent) stored) same keeps in
      let at : get_or (set clones number now) id Absent ≡ now
      = ap (λ k. get_or (set clones number now) k Absent) same ∙ get_or-set_same clones number now Absent (place_of_clone clones number stored here) in
      let kept = still stored here in
      waits kept.0 (subst (λ (c : Clone). Keeps c kept.0) (sym at) kept.1)
  | inr differs ↦ waits stored (subst (λ (c : Clone). Keeps c stored) (sym (get_or-set_other clones number id now Absent differs)) keeps)
]

-- so a leaf that is open once a clone is in another state was open before, if it was given before
pub open_before : (world : World) (number : ℕ) (now : Clone) (history : List Operation) (messages : List Message) (place id : ℕ) (path : List ℕ) (dots : List Range)
    → ((stored : Stored) → Keeps (clone_at world number) stored → (kept : Stored) × Keeps now kept)
    → (slice_get messages place ≡ Some (JoinGive id path dots) → slice_get world.messages place ≡ Some (JoinGive id path dots))
    → IsOpenGive (record (with_clone world number now) { history = history; messages = messages }) place id path dots
    → IsOpenGive world place id path dots
open_before world number now history messages place id path dots still given opened = record {
  sent = given opened.sent;
  waits = waits_before world.clones number now id still opened.waits;
}

-- a leaf that is open is apart from those that are held once a clone is live at a path apart from it
pub gives_held_with : (world : World) (number : ℕ) (next : Stored) (left : List Range) (place id : ℕ) (path : List ℕ) (dots : List Range) → IsSound world
    → IsOpenGive world place id path dots → AreApart path next.path
    → (other : ℕ) (first : Stored) → Keeps (get_or (set world.clones number (Live next left)) other Absent) first → AreApart path first.path
gives_held_with world number next left place id path dots sound opened apart other first keeps = elim (keeps_after world.clones number next left other first keeps) [
  | inl a ↦ subst (λ (s : Stored). AreApart path s.path) a.1 apart
  | inr a ↦ sound.gives_held place id path dots other first opened a.1
]
