-- What a clone does by its state: the states are told apart here, and nowhere above.
use Rattle.std.proofs.Common.{◌≡◌, ℕ, List, [], refl, sym, ◌∙◌, subst}
use Rattle.tree_clock.specs.declared.dots.Range.{Range}
use Rattle.mld_model.specs.Clone.{Clone, Absent, Asking, Empty, Down, Live, Stored}
use Rattle.mld_model.specs.World.{World, with_clone}
use Rattle.mld_model.specs.Reply.{Reply, IsAbsent, IsAsking, IsDown, IsLive, Opened}
use Rattle.mld_model.specs.CloneStep.{Answers, ByState, IfLive, Reopens}

-- what follows in each state of a clone follows whatever its state is
pub by_state : (C : Type 0) (clone : Clone) (absent asking down : Type 0) (live : Stored → List Range → Type 0)
    → (clone ≡ Absent → absent → C) → (clone ≡ Asking → asking → C) → (down → C)
    → ((stored : Stored) (held : List Range) → clone ≡ Live stored held → live stored held → C)
    → ByState clone absent asking down live → C
by_state C Absent absent asking down live at_absent at_asking at_down at_live p = at_absent refl p
by_state C Asking absent asking down live at_absent at_asking at_down at_live p = at_asking refl p
by_state C Empty absent asking down live at_absent at_asking at_down at_live p = at_down p
by_state C (Down stored) absent asking down live at_absent at_asking at_down at_live p = at_down p
by_state C (Live stored held) absent asking down live at_absent at_asking at_down at_live p = at_live stored held refl p

-- so does what follows of two facts by the state of one clone
pub by_one_state : (C : Type 0) (clone : Clone) (absent asking down : Type 0) (live : Stored → List Range → Type 0)
    (absent_too asking_too down_too : Type 0) (live_too : Stored → List Range → Type 0)
    → (absent → absent_too → C) → (asking → asking_too → C) → (down → down_too → C)
    → ((stored : Stored) (held : List Range) → live stored held → live_too stored held → C)
    → ByState clone absent asking down live → ByState clone absent_too asking_too down_too live_too → C
by_one_state C Absent absent asking down live absent_too asking_too down_too live_too at_absent at_asking at_down at_live p q = at_absent p q
by_one_state C Asking absent asking down live absent_too asking_too down_too live_too at_absent at_asking at_down at_live p q = at_asking p q
by_one_state C Empty absent asking down live absent_too asking_too down_too live_too at_absent at_asking at_down at_live p q = at_down p q
by_one_state C (Down stored) absent asking down live absent_too asking_too down_too live_too at_absent at_asking at_down at_live p q = at_down p q
by_one_state C (Live stored held) absent asking down live absent_too asking_too down_too live_too at_absent at_asking at_down at_live p q = at_live stored held p q

-- the reply says the state of a clone that isn't live
pub data IsState : Reply → Type 0 where
  is_absent : IsState IsAbsent
  is_asking : IsState IsAsking
  is_down : IsState IsDown

-- what holds where a clone replies with its state and nothing changes, and where it is live and does this, holds whatever its state is
pub if_live : (C : Type 0) (world : World) (clone : Clone) (reply : Reply) (next : World) (does : Stored → List Range → Type 0)
    → ((answer : Reply) → IsState answer → Answers world answer reply next → C)
    → ((stored : Stored) (held : List Range) → clone ≡ Live stored held → does stored held → C)
    → IfLive world clone reply next does → C
if_live C world clone reply next does state live =
    by_state C clone _ _ _ does (λ is. state IsAbsent is_absent) (λ is. state IsAsking is_asking) (state IsDown is_down) live

-- a live clone does it
pub live_does : (world : World) (clone : Clone) (reply : Reply) (next : World) (does : Stored → List Range → Type 0)
    (stored : Stored) (held : List Range) → clone ≡ Live stored held → does stored held → IfLive world clone reply next does
live_does world clone reply next does stored held is p = subst (λ (c : Clone). IfLive world c reply next does) (sym is) p

-- the reply says the state of a clone that isn't down
pub data IsStanding : Reply → Type 0 where
  stands_absent : IsStanding IsAbsent
  stands_asking : IsStanding IsAsking
  stands_live : IsStanding IsLive

-- what holds where a clone that is told to open replies with its state and nothing changes, where it keeps nothing and asks, and where it
-- is live with what it keeps, holds whatever its state is
pub if_opens : (C : Type 0) (world : World) (number : ℕ) (clone : Clone) (reply : Reply) (next : World)
    → ((answer : Reply) → IsStanding answer → Answers world answer reply next → C)
    → (clone ≡ Empty → reply ≡ IsAsking → next ≡ with_clone world number Asking → C)
    → ((stored : Stored) → clone ≡ Down stored → reply ≡ Opened → next ≡ with_clone world number (Live stored []) → C)
    → Reopens world number clone reply next → C
if_opens C world number Absent reply next state empty down p = state IsAbsent stands_absent p
if_opens C world number Asking reply next state empty down p = state IsAsking stands_asking p
if_opens C world number Empty reply next state empty down p = empty refl p.0 p.1
if_opens C world number (Down stored) reply next state empty down p = down stored refl p.0 p.1
if_opens C world number (Live stored held) reply next state empty down p = state IsLive stands_live p

-- two outcomes are the same
abbrev pub AreSame : Reply → World → Reply → World → Type 0
AreSame reply next other after = (reply ≡ other) × (next ≡ after)

-- a reply that changes nothing is one outcome
pub answers_once : {world : World} {answer reply other : Reply} {next after : World}
    → Answers world answer reply next → Answers world answer other after → AreSame reply next other after
answers_once p q = (p.0 ∙ sym q.0, p.1 ∙ sym q.1)

-- what only a live clone does has one outcome, if it has one at a live clone
pub once_if_live : (world : World) (clone : Clone) (reply other : Reply) (next after : World) (does too : Stored → List Range → Type 0)
    → ((stored : Stored) (held : List Range) → does stored held → too stored held → AreSame reply next other after)
    → IfLive world clone reply next does → IfLive world clone other after too → AreSame reply next other after
once_if_live world clone reply other next after does too live =
    by_one_state (AreSame reply next other after) clone _ _ _ does _ _ _ too (λ p q. answers_once p q) (λ p q. answers_once p q) (λ p q. answers_once p q) live

-- a clone that is told to open has one outcome
pub opens_once : (world : World) (number : ℕ) (clone : Clone) (reply other : Reply) (next after : World)
    → Reopens world number clone reply next → Reopens world number clone other after → AreSame reply next other after
opens_once world number Absent reply other next after p q = answers_once p q
opens_once world number Asking reply other next after p q = answers_once p q
opens_once world number Empty reply other next after p q = (p.0 ∙ sym q.0, p.1 ∙ sym q.1)
opens_once world number (Down stored) reply other next after p q = (p.0 ∙ sym q.0, p.1 ∙ sym q.1)
opens_once world number (Live stored held) reply other next after p q = answers_once p q
