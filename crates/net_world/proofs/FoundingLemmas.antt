-- The forks by which a world is founded, clone after clone.
use Rattle.std.proofs.Common.{◌≡◌, ◌≢◌, ◌+◌, ◌-◌, ◌<◌, ◌≤◌, ◌∙◌, ℕ, zero, suc, List, [], ◌∷◌, ◌++◌, Option, Some, None, refl, ap, sym, subst, arith, inl, inr, map, get_or, set, insert, replicate, option_map, length}
use Rattle.std.specs.Prelude.{slice_get}
use Rattle.std.specs.List.{range_with_len}
use Rattle.std.proofs.lemmas.Bool.{lt-ltb, le-ltb, cases_eq, cases_lt}
use Rattle.std.proofs.lemmas.List.{replicate_more, length-replicate, length-map, length-set, ext_get_or}
use Rattle.std.proofs.lemmas.List.FromFn.{get_or-map-range_with_len, length-map-range_with_len}
use Rattle.std.proofs.lemmas.Option.{slice_get-map, slice_get_cases, slice_get_within, get_or_from_slice_get}
use Rattle.mld_model.specs.World.{clone_count, founded_path}
use Rattle.mld_model.specs.declared.CloneState.TheVariants as states
use Rattle.mld_model.specs.Local.{LocalAsker, LocalClone, LocallyForks, blank_clone, joined_clone}
use Rattle.mld_model.specs.StandsFor.{RunningClone, id_of, founded_local}
use Rattle.mld_model.proofs.StandsForLaws.{same_number}
use Rattle.mld_ops.specs.Messages.{GiveValue, give_value}
use Rattle.mld_ops.specs.Properties.{AreKept}
use Rattle.mld_ops.proofs.PropertiesLaws.{kept_same}
use Rattle.mld_ops.specs.declared.messages.Give.{Give}
use Rattle.mld_ops.specs.declared.messages.Message.{Message}
use Rattle.mld_ops.specs.declared.messages.Message.TheVariants as kinds
use Rattle.clone_core.specs.Banked.{BankedClone}
use Rattle.clone_core.specs.CloneClosing.{StaysOpen}
use Rattle.clone_core.specs.Joining.{LocallyGives, AreGood, IsGiveFor}
use Rattle.schedule_text.specs.schedule_model.Schedule.{Setup}
use Rattle.net_world.specs.Founding.{IsKeptSetup, GivesLeaf, IsOpenFirst, AreFounded, IsFoundedTo, AreFoundedTo, IsAbsentAt, TakesHalf, HasGiver}
use Rattle.world_commands.specs.States.{HasState, Becomes, IsNewAsker}
use Rattle.world_commands.specs.WorldBanks.{BankedState, in_memory}
use Rattle.world_commands.proofs.Places.{here_at, other_at}
use Rattle.world_commands.proofs.BankLemmas.{memory_at}
use Rattle.tree_clock.specs.Lists.{Has}
use Rattle.tree_clock.specs.Path.{zero_letter, one_letter}

-- ---- a clone of a world of so many clones

-- the clone of this place, with its leaf
abbrev pub founded_there : Setup → ℕ → ℕ → LocalClone
founded_there setup number place = blank_clone (id_of place) setup.domain setup.properties (founded_path number place)

pub founded_within : (setup : Setup) (number place : ℕ) → place < number
    → founded_local setup.domain setup.properties number place ≡ states.Live (founded_there setup number place)
founded_within setup number place below = rw (lt-ltb place number below) refl

founded_past : (setup : Setup) (number place : ℕ) → number ≤ place → founded_local setup.domain setup.properties number place ≡ states.Absent tt
founded_past setup number place past = rw (le-ltb place number past) refl

-- what the first clone has of its leaf, and gives of it, for one more clone
left_after : (number : ℕ) → 1 ≤ number → founded_path number 0 ++ zero_letter ∷ [] ≡ founded_path (number + 1) 0
left_after number some =
    let forks : number - 1 + 1 ≡ number + 1 - 1 = omega arith in
    replicate_more (number - 1) zero_letter ∙ ap (λ (n : ℕ). replicate n zero_letter) forks

right_for : (number : ℕ) → 1 ≤ number → founded_path number 0 ++ one_letter ∷ [] ≡ founded_path (number + 1) number
right_for zero some = absurd (omega (arith, some))
right_for (suc before) some =
    let forks : suc before - 1 ≡ before = omega arith in
    ap (λ (n : ℕ). replicate n zero_letter ++ one_letter ∷ []) forks

-- a clone that is neither the first nor the new one
others_rest : (setup : Setup) (number place : ℕ) → place ≢ 0 → place ≢ number
    → founded_local setup.domain setup.properties number place ≡ founded_local setup.domain setup.properties (number + 1) place
others_rest setup number zero first other = absurd (first refl)
others_rest setup number (suc before) first other = elim (cases_lt (suc before) number) [
  | inl below ↦
      let later : suc before < number + 1 = omega (arith, below) in
      founded_within setup number (suc before) below ∙ sym (founded_within setup (number + 1) (suc before) later)
  | inr past ↦
      let later : number + 1 ≤ suc before = omega (arith, past, other) in
      founded_past setup number (suc before) past ∙ sym (founded_past setup (number + 1) (suc before) later)
]

abbrev local_in : LocalClone → RunningClone → LocalClone
local_in other (states.Live live) = live
local_in other state = other

pub live_not_absent : (live : LocalClone) → ¬ (◌≡◌ {A = RunningClone} (states.Live live) (states.Absent tt))
live_not_absent live e = cc

-- a member of a list stands in a place of it
pub place_of : {X : Type 0} (items : List X) (item : X) → Has items item → (place : ℕ) × (slice_get items place ≡ Some item)
place_of [] item has = absurd has
place_of {X = X} (first ∷ items) item (inl same) = (0, ap (λ (x : X). Some x) same)
place_of (first ∷ items) item (inr later) = let found : (place : ℕ) × (slice_get items place ≡ Some item) = place_of items item later in (suc found.0, found.1)

module _ {B : Type 0} (setup : Setup) where
  -- a live clone of the founded ones
  pub live_is : (number place : ℕ) (clone : BankedClone B) → place < number → IsFoundedTo setup number place (states.Live clone) → clone.local ≡ founded_there setup number place
  live_is number place clone below is =
      ap (λ (s : RunningClone). local_in clone.local s) (is.memory ∙ founded_within setup number place below)

  -- one that isn't founded yet is absent
  pub absent_still : (number place : ℕ) (state : BankedState B) → number ≤ place → IsFoundedTo setup number place state → (banks : B) × (state ≡ states.Absent banks)
  absent_still number place (states.Absent banks) past is = (banks, refl)
  absent_still number place (states.Asking asking) past is = absurd is.opened
  absent_still number place (states.Down banks) past is = absurd is.opened
  absent_still number place (states.Live clone) past is =
      absurd (live_not_absent clone.local (is.memory ∙ founded_past setup number place past))

  pub absent_there : (number : ℕ) (clones : List (BankedState B)) → number < clone_count → AreFoundedTo setup number clones → IsAbsentAt clones number
  absent_there number clones below founded = elim (slice_get_cases clones number).1 [
    | inl found ↦
        let absent : (banks : B) × (found.0 ≡ states.Absent banks) = absent_still number number found.0 (omega arith) (founded.each number found.0 found.2) in
        (absent.0, found.2 ∙ ap (λ (s : BankedState B). Some s) absent.1)
    | inr past ↦ absurd (omega (arith, past.0, below, founded.count))
  ]

  -- the first one lives, once it is founded
  first_live : (number : ℕ) (state : BankedState B) → 1 ≤ number → IsFoundedTo setup number 0 state → (first : BankedClone B) × (state ≡ states.Live first)
  first_live number (states.Live clone) some is = (clone, refl)
  first_live number (states.Asking asking) some is = absurd is.opened
  first_live number (states.Down banks) some is = absurd is.opened
  first_live number (states.Absent banks) some is =
      absurd (live_not_absent (founded_there setup number 0) (sym (is.memory ∙ founded_within setup number 0 (omega (arith, some)))))

  -- ---- the first clone

  pub all_absent : (blanks : List B) (clones : List (BankedState B)) → length blanks ≡ clone_count → clones ≡ map (λ banks. states.Absent banks) blanks → AreFoundedTo setup 0 clones
  all_absent blanks clones counted are = record {
    count = ap (λ (l : List (BankedState B)). length l) are ∙ length-map blanks (λ banks. states.Absent banks) ∙ counted;
    each = λ place state at.
        one_absent place state (slice_get blanks place) (sym (slice_get-map (λ banks. states.Absent banks) blanks place) ∙ subst (λ (l : List (BankedState B)). HasState l place state) are at);
  } where
    one_absent : (place : ℕ) (state : BankedState B) (found : Option B) → option_map (λ (banks : B). states.Absent banks) found ≡ Some state → IsFoundedTo setup 0 place state
    one_absent place state None e = absurd (cc e)
    one_absent place state (Some banks) e =
        let same : states.Absent banks ≡ state = cc e in
        subst (λ (s : BankedState B). IsFoundedTo setup 0 place s) same (record { memory = sym (founded_past setup 0 place (omega arith)); opened = tt })

  pub first_founded : (old new : List (BankedState B)) (clone : BankedClone B) (id domain : List ℕ) (given : List (List ℕ)) → IsKeptSetup setup → AreFoundedTo setup 0 old
      → id ≡ id_of 0 → domain ≡ setup.domain → given ≡ setup.properties → AreKept given clone.local.properties
      → clone.local ≡ blank_clone id domain clone.local.properties [] → IsOpenFirst clone → new ≡ set old 0 (states.Live clone) → AreFoundedTo setup 1 new
  first_founded old new clone id domain given is absent id_is domain_is given_is kept blank opened sets =
      let same : clone.local.properties ≡ setup.properties =
      kept_same setup.properties clone.local.properties (subst (λ (g : List (List ℕ)). AreKept g clone.local.properties) given_is kept) is.ascending in
      let local : clone.local ≡ founded_there setup 1 0 = blank ∙ (λ i. blank_clone (id_is i) (domain_is i) (same i) []) in
      record {
        count = ap (λ (l : List (BankedState B)). length l) sets ∙ length-set old 0 (states.Live clone) ∙ absent.count;
        each = λ place state at.
            let there : HasState (set old 0 (states.Live clone)) place state = subst (λ (l : List (BankedState B)). HasState l place state) sets at in
            elim (cases_eq place 0) [
              | inl first ↦
                  let now : states.Live clone ≡ state = here_at old 0 (states.Live clone) state (subst (λ (k : ℕ). HasState (set old 0 (states.Live clone)) k state) first there) in
                  subst (λ (k : ℕ). IsFoundedTo setup 1 k state) (sym first) (subst (λ (s : BankedState B). IsFoundedTo setup 1 0 s) now (record {
                    memory = ap (λ (l : LocalClone). states.Live l) local ∙ sym (founded_within setup 1 0 (omega arith));
                    opened = opened;
                  }))
              | inr differs ↦
                  let was : IsFoundedTo setup 0 place state = absent.each place state (other_at old 0 place (states.Live clone) state differs there) in
                  let past : 1 ≤ place = omega (arith, differs) in
                  record { memory = was.memory ∙ founded_past setup 0 place (omega arith) ∙ sym (founded_past setup 1 place past); opened = was.opened }
            ];
      }

  -- ---- one more clone

  -- the first of the clones may give a leaf to the next one
  pub giver_there : (number : ℕ) (clones : List (BankedState B)) (asker : LocalAsker) → 1 ≤ number → number < setup.count → IsKeptSetup setup → asker.id ≡ id_of number
      → AreFoundedTo setup number clones → HasGiver asker clones
  giver_there number clones asker some below is id founded =
      let inside : 0 < length clones = omega (arith, founded.count) in
      elim (slice_get_cases clones 0).1 [
        | inl found ↦
            let live : (first : BankedClone B) × (found.0 ≡ states.Live first) = first_live number found.0 some (founded.each 0 found.0 found.2) in
            let at : HasState clones 0 (states.Live live.0) = found.2 ∙ ap (λ (s : BankedState B). Some s) live.1 in
            let there : IsFoundedTo setup number 0 (states.Live live.0) = founded.each 0 (states.Live live.0) at in
            let local : live.0.local ≡ founded_there setup number 0 = live_is number 0 live.0 (omega (arith, some)) there in
            let long : length live.0.local.path ≡ number - 1 = ap (λ (c : LocalClone). length c.path) local ∙ length-replicate (number - 1) zero_letter in (
              live.0,
              at,
              record {
                opened = there.opened.opened;
                other = λ same.
                    let alike : number ≡ 0 = same_number number 0 (omega (arith, below, is.most)) (omega arith) (sym id ∙ same ∙ ap (λ (c : LocalClone). c.id) local) in
                    omega (arith, alike, some);
                room = omega (arith, long, below, is.most);
              },
            )
        | inr past ↦ absurd (omega (arith, past.0, inside))
      ]

  -- the first clone once it has forked for the next one
  pub first_after : (number : ℕ) (asker : LocalAsker) (leaf : GiveValue) (was now : BankedClone B) → 1 ≤ number → was.local ≡ founded_there setup number 0 → IsOpenFirst was
      → LocallyForks was.local asker.id now.local leaf → StaysOpen was now → IsFoundedTo setup (number + 1) 0 (states.Live now)
  first_after number asker leaf was now some was_is first forks opened =
      let local : now.local ≡ founded_there setup (number + 1) 0 = forks.left ∙ (λ i. record (was_is i) { path = (was_is i).path ++ zero_letter ∷ [] })
      ∙ ap (λ (leaf : List ℕ). blank_clone (id_of 0) setup.domain setup.properties leaf) (left_after number some) in
      record {
        memory = ap (λ (l : LocalClone). states.Live l) local ∙ sym (founded_within setup (number + 1) 0 (omega arith));
        opened = record { opened = opened.opened; first = opened.generation ∙ first.first };
      }

  -- the next one is at the right half
  pub half_is : (number : ℕ) (asker : LocalAsker) (leaf : GiveValue) (was now : BankedClone B) → IsKeptSetup setup → 1 ≤ number → was.local ≡ founded_there setup number 0
      → IsNewAsker setup.domain setup.properties number asker → LocallyForks was.local asker.id now.local leaf → joined_clone asker leaf ≡ founded_there setup (number + 1) number
  half_is number asker leaf was now is some was_is new forks =
      let kept : asker.properties ≡ setup.properties = kept_same setup.properties asker.properties new.kept is.ascending in
      (λ i. joined_clone asker (forks.right i)) ∙ (λ i. record {
        id = new.id i;
        domain = new.domain_is i;
        properties = kept i;
        path = (was_is i).path ++ one_letter ∷ [];
        base = (was_is i).ticks;
        base_pairs = (was_is i).pairs;
        entries = [];
        held = [];
        ticks = (was_is i).ticks;
        pairs = (was_is i).pairs;
      }) ∙ ap (λ (path : List ℕ). blank_clone (id_of number) setup.domain setup.properties path) (right_for number some)

  next_lives : (number : ℕ) (asker : LocalAsker) (was now : BankedClone B) (state : BankedState B) → IsKeptSetup setup → 1 ≤ number → was.local ≡ founded_there setup number 0
      → IsNewAsker setup.domain setup.properties number asker → TakesHalf asker was now state → IsFoundedTo setup (number + 1) number state
  next_lives number asker was now state is some was_is new takes =
      let local : takes.lives.clone.local ≡ founded_there setup (number + 1) number = takes.lives.local ∙ half_is number asker takes.leaf was now is some was_is new takes.forks in
      subst (λ (s : BankedState B). IsFoundedTo setup (number + 1) number s) (sym takes.lives.is) (record {
        memory = ap (λ (l : LocalClone). states.Live l) local ∙ sym (founded_within setup (number + 1) number (omega arith));
        opened = takes.lives.opened;
      })

  pub one_more : (number : ℕ) (old new : List (BankedState B)) (asker : LocalAsker) (was now : BankedClone B) (state : BankedState B) → IsKeptSetup setup → 1 ≤ number
      → IsNewAsker setup.domain setup.properties number asker → AreFoundedTo setup number old → HasState old 0 (states.Live was) → TakesHalf asker was now state
      → new ≡ set (set old number state) 0 (states.Live now) → AreFoundedTo setup (number + 1) new
  one_more number old new asker was now state is some begins founded at takes sets =
      let was_there : IsFoundedTo setup number 0 (states.Live was) = founded.each 0 (states.Live was) at in
      let was_is : was.local ≡ founded_there setup number 0 = live_is number 0 was (omega (arith, some)) was_there in
      record {
        count = ap (λ (l : List (BankedState B)). length l) sets ∙ length-set (set old number state) 0 (states.Live now) ∙ length-set old number state ∙ founded.count;
        each = λ place found has.
            let there : HasState (set (set old number state) 0 (states.Live now)) place found = subst (λ (l : List (BankedState B)). HasState l place found) sets has in
            elim (cases_eq place 0) [
              | inl first ↦
                  let is_now : states.Live now ≡ found =
                  here_at (set old number state) 0 (states.Live now) found (subst (λ (k : ℕ). HasState (set (set old number state) 0 (states.Live now)) k found) first there) in
                  subst (λ (k : ℕ). IsFoundedTo setup (number + 1) k found) (sym first)
                  (subst (λ (s : BankedState B). IsFoundedTo setup (number + 1) 0 s) is_now (first_after number asker takes.leaf was now some was_is was_there.opened takes.forks takes.opened))
              | inr differs ↦
                  let still : HasState (set old number state) place found = other_at (set old number state) 0 place (states.Live now) found differs there in
                  elim (cases_eq place number) [
                    | inl here ↦
                        let is_now : state ≡ found = here_at old number state found (subst (λ (k : ℕ). HasState (set old number state) k found) here still) in
                        subst (λ (k : ℕ). IsFoundedTo setup (number + 1) k found) (sym here)
                        (subst (λ (s : BankedState B). IsFoundedTo setup (number + 1) number s) is_now (next_lives number asker was now state is some was_is begins takes))
                    | inr other ↦
                        let before : IsFoundedTo setup number place found = founded.each place found (other_at old number place state found other still) in
                        record { memory = before.memory ∙ others_rest setup number place differs other; opened = before.opened }
                  ]
            ];
      }

  -- ---- all clones

  pub all_founded : (clones : List (BankedState B)) → AreFoundedTo setup setup.count clones → AreFounded setup clones
  all_founded clones founded =
      let one : ℕ → RunningClone = founded_local setup.domain setup.properties setup.count in
      let none : RunningClone = states.Absent tt in
      let long : length (map in_memory clones) ≡ clone_count = length-map clones in_memory ∙ founded.count in
      record {
        memory = ext_get_or none (map in_memory clones) (map one (range_with_len 0 clone_count)) (long ∙ sym (length-map-range_with_len one 0 clone_count)) (λ place below.
            elim (slice_get_cases clones place).1 [
              | inl found ↦
                  get_or_from_slice_get (map in_memory clones) place (in_memory found.0) none (memory_at clones place found.0 found.2)
                  ∙ (founded.each place found.0 found.2).memory ∙ sym (get_or-map-range_with_len one 0 clone_count place place none (omega (arith, below, long)) (omega arith))
              | inr past ↦ absurd (omega (arith, past.0, below, long, founded.count))
            ]);
        opened = λ state has. let found : (place : ℕ) × (slice_get clones place ≡ Some state) = place_of clones state has in (founded.each found.0 state found.1).opened;
      }

-- ---- asking the first of the clones, where one is taken out of the list

module _ {X : Type 0} where
  -- the first is the same, without the one that was taken out
  pub first_stays : (items left : List X) (number : ℕ) (state : X) → 1 ≤ number → number < length items → length left + 1 ≡ length items
      → insert left number state ≡ set items number state → slice_get left 0 ≡ slice_get items 0
  first_stays items left zero state some inside counted back = absurd (omega (arith, some))
  first_stays [] left (suc before) state some inside counted back = absurd (omega (arith, inside))
  first_stays (item ∷ items) [] (suc before) state some inside counted back = absurd (omega (arith, inside, counted))
  first_stays (item ∷ items) (first ∷ left) (suc before) state some inside counted back =
      let same : first ≡ item = cc back in ap (λ (x : X). Some x) same

  -- and where it changes meanwhile, it is as if it changed once the other one is put back
  first_then_back : (left : List X) (number : ℕ) (first state : X) → 1 ≤ number → 0 < length left → insert (set left 0 first) number state ≡ set (insert left number state) 0 first
  first_then_back left zero first state some inside = absurd (omega (arith, some))
  first_then_back [] (suc before) first state some inside = absurd (omega (arith, inside))
  first_then_back (item ∷ left) (suc before) first state some inside = refl

  first_kept : (items : List X) (number : ℕ) (state : X) → 1 ≤ number → slice_get (set items number state) 0 ≡ slice_get items 0
  first_kept items zero state some = absurd (omega (arith, some))
  first_kept [] (suc before) state some = refl
  first_kept (item ∷ items) (suc before) state some = refl

  -- one was taken out, the first changed, and the one came back in another state
  pub comes_back : (old left between new : List X) (number : ℕ) (before after was now : X) → 1 ≤ number → HasState old number before → length left + 1 ≡ length old
      → ((state : X) → insert left number state ≡ set old number state) → Becomes left between 0 was now → new ≡ insert between number after
      → Becomes old (set old number after) number before after × Becomes (set old number after) new 0 was now
  comes_back old left between new number before after was now some at counted back becomes sets =
      let inside : number < length old = slice_get_within old number before at in
      let first : slice_get left 0 ≡ slice_get old 0 = first_stays old left number before some inside counted (back before) in (
        record { was = at; now = refl },
        record {
          was = first_kept old number after some ∙ sym first ∙ becomes.was;
          now = sets ∙ ap (λ (l : List X). insert l number after) becomes.now ∙ first_then_back left number now after some (omega (arith, counted, inside, some))
              ∙ ap (λ (l : List X). set l 0 now) (back after);
        },
      )

-- what the first clone answered gives the leaf
pub gives_leaf : (asker : LocalAsker) (old new : LocalClone) (messages : List Message) (gives : LocallyGives old asker.id messages new) → AreGood messages
    → GivesLeaf messages asker (give_value gives.0)
gives_leaf asker old new messages gives good = record {
  give = gives.0;
  one = gives.1;
  is = refl;
  own = ap (λ (g : GiveValue). g.id) gives.2.right;
  good = good (kinds.JoinGive gives.0) (subst (λ (l : List Message). Has l (kinds.JoinGive gives.0)) (sym gives.1) (inl refl));
}

-- the leaf that a message of the answer gives
pub given_is : (asker : LocalAsker) (leaf : GiveValue) (messages : List Message) (message : Message) (give : Give) → GivesLeaf messages asker leaf → message ≡ get_or messages 0 message
    → IsGiveFor asker message give → give_value give ≡ leaf
given_is asker leaf messages message give gives first for_it =
    let same : kinds.JoinGive give ≡ kinds.JoinGive gives.give = sym for_it.is ∙ first ∙ ap (λ (l : List Message). get_or l 0 message) gives.one in
    let equal : give ≡ gives.give = cc same in
    ap (λ (g : Give). give_value g) equal ∙ gives.is
