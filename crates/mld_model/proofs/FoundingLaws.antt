-- The durable steps of founding give what each clone of the founded world keeps, and after a front of them each keeps nothing yet or its leaf.
use Rattle.std.proofs.Common.{◌≡◌, ◌≢◌, ℕ, zero, suc, ◌+◌, ◌-◌, ◌<◌, ◌≤◌, List, [], ◌∷◌, ◌++◌, ◌⊎◌, inl, inr, refl, sym, ◌∙◌, ap, arith, replicate, map, Option, Some, None}
use Rattle.std.specs.List.{range_with_len}
use Rattle.std.proofs.lemmas.Bool.{cases_lt, cases_eq, eq-eqb, ne_eqb, lt-ltb, le-ltb}
use Rattle.std.proofs.lemmas.List.{get_or_past}
use Rattle.std.proofs.lemmas.List.FromFn.{get_or-map-range_with_len, length-map-range_with_len}
use Rattle.tree_clock.specs.Path.{zero_letter}
use Rattle.mld_model.specs.Clone.{Absent, Live, Stored, kept_of}
use Rattle.mld_model.specs.World.{clone_at, clone_count, founded, founded_path, founded_clone}
use Rattle.mld_model.specs.Durable.{DurableStep, AppendsFork, Creates, kept_after}
use Rattle.mld_model.specs.FoundingSteps.{StepAt, leaf_after, leaf_alone, forking_steps, founding_steps, steps_at, keeps_nothing_yet, keeps_leaf, FoundingLeads, FoundingFronts}

-- ---- the steps of one clone

-- a step at the clone is its first, and one at another is none of its
step_here : (number : ℕ) (first : StepAt) (rest : List StepAt) → first.number ≡ number → steps_at number (first ∷ rest) ≡ first.step ∷ steps_at number rest
step_here number first rest same = rw (eq-eqb first.number number same) refl

step_elsewhere : (number : ℕ) (first : StepAt) (rest : List StepAt) → first.number ≢ number → steps_at number (first ∷ rest) ≡ steps_at number rest
step_elsewhere number first rest differs = rw (ne_eqb first.number number differs) refl

-- the two steps of a fork
abbrev fork_of : StepAt
fork_of = record { number = 0; step = AppendsFork }

abbrev create_of : ℕ → StepAt
create_of forks = record { number = suc forks; step = Creates (leaf_alone (leaf_after forks (suc forks))) }

-- one zero more at the end
zero_behind : (count : ℕ) → replicate count zero_letter ++ zero_letter ∷ [] ≡ replicate (suc count) zero_letter
zero_behind zero = refl
zero_behind (suc count) = ap (λ (rest : List ℕ). zero_letter ∷ rest) (zero_behind count)

-- what clone 0 keeps after so many forks
abbrev root_after : ℕ → Option Stored
root_after forks = Some (leaf_alone (leaf_after forks 0))

-- a fork more at clone 0
root_forks : (forks : ℕ) (steps : List DurableStep) → kept_after (root_after forks) (AppendsFork ∷ steps) ≡ kept_after (root_after (suc forks)) steps
root_forks forks steps = ap (λ (path : List ℕ). kept_after (Some (leaf_alone path)) steps) (zero_behind forks)

-- what another clone keeps that has its leaf
abbrev other_keeps : ℕ → Option Stored
other_keeps before = Some (leaf_alone (leaf_after 0 (suc before)))

-- ---- all steps

-- clone 0 keeps its leaf after all forks
root_leads : (forks more : ℕ) → kept_after (root_after forks) (steps_at 0 (forking_steps forks more)) ≡ root_after (forks + more)
root_leads forks zero = let same : forks ≡ forks + 0 = omega arith in ap root_after same
root_leads forks (suc more) =
    let rest : List StepAt = forking_steps (suc forks) more in
    let other : suc forks ≢ 0 = λ same. omega (arith, same) in
    let steps : steps_at 0 (fork_of ∷ create_of forks ∷ rest) ≡ AppendsFork ∷ steps_at 0 rest =
    step_here 0 fork_of (create_of forks ∷ rest) refl ∙ ap (λ (s : List DurableStep). AppendsFork ∷ s) (step_elsewhere 0 (create_of forks) rest other) in
    let count : suc forks + more ≡ forks + suc more = omega arith in
    ap (kept_after (root_after forks)) steps ∙ root_forks forks (steps_at 0 rest) ∙ root_leads (suc forks) more ∙ ap root_after count

-- another clone has no step before its fork, nor behind it
other_passes : (before forks more : ℕ) → before ≢ forks
    → steps_at (suc before) (forking_steps forks (suc more)) ≡ steps_at (suc before) (forking_steps (suc forks) more)
other_passes before forks more differs =
    let rest : List StepAt = forking_steps (suc forks) more in
    step_elsewhere (suc before) fork_of (create_of forks ∷ rest) (λ same. omega (arith, same))
    ∙ step_elsewhere (suc before) (create_of forks) rest (λ same. differs (omega (arith, same)))

other_none : (before forks more : ℕ) → (before < forks) ⊎ (forks + more ≤ before) → steps_at (suc before) (forking_steps forks more) ≡ []
other_none before forks zero far = refl
other_none before forks (suc more) (inl past) =
    other_passes before forks more (λ same. omega (arith, past, same)) ∙ other_none before (suc forks) more (inl (omega (arith, past)))
other_none before forks (suc more) (inr far) =
    other_passes before forks more (λ same. omega (arith, far, same)) ∙ other_none before (suc forks) more (inr (omega (arith, far)))

-- and creates what it keeps at its fork
other_creates : (before forks more : ℕ) → forks ≤ before → before < forks + more
    → steps_at (suc before) (forking_steps forks more) ≡ Creates (leaf_alone (leaf_after 0 (suc before))) ∷ []
other_creates before forks zero from to = absurd (omega (arith, from, to))
other_creates before forks (suc more) from to = elim (cases_eq before forks) [
  | inl same ↦
      let rest : List StepAt = forking_steps (suc forks) more in
      step_elsewhere (suc before) fork_of (create_of forks ∷ rest) (λ none. omega (arith, none))
      ∙ step_here (suc before) (create_of forks) rest (ap (λ (n : ℕ). suc n) (sym same))
      ∙ (λ i. Creates (leaf_alone (leaf_after 0 (suc (sym same i)))) ∷ other_none before (suc forks) more (inl (omega (arith, same))) i)
  | inr differs ↦
      other_passes before forks more differs ∙ other_creates before (suc forks) more (omega (arith, from, differs)) (omega (arith, to))
]

-- what the founded world keeps
founded_kept : (domain : List ℕ) (properties : List (List ℕ)) (count number : ℕ) → number < count → count ≤ clone_count
    → kept_of (clone_at (founded domain properties count) number) ≡ Some (leaf_alone (founded_path count number))
founded_kept domain properties count number below most =
    let inside : number < clone_count = omega (arith, below, most) in
    let live : founded_clone count number ≡ Live (leaf_alone (founded_path count number)) [] = rw (lt-ltb number count below) refl in
    ap kept_of (get_or-map-range_with_len (founded_clone count) 0 clone_count number number Absent inside (omega arith) ∙ live)

founded_none : (domain : List ℕ) (properties : List (List ℕ)) (count number : ℕ) → count ≤ number
    → kept_of (clone_at (founded domain properties count) number) ≡ None
founded_none domain properties count number above = elim (cases_lt number clone_count) [
  | inl inside ↦
      let absent : founded_clone count number ≡ Absent = rw (le-ltb number count above) refl in
      ap kept_of (get_or-map-range_with_len (founded_clone count) 0 clone_count number number Absent inside (omega arith) ∙ absent)
  | inr past ↦ ap kept_of (get_or_past (map (founded_clone count) (range_with_len 0 clone_count)) number Absent
      (omega (arith, past, length-map-range_with_len (founded_clone count) 0 clone_count)))
]

-- all together give what each clone of the founded world keeps
pub founding_leads : FoundingLeads
founding_leads domain properties count zero some most =
    let first : StepAt = record { number = 0; step = Creates (leaf_alone []) } in
    let all : 0 + (count - 1) ≡ count - 1 = omega arith in
    ap (kept_after None) (step_here 0 first (forking_steps 0 (count - 1)) refl) ∙ root_leads 0 (count - 1) ∙ ap root_after all
    ∙ sym (founded_kept domain properties count 0 (omega (arith, some)) most)
founding_leads domain properties count (suc before) some most =
    let first : StepAt = record { number = 0; step = Creates (leaf_alone []) } in
    let steps : steps_at (suc before) (founding_steps count) ≡ steps_at (suc before) (forking_steps 0 (count - 1)) =
    step_elsewhere (suc before) first (forking_steps 0 (count - 1)) (λ same. omega (arith, same)) in
    elim (cases_lt (suc before) count) [
      | inl below ↦
          ap (kept_after None) (steps ∙ other_creates before 0 (count - 1) (omega arith) (omega (arith, below)))
          ∙ sym (founded_kept domain properties count (suc before) below most)
      | inr above ↦
          ap (kept_after None) (steps ∙ other_none before 0 (count - 1) (inr (omega (arith, above))))
          ∙ sym (founded_none domain properties count (suc before) above)
    ]

-- ---- fronts

-- after a front clone 0 keeps its leaf after some of the forks
record RootAt (forks more : ℕ) (front : List StepAt) : Type 0 where
  reached : ℕ
  few : reached ≤ forks + more
  kept : kept_after (root_after forks) (steps_at 0 front) ≡ root_after reached

root_front : (forks more : ℕ) (front rest : List StepAt) → front ++ rest ≡ forking_steps forks more → RootAt forks more front
root_front forks more [] rest is = record { reached = forks; few = omega arith; kept = refl }
root_front forks zero (first ∷ front) rest is = absurd (cc is)
root_front forks (suc more) (first ∷ []) rest is =
    let same : first ≡ fork_of = cc is in
    record {
      reached = suc forks;
      few = omega arith;
      kept = ap (λ (f : StepAt). kept_after (root_after forks) (steps_at 0 (f ∷ []))) same
          ∙ ap (kept_after (root_after forks)) (step_here 0 fork_of [] refl) ∙ root_forks forks [];
    }
root_front forks (suc more) (first ∷ second ∷ front) rest is =
    let one : first ≡ fork_of = cc is in
    let two : second ≡ create_of forks = cc is in
    let next : RootAt (suc forks) more front = root_front (suc forks) more front rest (cc is) in
    let other : suc forks ≢ 0 = λ same. omega (arith, same) in
    record {
      reached = next.reached;
      few = omega (arith, next.few);
      kept = (λ i. kept_after (root_after forks) (steps_at 0 (one i ∷ two i ∷ front)))
          ∙ ap (kept_after (root_after forks)) (step_here 0 fork_of (create_of forks ∷ front) refl)
          ∙ root_forks forks (steps_at 0 (create_of forks ∷ front))
          ∙ ap (kept_after (root_after (suc forks))) (step_elsewhere 0 (create_of forks) front other) ∙ next.kept;
    }

-- and another clone has had no step, or has created what it keeps
abbrev HasCreated : ℕ → List StepAt → Type 0
HasCreated before front = (steps_at (suc before) front ≡ []) ⊎ (steps_at (suc before) front ≡ Creates (leaf_alone (leaf_after 0 (suc before))) ∷ [])

-- where its fork is past, it has none
past_front : (before forks more : ℕ) (front rest : List StepAt) → before < forks → front ++ rest ≡ forking_steps forks more → steps_at (suc before) front ≡ []
past_front before forks more [] rest past is = refl
past_front before forks zero (first ∷ front) rest past is = absurd (cc is)
past_front before forks (suc more) (first ∷ []) rest past is =
    let same : first ≡ fork_of = cc is in
    ap (λ (f : StepAt). steps_at (suc before) (f ∷ [])) same ∙ step_elsewhere (suc before) fork_of [] (λ none. omega (arith, none))
past_front before forks (suc more) (first ∷ second ∷ front) rest past is =
    let one : first ≡ fork_of = cc is in
    let two : second ≡ create_of forks = cc is in
    (λ i. steps_at (suc before) (one i ∷ two i ∷ front))
    ∙ step_elsewhere (suc before) fork_of (create_of forks ∷ front) (λ none. omega (arith, none))
    ∙ step_elsewhere (suc before) (create_of forks) front (λ none. omega (arith, none, past))
    ∙ past_front before (suc forks) more front rest (omega (arith, past)) (cc is)

other_front : (before forks more : ℕ) (front rest : List StepAt) → front ++ rest ≡ forking_steps forks more → HasCreated before front
other_front before forks more [] rest is = inl refl
other_front before forks zero (first ∷ front) rest is = absurd (cc is)
other_front before forks (suc more) (first ∷ []) rest is =
    let same : first ≡ fork_of = cc is in
    inl (ap (λ (f : StepAt). steps_at (suc before) (f ∷ [])) same ∙ step_elsewhere (suc before) fork_of [] (λ none. omega (arith, none)))
other_front before forks (suc more) (first ∷ second ∷ front) rest is =
    let one : first ≡ fork_of = cc is in
    let two : second ≡ create_of forks = cc is in
    let begins : steps_at (suc before) (first ∷ second ∷ front) ≡ steps_at (suc before) (create_of forks ∷ front) =
    (λ i. steps_at (suc before) (one i ∷ two i ∷ front)) ∙ step_elsewhere (suc before) fork_of (create_of forks ∷ front) (λ none. omega (arith, none)) in
    elim (cases_eq before forks) [
      | inl same ↦ inr (begins ∙ step_here (suc before) (create_of forks) front (ap (λ (n : ℕ). suc n) (sym same))
          ∙ (λ i. Creates (leaf_alone (leaf_after 0 (suc (sym same i)))) ∷ past_front before (suc forks) more front rest (omega (arith, same)) (cc is) i))
      | inr differs ↦
          let passes : steps_at (suc before) (first ∷ second ∷ front) ≡ steps_at (suc before) front =
          begins ∙ step_elsewhere (suc before) (create_of forks) front (λ none. differs (omega (arith, none))) in
          elim (other_front before (suc forks) more front rest (cc is)) [
            | inl none ↦ inl (passes ∙ none)
            | inr made ↦ inr (passes ∙ made)
          ]
    ]

-- so each clone keeps nothing yet, or its leaf after so many forks
pub founding_fronts : FoundingFronts
founding_fronts count number [] rest some is = keeps_nothing_yet refl
founding_fronts count zero (first ∷ front) rest some is =
    let create : StepAt = record { number = 0; step = Creates (leaf_alone []) } in
    let same : first ≡ create = cc is in
    let root : RootAt 0 (count - 1) front = root_front 0 (count - 1) front rest (cc is) in
    keeps_leaf root.reached (omega (arith, some, root.few))
    (ap (λ (f : StepAt). kept_after None (steps_at 0 (f ∷ front))) same ∙ ap (kept_after None) (step_here 0 create front refl) ∙ root.kept)
founding_fronts count (suc before) (first ∷ front) rest some is =
    let create : StepAt = record { number = 0; step = Creates (leaf_alone []) } in
    let same : first ≡ create = cc is in
    let passes : steps_at (suc before) (first ∷ front) ≡ steps_at (suc before) front =
    ap (λ (f : StepAt). steps_at (suc before) (f ∷ front)) same ∙ step_elsewhere (suc before) create front (λ none. omega (arith, none)) in
    elim (other_front before 0 (count - 1) front rest (cc is)) [
      | inl none ↦ keeps_nothing_yet (ap (kept_after None) (passes ∙ none))
      | inr made ↦ keeps_leaf 0 (omega (arith, some)) (ap (kept_after None) (passes ∙ made))
    ]
