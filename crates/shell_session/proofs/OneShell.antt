-- A line of the shell is read in one way.
use Rattle.std.proofs.Common.{◌≡◌, ℕ, List, ◌∷◌, ◌++◌, ◌⊎◌, ◌||◌, codes, Bool, true, false, Some, None, nat_eq, refl, sym, ◌∙◌, subst, ap, drop, inl, inr}
use Rattle.std.proofs.lemmas.Bool.{false≢true}
use Rattle.std.proofs.lemmas.Fmt.{decimal_injective}
use Rattle.rdf_terms.proofs.Complete.{one_spelled}
use Rattle.rdf_terms.specs.Grammar.{SpellsTriple}
use Rattle.rdf_terms.specs.declared.terms.Triple.{Triple}
use Rattle.jrql_ast.specs.declared.plans.UpdatePlan.{UpdatePlan}
use Rattle.schedule_text.specs.schedule_model.jrql_patterns.declared.queries.ReadQuery.{ReadQuery}
use Rattle.schedule_text.specs.schedule_model.Characters.{space, hash_mark}
use Rattle.schedule_text.specs.schedule_model.Schedule.{IsNothing, empty, comment}
use Rattle.schedule_text.proofs.of_schedule_model.LackingLaws.{apart}
use Rattle.schedule_text.specs.ReadLines.{IsTripleText, IsUpdateText, IsQueryText}
use Rattle.shell_session.specs.declared.commands.ShellCommand.{ShellCommand}
use Rattle.shell_session.specs.declared.commands.ShellCommand.TheVariants.{Open, Create, Add, Remove, Update, Query, Show, Compact, Truncate, Stop, Skipped}
use Rattle.shell_session.specs.ShellLaws.{IsSameShell, NothingIsNoCommand, OneShellCommand}
use Rattle.shell_session.specs.ShellLines.{IsCreation, SpellsAlike, SpellsLive, SpellsDown, HasFirstWord, AsksForClone}
use Rattle.shell_session.proofs.ShellIris.{one_creation}

-- ---- what a line begins with

-- `o`, `c`, `s` or `t`, with which a line begins that is spelled alike whether a clone is live or not
abbrev begins_alike : ℕ → Bool
begins_alike byte = nat_eq byte 111 || (nat_eq byte 99 || (nat_eq byte 115 || nat_eq byte 116))

-- the line begins with a byte of which the test says this, and that isn't `#`
record Begins (says : Bool) (line : List ℕ) : Type 0 where
  byte : ℕ
  rest : List ℕ
  whole : line ≡ byte ∷ rest
  kind : begins_alike byte ≡ says
  other : nat_eq hash_mark byte ≡ false

alike_begins : (line : List ℕ) (command : ShellCommand) → SpellsAlike line command → Begins true line
alike_begins line Open h = record { byte = 111; rest = _; whole = h; kind = refl; other = refl }
alike_begins line (Create id name properties) h = record { byte = 99; rest = _; whole = h.1; kind = refl; other = refl }
alike_begins line (Add triple) h = absurd h
alike_begins line (Remove triple) h = absurd h
alike_begins line (Update plan) h = absurd h
alike_begins line (Query read) h = absurd h
alike_begins line Show h = record { byte = 115; rest = _; whole = h; kind = refl; other = refl }
alike_begins line Compact h = record { byte = 99; rest = _; whole = h; kind = refl; other = refl }
alike_begins line (Truncate keep) h = record { byte = 116; rest = _; whole = h.0; kind = refl; other = refl }
alike_begins line Stop h = record { byte = 115; rest = _; whole = h; kind = refl; other = refl }
alike_begins line Skipped h = absurd h

word_begins : (word line : List ℕ) (byte : ℕ) (rest : List ℕ) → word ≡ byte ∷ rest → begins_alike byte ≡ false → nat_eq hash_mark byte ≡ false → HasFirstWord word line
    → Begins false line
word_begins word line byte rest e kind other (inl h) = record { byte = byte; rest = rest; whole = h ∙ e; kind = kind; other = other }
word_begins word line byte rest e kind other (inr h) =
    record { byte = byte; rest = rest ++ space ∷ h.0; whole = h.1 ∙ ap (λ (w : List ℕ). w ++ space ∷ h.0) e; kind = kind; other = other }

asked_begins : (line : List ℕ) → AsksForClone line → Begins false line
asked_begins line (inl h) = word_begins (codes "add") line 97 _ refl refl refl h
asked_begins line (inr (inl h)) = word_begins (codes "remove") line 114 _ refl refl refl h
asked_begins line (inr (inr (inl h))) = word_begins (codes "update") line 117 _ refl refl refl h
asked_begins line (inr (inr (inr h))) = word_begins (codes "query") line 113 _ refl refl refl h

-- no line begins in both ways
begins_once : (line : List ℕ) → Begins true line → Begins false line → ⊥
begins_once line p q =
    let same : p.byte ≡ q.byte = cc (p.whole, q.whole) in
    false≢true (sym q.kind ∙ ap begins_alike (sym same) ∙ p.kind)

-- a command that is spelled while a clone is live alone
data IsOfLive : ShellCommand → Type 0 where
  adds : (triple : Triple) → IsOfLive (Add triple)
  removes : (triple : Triple) → IsOfLive (Remove triple)
  updates : (plan : UpdatePlan) → IsOfLive (Update plan)
  queries : (read : ReadQuery) → IsOfLive (Query read)

-- while a clone is live a line is spelled alike, or asks for one
record AsksLive (line : List ℕ) (command : ShellCommand) : Type 0 where
  asks : AsksForClone line
  of : IsOfLive command

live_kind : (domain line : List ℕ) (command : ShellCommand) → SpellsLive domain line command → SpellsAlike line command ⊎ AsksLive line command
live_kind domain line Open h = inl h
live_kind domain line (Create id name properties) h = inl h
live_kind domain line (Add triple) h = inr (record { asks = inl (inr (h.0, h.1)); of = adds triple })
live_kind domain line (Remove triple) h = inr (record { asks = inr (inl (inr (h.0, h.1))); of = removes triple })
live_kind domain line (Update plan) h = inr (record { asks = inr (inr (inl (inr (h.0, h.1)))); of = updates plan })
live_kind domain line (Query read) h = inr (record { asks = inr (inr (inr (inr (h.0, h.1)))); of = queries read })
live_kind domain line Show h = inl h
live_kind domain line Compact h = inl h
live_kind domain line (Truncate keep) h = inl h
live_kind domain line Stop h = inl h
live_kind domain line Skipped h = absurd h

-- and while none is, it is spelled alike or skipped
down_kind : (line : List ℕ) (command : ShellCommand) → SpellsDown line command → SpellsAlike line command ⊎ (AsksForClone line × (command ≡ Skipped))
down_kind line Open h = inl h
down_kind line (Create id name properties) h = inl h
down_kind line (Add triple) h = inl h
down_kind line (Remove triple) h = inl h
down_kind line (Update plan) h = inl h
down_kind line (Query read) h = inl h
down_kind line Show h = inl h
down_kind line Compact h = inl h
down_kind line (Truncate keep) h = inl h
down_kind line Stop h = inl h
down_kind line Skipped h = inr (h, refl)

-- ---- lines that say nothing

nothing_begins : (says : Bool) (line : List ℕ) → IsNothing line → ¬ Begins says line
nothing_begins says _ empty h = cc (h.whole)
nothing_begins says _ (comment rest text) h = apart refl h.whole h.other

pub nothing_is_no_command : NothingIsNoCommand
nothing_is_no_command (Some domain) line command n h = elim (live_kind domain line command h) [
  | inl alike ↦ nothing_begins true line n (alike_begins line command alike)
  | inr asked ↦ nothing_begins false line n (asked_begins line asked.asks)
]
nothing_is_no_command None line command n h = elim (down_kind line command h) [
  | inl alike ↦ nothing_begins true line n (alike_begins line command alike)
  | inr asked ↦ nothing_begins false line n (asked_begins line asked.0)
]

-- ---- one command

one_alike : (line : List ℕ) (command other : ShellCommand) → SpellsAlike line command → SpellsAlike line other → IsSameShell command other
one_alike line Open Open p q = refl
one_alike line Open (Create other label iris) p q = absurd (apart p q.1 refl)
one_alike line Open Show p q = absurd (apart p q refl)
one_alike line Open Compact p q = absurd (apart p q refl)
one_alike line Open (Truncate second) p q = absurd (apart p q.0 refl)
one_alike line Open Stop p q = absurd (apart p q refl)
one_alike line (Create id name properties) Open p q = absurd (apart p.1 q refl)
one_alike line (Create id name properties) (Create other label iris) p q =
    one_creation q.0 id name other label properties.items iris.items (subst (λ (t : List ℕ). IsCreation t id name properties.items) (ap (drop 7) (sym p.1 ∙ q.1)) p.2) q.2
one_alike line (Create id name properties) Show p q = absurd (apart p.1 q refl)
one_alike line (Create id name properties) Compact p q = absurd (apart (ap (drop 1) p.1) (ap (drop 1) q) refl)
one_alike line (Create id name properties) (Truncate second) p q = absurd (apart p.1 q.0 refl)
one_alike line (Create id name properties) Stop p q = absurd (apart p.1 q refl)
one_alike line Show Open p q = absurd (apart p q refl)
one_alike line Show (Create other label iris) p q = absurd (apart p q.1 refl)
one_alike line Show Show p q = refl
one_alike line Show Compact p q = absurd (apart p q refl)
one_alike line Show (Truncate second) p q = absurd (apart p q.0 refl)
one_alike line Show Stop p q = absurd (apart (ap (drop 1) p) (ap (drop 1) q) refl)
one_alike line Compact Open p q = absurd (apart p q refl)
one_alike line Compact (Create other label iris) p q = absurd (apart (ap (drop 1) p) (ap (drop 1) q.1) refl)
one_alike line Compact Show p q = absurd (apart p q refl)
one_alike line Compact Compact p q = refl
one_alike line Compact (Truncate second) p q = absurd (apart p q.0 refl)
one_alike line Compact Stop p q = absurd (apart p q refl)
one_alike line (Truncate keep) Open p q = absurd (apart p.0 q refl)
one_alike line (Truncate keep) (Create other label iris) p q = absurd (apart p.0 q.1 refl)
one_alike line (Truncate keep) Show p q = absurd (apart p.0 q refl)
one_alike line (Truncate keep) Compact p q = absurd (apart p.0 q refl)
one_alike line (Truncate keep) (Truncate second) p q = ap Truncate (decimal_injective keep second p.1 q.1 (ap (drop 9) (sym p.0 ∙ q.0)))
one_alike line (Truncate keep) Stop p q = absurd (apart p.0 q refl)
one_alike line Stop Open p q = absurd (apart p q refl)
one_alike line Stop (Create other label iris) p q = absurd (apart p q.1 refl)
one_alike line Stop Show p q = absurd (apart (ap (drop 1) p) (ap (drop 1) q) refl)
one_alike line Stop Compact p q = absurd (apart p q refl)
one_alike line Stop (Truncate second) p q = absurd (apart p q.0 refl)
one_alike line Stop Stop p q = refl
one_alike line (Add triple) other p q = absurd p
one_alike line (Remove triple) other p q = absurd p
one_alike line (Update plan) other p q = absurd p
one_alike line (Query read) other p q = absurd p
one_alike line Skipped other p q = absurd p
one_alike line command other p q = absurd q

one_triple : (text second : List ℕ) (triple other : Triple) → text ≡ second → IsTripleText text triple → IsTripleText second other → triple ≡ other
one_triple text second triple other e p q = one_spelled second triple other (subst (λ (t : List ℕ). SpellsTriple t triple) e p.spelled) q.spelled

one_plan : (domain text second : List ℕ) (plan other : UpdatePlan) → text ≡ second → IsUpdateText domain text plan → IsUpdateText domain second other → plan ≡ other
one_plan domain text second plan other e p q = let told : IsUpdateText domain second plan = subst (λ (t : List ℕ). IsUpdateText domain t plan) e p in cc (told, q)

one_query : (domain text second : List ℕ) (read other : ReadQuery) → text ≡ second → IsQueryText domain text read → IsQueryText domain second other → read ≡ other
one_query domain text second read other e p q = let told : IsQueryText domain second read = subst (λ (t : List ℕ). IsQueryText domain t read) e p in cc (told, q)

one_asked : (domain line : List ℕ) (command other : ShellCommand) → IsOfLive command → IsOfLive other → SpellsLive domain line command → SpellsLive domain line other
    → IsSameShell command other
one_asked domain line _ _ (adds triple) (adds second) p q = ap Add (one_triple p.0 q.0 triple second (ap (drop 4) (sym p.1 ∙ q.1)) p.2 q.2)
one_asked domain line _ _ (adds triple) (removes second) p q = absurd (apart p.1 q.1 refl)
one_asked domain line _ _ (adds triple) (updates second) p q = absurd (apart p.1 q.1 refl)
one_asked domain line _ _ (adds triple) (queries second) p q = absurd (apart p.1 q.1 refl)
one_asked domain line _ _ (removes triple) (adds second) p q = absurd (apart p.1 q.1 refl)
one_asked domain line _ _ (removes triple) (removes second) p q = ap Remove (one_triple p.0 q.0 triple second (ap (drop 7) (sym p.1 ∙ q.1)) p.2 q.2)
one_asked domain line _ _ (removes triple) (updates second) p q = absurd (apart p.1 q.1 refl)
one_asked domain line _ _ (removes triple) (queries second) p q = absurd (apart p.1 q.1 refl)
one_asked domain line _ _ (updates plan) (adds second) p q = absurd (apart p.1 q.1 refl)
one_asked domain line _ _ (updates plan) (removes second) p q = absurd (apart p.1 q.1 refl)
one_asked domain line _ _ (updates plan) (updates second) p q = ap Update (one_plan domain p.0 q.0 plan second (ap (drop 7) (sym p.1 ∙ q.1)) p.2 q.2)
one_asked domain line _ _ (updates plan) (queries second) p q = absurd (apart p.1 q.1 refl)
one_asked domain line _ _ (queries read) (adds second) p q = absurd (apart p.1 q.1 refl)
one_asked domain line _ _ (queries read) (removes second) p q = absurd (apart p.1 q.1 refl)
one_asked domain line _ _ (queries read) (updates second) p q = absurd (apart p.1 q.1 refl)
one_asked domain line _ _ (queries read) (queries second) p q = ap Query (one_query domain p.0 q.0 read second (ap (drop 6) (sym p.1 ∙ q.1)) p.2 q.2)

pub one_shell_command : OneShellCommand
one_shell_command (Some domain) line command other p q = elim (live_kind domain line command p) [
  | inl alike ↦ elim (live_kind domain line other q) [
    | inl second ↦ one_alike line command other alike second
    | inr asked ↦ absurd (begins_once line (alike_begins line command alike) (asked_begins line asked.asks))
  ]
  | inr asked ↦ elim (live_kind domain line other q) [
    | inl alike ↦ absurd (begins_once line (alike_begins line other alike) (asked_begins line asked.asks))
    | inr second ↦ one_asked domain line command other asked.of second.of p q
  ]
]
one_shell_command None line command other p q = elim (down_kind line command p) [
  | inl alike ↦ elim (down_kind line other q) [
    | inl second ↦ one_alike line command other alike second
    | inr asked ↦ absurd (begins_once line (alike_begins line command alike) (asked_begins line asked.0))
  ]
  | inr asked ↦ elim (down_kind line other q) [
    | inl alike ↦ absurd (begins_once line (alike_begins line other alike) (asked_begins line asked.0))
    | inr second ↦ both_skipped command other asked.1 second.1
  ]
]
  where
    both_skipped : (command other : ShellCommand) → command ≡ Skipped → other ≡ Skipped → IsSameShell command other
    both_skipped command other e f = subst (λ (k : ShellCommand). IsSameShell k other) (sym e) (sym f)
