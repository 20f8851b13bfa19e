-- The command lines of a generated schedule spell commands, in whatever domain, so none of its lines is bad.
use Rattle.std.proofs.Common.{◌≡◌, ◌∙◌, refl, sym, ap, subst, arith, ℕ, ◌+◌, ◌%◌, ◌<◌, ◌≤◌, ◌^◌, List, [], ◌∷◌, ◌++◌, codes, length, get_or, ◌⊎◌, inl, inr, Bool, true, not, IsTrue, All}
use Rattle.std.specs.Prelude.{nat_lt}
use Rattle.std.specs.List.{list_all}
use Rattle.std.specs.Fmt.{decimal}
use Rattle.std.specs.Str.{IsUtf8, IsAscii}
use Rattle.std.proofs.lemmas.Bool.{and_parts, le-leb}
use Rattle.std.proofs.lemmas.Bool.Decides.{nat_tests}
use Rattle.std.proofs.lemmas.Fmt.{decimal_by_steps, decimal_digit, IsAscii-decimal, length-decimal-le}
use Rattle.std.proofs.lemmas.List.{append_assoc}
use Rattle.std.proofs.lemmas.List.Elements.{All-head, All-tail}
use Rattle.std.proofs.lemmas.Str.{IsUtf8-from_ascii, IsAscii-append}
use Rattle.std.proofs.lemmas.Str.Ascii.{IsAscii-nil, IsAscii-cons}
use Rattle.text_rules.specs.Iri.{is_excluded, is_iri, is_absolute, iri_limit}
use Rattle.text_rules.specs.Domain.{is_domain}
use Rattle.text_rules.specs.Escaped.{escaped, escaped_byte}
use Rattle.rdf_terms.specs.declared.terms.Term.TheVariants as terms
use Rattle.rdf_terms.specs.declared.terms.Triple.{Triple}
use Rattle.rdf_terms.specs.Literal.{Typed, xsd_string}
use Rattle.rdf_terms.specs.Spelling.{term_text, triple_text}
use Rattle.rdf_terms.specs.Written.{IsWrittenSo}
use Rattle.rdf_terms.specs.Grammar.{SpellsTriple, IsTripleWithin}
use Rattle.rdf_terms.proofs.Plain.{plain_literal, plain_utf8, xsd_string_unwritten}
use Rattle.rdf_terms.proofs.Texts.{written_so}
use Rattle.schedule_text.specs.schedule_model.declared.Command.{Command}
use Rattle.schedule_text.specs.schedule_model.declared.Command.TheVariants.{Add, Remove, Deliver, Ask, Compact, Truncate, Compare}
use Rattle.schedule_text.specs.schedule_model.Schedule.{IsNothing, empty, comment, Setup, SpellsSetup, SpellsCommand}
use Rattle.schedule_text.specs.schedule_model.Runs.{Stage, Waiting, SetUp, Running, says_nothing, sets_up, sets_property, commands, Acts, Runs, SpellsNone, IsBad, IsBadRest, bad_line, no_domain, BadLine, Verdict}
use Rattle.schedule_generator.specs.Generated.{lines_from, generated}
use Rattle.schedule_generator.specs.DrawnCommands.{drawn_triple, IsDrawn, adds, removes, delivers, asks, compacts, truncates, compares}
use Rattle.schedule_generator.proofs.DrawnLines.{all_drawn}

-- ---- numbers in terms

-- a byte that an IRI may have
abbrev plain : ℕ → Bool
plain byte = not (is_excluded byte)

digit_plain : (d : ℕ) → d < 10 → plain (48 + d) ≡ true
digit_plain d h = grind (arith, nat_tests)

digit_same : (d : ℕ) → d < 10 → escaped_byte (48 + d) ≡ (48 + d) ∷ []
digit_same d h = grind (arith, nat_tests)

all_behind : (test : ℕ → Bool) (front rest : List ℕ) → IsTrue (list_all test front) → IsTrue (list_all test rest) → IsTrue (list_all test (front ++ rest))
all_behind test [] rest h k = k
all_behind test (b ∷ front) rest h k = let parts = and_parts (test b) (list_all test front) h in rw parts.0 (all_behind test front rest parts.1 k)

number_plain : (n : ℕ) → n < 2 ^ 64 → IsTrue (list_all plain (decimal n))
number_plain = decimal_by_steps (λ n ds. IsTrue (list_all plain ds)) (λ n h. rw (digit_plain n h) refl) (λ n ds h k. all_behind plain ds ((48 + n % 10) ∷ []) k (rw (digit_plain (n % 10) (omega arith)) refl))

escaped_behind : (front rest : List ℕ) → escaped (front ++ rest) ≡ escaped front ++ escaped rest
escaped_behind [] rest = refl
escaped_behind (b ∷ front) rest = ap (λ (l : List ℕ). escaped_byte b ++ l) (escaped_behind front rest) ∙ sym (append_assoc (escaped_byte b) (escaped front) (escaped rest))

number_same : (n : ℕ) → n < 2 ^ 64 → escaped (decimal n) ≡ decimal n
number_same = decimal_by_steps (λ n ds. escaped ds ≡ ds) (λ n h. ap (λ (l : List ℕ). l ++ []) (digit_same n h))
    (λ n ds h k. escaped_behind ds ((48 + n % 10) ∷ []) ∙ ap (λ (l : List ℕ). l ++ escaped ((48 + n % 10) ∷ [])) k ∙ ap (λ (l : List ℕ). ds ++ (l ++ [])) (digit_same (n % 10) (omega arith)))

-- ---- the triple of three numbers

abbrev subject_of : ℕ → List ℕ
subject_of n = codes "http://gen.example/s" ++ decimal n

abbrev predicate_of : ℕ → List ℕ
predicate_of n = codes "http://gen.example/#p" ++ decimal n

abbrev triple_value : ℕ → ℕ → ℕ → Triple
triple_value subject predicate text = record { s = subject_of subject; p = predicate_of predicate; o = terms.Literal (Typed (decimal text) xsd_string) }

subject_iri : (n : ℕ) → n < 2 ^ 64 → IsTrue (is_iri (subject_of n))
unfolding is_iri
subject_iri n h = number_plain n h

predicate_iri : (n : ℕ) → n < 2 ^ 64 → IsTrue (is_iri (predicate_of n))
unfolding is_iri
predicate_iri n h = number_plain n h

absolute : (iri : List ℕ) → length iri ≤ iri_limit → IsTrue (is_iri iri) → IsTrue (is_absolute iri)
absolute iri short h = rw (le-leb (length iri) iri_limit short) h

short_subject : (n : ℕ) → n < 100 → length (subject_of n) ≤ iri_limit
short_subject n h = let few : length (decimal n) ≤ 2 = length-decimal-le 2 n (omega arith) (omega (arith, h)) (omega (arith, h)) in omega (arith, few)

short_predicate : (n : ℕ) → n < 100 → length (predicate_of n) ≤ iri_limit
short_predicate n h = let few : length (decimal n) ≤ 2 = length-decimal-le 2 n (omega arith) (omega (arith, h)) (omega (arith, h)) in omega (arith, few)

-- texts by a test of their bytes
abbrev small_byte : ℕ → Bool
small_byte byte = nat_lt byte 128

is_small : (byte : ℕ) → small_byte byte ≡ true → byte < 128
is_small byte h = grind (arith, nat_tests)

word_ascii : (word : List ℕ) → list_all small_byte word ≡ true → IsAscii word
word_ascii [] h = IsAscii-nil
word_ascii (b ∷ word) h = let parts = and_parts (small_byte b) (list_all small_byte word) h in IsAscii-cons b word (is_small b parts.0) (word_ascii word parts.1)

then_number : (word : List ℕ) (n : ℕ) → list_all small_byte word ≡ true → n < 2 ^ 64 → IsUtf8 (word ++ decimal n)
then_number word n h small = IsUtf8-from_ascii (word ++ decimal n) (IsAscii-append word (decimal n) (word_ascii word h) (IsAscii-decimal n small))

module _ (subject predicate text : ℕ) (s : subject < 100) (p : predicate < 100) (t : text < 100) where
  triple_written : IsWrittenSo (triple_value subject predicate text)
  triple_written =
      let few : length (decimal text) ≤ 2 = length-decimal-le 2 text (omega arith) (omega (arith, t)) (omega (arith, t)) in
      written_so (triple_value subject predicate text) (absolute (subject_of subject) (short_subject subject s) (subject_iri subject (omega (arith, s))))
      (absolute (predicate_of predicate) (short_predicate predicate p) (predicate_iri predicate (omega (arith, p)))) (plain_literal (decimal text) (omega (arith, few)))
      (then_number (codes "http://gen.example/s") subject refl (omega (arith, s))) (then_number (codes "http://gen.example/#p") predicate refl (omega (arith, p)))
      (plain_utf8 (decimal text) (then_number [] text refl (omega (arith, t))))

  triple_text_is : triple_text (triple_value subject predicate text) ≡ drawn_triple subject predicate text
  unfolding triple_text term_text
  triple_text_is =
      rw (number_same text (omega (arith, t)), xsd_string_unwritten)
      (rw (append_assoc (decimal subject) (62 ∷ []) _, append_assoc (decimal predicate) (62 ∷ []) _, append_assoc (decimal text) (34 ∷ []) _) refl)

-- ---- each command line spells a command

a_clone : (clone : ℕ) → clone < 4 → clone < 32
a_clone clone h = omega (arith, h)

changed_spells : (subject predicate text : ℕ) → subject < 50 → predicate < 5 → text < 20
    → (triple : Triple) × IsUtf8 (drawn_triple subject predicate text) × SpellsTriple (drawn_triple subject predicate text) triple × IsTripleWithin triple
changed_spells subject predicate text s p t =
    let written = triple_written subject predicate text (omega (arith, s)) (omega (arith, p)) (omega (arith, t)) in
    let same = triple_text_is subject predicate text (omega (arith, s)) (omega (arith, p)) (omega (arith, t)) in
    (triple_value subject predicate text, subst IsUtf8 same written.utf8, subst (λ (l : List ℕ). SpellsTriple l (triple_value subject predicate text)) same written.spelled, written.within)

pub drawn_spells : (domain line : List ℕ) → IsDrawn line → (command : Command) × SpellsCommand domain line command
drawn_spells domain line (adds clone subject predicate text c s p t is) =
    let spelled = changed_spells subject predicate text s p t in
    (Add clone spelled.0, (drawn_triple subject predicate text, is, a_clone clone c, spelled.1, spelled.2, spelled.3))
drawn_spells domain line (removes clone subject predicate text c s p t is) =
    let spelled = changed_spells subject predicate text s p t in
    (Remove clone spelled.0, (drawn_triple subject predicate text, is, a_clone clone c, spelled.1, spelled.2, spelled.3))
drawn_spells domain line (delivers message clone m c is) = (Deliver message clone, (is, m, a_clone clone c))
drawn_spells domain line (asks clone c is) = (Ask clone, (is, a_clone clone c))
drawn_spells domain line (compacts clone c is) = (Compact clone, (is, a_clone clone c))
drawn_spells domain line (truncates clone keep c k is) = (Truncate clone keep, (is, a_clone clone c, omega (arith, k)))
drawn_spells domain line (compares clone other c o is) = (Compare clone other, (is, a_clone clone c, a_clone other o))

-- ---- no line is bad

abbrev domain_line : List ℕ
domain_line = codes "domain gen.example clones 4"

abbrev the_setup : Setup
the_setup = record { domain = codes "gen.example"; properties = []; count = 4 }

domain_spells : SpellsSetup domain_line the_setup
unfolding is_domain
domain_spells = record {
  whole = ap (λ (l : List ℕ). codes "domain gen.example clones " ++ l) (sym (decimal_digit 4 (omega arith)));
  name = refl;
  some = omega arith;
  most = omega arith;
  none = refl;
}

-- a stage behind the domain line
abbrev IsPast : Stage → Type 0
IsPast Waiting = ⊥
IsPast (SetUp setup) = Unit {0}
IsPast (Running world) = Unit {0}

nothing_first : (line : List ℕ) → IsNothing line → (length line ≡ 0) ⊎ (get_or line 0 0 ≡ 35)
nothing_first [] empty = inl refl
nothing_first (b ∷ line) (comment rest utf8) = inr refl

not_nothing : IsNothing domain_line → ⊥
not_nothing h = elim (nothing_first domain_line h) [
  | inl none ↦ omega (arith, none)
  | inr mark ↦ omega (arith, mark)
]

acts_past : (stage : Stage) (line text : List ℕ) (next : Stage) → IsPast stage → Acts stage line text next → IsPast next
acts_past stage line text next past (says_nothing none silent same) = subst IsPast (sym same) past
acts_past Waiting line text next past (sets_up sets) = absurd past
acts_past (SetUp setup) line text next past (sets_property sets) = subst IsPast (sym sets.changes) tt
acts_past stage line text next past (commands does) = subst IsPast (sym does.changes) tt

acts_first : (text : List ℕ) (next : Stage) → Acts Waiting domain_line text next → IsPast next
acts_first text next (says_nothing none silent same) = absurd (not_nothing none)
acts_first text next (sets_up sets) = subst IsPast (sym sets.changes) tt
acts_first text next (commands does) = absurd does.founds

runs_past : (lines : List (List ℕ)) (stage : Stage) (text : List ℕ) (next : Stage) → IsPast stage → Runs stage lines text next → IsPast next
runs_past [] stage text next past runs = subst IsPast (sym runs.1) past
runs_past (line ∷ lines) stage text next past runs = runs_past lines runs.2 runs.1 next (acts_past stage line runs.0 runs.2 past runs.3) runs.4

not_bad : (stage : Stage) (line : List ℕ) → IsPast stage → IsDrawn line → ¬ IsBad stage line
not_bad Waiting line past drawn bad = absurd past
not_bad (SetUp setup) line past drawn bad = let spelled = drawn_spells setup.domain line drawn in bad.1.1 spelled.0 spelled.1
not_bad (Running world) line past drawn bad = let spelled = drawn_spells world.domain line drawn in bad.1 spelled.0 spelled.1

not_bad_rest : (rest : List (List ℕ)) (stage : Stage) → IsPast stage → All IsDrawn rest → ¬ IsBadRest rest stage
not_bad_rest rest stage past drawn (bad_line line first bad) =
    let all = subst (λ (ls : List (List ℕ)). All IsDrawn ls) first.1 drawn in not_bad stage line past (All-head IsDrawn line first.0 all) bad
not_bad_rest rest stage past drawn (no_domain none waits) = subst IsPast waits past

-- what is left of lines that are drawn
drawn_rest : (front rest lines : List (List ℕ)) → lines ≡ front ++ rest → All IsDrawn lines → All IsDrawn rest
drawn_rest [] rest lines e h = subst (λ (ls : List (List ℕ)). All IsDrawn ls) e h
drawn_rest (first ∷ front) rest lines e h = drawn_rest front rest (front ++ rest) refl (All-tail IsDrawn first (front ++ rest) (subst (λ (ls : List (List ℕ)). All IsDrawn ls) e h))

stops_nowhere : (lines front rest : List (List ℕ)) (text : List ℕ) (stage : Stage) → All IsDrawn lines → domain_line ∷ lines ≡ front ++ rest → Runs Waiting front text stage → ¬ IsBadRest rest stage
stops_nowhere lines [] rest text stage drawn whole runs (bad_line line first bad) =
    let same : line ≡ domain_line = cc (whole, first.1) in
    let waits : SpellsNone Waiting line = subst (λ (s : Stage). SpellsNone s line) runs.1 bad.1 in
    waits the_setup (subst (λ (l : List ℕ). SpellsSetup l the_setup) (sym same) domain_spells)
stops_nowhere lines [] rest text stage drawn whole runs (no_domain none waits) = absurd (cc (whole, none))
stops_nowhere lines (first ∷ front) rest text stage drawn whole runs bad =
    let same : first ≡ domain_line = cc (whole) in
    let behind : lines ≡ front ++ rest = cc (whole) in
    let past : IsPast runs.2 = acts_first runs.0 runs.2 (subst (λ (l : List ℕ). Acts Waiting l runs.0 runs.2) same runs.3) in
    not_bad_rest rest stage (runs_past front runs.2 runs.1 stage past runs.4) (drawn_rest front rest lines behind drawn) bad

pub never_bad : (seed count number : ℕ) (text : List ℕ) (stage : Stage) → count < 2 ^ 32 → ¬ Verdict (generated seed count) (BadLine number text stage)
unfolding Verdict
never_bad seed count number text stage few stops =
    stops_nowhere (lines_from 1 seed count) stops.before.front stops.before.rest text stage (all_drawn count 1 seed (omega arith) (omega (arith, few))) stops.before.whole stops.before.runs stops.bad
