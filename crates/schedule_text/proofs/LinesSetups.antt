-- Domain lines and lines that set a property, a part at a time.
use Rattle.std.proofs.Common.{◌≡◌, ◌≢◌, ℕ, zero, suc, ◌<◌, ◌≤◌, List, [], ◌∷◌, ◌++◌, codes, length, true, IsTrue, Option, Some, None, MatchOption, IfOk, refl, sym, ◌∙◌, subst, ap, drop, arith}
use Rattle.std.specs.Fmt.{decimal}
use Rattle.std.specs.Str.{IsUtf8, IsAscii}
use Rattle.std.specs.declared.result.Result.{Result}
use Rattle.std.specs.declared.result.Result.TheVariants.{Ok, Err}
use Rattle.std.proofs.lemmas.Str.{IsUtf8-from_ascii}
use Rattle.std.proofs.lemmas.Bool.Decides.{nat_tests}
use Rattle.std.specs.List.{list_all}
use Rattle.std.proofs.lemmas.Bool.{and_parts}
use Rattle.text_rules.specs.Domain.{is_domain, is_domain_byte}
use Rattle.rdf_terms.specs.Grammar.{IsIriText}
use Rattle.schedule_model.specs.Characters.{space}
use Rattle.mld_model.specs.World.{clone_count}
use Rattle.schedule_model.proofs.LackingLaws.{Lacks, Lacks-from_test, one_split}
use Rattle.schedule_model.specs.Schedule.{Setup, SpellsSetup, SpellsSingle, SetsProperty, single_limit, with_property}
use Rattle.schedule_text.specs.declared.setups.Setup.{Setup as ReadSetup}
use Rattle.schedule_text.specs.declared.setups.SetupLine.TheVariants as lines
use Rattle.schedule_text.specs.ReadLines.{setup_of, SetupIs}
use Rattle.schedule_text.proofs.LinesText.{has_space}

-- the name of a domain is ASCII, and has no space
domain_bytes : (domain : List ℕ) → IsTrue (is_domain domain) → IsTrue (list_all is_domain_byte domain)
unfolding is_domain
domain_bytes domain h = (and_parts _ (list_all is_domain_byte domain) h).1

domain_lacks : (domain : List ℕ) → IsTrue (is_domain domain) → Lacks space domain
domain_lacks domain h = Lacks-from_test is_domain_byte space refl domain (domain_bytes domain h)

-- what follows `domain` and a space
setup_rest : (line rest : List ℕ) (setup : Setup) → line ≡ codes "domain " ++ rest → SpellsSetup line setup → rest ≡ setup.domain ++ space ∷ (codes "clones " ++ decimal setup.count)
setup_rest line rest setup e s = ap (drop 7) (sym e ∙ s.whole)

pub setup_spaced : (line rest : List ℕ) → line ≡ codes "domain " ++ rest → Lacks space rest → (setup : Setup) → ¬ SpellsSetup line setup
setup_spaced line rest e h setup s = has_space rest setup.domain (codes "clones " ++ decimal setup.count) h (setup_rest line rest setup e s)

-- a domain line up to the space behind its name
pub record IsCut (line name behind : List ℕ) : Type 0 where
  pub rest : List ℕ
  pub first : line ≡ codes "domain " ++ rest
  pub cut : rest ≡ name ++ space ∷ behind
  pub spaceless : Lacks space name

setup_cut : (line name behind : List ℕ) (setup : Setup) → IsCut line name behind → SpellsSetup line setup → (name ≡ setup.domain) × (behind ≡ codes "clones " ++ decimal setup.count)
setup_cut line name behind setup k s =
    one_split space name setup.domain behind (codes "clones " ++ decimal setup.count) k.spaceless (domain_lacks setup.domain s.name) (sym k.cut ∙ setup_rest line k.rest setup k.first s)

pub setup_counted : (line name behind : List ℕ) → IsCut line name behind → ((rest : List ℕ) → behind ≢ codes "clones " ++ rest) → (setup : Setup) → ¬ SpellsSetup line setup
setup_counted line name behind k h setup s = h (decimal setup.count) (setup_cut line name behind setup k s).1

pub setup_domain : (line name behind : List ℕ) → IsCut line name behind → ¬ IsTrue (is_domain name) → (setup : Setup) → ¬ SpellsSetup line setup
setup_domain line name behind k h setup s = h (subst (λ (d : List ℕ). is_domain d ≡ true) (sym (setup_cut line name behind setup k s).0) s.name)

pub setup_number : (line name behind number : List ℕ) → IsCut line name behind → behind ≡ codes "clones " ++ number → ((count : ℕ) → 1 ≤ count → count ≤ clone_count → number ≢ decimal count)
    → (setup : Setup) → ¬ SpellsSetup line setup
setup_number line name behind number k e h setup s =
    h setup.count s.some s.most (ap (drop 7) (sym e ∙ (setup_cut line name behind setup k s).1))

-- the name of a domain is ASCII
domain_byte_small : (byte : ℕ) → is_domain_byte byte ≡ true → byte < 128
domain_byte_small byte h = grind (arith, nat_tests)

ascii_from_test : (text : List ℕ) → IsTrue (list_all is_domain_byte text) → IsAscii text
ascii_from_test [] h i = omega arith
ascii_from_test (byte ∷ text) h zero = domain_byte_small byte (and_parts (is_domain_byte byte) (list_all is_domain_byte text) h).0
ascii_from_test (byte ∷ text) h (suc i) = ascii_from_test text (and_parts (is_domain_byte byte) (list_all is_domain_byte text) h).1 i

pub domain_text : (domain : List ℕ) → IsTrue (is_domain domain) → IsUtf8 domain
domain_text domain h = IsUtf8-from_ascii domain (ascii_from_test domain (domain_bytes domain h))

-- ---- lines that set a property

-- what follows `single` and a space
single_rest : (line rest property : List ℕ) → line ≡ codes "single " ++ rest → (s : SpellsSingle line property) → s.text ≡ rest
single_rest line rest property e s = ap (drop 7) (sym s.whole ∙ e)

pub no_single : (line : List ℕ) → ((rest : List ℕ) → line ≢ codes "single " ++ rest) → (property : List ℕ) → ¬ SpellsSingle line property
no_single line none property s = none s.text s.whole

pub no_single_text : (line rest : List ℕ) → line ≡ codes "single " ++ rest → ¬ IsUtf8 rest → (property : List ℕ) → ¬ SpellsSingle line property
no_single_text line rest e none property s = none (subst (λ (t : List ℕ). IsUtf8 t) (single_rest line rest property e s) s.bytes)

pub single_read : {E : Type 0} (line rest : List ℕ) (result : Result (Option (List ℕ)) E) → line ≡ codes "single " ++ rest → IsUtf8 rest
    → IfOk result (λ found. MatchOption found ((iri : List ℕ) → ¬ IsIriText rest iri) (λ iri. IsIriText rest iri))
    → IfOk result (λ found. MatchOption found ((property : List ℕ) → ¬ SpellsSingle line property) (λ property. SpellsSingle line property))
single_read line rest (Ok None) e bytes h = λ property s. h property (subst (λ (t : List ℕ). IsIriText t property) (single_rest line rest property e s) s.is)
single_read line rest (Ok (Some iri)) e bytes h = record { text = rest; whole = e; bytes = bytes; is = h }
single_read line rest (Err fault) e bytes h = tt

-- no more may be set
pub none_behind : (setup : ReadSetup) (line : List ℕ) → single_limit ≤ length setup.props.items → (property : List ℕ) → ¬ SetsProperty (setup_of setup) line property
none_behind setup line full property sets = omega (arith, full, sets.room)

-- none is spelled
pub none_set : (setup : ReadSetup) (line : List ℕ) → ((property : List ℕ) → ¬ SpellsSingle line property) → (property : List ℕ) → ¬ SetsProperty (setup_of setup) line property
none_set setup line none property sets = none property sets.spells

-- one more is set
pub one_set : (setup next : ReadSetup) (line property : List ℕ) → SpellsSingle line property → length setup.props.items < single_limit
    → setup_of next ≡ with_property (setup_of setup) property → SetupIs line (Some setup) (lines.Setup next)
one_set setup next line property spells room same = (property, record { spells = spells; room = room }, same)
