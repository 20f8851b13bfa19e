-- What becomes of a value that could not be read.
use Rattle.std.proofs.Common.{◌≡◌, ℕ, List, Option, None, Some, Ok, Err, true, is_some, option_map, IsErr, IsErrAnd, sym, subst}
use Rattle.std.proofs.lemmas.Bool.{false≢true}
use Rattle.std.specs.Borrow.{Bor}
use Rattle.std.specs.declared.result.Result.{Result}
use Rattle.node_run.specs.WordSpelling.{IsGiven, IsPeer, SpellsName}
use Rattle.node_run.specs.Words.{ReadsBy}
use Rattle.node_run.specs.declared.faults.NodeWordsFault.{NodeWordsFault}
use Rattle.node_run.specs.declared.faults.NodeWordsFault.TheVariants.{Usage, NoMemory}

-- where a part has no value, the whole has none
none_with : {A B : Type 0} (P : A → Type 0) (Q : B → Type 0) (fault : NodeWordsFault) → ((b : B) → Q b → (a : A) × P a) → ReadsBy P (Err fault) → ReadsBy Q (Err fault)
none_with P Q Usage part none = λ b q. let had = part b q in none had.0 had.1
none_with P Q NoMemory part none = tt

-- a fault of a part that comes through `?`
pub passes_on : {A B : Type 0} (P : A → Type 0) (Q : B → Type 0) (fault : NodeWordsFault) (result : Result B NodeWordsFault) → ((b : B) → Q b → (a : A) × P a)
    → IsErr result → IsErrAnd result (λ e. e ≡ fault) → ReadsBy P (Err fault) → ReadsBy Q result
passes_on P Q fault (Ok value) part failed same none = absurd (false≢true failed)
passes_on P Q fault (Err error) part failed same none = subst (λ (w : NodeWordsFault). ReadsBy Q (Err w)) (sym same) (none_with P Q fault part none)

-- and the same of a part that is read from what was found
pub fails_at : {G A B : Type 0} (P : G → A → Type 0) (Q : B → Type 0) (here there : G) (fault : NodeWordsFault) (result : Result B NodeWordsFault) → here ≡ there
    → ((b : B) → Q b → (a : A) × P there a) → IsErr result → IsErrAnd result (λ e. e ≡ fault) → ReadsBy (P here) (Err fault) → ReadsBy Q result
fails_at {G} P Q here there fault result same part failed is none =
    passes_on (P there) Q fault result part failed is (subst (λ (g : G). ReadsBy (P g) (Err fault)) same none)

-- the name of a peer where a text is there
pub name_given : (given : Option (Bor (List ℕ))) → is_some given ≡ true → (peer : Option (List ℕ)) → IsPeer (option_map (λ text. text.now) given) peer
    → (name : List ℕ) × IsGiven SpellsName (option_map (λ text. text.now) given) name
name_given None some peer p = absurd (false≢true some)
name_given (Some text) some None p = absurd p
name_given (Some text) some (Some name) p = (name, p)
