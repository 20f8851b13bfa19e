-- The first fault among members, as a loop over them finds it.
use Rattle.std.proofs.Common.{◌≡◌, ℕ, List, Option, Some, None, Ordering, Less, Equal, Greater, nat_cmp, refl, sym, ap, ◌∙◌, subst}
use Rattle.std.specs.Cmp.Lexicographic.{slice_cmp}
use Rattle.std.specs.Option.{option_and_then, option_or}
use Rattle.std.specs.Ordering.{match_ordering}
use Rattle.std.proofs.lemmas.Map.Lookups.{exact_bytes}
use Rattle.serde_json.specs.Data.{Data, null, boolean, number, string, array, object, Members, no_members, member}
use Rattle.serde_json.specs.Find.{as_str, get_member}
use Rattle.jsonld_context.specs.ContextReading.{first_fault}
use Rattle.jsonld_context.specs.Telling.{IsFaultOf}
use Rattle.jsonld_context.specs.declared.faults.JsonFault.{JsonFault}

abbrev Test : Type 0
Test = List ℕ → Data → Option JsonFault

-- a member without a fault is passed
pub passed : (fault : Test) (all rest : Members) (key : List ℕ) (value : Data) → first_fault fault all ≡ first_fault fault (member key value rest)
    → fault key value ≡ None → first_fault fault all ≡ first_fault fault rest
passed fault all rest key value h none = h ∙ ap (λ o. option_or o (first_fault fault rest)) none

-- the fault of a member is the first one
pub stopped : (fault : Test) (all rest : Members) (key : List ℕ) (value : Data) (told : JsonFault)
    → first_fault fault all ≡ first_fault fault (member key value rest) → IsFaultOf (fault key value) told → IsFaultOf (first_fault fault all) told
stopped fault all rest key value told h is_told = λ named. h ∙ ap (λ o. option_or o (first_fault fault rest)) (is_told named)

none_both : (one other : Option JsonFault) → option_or one other ≡ None → (one ≡ None) × (other ≡ None)
none_both None other h = (refl, h)
none_both (Some fault) other h = cc

-- where there is none, neither the first member nor the others have one
pub none_first : (fault : Test) (key : List ℕ) (value : Data) (rest : Members) → first_fault fault (member key value rest) ≡ None
    → (fault key value ≡ None) × (first_fault fault rest ≡ None)
none_first fault key value rest h = none_both (fault key value) (first_fault fault rest) h

found_first : (fault : Test) (key other : List ℕ) (value found : Data) (o : Ordering) (later : Option Data) → slice_cmp nat_cmp key other ≡ o
    → fault other value ≡ None → (later ≡ Some found → fault key found ≡ None)
    → match_ordering o later (Some value) later ≡ Some found → fault key found ≡ None
found_first fault key other value found Less later is none rest h = rest h
found_first fault key other value found Equal later is none rest h =
    let same : key ≡ other = exact_bytes key other is in
    let here : value ≡ found = cc in
    subst (λ (d : Data). fault key d ≡ None) here (subst (λ (k : List ℕ). fault k value ≡ None) (sym same) none)
found_first fault key other value found Greater later is none rest h = rest h

-- and so neither does a member that is looked up
pub none_at : (fault : Test) (members : Members) (key : List ℕ) (found : Data) → first_fault fault members ≡ None
    → get_member key members ≡ Some found → fault key found ≡ None
none_at fault no_members key found h got = cc
none_at fault (member other value rest) key found h got =
    let parts = none_first fault other value rest h in
    found_first fault key other value found (slice_cmp nat_cmp key other) (get_member key rest) refl parts.0 (none_at fault rest key found parts.1) got

string_found : (found : Option Data) (text : List ℕ) → option_and_then as_str found ≡ Some text → found ≡ Some (string text)
string_found None text h = cc
string_found (Some null) text h = cc
string_found (Some (boolean b)) text h = cc
string_found (Some (number n)) text h = cc
string_found (Some (string s)) text h = cc
string_found (Some (array items)) text h = cc
string_found (Some (object inner)) text h = cc

-- the same of a string
pub none_at_string : (fault : Test) (members : Members) (key text : List ℕ) → first_fault fault members ≡ None
    → option_and_then as_str (get_member key members) ≡ Some text → fault key (string text) ≡ None
none_at_string fault members key text h got = none_at fault members key (string text) h (string_found (get_member key members) text got)
