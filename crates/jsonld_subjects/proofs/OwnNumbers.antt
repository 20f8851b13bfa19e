-- Subjects without an id have different numbers, so those that are made anew differ.
use Rattle.std.proofs.Common.{◌≡◌, ◌∙◌, ◌≢◌, ◌⊎◌, ℕ, ◌+◌, ◌<◌, ◌≤◌, List, [], ◌∷◌, ◌++◌, Bool, true, false, Option, Some, None, sym, ap, subst, inl, inr, if◌then◌else◌, arith}
use Rattle.std.specs.Prelude.{All, codes}
use Rattle.std.proofs.lemmas.List.Elements.{All-nil, All-cons, All-head, All-tail, All-append, All-weaker}
use Rattle.jrql_ast.specs.InForm.{variable_limit}
use Rattle.jrql_ast.specs.declared.patterns.Slot.{Slot}
use Rattle.jrql_ast.specs.declared.patterns.Slot.TheVariants as slots
use Rattle.serde_json.specs.Data.{Data, null, boolean, number, string, array, object, Items, no_items, item, Members, no_members, member}
use Rattle.jsonld_values.specs.ValueObjects.{has_member, is_value_object}
use Rattle.jsonld_subjects.specs.OwnSubjects.{one_missing, missing_in, missing_among, missing_under, missing_of, missing_of_each, missing_ids, own_number, numbers_in, numbers_among, numbers_under, numbers_of, numbers_of_each, numbers_of_subjects, Told, IsNotFresh, IsItsSlot, HaveTheirSlots, AreOtherFresh, HaveOwnFresh}
use Rattle.jsonld_subjects.specs.declared.places.Place.{Place}
use Rattle.jsonld_subjects.specs.declared.places.Place.TheVariants.{Pattern, Insert}

-- ---- numbers between two others, all different

abbrev IsWithin : ℕ → ℕ → Option ℕ → Type 0
IsWithin low high None = Unit {0}
IsWithin low high (Some n) = (low ≤ n) × (n < high)

abbrev DiffersFrom : Option ℕ → Option ℕ → Type 0
DiffersFrom None other = Unit {0}
DiffersFrom (Some n) other = other ≢ Some n

abbrev Differ : List (Option ℕ) → Type 0
Differ [] = Unit {0}
Differ (first ∷ rest) = All (DiffersFrom first) rest × Differ rest

record AreNumbers (low high : ℕ) (numbers : List (Option ℕ)) : Type 0 where
  within : All (IsWithin low high) numbers
  differ : Differ numbers

wider_at : (low high least most : ℕ) → least ≤ low → high ≤ most → (number : Option ℕ) → IsWithin low high number → IsWithin least most number
wider_at low high least most l h None is = tt
wider_at low high least most l h (Some n) is = let a = is.0 in let b = is.1 in (omega arith, omega arith)

wider : (low high least most : ℕ) (numbers : List (Option ℕ)) → least ≤ low → high ≤ most → All (IsWithin low high) numbers → All (IsWithin least most) numbers
wider low high least most numbers l h all =
    All-weaker (IsWithin low high) (IsWithin least most) (λ number is. wider_at low high least most l h number is) numbers all

none_some : (n : ℕ) → ◌≡◌ {A = Option ℕ} None (Some n) → ⊥
none_some n h = cc

some_same : (m n : ℕ) → ◌≡◌ {A = Option ℕ} (Some m) (Some n) → m ≡ n
some_same m n h = cc

-- numbers of two ranges, one before the other
apart : (a b c d : ℕ) → (b ≤ c) ⊎ (d ≤ a) → (one other : Option ℕ) → IsWithin a b one → IsWithin c d other → DiffersFrom one other
apart a b c d ranges None other is are = tt
apart a b c d ranges (Some n) None is are = none_some n
apart a b c d (inl before) (Some n) (Some m) is are = λ h. let same = some_same m n h in let x = is.1 in let y = are.0 in omega arith
apart a b c d (inr behind) (Some n) (Some m) is are = λ h. let same = some_same m n h in let x = is.0 in let y = are.1 in omega arith

differ_append : (a b c d : ℕ) → (b ≤ c) ⊎ (d ≤ a) → (some more : List (Option ℕ)) → AreNumbers a b some → AreNumbers c d more → Differ (some ++ more)
differ_append a b c d ranges [] more one two = two.differ
differ_append a b c d ranges (first ∷ some) more one two =
    let rest : AreNumbers a b some = record { within = All-tail (IsWithin a b) first some one.within; differ = one.differ.1 } in (
      All-append (DiffersFrom first) some more one.differ.0
          (All-weaker (IsWithin c d) (DiffersFrom first) (λ other is. apart a b c d ranges first other (All-head (IsWithin a b) first some one.within) is) more two.within),
      differ_append a b c d ranges some more rest two,
    )

numbers_append : (a b c d low high : ℕ) → (b ≤ c) ⊎ (d ≤ a) → low ≤ a → low ≤ c → b ≤ high → d ≤ high → (some more : List (Option ℕ)) → AreNumbers a b some → AreNumbers c d more
    → AreNumbers low high (some ++ more)
numbers_append a b c d low high ranges la lc bh dh some more one two = record {
  within = All-append (IsWithin low high) some more (wider a b low high some la bh one.within) (wider c d low high more lc dh two.within);
  differ = differ_append a b c d ranges some more one two;
}

-- ---- subjects

none : (next : ℕ) → AreNumbers next (next + 0) []
none next = record { within = All-nil (IsWithin next (next + 0)); differ = tt }

own_at : (next : ℕ) (has : Bool) → AreNumbers next (next + (if has then 0 else 1)) ((if has then None else Some next) ∷ [])
own_at next true = record {
  within = All-cons (IsWithin next (next + 0)) None [] tt (All-nil (IsWithin next (next + 0)));
  differ = (All-nil (DiffersFrom None), tt);
}
own_at next false = record {
  within = All-cons (IsWithin next (next + 1)) (Some next) [] (omega arith, omega arith) (All-nil (IsWithin next (next + 1)));
  differ = (All-nil (DiffersFrom (Some next)), tt);
}

-- one behind the other
then_next : (next m n : ℕ) (some more : List (Option ℕ)) → AreNumbers next (next + m) some → AreNumbers (next + m) (next + m + n) more → AreNumbers next (next + (m + n)) (some ++ more)
then_next next m n some more one two =
    numbers_append next (next + m) (next + m) (next + m + n) next (next + (m + n)) (inl (omega arith)) (omega arith) (omega arith) (omega arith) (omega arith) some more one two

-- a subject behind those within it
subject_numbers : (next : ℕ) (members : Members) → AreNumbers (next + one_missing members) (next + one_missing members + missing_under members) (numbers_under (next + one_missing members) members)
    → AreNumbers next (next + (one_missing members + missing_under members)) (numbers_under (next + one_missing members) members ++ own_number next members ∷ [])
subject_numbers next members inside =
    let m = one_missing members in
    let n = missing_under members in
    numbers_append (next + m) (next + m + n) next (next + m) next (next + (m + n)) (inr (omega arith)) (omega arith) (omega arith) (omega arith) (omega arith)
    (numbers_under (next + m) members) (own_number next members ∷ []) inside (own_at next (has_member (codes "@id") members))

value_numbers : (next more : ℕ) (numbers : List (Option ℕ)) (is_value : Bool) → AreNumbers next (next + more) numbers
    → AreNumbers next (next + (if is_value then 0 else more)) (if is_value then [] else numbers)
value_numbers next more numbers true are = none next
value_numbers next more numbers false are = are

mutual
  in_value : (next : ℕ) (value : Data) → AreNumbers next (next + missing_in value) (numbers_in next value)
  in_value next (object members) =
      value_numbers next (one_missing members + missing_under members) (numbers_under (next + one_missing members) members ++ own_number next members ∷ []) (is_value_object members)
      (subject_numbers next members (under_members (next + one_missing members) members))
  in_value next (array items) = among_items next items
  in_value next null = none next
  in_value next (boolean value) = none next
  in_value next (number value) = none next
  in_value next (string text) = none next

  among_items : (next : ℕ) (items : Items) → AreNumbers next (next + missing_among items) (numbers_among next items)
  among_items next no_items = none next
  among_items next (item value rest) =
      then_next next (missing_in value) (missing_among rest) (numbers_in next value) (numbers_among (next + missing_in value) rest) (in_value next value)
      (among_items (next + missing_in value) rest)

  under_members : (next : ℕ) (members : Members) → AreNumbers next (next + missing_under members) (numbers_under next members)
  under_members next no_members = none next
  under_members next (member key value rest) =
      then_next next (missing_in value) (missing_under rest) (numbers_in next value) (numbers_under (next + missing_in value) rest) (in_value next value)
      (under_members (next + missing_in value) rest)

of_one : (next : ℕ) (value : Data) → AreNumbers next (next + missing_of value) (numbers_of next value)
of_one next (object members) = subject_numbers next members (under_members (next + one_missing members) members)
of_one next (array items) = none next
of_one next null = none next
of_one next (boolean value) = none next
of_one next (number value) = none next
of_one next (string text) = none next

of_each : (next : ℕ) (items : Items) → AreNumbers next (next + missing_of_each items) (numbers_of_each next items)
of_each next no_items = none next
of_each next (item value rest) =
    then_next next (missing_of value) (missing_of_each rest) (numbers_of next value) (numbers_of_each (next + missing_of value) rest) (of_one next value)
    (of_each (next + missing_of value) rest)

of_subjects : (next : ℕ) (value : Data) → AreNumbers next (next + missing_ids value) (numbers_of_subjects next value)
of_subjects next (array items) = of_each next items
of_subjects next (object members) = of_one next (object members)
of_subjects next null = none next
of_subjects next (boolean value) = none next
of_subjects next (number value) = none next
of_subjects next (string text) = none next

-- ---- slots

fresh_same : (m n : ℕ) → ◌≡◌ {A = Option Slot} (Some (slots.Fresh m)) (Some (slots.Fresh n)) → m ≡ n
fresh_same m n h = cc

hidden_fresh : (m n : ℕ) → ◌≡◌ {A = Option Slot} (Some (slots.Var m)) (Some (slots.Fresh n)) → ⊥
hidden_fresh m n h = cc

other_fresh : (place : Place) (number other : Option ℕ) (told another : Told) → IsItsSlot place number told.subject → IsItsSlot place other another.subject → DiffersFrom number other
    → AreOtherFresh told another
other_fresh place None other told another one two differs = λ n is also. subst IsNotFresh is one
other_fresh Pattern (Some m) other told another one two differs = λ n is also. hidden_fresh (variable_limit + m) n (sym one ∙ is)
other_fresh Insert (Some m) None told another one two differs = λ n is also. subst IsNotFresh also two
other_fresh Insert (Some m) (Some k) told another one two differs =
    λ n is also. differs (ap Some (fresh_same k n (sym two ∙ also) ∙ sym (fresh_same m n (sym one ∙ is))))

each_other : (place : Place) (first : Option ℕ) (told : Told) (numbers : List (Option ℕ)) (rest : List Told) → IsItsSlot place first told.subject → HaveTheirSlots place numbers rest
    → All (DiffersFrom first) numbers → All (AreOtherFresh told) rest
each_other place first told [] [] own have differ = All-nil (AreOtherFresh told)
each_other place first told [] (another ∷ rest) own have differ = absurd have
each_other place first told (other ∷ numbers) [] own have differ = absurd have
each_other place first told (other ∷ numbers) (another ∷ rest) own have differ =
    All-cons (AreOtherFresh told) another rest (other_fresh place first other told another own have.0 (All-head (DiffersFrom first) other numbers differ))
    (each_other place first told numbers rest own have.1 (All-tail (DiffersFrom first) other numbers differ))

fresh_differ : (place : Place) (numbers : List (Option ℕ)) (told : List Told) → HaveTheirSlots place numbers told → Differ numbers → HaveOwnFresh told
fresh_differ place [] [] have differ = tt
fresh_differ place [] (told ∷ rest) have differ = absurd have
fresh_differ place (first ∷ numbers) [] have differ = absurd have
fresh_differ place (first ∷ numbers) (told ∷ rest) have differ =
    (each_other place first told numbers rest have.0 have.1 differ.0, fresh_differ place numbers rest have.1 differ.1)

pub own_fresh : (place : Place) (next : ℕ) (value : Data) (told : List Told) → HaveTheirSlots place (numbers_of_subjects next value) told → HaveOwnFresh told
own_fresh place next value told have = fresh_differ place (numbers_of_subjects next value) told have (of_subjects next value).differ
