-- Words of private contracts: which variables stand in triples, by marks.
use Rattle.std.specs.Prelude.{ℕ, List, [], ◌∷◌, Bool, false, true, length, replicate, slice_index_or, slice_set}
use Rattle.std.specs.List.{filter, range_with_len}
use Rattle.jrql_ast.specs.declared.patterns.PatternTriple.{PatternTriple}
use Rattle.jrql_ast.specs.declared.patterns.Slot.{Slot}
use Rattle.jrql_ast.specs.declared.patterns.Slot.TheVariants as slots
use Rattle.jrql_patterns.specs.OpenGroups.{OpenGroup}

-- the variable of a slot is marked
abbrev pub marked_slot : List Bool → Slot → List Bool
marked_slot marks (slots.Var number) = slice_set marks number true
marked_slot marks (slots.Term term) = marks
marked_slot marks (slots.Fresh subject) = marks

abbrev pub marked_triple : List Bool → PatternTriple → List Bool
marked_triple marks triple = marked_slot (marked_slot (marked_slot marks triple.s) triple.p) triple.o

abbrev pub marked_triples : List Bool → List PatternTriple → List Bool
marked_triples marks [] = marks
marked_triples marks (triple ∷ rest) = marked_triples (marked_triple marks triple) rest

abbrev pub marked_branches : List Bool → List (List PatternTriple) → List Bool
marked_branches marks [] = marks
marked_branches marks (branch ∷ rest) = marked_branches (marked_triples marks branch) rest

-- the marks of a group's named variables
abbrev pub marks_of : OpenGroup → List Bool
marks_of group = marked_branches (marked_triples (replicate (length group.names.named) false) group.patterns) group.branches

-- a number is marked, and the numbers that are
abbrev pub is_marked : List Bool → ℕ → Bool
is_marked marks number = slice_index_or marks number false

abbrev pub numbers_marked : List Bool → List ℕ
numbers_marked marks = filter (is_marked marks) (range_with_len 0 (length marks))
