-- Columns that aren't among the variables that stand in a triple.
use Rattle.std.proofs.Common.{◌≡◌, ◌∙◌, ℕ, List, Bool, not, ap}
use Rattle.std.specs.List.{list_any}
use Rattle.jrql_patterns.specs.QueryReading.{OpenQuery, is_among, standing_variables, misses_columns}

pub columns_missed : (read : OpenQuery) (standing columns : List ℕ) (told : Bool) → standing ≡ standing_variables read.group → columns ≡ read.columns
    → told ≡ list_any (λ variable. not (is_among standing variable)) columns → told ≡ misses_columns read
columns_missed read standing columns told stand are is =
    is ∙ ap (λ (s : List ℕ). list_any (λ variable. not (is_among s variable)) columns) stand
    ∙ ap (λ (l : List ℕ). list_any (λ variable. not (is_among (standing_variables read.group) variable)) l) are
