-- Fresh subjects of one update have different names.
use Rattle.std.proofs.Common.{◌≡◌, ◌∙◌, ℕ, ◌+◌, ◌*◌, ◌<◌, ◌≤◌, ◌^◌, ◌/◌, List, ◌++◌, sym, ap, arith}
use Rattle.std.specs.Prelude.{codes}
use Rattle.std.specs.Fmt.{decimal}
use Rattle.std.proofs.Math.Nat.{mul-le-mul_right}
use Rattle.std.proofs.lemmas.Fmt.{decimal_injective}
use Rattle.std.proofs.lemmas.List.{append_cancel_left}
use Rattle.std.proofs.lemmas.Nat.{div-mul-add}
use Rattle.jrql_ast.specs.FreshNames.{fresh_iri}
use Rattle.jrql_ast.specs.QueryAnswers.{solution_limit}
use Rattle.tree_clock.specs.Dot.{dot_text}
use Rattle.tree_clock.specs.declared.dots.Dot.{Dot}
use Rattle.jrql_update.specs.UpdateMeaning.{HaveOwnNames}

-- a name ends in its number
ends_in : (domain : List ℕ) (dot : Dot) (m n : ℕ) → fresh_iri domain dot m ≡ fresh_iri domain dot n → decimal m ≡ decimal n
ends_in domain dot m n same =
    let from_dot : ℕ → List ℕ = λ number. dot_text dot ++ (codes "." ++ decimal number) in
    let from_path : ℕ → List ℕ = λ number. codes "/.well-known/genid/" ++ from_dot number in
    let behind_scheme = append_cancel_left (codes "http://") (domain ++ from_path m) (domain ++ from_path n) same in
    let behind_domain = append_cancel_left domain (from_path m) (from_path n) behind_scheme in
    let behind_path = append_cancel_left (codes "/.well-known/genid/") (from_dot m) (from_dot n) behind_domain in
    let behind_dot = append_cancel_left (dot_text dot) (codes "." ++ decimal m) (codes "." ++ decimal n) behind_path in
    append_cancel_left (codes ".") (decimal m) (decimal n) behind_dot

-- a number is below 2 ^ 64
few_numbers : (count solution subject : ℕ) → count < 2 ^ 32 → solution < solution_limit → subject < count → solution * count + subject < 2 ^ 64
few_numbers count solution subject few one low =
    let most : solution ≤ solution_limit = omega arith in
    let product : solution * count ≤ solution_limit * count = mul-le-mul_right count most in
    omega arith

-- a number has one solution and one subject
one_solution : (count solution other subject another : ℕ) → subject < count → another < count → solution * count + subject ≡ other * count + another → solution ≡ other
one_solution count solution other subject another low high same =
    sym (div-mul-add solution count subject low) ∙ ap (λ (n : ℕ). n / count) same ∙ div-mul-add other count another high

pub own_names : (domain : List ℕ) (dot : Dot) (count : ℕ) → count < 2 ^ 32 → HaveOwnNames domain dot count
own_names domain dot count few = λ solution other subject another one two low high same.
    let numbers : solution * count + subject ≡ other * count + another =
    decimal_injective (solution * count + subject) (other * count + another) (few_numbers count solution subject few one low)
    (few_numbers count other another few two high) (ends_in domain dot (solution * count + subject) (other * count + another) same) in
    let alike = one_solution count solution other subject another low high numbers in
    let products : solution * count ≡ other * count = ap (λ (n : ℕ). n * count) alike in
    (alike, omega arith)
