-- Texts that are never too long for a literal.
use Rattle.std.proofs.Common.{ℕ, suc, ◌+◌, ◌<◌, ◌≤◌, ◌^◌, ℤ, pos, negsuc, length, decimal, FitsSigned, arith}
use Rattle.std.specs.Int.{w128}
use Rattle.std.specs.Fmt.{signed_decimal}
use Rattle.std.proofs.lemmas.Fmt.{length-decimal-le_wide}
use Rattle.rdf_terms.specs.Literal.{lexical_limit}

decimal_short : (n : ℕ) → n < 2 ^ 127 + 1 → length (decimal n) ≤ 40
decimal_short n fits = length-decimal-le_wide 40 n (omega arith) (omega arith) (omega arith)

pub signed_short : (z : ℤ) → FitsSigned w128 z → length (signed_decimal z) ≤ lexical_limit
signed_short (pos n) fits = let h : length (decimal n) ≤ 40 = decimal_short n (omega arith) in omega arith
signed_short (negsuc n) fits = let h : length (decimal (suc n)) ≤ 40 = decimal_short (suc n) (omega arith) in omega arith
