use Rattle.std.proofs.Common.{◌≡◌, ◌<◌, ◌^◌, arith, sym, ◌∙◌}
use Rattle.std.proofs.lemmas.Fmt.{decimal_injective}
use Rattle.mld_replay.proofs.words.read_count.Goals as goal

pub returns-then-number-gt-COMMAND_LIMIT : goal.returns-then-number-gt-COMMAND_LIMIT
returns-then-number-gt-COMMAND_LIMIT c = λ number few same.
    let small : number < 2 ^ 64 = omega (arith, few) in
    let alike : c.in_ok-number.number ≡ number = decimal_injective c.in_ok-number.number number c.in_ok-number.ensures.0 small (sym c.in_ok-number.ensures.1 ∙ same) in
    omega (arith, c.if-number-gt-COMMAND_LIMIT.true)
