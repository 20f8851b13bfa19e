use Rattle.std.proofs.Common.{zero, ◌+◌, ◌*◌, refl, sym, subst}
use Rattle.std.specs.Char.{IsScalar}
use Rattle.rdf_terms.proofs.EscapeLemmas.{no_digit_stops, digit_stops, scalar_refused, spot_refused, last_escape}
use Rattle.rdf_terms.proofs.escapes.read_last_digit.Goals as goal

pub returns-in_default : goal.returns-in_default
returns-in_default c = no_digit_stops c.args.text.now c.args.at c.args.spot zero c.args.code c.requires.begin c.in_default.ensures

pub returns-in_default-from_u32 : goal.returns-in_default-from_u32
returns-in_default-from_u32 c =
    digit_stops c.args.text.now c.args.at c.args.spot zero c.args.code c.in-Some.digit (c.args.code * 16 + c.in-Some.digit) c.in-Some.ensures refl
    (λ slot value. scalar_refused slot c.args.spot value (c.args.code * 16 + c.in-Some.digit) c.in_default-from_u32.ensures.value)

pub returns-in_default-after : goal.returns-in_default-after
returns-in_default-after c =
    digit_stops c.args.text.now c.args.at c.args.spot zero c.args.code c.in-Some.digit c.in-Some-from_u32.character c.in-Some.ensures c.in-Some-from_u32.ensures.value.1
    (λ slot value. spot_refused slot c.args.spot value c.in-Some-from_u32.character (sym c.in_default-after.ensures))

pub returns : goal.returns
returns c =
    last_escape c.args.text.now c.args.at c.args.spot c.args.code c.in-Some.digit (record {
      character = c.in-Some-from_u32.character;
      spot = c.in-Some-after.spot;
      next = c.args.at + 1;
    }) c.in-Some.ensures c.in-Some-from_u32.ensures.value.1
    (subst (λ n. IsScalar n) (sym c.in-Some-from_u32.ensures.value.1) c.in-Some-from_u32.ensures.value.0) (sym c.in-Some-after.ensures) refl
