use Rattle.std.proofs.Common.{◌∙◌, ap, sym}
use Rattle.std.specs.Option.{option_map}
use Rattle.serde_json.specs.View.{number_view}
use Rattle.jsonld_values.proofs.Numbers.{plain_number_whole}
use Rattle.jsonld_values.proofs.writing.write_integer.Goals as goal

pub write_number-requires : goal.write_number-requires
write_number-requires c =
    plain_number_whole c.args.text.now (number_view c.in-Some.whole) (sym (ap (option_map number_view) (sym c.in-Some.is) ∙ c.plain_number.ensures))
