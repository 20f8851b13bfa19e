use Rattle.std.proofs.Common.{◌<◌, length, arith}
use Rattle.jsonld_subjects.specs.jsonld_values.Numbering.{numbered_filter}
use Rattle.jsonld_subjects.proofs.of_jsonld_values.Mapped.{more_changed}
use Rattle.jrql_patterns.proofs.open_groups.number_filters.Goals as goal

pub loop-filter-preserved : goal.loop-filter-preserved
loop-filter-preserved c =
    let within : c.loop-filter.filter-index < length c.args.filters.now = omega arith in
    more_changed (numbered_filter c.args.named) c.args.filters.now c.loop-filter.filters c.loop-filter.filter-index c.filter-item.result c.number_filter.new.filter
    within c.loop-filter.invariant c.number_filter.ensures
