use Rattle.std.proofs.Common.{◌≡◌, not, filter, take}
use Rattle.jrql_eval.specs.ConstantTemplates.{is_constant}
use Rattle.jrql_eval.proofs.templates.parted.Given as goal

abbrev pub invariant-loop-template : goal.invariant-loop-template
invariant-loop-template l = record {
  constant : l.constant.items ≡ filter is_constant (take l.template-index l.templates);
  others : l.others.items ≡ filter (λ template. not (is_constant template)) (take l.template-index l.templates);
}
