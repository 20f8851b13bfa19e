use Rattle.std.proofs.Common.{◌≡◌, ◌∙◌, ℕ, ◌<◌, List, [], ◌∷◌, ◌++◌, Bool, true, map, string_bytes, sym, ap, subst, arith}
use Rattle.std.proofs.lemmas.Grind.{common_steps}
use Rattle.jrql_ast.specs.InForm.{variable_limit}
use Rattle.jsonld_values.specs.VariableNames.{NamesValue, IsNames, named_too, variables_met}
use Rattle.jsonld_values.proofs.Naming.{kept_named}
use Rattle.jsonld_values.proofs.names.Names.meet_variable.Goals as goal

pub invariant_of-self-2 : goal.invariant_of-self-2
invariant_of-self-2 c =
    let names : NamesValue = record {
      named = map string_bytes c.self.inside.named.keys;
      hidden = c.self.inside.hidden;
      fresh = c.self.inside.fresh;
      since = c.self.inside.since.items;
    } in
    let room : variables_met names < variable_limit =
    grind (arith, common_steps, c.if-number-from-ge-VARIABLE_LIMIT.false, c.len-number.ensures.len, c.from.ensures) in
    let flags : c.push_reserved.new.self.items ≡ names.since ++ true ∷ [] =
    c.push_reserved.ensures.items ∙ ap (λ (l : List Bool). l ++ true ∷ []) c.reserve.ensures.items in
    let all = named_too names c.args.name.now in
    let kept = kept_named names c.args.name.now c.self.invariant c.in_default.ensures.0 room in
    subst (λ (list : List (List ℕ)). IsNames (record all { named = list; since = c.push_reserved.new.self.items })) (sym c.in_ok-put.ensures.ok)
    (subst (λ (list : List Bool). IsNames (record all { since = list })) (sym flags) kept)
