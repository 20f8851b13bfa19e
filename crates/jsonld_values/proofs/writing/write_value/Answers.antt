use Rattle.std.proofs.Common.{◌≡◌, [], ◌∷◌, ◌++◌, codes, rules}
use Rattle.std.proofs.lemmas.Result.{on_ok_weaker}
use Rattle.json.specs.Token.{Token}
use Rattle.jsonld_values.proofs.WrittenObjects.{two_written}
use Rattle.jsonld_values.proofs.writing.write_value.Goals as goal

pub returns-clause-ok : goal.returns-clause-ok
returns-clause-ok c =
    let opens : c.begin_object.new.self.tokens ≡ c.args.out.now.tokens ++ Token.begin_object ∷ [] = search rules in
    let one : c.write_member.new.out.tokens ≡ c.begin_object.new.self.tokens ++ (Token.key c.args.key.now ∷ Token.string c.args.text.now ∷ []) = c.in_ok-write_member.ensures.ok in
    let two : c.write_member-2.new.out.tokens ≡ c.write_member.new.out.tokens ++ (Token.key (codes "@value") ∷ Token.string c.args.lexical.now ∷ []) = c.in_ok-write_member-2.ensures.ok in
    on_ok_weaker c.end_object.result
    (two_written c.args.out.now.tokens c.begin_object.new.self.tokens c.write_member.new.out.tokens c.write_member-2.new.out.tokens c.end_object.new.self.tokens
    c.args.key.now c.args.text.now (codes "@value") c.args.lexical.now opens one two)
    c.end_object.ensures.ok
