use Rattle.std.proofs.Common.{◌∙◌, ◌++◌, ◌∷◌, [], ap, codes, length, rules}
use Rattle.std.specs.Fmt.{decimal}
use Rattle.std.specs.List.{flat_map}
use Rattle.schedule_model.specs.Characters.{line_end}
use Rattle.schedule_model.specs.ReplyText.{pair_line}
use Rattle.schedule_replies.proofs.RepliesShown.{pairs_shown}
use Rattle.schedule_replies.proofs.replies.push_pairs.Goals as goal

pub returns-clause-ok : goal.returns-clause-ok
returns-clause-ok c =
    pairs_shown c.args.out.now.items c.push_count.new.out.items c.push_lines.new.out.items (codes "has " ++ (decimal (length c.args.pairs.now.pairs) ++ line_end ∷ [])) c.args.pairs.now.pairs
    (search rules) (search rules)
    (c.in_ok-push_lines.ensures.ok ∙ ap (λ ps. c.push_count.new.out.items ++ flat_map pair_line ps) c.in_ok-list.ensures)
