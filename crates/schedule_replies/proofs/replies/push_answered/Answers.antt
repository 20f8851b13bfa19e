use Rattle.std.proofs.Common.{◌≡◌, ◌∙◌, ◌++◌, ◌+◌, ◌-◌, List, ℕ, ap, sym, arith, codes, refl, rules}
use Rattle.std.specs.List.{flat_map, range_with_len}
use Rattle.std.proofs.lemmas.List.{append_assoc}
use Rattle.schedule_model.specs.ReplyText.{spaced_message}
use Rattle.schedule_replies.proofs.RepliesShown.{numbers_more, numbers_shown, still_in_front, still_stands}
use Rattle.schedule_replies.proofs.replies.push_answered.Goals as goal

pub loop-number-preserved : goal.loop-number-preserved
loop-number-preserved c =
    let begun : List ℕ = c.extend_from_slice.new.self.items in
    let done : ℕ = c.loop-number.number - c.args.first in
    let shown : List ℕ = flat_map spaced_message (range_with_len c.args.first done) in
    let there : c.args.first + done ≡ c.loop-number.number = omega (arith, c.loop-number.invariant.1) in
    let more : c.loop-number.number + 1 - c.args.first ≡ done + 1 = omega (arith, c.loop-number.invariant.1) in (
      c.in_ok-push_numbered.ensures.ok
          ∙ ap (λ (text : List ℕ). text ++ spaced_message c.loop-number.number) c.loop-number.invariant.0
          ∙ append_assoc begun shown (spaced_message c.loop-number.number)
          ∙ ap (λ (number : ℕ). begun ++ (shown ++ spaced_message number)) (sym there)
          ∙ ap (λ (text : List ℕ). begun ++ text) (sym (numbers_more c.args.first done))
          ∙ ap (λ (count : ℕ). begun ++ flat_map spaced_message (range_with_len c.args.first count)) (sym more),
      omega (arith, c.loop-number.invariant.1),
      omega (arith, c.loop-number-test.true, c.loop-number.invariant.2),
    )

pub returns-clause-ok : goal.returns-clause-ok
returns-clause-ok c =
    numbers_shown c.args.out.now.items c.extend_from_slice.new.self.items c.loop-number.out.items c.push.new.self.items (codes "answer") c.args.first (c.args.end - c.args.first)
    (c.loop-number.number - c.args.first) (omega (arith, c.loop-number-test.false, c.loop-number.invariant.1, c.loop-number.invariant.2)) (search rules) refl c.loop-number.invariant.0 (search rules)

pub returns-in_err-push_numbered-clause-err : goal.returns-in_err-push_numbered-clause-err
returns-in_err-push_numbered-clause-err c =
    let begun : List ℕ = c.extend_from_slice.new.self.items in
    still_in_front c.from_residual-in_err-push_numbered.result c.args.out.now.items (codes "answer") begun c.push_numbered.new.out.items (search rules)
    (still_stands begun _ c.loop-number.out.items c.push_numbered.new.out.items c.loop-number.invariant.0 c.in_err-push_numbered.ensures.err)
