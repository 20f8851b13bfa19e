use Rattle.std.proofs.Common.{sym, ◌∙◌}
use Rattle.std.proofs.lemmas.Bool.{true≢false}
use Rattle.mld_ops.specs.Messages.{message_value}
use Rattle.wire_frames.proofs.ShortMessages.{long_message}
use Rattle.wire_frames.proofs.messages.message_payload.Goals as goal

pub returns-then-not-is_short_message-clause-too_long : goal.returns-then-not-is_short_message-clause-too_long
returns-then-not-is_short_message-clause-too_long c =
    λ e. long_message (message_value c.args.message.now) (λ h. true≢false (sym (c.is_short_message.ensures.1 h) ∙ c.if-not-is_short_message.true))
