-- A message that goes on each peer of a list, one after another.
use Rattle.std.proofs.Common.{◌≡◌, Bool, true, false, ◌||◌, List, [], ◌∷◌, ◌++◌, refl, sym, ◌∙◌, ap}
use Rattle.std.proofs.lemmas.Bool.{false≢true}
use Rattle.std.proofs.lemmas.List.{append-nil}
use Rattle.mld_ops.specs.Messages.{MessageValue}
use Rattle.node_model.specs.declared.connections.Connection.{Connection}
use Rattle.node_model.specs.declared.connections.Sent.{Sent}
use Rattle.node_model.specs.Connections.{is_peer}
use Rattle.node_model.specs.Exchanges.{ExchangeValue, sends, after_sending, sent_to_peers, left_of_peers, connections_left, telling_peers}
use Rattle.node_model.specs.Sending.{SendsToPeers, any_peer}
use Rattle.node_model.proofs.PlaceLaws.{passed}

-- ---- a list on the way

-- the message was sent to the peers in front of the rest of the list, and these were kept of them
pub record IsSending (message : MessageValue) (old now : List Sent) (kept rest all : List Connection) : Type 0 where
  pub adds : now ++ sent_to_peers message rest ≡ old ++ sent_to_peers message all
  pub leaves : kept ++ left_of_peers message rest ≡ left_of_peers message all

-- ---- lists without a peer

both_false : (a b : Bool) → (a || b) ≡ false → (a ≡ false) × (b ≡ false)
both_false true b e = absurd (false≢true (sym e))
both_false false b e = (refl, e)

pub no_peers : (message : MessageValue) (old : List Sent) (list : List Connection) → any_peer list ≡ false → SendsToPeers message list old old list
no_peers message old list e = record {
  adds = sym (append-nil old) ∙ ap (λ (s : List Sent). old ++ s) (sym (none_sent list e));
  leaves = sym (all_left list e);
}
  where
    none_sent : (list : List Connection) → any_peer list ≡ false → sent_to_peers message list ≡ []
    none_sent [] e = refl
    none_sent (one ∷ more) e =
        let parts = both_false (is_peer one.role) (any_peer more) e in
        passed (is_peer one.role) (sends message one ∷ sent_to_peers message more) (sent_to_peers message more) parts.0 ∙ none_sent more parts.1

    all_left : (list : List Connection) → any_peer list ≡ false → left_of_peers message list ≡ list
    all_left [] e = refl
    all_left (one ∷ more) e =
        let parts = both_false (is_peer one.role) (any_peer more) e in
        passed (is_peer one.role) (connections_left (after_sending message one) ++ left_of_peers message more) (one ∷ left_of_peers message more) parts.0
        ∙ ap (λ (l : List Connection). one ∷ l) (all_left more parts.1)

-- ---- exchanges that go on

pub told_peers : (message : MessageValue) (exchange : ExchangeValue) (new : List Sent) (left : List Connection) → SendsToPeers message exchange.others exchange.sent new left
    → ◌≡◌ {A = ExchangeValue} (record exchange { sent = new; others = left }) (telling_peers message exchange)
told_peers message exchange new left h = λ i. record exchange { sent = h.adds i; others = h.leaves i }

-- an exchange whose others have none goes on as it is
pub told_none : (message : MessageValue) (exchange : ExchangeValue) (has : Bool) → has ≡ any_peer exchange.others → has ≡ false → exchange ≡ telling_peers message exchange
told_none message exchange has e h =
    told_peers message exchange exchange.sent exchange.others (no_peers message exchange.sent exchange.others (sym e ∙ h))
