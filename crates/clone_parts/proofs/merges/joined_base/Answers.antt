use Rattle.std.proofs.Common.{◌≡◌, ◌∙◌, List, sym, subst}
use Rattle.mld_ops.specs.declared.tagged.Tagged.{Tagged}
use Rattle.mld_ops.specs.Messages.{snapshot_value}
use Rattle.suset.specs.SnapshotJoin.{CoversAll, IsJoinedWith}
use Rattle.clone_parts.proofs.merges.joined_base.Goals as goal

pub returns-clause-joined : goal.returns-clause-joined
returns-clause-joined c =
    let own = c.args.clock.now.ticks in
    let ticks = c.in_ok-base.base.ticks in
    let snapshot = snapshot_value c.args.snapshot.now in
    let same : c.in_ok-own.own ≡ c.args.pairs.now.pairs = c.in_ok-own.ensures.pairs ∙ c.in_ok-to_list.ensures.pairs in
    subst (λ (ps : List Tagged). IsJoinedWith own c.args.pairs.now.pairs snapshot ticks ps) (sym (c.in_ok-pairs.ensures ∙ c.into_list.ensures.pairs))
    (subst (λ (ps : List Tagged). IsJoinedWith own ps snapshot ticks c.in_ok-base.set) same c.in_ok-base.ensures.joined)

pub returns-clause-covered : goal.returns-clause-covered
returns-clause-covered c =
    let own = c.args.clock.now.ticks in
    let ticks = c.in_ok-base.base.ticks in
    let same : c.in_ok-own.own ≡ c.args.pairs.now.pairs = c.in_ok-own.ensures.pairs ∙ c.in_ok-to_list.ensures.pairs in
    subst (λ (ps : List Tagged). CoversAll ticks ps) (sym (c.in_ok-pairs.ensures ∙ c.into_list.ensures.pairs))
    (c.in_ok-base.ensures.covered (subst (λ (ps : List Tagged). CoversAll own ps) (sym same) c.requires.covered))
