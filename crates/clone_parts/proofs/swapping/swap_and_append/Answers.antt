-- What is kept is swapped for a head, and entries are appended behind it.
use Rattle.std.proofs.Common.{◌≡◌, ◌∙◌, ◌*◌, [], ◌∷◌, Option, length, true, false, refl, subst, inr}
use Rattle.std.proofs.lemmas.Result.{err_from_is_err_and}
use Rattle.mld_io.specs.Disk.{Log, other_side}
use Rattle.journal_store.specs.journal_sides.Heads.{head_value}
use Rattle.journal_store.specs.journal_sides.Pairs.{Keeps}
use Rattle.journal_store.specs.Calls.{swapped}
use Rattle.journal_store.specs.Crashes.{first_gate}
use Rattle.journal_store.proofs.ClosingLaws.{called_then, told_then}
use Rattle.clone_parts.specs.KeptSteps.{Swapped, LeavesSome, appends}
use Rattle.clone_parts.proofs.Appended.{kept_now, keeps_later}
use Rattle.clone_parts.proofs.StepLaws.{some_one, some_more, some_then}
use Rattle.clone_parts.proofs.swapping.swap_and_append.Goals as goal

pub returns-in_err-swap_open-clause-moments : goal.returns-in_err-swap_open-clause-moments
returns-in_err-swap_open-clause-moments g c l kept e k =
    some_more l (g.B.Banks.log c.swap_open.new.self.banks) (Keeps kept) (Swapped (head_value c.args.head.now) [] ∷ []) (appends c.args.entries.now) (g.B.Banks.meter c.args.journal.now.banks).arm (g.B.Banks.meter c.swap_open.new.self.banks).arm
    c.swap_open.ensures.meter.lowered
    (some_one l (g.B.Banks.log c.swap_open.new.self.banks) (Keeps kept) (Swapped (head_value c.args.head.now) []) (g.B.Banks.meter c.args.journal.now.banks).arm (g.B.Banks.meter c.swap_open.new.self.banks).arm
    (first_gate (other_side c.args.journal.now.side)) refl (c.swap_open.ensures.moments l kept e k) c.swap_open.ensures.meter.lowered)

pub append_short-requires-clause-follow : goal.append_short-requires-clause-follow
append_short-requires-clause-follow g c = record {
  some = record {
    opened = c.in_ok-swap_open.ensures.ok.opened;
    kept = swapped (head_value c.args.head.now) [] c.requires.keeps.kept;
    keeps = keeps_later g.B.Banks.log c.args.journal.now c.swap_open.new.self (swapped (head_value c.args.head.now) []) c.requires.keeps c.in_ok-swap_open.ensures.ok.opened c.swap_open.ensures.told c.in_ok-swap_open.ensures.kept;
  };
  ready = c.requires.ready;
}

pub returns-in_err-append_short-clause-moments : goal.returns-in_err-append_short-clause-moments
returns-in_err-append_short-clause-moments g c l kept e k =
    let was = (g.B.Banks.meter c.args.journal.now.banks).arm in
    let half = (g.B.Banks.meter c.swap_open.new.self.banks).arm in
    let mid = c.in_ok-swap_open.ensures.kept kept k in
    some_then l mid.log (g.B.Banks.log c.append_short.new.journal.banks) (Keeps kept) (Swapped (head_value c.args.head.now) [] ∷ []) (appends c.args.entries.now) was half (g.B.Banks.meter c.append_short.new.journal.banks).arm
    (subst (λ (o : Option Log). LeavesSome l o (Keeps kept) (Swapped (head_value c.args.head.now) [] ∷ []) was half) mid.now_is
    (some_one l (g.B.Banks.log c.swap_open.new.self.banks) (Keeps kept) (Swapped (head_value c.args.head.now) []) was half (first_gate (other_side c.args.journal.now.side)) refl (c.swap_open.ensures.moments l kept e k) c.swap_open.ensures.meter.lowered))
    (c.in_ok-swap_open.ensures.meter.done refl).lowered
    (c.append_short.ensures.moments mid.log (swapped (head_value c.args.head.now) [] kept) mid.now_is (kept_now (swapped (head_value c.args.head.now) [] kept) (g.B.Banks.log c.swap_open.new.self.banks) c.swap_open.new.self.closed c.in_ok-swap_open.ensures.ok.opened mid))

pub returns-in_err-append_short-clause-err : goal.returns-in_err-append_short-clause-err
returns-in_err-append_short-clause-err g c =
    let p = err_from_is_err_and c.from_residual-in_err-append_short.result c.from_residual-in_err-append_short.ensures.1 in
    let swap = c.in_ok-swap_open.ensures.ok in
    rw (p.1, p.2)
    (c.in_err-append_short.ensures.err c.args.journal.now true (record {
      was = c.requires.keeps.opened;
      turned = inr (swap.side, swap.generation);
      fresh = λ e. absurd (let f : true ≡ false = e in cc);
      called = λ e. swap.called;
    }))

pub returns-in_err-append_short-clause-told : goal.returns-in_err-append_short-clause-told
returns-in_err-append_short-clause-told g c =
    told_then (g.B.Banks.log c.args.journal.now.banks) (g.B.Banks.log c.swap_open.new.self.banks) (g.B.Banks.log c.append_short.new.journal.banks) c.swap_open.ensures.told c.append_short.ensures.told

pub returns-clause-kept : goal.returns-clause-kept
returns-clause-kept g c kept k =
    c.in_ok-append_short.ensures.kept (swapped (head_value c.args.head.now) [] kept)
    (kept_now (swapped (head_value c.args.head.now) [] kept) (g.B.Banks.log c.swap_open.new.self.banks) c.swap_open.new.self.closed c.in_ok-swap_open.ensures.ok.opened (c.in_ok-swap_open.ensures.kept kept k))

pub returns-clause-moments : goal.returns-clause-moments
returns-clause-moments g c l kept e k =
    let was = (g.B.Banks.meter c.args.journal.now.banks).arm in
    let half = (g.B.Banks.meter c.swap_open.new.self.banks).arm in
    let mid = c.in_ok-swap_open.ensures.kept kept k in
    some_then l mid.log (g.B.Banks.log c.append_short.new.journal.banks) (Keeps kept) (Swapped (head_value c.args.head.now) [] ∷ []) (appends c.args.entries.now) was half (g.B.Banks.meter c.append_short.new.journal.banks).arm
    (subst (λ (o : Option Log). LeavesSome l o (Keeps kept) (Swapped (head_value c.args.head.now) [] ∷ []) was half) mid.now_is
    (some_one l (g.B.Banks.log c.swap_open.new.self.banks) (Keeps kept) (Swapped (head_value c.args.head.now) []) was half (first_gate (other_side c.args.journal.now.side)) refl (c.swap_open.ensures.moments l kept e k) c.swap_open.ensures.meter.lowered))
    (c.in_ok-swap_open.ensures.meter.done refl).lowered
    (c.append_short.ensures.moments mid.log (swapped (head_value c.args.head.now) [] kept) mid.now_is (kept_now (swapped (head_value c.args.head.now) [] kept) (g.B.Banks.log c.swap_open.new.self.banks) c.swap_open.new.self.closed c.in_ok-swap_open.ensures.ok.opened mid))

pub returns-clause-ok : goal.returns-clause-ok
returns-clause-ok g c =
    let swap = c.in_ok-swap_open.ensures.ok in
    let rest = c.in_ok-append_short.ensures.ok in
    record {
      opened = rest.opened;
      side = rest.side ∙ swap.side;
      generation = rest.generation ∙ swap.generation;
      called = called_then g.B.Banks.log g.B.Banks.meter (4 * length c.args.entries.now) c.args.journal.now.banks c.swap_open.new.self.banks c.append_short.new.journal.banks swap.called c.append_short.ensures.told c.append_short.ensures.meter.lowered;
    }

pub returns-clause-told : goal.returns-clause-told
returns-clause-told g c =
    told_then (g.B.Banks.log c.args.journal.now.banks) (g.B.Banks.log c.swap_open.new.self.banks) (g.B.Banks.log c.append_short.new.journal.banks) c.swap_open.ensures.told c.append_short.ensures.told
