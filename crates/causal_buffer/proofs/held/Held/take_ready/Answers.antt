use Rattle.std.proofs.Common.{◌≡◌, ◌∙◌, List, get_or, refl, sym, ap, subst}
use Rattle.std.proofs.lemmas.Bool.{true≢false}
use Rattle.std.specs.List.{remove}
use Rattle.mld_ops.specs.Entry.{EntryValue}
use Rattle.mld_ops.specs.Picking.{HasNone, TakesFirst}
use Rattle.mld_ops.proofs.PickingLaws.{none_no_first}
use Rattle.mld_ops.specs.Ready.{IsReadyEntry}
use Rattle.causal_buffer.proofs.Places.{none_within, takes_at}
use Rattle.causal_buffer.proofs.held.Held.take_ready.Goals as goal

pub returns-in_err-place-clause-none : goal.returns-in_err-place-clause-none
returns-in_err-place-clause-none c =
    let ready = IsReadyEntry c.args.known.now.ticks in
    let none = none_within ready c.deref.result.now c.in_err-place.ensures in (
      λ _. subst (λ (xs : List EntryValue). HasNone ready xs) (c.deref.ensures.value ∙ c.self.view_is) none,
      λ _. rw c.from_residual.ensures refl,
    )

pub returns-clause-some : goal.returns-clause-some
returns-clause-some c =
    let ready = IsReadyEntry c.args.known.now.ticks in
    let xs = c.deref.result.now in
    let place = c.in_ok-place.place in
    let taken = c.remove.result in
    let found = c.in_ok-place.ensures in
    let at : taken ≡ get_or xs place taken = c.remove.ensures.value ∙ ap (λ (ys : List EntryValue). get_or ys place taken) (sym c.deref.ensures.value) in
    let rest : remove xs place ≡ c.remove.new.self.items = ap (λ (ys : List EntryValue). remove ys place) c.deref.ensures.value ∙ sym c.remove.ensures.items in
    subst (λ (ys : List EntryValue). TakesFirst ready c.args.self.now taken ys) rest
    (subst (λ (ys : List EntryValue). TakesFirst ready ys taken (remove xs place)) (c.deref.ensures.value ∙ c.self.view_is)
    (takes_at ready xs place taken found.0 at found.1 found.2))

pub returns-clause-none : goal.returns-clause-none
returns-clause-none c = (
  λ e. absurd (true≢false e),
  λ none. absurd (none_no_first (IsReadyEntry c.args.known.now.ticks) c.args.self.now c.remove.result c.remove.new.self.items none (returns-clause-some c)),
)
