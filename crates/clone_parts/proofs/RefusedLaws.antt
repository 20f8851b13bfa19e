-- Laws of what a refused append leaves of a change that began before.
use Rattle.std.proofs.Common.{◌≡◌, ◌∙◌, Option, None, Some, Bool, true, false, Result, Ok, Err, refl, sym, ap, subst, inl, inr}
use Rattle.mld_io.specs.Arm.{Meter}
use Rattle.mld_io.specs.Disk.{Log}
use Rattle.journal_store.specs.Closing.{WasCalled, MayTurn, JournalStaysOpen, ClosesFor, LeavesRefused}
use Rattle.journal_store.specs.Standing.{JournalValue}
use Rattle.journal_store.specs.declared.faults.Why.{Why}
use Rattle.journal_store.specs.declared.faults.Why.TheVariants as why
use Rattle.journal_store.proofs.ClosingLaws.{called_trans}
use Rattle.clone_parts.specs.Beginning.{ChangeBegan}

pub none_some : {X : Type 0} {x : X} → ¬ (◌≡◌ {A = Option X} None (Some x))
none_some e = cc

-- side and generation that stay are as they may be
pub turned_on : {B : Type 0} (swaps : Bool) (first old new : JournalValue B) → MayTurn swaps first old → new.side ≡ old.side → new.generation ≡ old.generation → MayTurn swaps first new
turned_on false first old new t side generation = (side ∙ t.0, generation ∙ t.1)
turned_on true first old new (inl t) side generation = inl (side ∙ t.0, generation ∙ t.1)
turned_on true first old new (inr t) side generation = inr (side ∙ t.0, generation ∙ t.1)

module _ {B : Type 0} (log : B → Option Log) (meter : B → Meter) (swaps : Bool) (first : JournalValue B) where
  -- a change that nothing was done for, and one behind an append that was done
  pub begun_now : first.closed ≡ None → MayTurn swaps first first → ChangeBegan log meter swaps false first first
  begun_now is_open turned = record { was = is_open; turned = turned; fresh = λ e. refl; called = λ e. absurd (let c : false ≡ true = e in cc) }

  pub begun_more : (begun : Bool) (old new : JournalValue B) → ChangeBegan log meter swaps begun first old → JournalStaysOpen old new → WasCalled log meter old.banks new.banks → ChangeBegan log meter swaps true first new
  begun_more begun old new is on called = record {
    was = is.was;
    turned = turned_on swaps first old new is.turned on.side on.generation;
    fresh = λ e. absurd (let c : true ≡ false = e in cc);
    called = λ e. by begun is.fresh is.called;
  } where
    by : (did : Bool) → (did ≡ false → old ≡ first) → (did ≡ true → WasCalled log meter first.banks old.banks) → WasCalled log meter first.banks new.banks
    by true fresh called' = called_trans log meter first.banks old.banks new.banks (called' refl) called
    by false fresh called' = subst (λ (j : JournalValue B). WasCalled log meter j.banks new.banks) (fresh refl) called

  module _ (done : Bool) (old mid new : JournalValue B) (begun : ChangeBegan log meter swaps done first old) (is_open : old.closed ≡ None) (told : Why)
      (fresh : done ≡ false → new ≡ mid) (shut : (reason : Why) → mid.closed ≡ Some reason → new ≡ mid)
      (closes : done ≡ true → mid.closed ≡ None → new ≡ record mid { closed = Some told }) where
    -- an append closed the journal
    closed_by : (reason : Why) → (reason ≡ told) → ClosesFor log meter false reason old mid → ClosesFor log meter swaps reason first new
    closed_by reason is c = subst (ClosesFor log meter swaps reason first) (sym (shut reason c.now)) (record {
      was = begun.was;
      now = c.now;
      called = λ e. by done begun.fresh begun.called (c.called e);
      turned = turned_on swaps first old mid begun.turned c.turned.0 c.turned.1;
    }) where
      by : (did : Bool) → (did ≡ false → old ≡ first) → (did ≡ true → WasCalled log meter first.banks old.banks) → WasCalled log meter old.banks mid.banks → WasCalled log meter first.banks mid.banks
      by true fresh' called' called = called_trans log meter first.banks old.banks mid.banks (called' refl) called
      by false fresh' called' called = subst (λ (j : JournalValue B). WasCalled log meter j.banks mid.banks) (fresh' refl) called

    -- an append left it as it was
    left_by : why.NoMemory ≡ told → mid ≡ old → LeavesRefused log meter swaps first new why.NoMemory
    left_by is same = by done fresh closes begun.fresh begun.called where
      by : (did : Bool) → (did ≡ false → new ≡ mid) → (did ≡ true → mid.closed ≡ None → new ≡ record mid { closed = Some told }) → (did ≡ false → old ≡ first) → (did ≡ true → WasCalled log meter first.banks old.banks)
          → LeavesRefused log meter swaps first new why.NoMemory
      by false fresh' closes' fresh'' called' = inl (fresh' refl ∙ same ∙ fresh'' refl)
      by true fresh' closes' fresh'' called' =
          let is_new : new ≡ record old { closed = Some told } =
          closes' refl (ap (λ (j : JournalValue B). j.closed) same ∙ is_open) ∙ ap (λ (j : JournalValue B). record j { closed = Some told }) same in
          inr (subst (ClosesFor log meter swaps why.NoMemory first) (sym is_new) (record {
            was = begun.was;
            now = ap Some (sym is);
            called = λ e. called' refl;
            turned = turned_on swaps first old (record old { closed = Some told }) begun.turned refl refl;
          }))

    -- what a refused append leaves of the change
    pub refused_leaves : LeavesRefused log meter false old mid told → LeavesRefused log meter swaps first new told
    refused_leaves left = by told refl left where
      by : (reason : Why) → reason ≡ told → LeavesRefused log meter false old mid reason → LeavesRefused log meter swaps first new reason
      by why.Device is closes' = closed_by why.Device is closes'
      by why.NoMemory is (inl same) = left_by is same
      by why.NoMemory is (inr closes') = inr (closed_by why.NoMemory is closes')

pub ok_err : {T E : Type 0} {x : T} {e : E} → ¬ (◌≡◌ {A = Result T E} (Ok x) (Err e))
ok_err e = cc
