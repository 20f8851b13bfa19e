-- The entries that a want lacks, and the messages that carry them.
use Rattle.std.proofs.Common.{◌≡◌, ◌∙◌, ℕ, ◌+◌, ◌<◌, List, [], ◌∷◌, ◌++◌, inl, inr, refl, sym, ap, subst, length, take, get_or}
use Rattle.std.proofs.lemmas.List.{take_more, map-append}
use Rattle.mld_ops.specs.declared.messages.Message.{Message}
use Rattle.mld_ops.specs.declared.messages.Message.TheVariants as message
use Rattle.mld_ops.specs.Entry.{EntryValue}
use Rattle.mld_ops.specs.Messages.{MessageValue, CarriesEntry, message_value}
use Rattle.mld_ops.specs.Picking.{DropsThose}
use Rattle.mld_ops.specs.Ready.{IsKnownEntry}
use Rattle.clone_parts.specs.Carrying.{CarryUnknown}

module _ {X : Type 0} (P : X → Type 0) (x : X) where
  -- one member more that stays
  drops_kept : (xs rest : List X) → ¬ P x → DropsThose P xs rest → DropsThose P (xs ++ x ∷ []) (rest ++ x ∷ [])
  drops_kept [] rest stays d = inr (stays, [], refl, ap (λ (ys : List X). ys ++ x ∷ []) d)
  drops_kept (y ∷ ys) rest stays (inl d) = inl (d.0, drops_kept ys rest stays d.1)
  drops_kept (y ∷ ys) rest stays (inr d) = inr (d.0, d.1 ++ x ∷ [], drops_kept ys d.1 stays d.2, ap (λ (zs : List X). zs ++ x ∷ []) d.3)

  -- and one that is left out
  drops_more : (xs rest : List X) → P x → DropsThose P xs rest → DropsThose P (xs ++ x ∷ []) rest
  drops_more [] rest is d = inl (is, d)
  drops_more (y ∷ ys) rest is (inl d) = inl (d.0, drops_more ys rest is d.1)
  drops_more (y ∷ ys) rest is (inr d) = inr (d.0, d.1, drops_more ys d.1 is d.2, d.3)

module _ (ticks : List (List ℕ × ℕ)) (entries : List EntryValue) (messages : List Message) (i : ℕ) (entry : EntryValue) (within : i < length entries)
    (is : entry ≡ get_or entries i entry) (so_far : CarryUnknown ticks (take i entries) messages) where
  taken : take i entries ++ entry ∷ [] ≡ take (i + 1) entries
  taken = ap (λ (e : EntryValue). take i entries ++ e ∷ []) is ∙ sym (take_more entries i entry within)

  -- one entry more that isn't known
  pub carry_more : ¬ IsKnownEntry ticks entry → CarryUnknown ticks (take (i + 1) entries) (messages ++ message.Range entry ∷ [])
  carry_more unknown = (
    so_far.0 ++ entry ∷ [],
    subst (λ (es : List EntryValue). DropsThose (IsKnownEntry ticks) es (so_far.0 ++ entry ∷ [])) taken
        (drops_kept (IsKnownEntry ticks) entry (take i entries) so_far.0 unknown so_far.1),
    map-append message_value messages (message.Range entry ∷ []) ∙ ap (λ (ms : List MessageValue). ms ++ CarriesEntry entry ∷ []) so_far.2
        ∙ sym (map-append CarriesEntry so_far.0 (entry ∷ [])),
  )

  -- one that is known
  pub carry_same : IsKnownEntry ticks entry → CarryUnknown ticks (take (i + 1) entries) messages
  carry_same known = (
    so_far.0,
    subst (λ (es : List EntryValue). DropsThose (IsKnownEntry ticks) es so_far.0) taken (drops_more (IsKnownEntry ticks) entry (take i entries) so_far.0 known so_far.1),
    so_far.2,
  )
