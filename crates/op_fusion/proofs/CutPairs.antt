-- What a cut does to the pairs that it was made for.
use Rattle.std.proofs.Common.{inl, inr}
use Rattle.op_fusion.specs.FusionLaws.{CutDropsPresent, CutIsApplied, CutBehindIsApplied}

pub cut_drops_present : CutDropsPresent
cut_drops_present entry known state drops adds pair c h = ((c.dropped pair).0 h).present

pub cut_is_applied : CutIsApplied
cut_is_applied entry known old drops adds new c a = record {
  ascending = a.ascending;
  members = λ pair. (
    λ h. elim ((a.members pair).0 h) [
      | inl k ↦ inl (
        k.0,
        λ d. k.1 ((c.dropped pair).1 (record { present = k.0; goes = inl d })),
        λ s. k.1 ((c.dropped pair).1 (record { present = k.0; goes = inr s })),
      )
      | inr k ↦ inr ((c.added pair).0 k)
    ],
    λ h. (a.members pair).1 (elim h [
      | inl k ↦ inl (k.0, λ d. elim ((c.dropped pair).0 d).goes [ inl e ↦ k.1 e | inr s ↦ k.2 s ])
      | inr k ↦ inr ((c.added pair).1 k)
    ]),
  );
}

-- a change with the cut of an entry behind it, both as one, leaves the cut of what the change alone leaves
pub cut_behind_is_applied : CutBehindIsApplied
cut_behind_is_applied entry known state drops adds middle more_drops more_adds new c first both = record {
  ascending = both.ascending;
  members = λ pair. (
    λ h. elim ((both.members pair).0 h) [
      | inl k ↦ inl (
        (first.members pair).1 (inl (k.0, λ d. k.1 ((c.dropped pair).1 (inl d)))),
        λ d. k.1 ((c.dropped pair).1 (inr (record { present = k.0; goes = inl d }))),
        λ s. k.1 ((c.dropped pair).1 (inr (record { present = k.0; goes = inr s }))),
      )
      | inr k ↦ elim ((c.added pair).0 k) [
        | inl m ↦ inl ((first.members pair).1 (inr m.0), λ d. m.1 (inl d), λ s. m.1 (inr s))
        | inr m ↦ inr m
      ]
    ],
    λ h. (both.members pair).1 (elim h [
      | inl k ↦ elim ((first.members pair).0 k.0) [
        | inl m ↦ inl (m.0, λ d. elim ((c.dropped pair).0 d) [ inl n ↦ m.1 n | inr n ↦ elim n.goes [ inl e ↦ k.1 e | inr s ↦ k.2 s ] ])
        | inr m ↦ inr ((c.added pair).1 (inl (m, λ g. elim g [ inl e ↦ k.1 e | inr s ↦ k.2 s ])))
      ]
      | inr k ↦ inr ((c.added pair).1 (inr k))
    ]),
  );
}
