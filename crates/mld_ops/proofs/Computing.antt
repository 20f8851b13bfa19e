-- The steps of computing a meaning.
use Rattle.std.proofs.Common.{◌≡◌, ◌∙◌, ℕ, ◌+◌, ◌<◌, ◌≤◌, List, length, get_or, take, ◌⊎◌, ◌↔◌, Result, Ok, Err, OnOk, ap, sym, subst, inl, inr}
use Rattle.std.specs.declared.alloc.AllocError.{AllocError}
use Rattle.std.proofs.lemmas.List.{take_all, nil_from_length}
use Rattle.rdf_terms.specs.declared.terms.Triple.{Triple}
use Rattle.tree_clock.specs.declared.dots.Dot.{Dot}
use Rattle.tree_clock.specs.declared.dots.Range.{Range}
use Rattle.tree_clock.specs.Lists.{Has, IsAscending}
use Rattle.tree_clock.specs.Dot.{Knows}
use Rattle.mld_ops.specs.declared.tagged.Tagged.{Tagged}
use Rattle.mld_ops.specs.Tagged.{tagged_cmp}
use Rattle.mld_ops.proofs.AscendingLaws.{has_take_more, has_at}
use Rattle.mld_ops.specs.Deleted.{IsDeleted, IsOf}
use Rattle.mld_ops.specs.History.{Operation, IsInserted}
use Rattle.mld_ops.specs.Meaning.{IsMeaning}

-- an operation at a place that is known and deletes the pair
pub deleted_at : (history : List Operation) (known : List Range) (pair : Tagged) (i : ℕ) (o : Operation) → i < length history → o ≡ get_or history i o
    → Knows known o.dot → Has o.deletes pair → IsDeleted history known pair
deleted_at history known pair i o l e k d = record { operation = o; stands = subst (λ w. Has history w) (sym e) (has_at history i o l); knows = k; deletes = d }

-- one more operation doesn't delete the pair
pub not_deleted_more : (history : List Operation) (known : List Range) (pair : Tagged) (i : ℕ) (o : Operation) → i < length history → o ≡ get_or history i o
    → ¬ IsDeleted (take i history) known pair → (Knows known o.dot → ¬ Has o.deletes pair) → ¬ IsDeleted (take (i + 1) history) known pair
not_deleted_more history known pair i o l e before n d =
    elim ((has_take_more history i o d.operation l).0 d.stands) [
      | inl s ↦ before (record { operation = d.operation; stands = s; knows = d.knows; deletes = d.deletes })
      | inr f ↦
          let g = e ∙ f in
          n (subst (λ (w : Operation). Knows known w.dot) (sym g) d.knows) (subst (λ (w : Operation). Has w.deletes pair) (sym g) d.deletes)
    ]

pub none_deleted : (history : List Operation) (known : List Range) (pair : Tagged) (i : ℕ) → length history ≤ i → ¬ IsDeleted (take i history) known pair → ¬ IsDeleted history known pair
none_deleted history known pair i l n = subst (λ h. ¬ IsDeleted h known pair) (take_all i history l) n

-- one more triple of the operation
pub triple_more : (history : List Operation) (known : List Range) (olds xs ys : List Tagged) (dot : Dot) (triples : List Triple) (i : ℕ) (t : Triple) (pair : Tagged)
    → i < length triples → t ≡ get_or triples i t → pair ≡ record { triple = t; dot = dot }
    → ((x : Tagged) → Has xs x ↔ (Has olds x ⊎ IsOf history known dot (take i triples) x))
    → ((x : Tagged) → Has ys x ↔ (Has xs x ⊎ ((x ≡ pair) × ¬ IsDeleted history known pair)))
    → (x : Tagged) → Has ys x ↔ (Has olds x ⊎ IsOf history known dot (take (i + 1) triples) x)
triple_more history known olds xs ys dot triples i t pair l e p before after x = (
  λ h. elim ((after x).0 h) [
    | inl k ↦ elim ((before x).0 k) [
      | inl m ↦ inl m
      | inr m ↦ inr (m.0, (has_take_more triples i t x.triple l).1 (inl m.1), m.2)
    ]
    | inr k ↦
        let f = k.0 ∙ p in
        inr (
          ap (λ (w : Tagged). w.dot) f,
          (has_take_more triples i t x.triple l).1 (inr (sym e ∙ sym (ap (λ (w : Tagged). w.triple) f))),
          subst (λ w. ¬ IsDeleted history known w) (sym k.0) k.1,
        )
  ],
  λ h. (after x).1 (elim h [
    | inl m ↦ inl ((before x).1 (inl m))
    | inr m ↦ elim ((has_take_more triples i t x.triple l).0 m.1) [
      | inl n ↦ inl ((before x).1 (inr (m.0, n, m.2)))
      | inr f ↦
          let g = it x (sym f ∙ sym e) m.0 ∙ sym p in
          inr (g, subst (λ w. ¬ IsDeleted history known w) g m.2)
    ]
  ]),
)
  where
    it : (x : Tagged) → x.triple ≡ t → x.dot ≡ dot → x ≡ record { triple = t; dot = dot }
    it x a b = λ j. record { triple = a j; dot = b j }

-- the pairs so far: inserted by an operation of a front of the history, known, and not deleted
abbrev pub IsSoFar : List Operation → List Range → ℕ → Tagged → Type 0
IsSoFar history known i pair = Knows known pair.dot × IsInserted (take i history) pair × ¬ IsDeleted history known pair

-- one more operation, which is known
pub operation_more : (history : List Operation) (known : List Range) (xs ys : List Tagged) (i : ℕ) (o : Operation)
    → i < length history → o ≡ get_or history i o → Knows known o.dot
    → ((x : Tagged) → Has xs x ↔ IsSoFar history known i x)
    → ((x : Tagged) → Has ys x ↔ (Has xs x ⊎ IsOf history known o.dot o.inserts x))
    → (x : Tagged) → Has ys x ↔ IsSoFar history known (i + 1) x
operation_more history known xs ys i o l e k before after x = (
  λ h. elim ((after x).0 h) [
    | inl m ↦ let b = (before x).0 m in (
      b.0,
      record { operation = b.1.operation; stands = (has_take_more history i o b.1.operation l).1 (inl b.1.stands); is = b.1.is; inserts = b.1.inserts },
      b.2,
    )
    | inr m ↦ (
      subst (λ d. Knows known d) (sym m.0) k,
      record { operation = o; stands = (has_take_more history i o o l).1 (inr (sym e)); is = sym m.0; inserts = m.1 },
      m.2,
    )
  ],
  λ h. (after x).1 (elim ((has_take_more history i o h.1.operation l).0 h.1.stands) [
    | inl s ↦ inl ((before x).1 (h.0, record { operation = h.1.operation; stands = s; is = h.1.is; inserts = h.1.inserts }, h.2))
    | inr f ↦
        let g = e ∙ f in
        inr (sym h.1.is ∙ ap (λ (w : Operation). w.dot) (sym g), subst (λ (w : Operation). Has w.inserts x.triple) (sym g) h.1.inserts, h.2)
  ]),
)

-- one more operation, which isn't known
pub operation_passed : (history : List Operation) (known : List Range) (xs : List Tagged) (i : ℕ) (o : Operation)
    → i < length history → o ≡ get_or history i o → ¬ Knows known o.dot
    → ((x : Tagged) → Has xs x ↔ IsSoFar history known i x)
    → (x : Tagged) → Has xs x ↔ IsSoFar history known (i + 1) x
operation_passed history known xs i o l e n before x = (
  λ h. let b = (before x).0 h in (
    b.0,
    record { operation = b.1.operation; stands = (has_take_more history i o b.1.operation l).1 (inl b.1.stands); is = b.1.is; inserts = b.1.inserts },
    b.2,
  ),
  λ h. (before x).1 (
    h.0,
    record {
      operation = h.1.operation;
      stands = elim ((has_take_more history i o h.1.operation l).0 h.1.stands) [
        | inl s ↦ s
        | inr f ↦ absurd (n (subst (λ d. Knows known d) (sym (ap (λ (w : Operation). w.dot) (e ∙ f) ∙ h.1.is)) h.0))
      ];
      is = h.1.is;
      inserts = h.1.inserts;
    },
    h.2,
  ),
)

-- no operation yet
pub none_so_far : (history : List Operation) (known : List Range) (xs : List Tagged) → length xs ≡ 0 → (x : Tagged) → Has xs x ↔ IsSoFar history known 0 x
none_so_far history known xs e x = rw (nil_from_length xs e) (λ h. absurd h, λ h. absurd h.1.stands)

-- once each operation has been looked at, the pairs are the meaning
pub meaning_from_all : (history : List Operation) (known : List Range) (xs : List Tagged) (i : ℕ) → length history ≤ i → IsAscending tagged_cmp xs
    → ((x : Tagged) → Has xs x ↔ IsSoFar history known i x) → IsMeaning history known xs
meaning_from_all history known xs i l a iff = record {
  ascending = a;
  sound = λ x h.
      let s = (iff x).0 h in
      record {
        covered = s.0;
        inserted = subst (λ f. IsInserted f x) (take_all i history l) s.1;
        kept = λ o t k d. s.2 (record { operation = o; stands = t; knows = k; deletes = d });
      };
  complete = λ x k. (iff x).1 (
    k.covered,
    subst (λ f. IsInserted f x) (sym (take_all i history l)) k.inserted,
    λ d. k.kept d.operation d.stands d.knows d.deletes,
  );
}

-- what is put in where no known operation deletes the pair
pub put_kept : (history : List Operation) (known : List Range) (olds news : List Tagged) (pair : Tagged) (r : Result (Unit {0}) AllocError) → ¬ IsDeleted history known pair
    → OnOk r ((x : Tagged) → Has news x ↔ (Has olds x ⊎ (x ≡ pair)))
    → OnOk r ((x : Tagged) → Has news x ↔ (Has olds x ⊎ ((x ≡ pair) × ¬ IsDeleted history known pair)))
put_kept history known olds news pair (Err e) n h = tt
put_kept history known olds news pair (Ok u) n h = λ x. (
  λ k. elim ((h x).0 k) [ inl m ↦ inl m | inr e ↦ inr (e, n) ],
  λ k. (h x).1 (elim k [ inl m ↦ inl m | inr e ↦ inr e.0 ]),
)

-- pairs of one dot with the same triple
pub tagged_alike : (a b : Triple) (dot : Dot) → a ≡ b → ◌≡◌ {A = Tagged} (record { triple = a; dot = dot }) (record { triple = b; dot = dot })
tagged_alike a b dot e = λ i. record { triple = e i; dot = dot }
