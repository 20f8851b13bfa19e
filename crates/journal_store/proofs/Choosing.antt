-- Which of two sides counts.
use Rattle.std.proofs.Common.{◌≡◌, ℕ, ◌<◌, Option, Some, None, Ok, Err, refl, sym, ap, ◌∙◌, subst, inl, inr, arith}
use Rattle.std.proofs.lemmas.Bool.Decides.{eqb_tells, leb_tells}
use Rattle.mld_io.specs.Disk.{Sides, bytes_of, other_side}
use Rattle.mld_io.specs.declared.banks.Side.{Side}
use Rattle.mld_io.specs.declared.banks.Side.TheVariants.{A, B}
use Rattle.journal_sides.specs.declared.side_reading.Found.{Found}
use Rattle.journal_sides.specs.Format.{generation_place}
use Rattle.journal_sides.specs.FoundVolumes.{kept_found, IsFoundOn}
use Rattle.journal_sides.specs.Pairs.{Kept, Keeps, Damages, kept_on, pair_of, read_banks}
use Rattle.journal_sides.specs.SideReadings.{SideReading, IsClosed, IsOpen, IsDamaged, Volume, read_side}
use Rattle.journal_store.specs.declared.faults.MountFault.{MountFault}
use Rattle.journal_store.specs.declared.faults.MountFault.TheVariants.{Damaged, Device, NoMemory}
use Rattle.journal_store.specs.Found.{TellsSide, Counts, TellsBoth}
use Rattle.journal_store.specs.Standing.{IsBehind}

-- what both sides say together, from what each says
both_say : (sides : Sides) (a b : SideReading) → read_side sides.a ≡ a → read_side sides.b ≡ b → read_banks sides ≡ pair_of a b
unfolding read_banks
both_say sides a b x y = λ i. pair_of (x i) (y i)

-- what a volume keeps on the side where it was found
kept_there : (found : Found) (side : Side) (volume : Volume) → found.side ≡ side → kept_on found.side volume ≡ kept_found found → kept_on side volume ≡ kept_found found
kept_there found side volume e k = ap (λ (s : Side). kept_on s volume) (sym e) ∙ k

-- what was found on a side counts where the other side is behind it
counts : (found : Found) (side : Side) (sides : Sides) (other : SideReading) → found.side ≡ side → IsFoundOn found (bytes_of side sides) → read_side (bytes_of (other_side side) sides) ≡ other
    → IsBehind found.generation other → read_banks sides ≡ Keeps (kept_found found) → Counts found sides
counts found side sides other e on o behind reads = record {
  on = subst (λ (s : Side). IsFoundOn found (bytes_of s sides)) (sym e) on;
  behind = subst (λ (s : Side). IsBehind found.generation (read_side (bytes_of (other_side s) sides))) (sym e) (subst (IsBehind found.generation) (sym o) behind);
  reads = reads;
}

-- a fault of side A is told of both
pub first_damaged : (sides : Sides) (fault : MountFault) → TellsSide A sides.a (Err fault) → TellsBoth sides (Err fault)
first_damaged sides (Damaged side place) x =
    both_say sides (IsDamaged place) (read_side sides.b) x.1 refl ∙ ap (λ (s : Side). Damages s place) (sym x.0)
first_damaged sides Device x = tt
first_damaged sides NoMemory x = tt

-- a fault of side B is told where side A has none
pub second_damaged : (sides : Sides) (a : Option Found) (fault : MountFault) → TellsSide A sides.a (Ok a) → TellsSide B sides.b (Err fault) → TellsBoth sides (Err fault)
second_damaged sides None (Damaged side place) x y = both_say sides IsClosed (IsDamaged place) x y.1 ∙ ap (λ (s : Side). Damages s place) (sym y.0)
second_damaged sides (Some found) (Damaged side place) x y = both_say sides (IsOpen x.0.volume) (IsDamaged place) x.0.reads y.1 ∙ ap (λ (s : Side). Damages s place) (sym y.0)
second_damaged sides a Device x y = tt
second_damaged sides a NoMemory x y = tt

-- where side A is closed, side B counts
pub second_counts : (sides : Sides) (b : Option Found) → TellsSide A sides.a (Ok None) → TellsSide B sides.b (Ok b) → TellsBoth sides (Ok b)
second_counts sides None x y = both_say sides IsClosed IsClosed x y
second_counts sides (Some found) x y =
    counts found B sides IsClosed y.1 y.0 x tt (both_say sides IsClosed (IsOpen y.0.volume) x y.0.reads ∙ ap Keeps (kept_there found B y.0.volume y.1 y.0.kept))

-- where side B is closed, side A counts
pub first_counts : (sides : Sides) (a : Found) → TellsSide A sides.a (Ok (Some a)) → TellsSide B sides.b (Ok None) → Counts a sides
first_counts sides a x y =
    counts a A sides IsClosed x.1 x.0 y tt (both_say sides (IsOpen x.0.volume) IsClosed x.0.reads y ∙ ap Keeps (kept_there a A x.0.volume x.1 x.0.kept))

module _ (sides : Sides) (a b : Found) (x : TellsSide A sides.a (Ok (Some a))) (y : TellsSide B sides.b (Ok (Some b))) where
  -- the generations of what was found
  of_a : x.0.volume.opening.generation ≡ a.generation
  of_a = ap (λ (k : Kept). k.generation) x.0.kept

  of_b : y.0.volume.opening.generation ≡ b.generation
  of_b = ap (λ (k : Kept). k.generation) y.0.kept

  -- both are open
  both_open : read_banks sides ≡ pair_of (IsOpen x.0.volume) (IsOpen y.0.volume)
  both_open = both_say sides (IsOpen x.0.volume) (IsOpen y.0.volume) x.0.reads y.0.reads

  -- equal generations are damaged
  pub equal_damaged : a.generation ≡ b.generation → read_banks sides ≡ Damages B generation_place
  equal_damaged e = elim (eqb_tells x.0.volume.opening.generation y.0.volume.opening.generation) [
    | inl t ↦ both_open ∙ rw t.0 refl
    | inr t ↦ absurd (t.1 (of_a ∙ e ∙ sym of_b))
  ]

  -- side B counts where it is the later one
  pub later_counts : a.generation < b.generation → Counts b sides
  later_counts l =
      counts b B sides (IsOpen x.0.volume) y.1 y.0 x.0.reads (subst (λ (n : ℕ). n < b.generation) (sym of_a) l)
      (both_open ∙ by ∙ ap Keeps (kept_there b B y.0.volume y.1 y.0.kept))
    where
      by : pair_of (IsOpen x.0.volume) (IsOpen y.0.volume) ≡ Keeps (kept_on B y.0.volume)
      by = elim (eqb_tells x.0.volume.opening.generation y.0.volume.opening.generation) [
        | inl t ↦ absurd (let e = t.1 in omega (arith, of_a, of_b))
        | inr t ↦ elim (leb_tells x.0.volume.opening.generation y.0.volume.opening.generation) [
          | inl k ↦ rw (t.0, k.0) refl
          | inr k ↦ absurd (let m = k.1 in omega (arith, of_a, of_b))
        ]
      ]

  -- and side A otherwise
  pub earlier_counts : b.generation < a.generation → Counts a sides
  earlier_counts l =
      counts a A sides (IsOpen y.0.volume) x.1 x.0 y.0.reads (subst (λ (n : ℕ). n < a.generation) (sym of_b) l)
      (both_open ∙ by ∙ ap Keeps (kept_there a A x.0.volume x.1 x.0.kept))
    where
      by : pair_of (IsOpen x.0.volume) (IsOpen y.0.volume) ≡ Keeps (kept_on A x.0.volume)
      by = elim (eqb_tells x.0.volume.opening.generation y.0.volume.opening.generation) [
        | inl t ↦ absurd (let e = t.1 in omega (arith, of_a, of_b))
        | inr t ↦ elim (leb_tells x.0.volume.opening.generation y.0.volume.opening.generation) [
          | inl k ↦ absurd (let m = k.1 in omega (arith, of_a, of_b))
          | inr k ↦ rw (t.0, k.0) refl
        ]
      ]
