-- What a crash leaves of durable steps, and then of more.
use Rattle.std.proofs.Common.{◌≡◌, List, ◌++◌, Option, sym, ◌∙◌, ap, append_assoc}
use Rattle.mld_io.specs.Disk.{Log, Call, Sides, grown_by, LeavesMeanwhile}
use Rattle.mld_io.proofs.DiskLaws.{AtEachMoment-weaken, LeavesMeanwhile-then}
use Rattle.crash_laws.specs.clone_parts.KeptSteps.{KeptStep}
use Rattle.shell_session.specs.Shells.{FoundOnBanks, found_after}
use Rattle.shell_session.specs.SessionLines.{ImagesFind, FindsFront, LeavesFront}
use Rattle.shell_session.proofs.RunLaws.{found_both}

-- a front of some steps is one of more
front_longer : (found : FoundOnBanks) (steps more : List KeptStep) (image : Sides) → FindsFront found steps image → FindsFront found (steps ++ more) image
front_longer found steps more image finds = record {
  front = finds.front;
  rest = finds.rest ++ more;
  whole = sym (append_assoc finds.front finds.rest more) ∙ ap (λ (s : List KeptStep). s ++ more) finds.whole;
  finds = finds.finds;
}

-- and a front of more steps, behind all of some, is one of both
front_behind : (found middle : FoundOnBanks) (steps more : List KeptStep) (image : Sides) → middle ≡ found_after steps found → FindsFront middle more image
    → FindsFront found (steps ++ more) image
front_behind found middle steps more image same finds = record {
  front = steps ++ finds.front;
  rest = finds.rest;
  whole = append_assoc steps finds.front finds.rest ∙ ap (λ (s : List KeptStep). steps ++ s) finds.whole;
  finds = finds.finds ∙ ap (found_after finds.front) same ∙ sym (found_both steps finds.front found);
}

-- the moments of some steps, and then of more
pub moments_then : (found middle : FoundOnBanks) (steps more : List KeptStep) (old now after : Option Log) → middle ≡ found_after steps found
    → LeavesFront found steps old now → (ImagesFind found old → ImagesFind middle now) → LeavesFront middle more now after → LeavesFront found (steps ++ more) old after
moments_then found middle steps more old now after same first settled second log told images =
    let one : LeavesMeanwhile log now (λ calls image. FindsFront found steps image) = first log told images in
    let two : LeavesMeanwhile (grown_by one.added log) after (λ calls image. FindsFront middle more image) =
    second (grown_by one.added log) one.now_is (settled images) in
    let P : List Call → Sides → Type 0 = λ calls image. FindsFront found (steps ++ more) image in
    LeavesMeanwhile-then log one.added P after
    (AtEachMoment-weaken log one.added (λ calls image. FindsFront found steps image) P (λ calls image finds. front_longer found steps more image finds) one.each)
    (record {
      added = two.added;
      now_is = two.now_is;
      each = AtEachMoment-weaken (grown_by one.added log) two.added (λ calls image. FindsFront middle more image) (λ calls image. P (calls ++ one.added) image)
          (λ calls image finds. front_behind found middle steps more image same finds) two.each;
    })
