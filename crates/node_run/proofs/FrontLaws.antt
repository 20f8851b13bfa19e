-- What a crash leaves of durable steps, and then of more.
use Rattle.std.proofs.Common.{◌≡◌, List, [], refl, sym, ◌∙◌, subst, Option, Some, append-nil}
use Rattle.mld_io.specs.Disk.{Log, grown_by, MayLeave, LeavesOnly, LeavesMeanwhile}
use Rattle.mld_io.proofs.DiskLaws.{AtEachMoment-last}
use Rattle.node_core.specs.clone_parts.KeptSteps.{KeptStep}
use Rattle.node_core.specs.shell_session.Shells.{FoundOnBanks, found_after}
use Rattle.node_core.proofs.of_shell_session.FrontLaws.{moments_then}
use Rattle.node_core.specs.shell_session.SessionLines.{ImagesFind, FindsFront, LeavesFront}
use Rattle.node_core.specs.shell_session.RunEnds.{LeavesDone}

-- Steps were done, which led to this: so is a front of more of them.
module _ (found middle : FoundOnBanks) (steps : List KeptStep) (led : middle ≡ found_after steps found) where
  -- no step is under way
  pub leaves_done : (old now : Option Log) → LeavesFront found steps old now → ImagesFind middle now → LeavesDone found steps [] old now
  leaves_done old now moments settled = record {
    moments = subst (λ (s : List KeptStep). LeavesFront found s old now) (sym (append-nil steps)) moments;
    settled = λ images log told image left. record { front = []; rest = []; whole = refl; finds = settled log told image left ∙ led };
  }

  -- some are
  pub leaves_due : (due : List KeptStep) (old now after : Option Log) (first : Log) → old ≡ Some first → LeavesFront found steps old now
      → ImagesFind middle now → LeavesFront middle due now after → LeavesDone found steps due old after
  leaves_due due old now after first told moments settled later = record {
    moments = moments_then found middle steps due old now after led moments (λ images. settled) later;
    settled = λ images log is image left.
        let one : LeavesMeanwhile first now (λ calls sides. FindsFront found steps sides) = moments first told images in
        let two : LeavesMeanwhile (grown_by one.added first) after (λ calls sides. FindsFront middle due sides) =
        later (grown_by one.added first) one.now_is settled in
        let last : LeavesOnly (grown_by two.added (grown_by one.added first)) (λ sides. FindsFront middle due sides) =
        AtEachMoment-last (grown_by one.added first) two.added (λ calls sides. FindsFront middle due sides) two.each in
        let same : log ≡ grown_by two.added (grown_by one.added first) = cc (is, two.now_is) in
        subst (λ (f : FoundOnBanks). FindsFront f due image) led (last image (subst (λ (l : Log). MayLeave l image) same left));
  }

-- before the first step
pub leaves_first : (found : FoundOnBanks) (due : List KeptStep) (old now : Option Log) (first : Log) → old ≡ Some first → LeavesFront found due old now → LeavesDone found [] due old now
leaves_first found due old now first told moments = record {
  moments = moments;
  settled = λ images log is image left.
      let one : LeavesMeanwhile first now (λ calls sides. FindsFront found due sides) = moments first told images in
      let last : LeavesOnly (grown_by one.added first) (λ sides. FindsFront found due sides) =
      AtEachMoment-last first one.added (λ calls sides. FindsFront found due sides) one.each in
      let same : log ≡ grown_by one.added first = cc (is, one.now_is) in
      last image (subst (λ (l : Log). MayLeave l image) same left);
}
