-- Events without durable steps, and logs that stay told.
use Rattle.std.proofs.Common.{List, [], ◌++◌, Option, Some, refl, sym, ◌∙◌, ap, append_assoc}
use Rattle.mld_io.specs.Disk.{Log, Call, grown_by}
use Rattle.node_model.specs.journal_store.Closing.{StaysTold}
use Rattle.node_model.specs.shell_session.Shells.{FoundOnBanks}
use Rattle.node_model.specs.shell_session.SessionLines.{LeavesFront}

-- nothing was done yet
pub no_steps : (found : FoundOnBanks) (old : Option Log) → LeavesFront found [] old old
no_steps found old log is images = record {
  added = [];
  now_is = is;
  each = λ image left. record { front = []; rest = []; whole = refl; finds = images log is image left };
}

-- ---- logs that stay told

pub told_same : (old : Option Log) → StaysTold old old
told_same old = record { told = λ log is. ([], is); untold = λ is. is }

pub told_then : (old mid now : Option Log) → StaysTold old mid → StaysTold mid now → StaysTold old now
told_then old mid now first second = record {
  told = λ log is.
      let one = first.told log is in
      let two = second.told (grown_by one.0 log) one.1 in
      (two.0 ++ one.0, two.1 ∙ ap (λ (calls : List Call). Some (record { first = log.first; calls = calls })) (sym (append_assoc two.0 one.0 log.calls)));
  untold = λ is. second.untold (first.untold is);
}
