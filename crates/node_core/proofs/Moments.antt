-- What is found on what a crash leaves of a node's banks.
use Rattle.std.proofs.Common.{◌≡◌, ℕ, Option, Some, ◌∙◌, ap}
use Rattle.mld_io.specs.Disk.{Log, Sides}
use Rattle.node_model.specs.journal_sides.Pairs.{read_banks}
use Rattle.mld_model.specs.Local.{LocalClone}
use Rattle.node_model.specs.clone_core.Banked.{KeepsClone}
use Rattle.node_model.specs.shell_session.Shells.{found_in}
use Rattle.node_model.specs.shell_session.SessionLines.{ImagesFind}
use Rattle.node_model.specs.Keepers.{Lives, keeper_found}

-- where banks keep a clone whatever a crash leaves of them, it is found there
pub kept_images : (clone : LocalClone) (generation : ℕ) (now : Option Log) → ((log : Log) → now ≡ Some log → KeepsClone clone generation log)
    → ImagesFind (keeper_found (Lives generation clone)) now
kept_images clone generation now keeps log is image left =
    let kept = keeps log is in
    ap (λ (sides : Sides). found_in (read_banks sides)) (kept.1.settled image left) ∙ ap found_in kept.1.reads
