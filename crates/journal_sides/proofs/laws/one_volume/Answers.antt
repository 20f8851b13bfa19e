use Rattle.journal_sides.proofs.SideTrips.{side_back, side_one}
use Rattle.journal_sides.proofs.laws.one_volume.Goals as goal

pub returns-clause-back : goal.returns-clause-back
returns-clause-back c = side_back

pub returns-clause-one : goal.returns-clause-one
returns-clause-one c = side_one
