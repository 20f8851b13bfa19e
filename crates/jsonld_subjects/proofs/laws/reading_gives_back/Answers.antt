use Rattle.jsonld_subjects.proofs.SubjectsGivenBack as back
use Rattle.jsonld_subjects.proofs.laws.reading_gives_back.Goals as goal

pub returns : goal.returns
returns c = back.given_back
