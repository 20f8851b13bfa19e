-- What a triple keeps, from what its terms keep.
use Rattle.rdf_terms.proofs.Texts.{written_so}
use Rattle.rdf_terms.proofs.terms.Triple.kept.Goals as goal

pub returns : goal.returns
returns c = written_so c.args.self.now c.kept.ensures.absolute c.kept-2.ensures.absolute c.kept-3.ensures.sound c.kept.ensures.utf8 c.kept-2.ensures.utf8 c.kept-3.ensures.utf8
