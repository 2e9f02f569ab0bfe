use Rattle.hpr_terms.specs.Keywords.{keywords, keyword_of}
use Rattle.hpr_terms.proofs.OfLength.{found_by_length}
use Rattle.hpr_terms.proofs.keyword.Keyword.of.Goals as goal

pub returns : goal.returns
unfolding keyword_of
returns c = rw (c.find_in.ensures, c.of_length.ensures) (found_by_length c.args.text.now keywords)
