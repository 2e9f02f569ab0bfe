use Rattle.hpr_terms.proofs.InOrder.{among}
use Rattle.hpr_terms.proofs.names.is_among.Goals as goal

pub returns : goal.returns
returns c = among c.args.names.now c.args.name.now c.binary_search.result c.is_ok.result c.requires c.binary_search.ensures.bound c.binary_search.ensures.position c.is_ok.ensures.value
