use Rattle.std.specs.FinMap.{nat_cmp-IsAntisymmetric}
use Rattle.std.proofs.Common.{Err, get_or}
use Rattle.hpr_graph.proofs.Lists.{contains_at}
use Rattle.hpr_merge.proofs.LeastLinks.{found_beside}
use Rattle.hpr_merge.proofs.Searches.{number_found}
use Rattle.hpr_merge.proofs.known.link_at.Goals as goal

pub returns-in-Ok-clause-beside : goal.returns-in-Ok-clause-beside
returns-in-Ok-clause-beside c =
    found_beside c.args.numbers.now c.args.links.now c.in-Ok.at c.args.number c.requires.numbers c.requires.count c.in-Ok.ensures.bound
    (nat_cmp-IsAntisymmetric (get_or c.args.numbers.now c.in-Ok.at c.args.number) c.args.number (c.in-Ok.ensures.ok c.args.number))

pub returns-in-Err-clause-beside : goal.returns-in-Err-clause-beside
returns-in-Err-clause-beside c = λ i at.
    absurd (let t = (number_found c.args.numbers.now c.args.number (Err c.in-Err.field-0) c.requires.numbers c.in-Err.ensures.bound c.in-Err.ensures.position).1 (contains_at c.args.numbers.now i c.args.number at) in cc)
