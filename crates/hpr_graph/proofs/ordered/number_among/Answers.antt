use Rattle.std.proofs.Common.{◌≡◌, Some, Contains, slice_get}
use Rattle.hpr_graph.proofs.Reordered.{vertex_found, number_found, number_there}
use Rattle.hpr_graph.proofs.ordered.number_among.Goals as goal

pub returns-clause-found : goal.returns-clause-found
returns-clause-found c =
    number_found c.binary_search.result c.ok.result (λ n. slice_get c.args.ascending.now n ≡ Some c.args.vertex.now) (Contains c.args.ascending.now c.args.vertex.now) c.ok.ensures.value
    (vertex_found c.args.ascending.now c.args.vertex.now c.requires c.binary_search.result c.binary_search.ensures.bound c.binary_search.ensures.position)

pub returns-clause-there : goal.returns-clause-there
returns-clause-there c =
    number_there c.binary_search.result c.ok.result (λ n. slice_get c.args.ascending.now n ≡ Some c.args.vertex.now) (Contains c.args.ascending.now c.args.vertex.now) c.ok.ensures.value
    (vertex_found c.args.ascending.now c.args.vertex.now c.requires c.binary_search.result c.binary_search.ensures.bound c.binary_search.ensures.position)
