use Rattle.std.proofs.Common.{inl, inr, subst}
use Rattle.std.proofs.lemmas.Bool.{cases_Bool}
use Rattle.hpr_graph.specs.Clashes.{Clashes}
use Rattle.hpr_graph.specs.Numbered.{graph_in}
use Rattle.hpr_order.proofs.Linking.{false_is, true_is}
use Rattle.hpr_region.specs.Plans.{clash_in, vertex_at, vertices_at}
use Rattle.hpr_region.proofs.Exact.{clash_law, not_true, same_item}
use Rattle.hpr_region.proofs.search.Search.admissible.Goals as goal

pub returns-clause-clash : goal.returns-clause-clash
returns-clause-clash c = λ g rank k is there clash.
    let s = c.args.self.now in
    let item = c.item_of.result in
    not_true c.admits.result (λ t. is.no_clash s.placed item (c.admits.ensures.0 (true_is c.admits.result t))
    (subst (λ z. Clashes (graph_in g) (vertices_at g s.plan s.placed) (vertex_at g s.plan z)) (same_item s.plan k item c.args.child there c.item_of.ensures.item) clash))

pub returns-clause-law : goal.returns-clause-law
returns-clause-law c = λ g rank issued p is f arranged begins.
    let s = c.args.self.now in
    let item = c.item_of.result in
    elim (cases_Bool (clash_in s.plan s.placed item)) [
      | inl clash ↦ clash_law g rank s item c.args.child is c.item_of.ensures.front c.item_of.ensures.item clash issued p arranged begins
      | inr none ↦ absurd (false_is c.admits.result f (c.admits.ensures.1 none))
    ]
