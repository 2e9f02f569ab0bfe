use Rattle.std.proofs.Common.{sym, subst, List, ℕ}
use Rattle.hpr_order.specs.Arranging.{IsPreorderOf}
use Rattle.hpr_rebuild.proofs.Searched.{for_ok, arrangement_of, preorder_of, of_preorder}
use Rattle.hpr_rebuild.proofs.candidates.Candidates.program.Goals as goal

pub arrange-requires-clause-arrangement : goal.arrange-requires-clause-arrangement
arrange-requires-clause-arrangement c =
    let s = c.args.self.now in
    let g = s.graph.now in
    let sound = c.requires.sound in
    let (rank, is) = sound.plan_of in
    let listed = is.listed s.issued.now sound.proper sound.allowed in
    let (p, arrangement, parts) = arrangement_of g rank s.search.plan is s.issued.now listed s.search.placed c.requires.whole in
    (p, arrangement, subst (λ (order : List ℕ). IsPreorderOf g order p) (sym c.placed.ensures) (preorder_of g rank s.search.plan is s.search.placed p c.requires.whole parts))

pub returns-clause-parts : goal.returns-clause-parts
returns-clause-parts c =
    let s = c.args.self.now in
    let (rank, is) = c.requires.sound.plan_of in
    for_ok c.arrange.result c.arrange.ensures.preorder
    (λ m pre. of_preorder s.graph.now rank s.search.plan is s.search.placed m c.requires.whole
    (subst (λ (order : List ℕ). IsPreorderOf s.graph.now order m) c.placed.ensures pre))

pub returns-clause-only : goal.returns-clause-only
returns-clause-only c =
    let s = c.args.self.now in
    let (rank, is) = c.requires.sound.plan_of in
    for_ok c.arrange.result c.arrange.ensures.only
    (λ m only p arrangement parts. only p arrangement
    (subst (λ (order : List ℕ). IsPreorderOf s.graph.now order p) (sym c.placed.ensures) (preorder_of s.graph.now rank s.search.plan is s.search.placed p c.requires.whole parts)))
