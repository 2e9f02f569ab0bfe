use Rattle.std.proofs.Common.{◌≡◌, Bool, true, false, ◌∷◌, ap, refl, ◌∙◌}
use Rattle.std.proofs.lemmas.List.{map-append}
use Rattle.hpr_graph.specs.Numbered.{graph_in}
use Rattle.hpr_region.specs.Plans.{clash_in, vertex_at, vertices_at}
use Rattle.hpr_region.proofs.ClashExcludes.{clash_excludes}
use Rattle.hpr_rebuild.proofs.candidates.CandidatesBacktracking.admissible.Goals as goal

clashes : (b : Bool) → (b ≡ false → ⊥) → b ≡ true
clashes true no_ = refl
clashes false no_ = absurd (no_ refl)

pub returns-clause-only : goal.returns-clause-only
returns-clause-only c = λ refused.
    let s = c.args.self.now in
    clashes (clash_in s.search.plan s.search.placed c.args.child) (λ free. (let yes_ : c.admits.result ≡ true = c.admits.ensures.1 free in absurd cc))

pub returns-clause-law : goal.returns-clause-law
returns-clause-law c = λ refused l rest whole is (p, arrangement, parts, fit).
    let s = c.args.self.now in
    let g = s.graph.now in
    let plan = s.search.plan in
    let placed = s.search.placed in
    let child = c.args.child in
    let clash = clashes (clash_in plan placed child) (λ free. (let yes_ : c.admits.result ≡ true = c.admits.ensures.1 free in absurd cc)) in
    clash_excludes p arrangement.program (graph_in g) (vertices_at g plan placed) (vertices_at g plan rest) (vertex_at g plan child)
    (parts ∙ ap (vertices_at g plan) is ∙ map-append (vertex_at g plan) placed (child ∷ rest)) (c.requires.sound.plan_of.1.clashes placed child clash) fit
