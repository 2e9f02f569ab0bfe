use Rattle.std.proofs.Common.{◌<◌, ℕ, List, All, Contains, length, sym, subst, arith}
use Rattle.std.proofs.lemmas.Result.{IfOk-weaker}
use Rattle.hpr_graph.specs.Numbered.{graph_in, IsOneOf}
use Rattle.hpr_graph.specs.Slices.{IsReached}
use Rattle.hpr_impact.proofs.Reached.{text_of_all}
use Rattle.hpr_impact.proofs.impact.impact_text.Goals as goal

pub affected_text-requires : goal.affected_text-requires
affected_text-requires c =
    let count : ℕ = length c.in_ok-reached.reached.vertices in
    subst (All (λ n. n < count)) (sym c.deref.ensures.value) (subst (λ (m : ℕ). All (λ n. n < m) c.in_ok-all.all.items) c.vertex_count.ensures c.in_ok-all.ensures.within)

pub returns : goal.returns
returns c =
    let graph = c.args.graph.now in
    let kept = c.in_ok-reached.reached in
    let each = λ (n : ℕ) (l : n < length kept.vertices). subst (λ (ns : List ℕ). Contains ns n) (sym c.deref.ensures.value) (c.in_ok-all.ensures.all n (omega (arith, l, c.vertex_count.ensures))) in
    IfOk-weaker c.affected_text.result _ _ (λ text is. text_of_all (IsReached (graph_in graph) (IsOneOf graph c.args.points.now)) kept c.deref.result.now text.items c.in_ok-reached.ensures each is) c.affected_text.ensures
