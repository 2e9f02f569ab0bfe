use Rattle.std.proofs.Common.{◌<◌, ℕ, Bool, List, All, length, sym, ap, ◌∙◌, subst}
use Rattle.hpr_graph.specs.Numbered.{Numbered, IsOneOf, graph_in}
use Rattle.hpr_graph.specs.Slices.{ReachesOne}
use Rattle.hpr_slice.specs.Vertices.{MarksExactly}
use Rattle.hpr_merge.specs.Beside.{Pair}
use Rattle.hpr_merge.specs.Candidates.{KeepsSteps}
use Rattle.hpr_merge.specs.Known.{IsNear}
use Rattle.hpr_merge.proofs.KnownLinks.{near_marks}
use Rattle.hpr_merge.proofs.beside.Beside.least_links.Goals as goal

pub firsts-requires-clause-near : goal.firsts-requires-clause-near
firsts-requires-clause-near c =
    let i = c.self.inside in
    let m = i.merged.now in
    let k = i.variant.now in
    let ns = c.args.numbers.now in
    let near = c.in_ok-near.near.items in
    let within_m = subst (λ (p : Pair). All (λ n. n < length p.merged.vertices) ns) (sym c.self.view_is) c.requires.within in
    let within = subst (λ (n : ℕ). All (λ x. x < n) ns) (sym (ap length c.self.invariant.beside.vertices)) within_m in
    let exact = subst (λ (g : Numbered). MarksExactly g (ReachesOne (graph_in g) (IsOneOf g ns)) near) c.of.ensures c.in_ok-near.ensures in
    subst (λ (p : Pair). IsNear p.own ns c.deref-2.result.now) c.self.view_is
    (subst (IsNear k ns) (sym c.deref-2.ensures.value) (near_marks k c.self.invariant.own ns near within exact))

pub firsts-requires-clause-keeps : goal.firsts-requires-clause-keeps
firsts-requires-clause-keeps c =
    let m = c.self.inside.merged.now in
    let k = c.self.inside.variant.now in
    let keeps = c.keeps_steps.ensures.0 c.if-not-keeps_steps.false in
    subst (λ (p : Pair). KeepsSteps p.merged p.own c.deref-2.result.now) c.self.view_is
    (subst (λ (near : List Bool). KeepsSteps m k near) (c.deref.ensures.value ∙ sym c.deref-2.ensures.value) keeps)
