use Rattle.std.proofs.Common.{◌<◌, ◌↔◌, ℕ, Bool, List, All, Contains, length, sym, ap, ◌∙◌, subst, arith}
use Rattle.hpr_search.specs.Rows.{numbers_at}
use Rattle.hpr_graph.specs.declared.link.Link.{Link}
use Rattle.hpr_graph.specs.Numbered.{Numbered, IsOneOf, graph_in}
use Rattle.hpr_graph.specs.Slices.{ReachesOne}
use Rattle.hpr_slice.specs.Steps.{AreStepsWithin}
use Rattle.hpr_slice.specs.Vertices.{MarksExactly}
use Rattle.hpr_merge.specs.Beside.{Pair}
use Rattle.hpr_merge.specs.Candidates.{AreCandidates, KeepsSteps}
use Rattle.hpr_merge.specs.Firsts.{AreFirstsFrom}
use Rattle.hpr_merge.specs.Known.{IsNear}
use Rattle.hpr_merge.proofs.NewLinks.{all_sources, targets_within}
use Rattle.hpr_merge.proofs.KnownLinks.{far_marks, known_of}
use Rattle.hpr_merge.proofs.beside.Beside.firsts.Goals as goal

pub reaching-requires : goal.reaching-requires
reaching-requires c =
    let i = c.self.inside in
    let all = all_sources i.merged.now i.variant.now c.args.near.now c.in_ok-sources.sources.items c.self.invariant.merged c.in_ok-sources.ensures in
    subst (λ (g : Numbered). All (λ s. s < length g.vertices) c.deref.result.now) (sym c.of.ensures)
    (subst (All (λ s. s < length i.merged.now.vertices)) (sym c.deref.ensures.value) all)

pub rows_of-requires : goal.rows_of-requires
rows_of-requires c =
    let i = c.self.inside in
    subst (λ (n : ℕ). AreStepsWithin n c.deref-3.result.now)
    (ap length c.self.invariant.beside.vertices ∙ sym (ap length c.vertices-count.ensures.vertices))
    (subst (AreStepsWithin (length i.variant.now.vertices)) (sym c.deref-3.ensures.value) c.self.invariant.narrow_within)

pub firsts_from-requires : goal.firsts_from-requires
firsts_from-requires c = λ d has.
    (let i = c.self.inside in
    let below = targets_within i.merged.now i.variant.now c.args.near.now c.deref-2.result.now c.in_ok-links.links.items c.self.invariant.merged
    c.in_ok-links.ensures d (subst (λ (xs : List (ℕ × Link)). Contains xs d) c.deref-4.ensures.value has) in
    let rows = c.in_ok-rows.ensures.count in
    let count = ap length c.vertices-count.ensures.vertices in
    omega (arith, below, rows, count))

pub returns : goal.returns
returns c =
    let i = c.self.inside in
    let m = i.merged.now in
    let k = i.variant.now in
    let ns = c.args.numbers.now in
    let near = c.args.near.now in
    let far = c.in_ok-far.far.items in
    let cs = c.in_ok-links.links.items in
    let rows = c.in_ok-rows.rows in
    let is_near = subst (λ (p : Pair). IsNear p.own ns near) (sym c.self.view_is) c.requires.near in
    let keeps = subst (λ (p : Pair). KeepsSteps p.merged p.own near) (sym c.self.view_is) c.requires.keeps in
    let exact_there = subst (λ (g : Numbered). MarksExactly g (ReachesOne (graph_in g) (IsOneOf g c.deref.result.now)) far) c.of.ensures
    c.in_ok-far.ensures in
    let exact = subst (λ (xs : List ℕ). MarksExactly m (ReachesOne (graph_in m) (IsOneOf m xs)) far) c.deref.ensures.value exact_there in
    let is_far = far_marks m k c.self.invariant.merged near far c.in_ok-sources.sources.items c.in_ok-sources.ensures exact in
    let are = subst (λ (xs : List Bool). AreCandidates m k near xs cs) c.deref-2.ensures.value c.in_ok-links.ensures in
    let same = subst (λ (xs : List (ℕ × ℕ)). (from to : ℕ) → Contains (numbers_at rows from) to ↔ Contains xs (from, to)) c.deref-3.ensures.value
    c.in_ok-rows.ensures.rows in
    let firsts = subst (λ (xs : List (ℕ × Link)). AreFirstsFrom (numbers_at rows) xs c.in_ok-firsts.firsts.items) c.deref-4.ensures.value
    c.in_ok-firsts.ensures.firsts in
    known_of m k i.wide.items i.narrow.items c.args.self.now c.self.invariant c.self.view_is ns near far is_near keeps is_far cs (numbers_at rows)
    c.in_ok-firsts.firsts.items same are
    (c.in_ok-firsts.ensures.count ∙ c.in_ok-rows.ensures.count ∙ ap length c.vertices-count.ensures.vertices) firsts
