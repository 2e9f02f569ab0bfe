use Rattle.std.proofs.Common.{◌<◌, ℕ, List, All, Contains, Option, subst, sym, length, arith}
use Rattle.std.specs.Ordering.{nat_cmp}
use Rattle.hpr_graph.specs.InOrder.{Ascends}
use Rattle.hpr_impact.specs.declared.search.Visit.{Visit}
use Rattle.hpr_impact.specs.Private.Ways.{AreKnown, AreMade, AreWays, IsTableOf}
use Rattle.hpr_impact.proofs.Found.{reasons_found}
use Rattle.hpr_impact.proofs.Visits.{points_known, visit_within}
use Rattle.hpr_impact.proofs.why.ordered_reasons.Goals as goal

pub ways-requires : goal.ways-requires
ways-requires c = subst (All (λ s. s < length c.args.graph.now.vertices)) (sym c.deref.ensures.value) c.in_ok-found.ensures.direct.within

pub table_of-requires : goal.table_of-requires
table_of-requires c = λ v h.
    let visits = c.in_ok-visits.visits.items in
    let ways = subst (λ (starts : List ℕ). AreWays c.args.graph.now starts visits) c.deref.ensures.value c.in_ok-visits.ensures in
    let within = visit_within c.args.graph.now c.args.base.now c.in_ok-found.found.direct.items c.in_ok-found.found.points.items c.in_ok-found.ensures visits ways v (subst (λ (vs : List Visit). Contains vs v) c.deref-2.ensures.value h) in
    omega (arith, within, c.vertex_count.ensures)

pub reasons_at-requires-clause-ascend : goal.reasons_at-requires-clause-ascend
reasons_at-requires-clause-ascend c = subst (Ascends nat_cmp) (sym c.deref-3.ensures.value) c.in_ok-found.ensures.affected.ascend

pub reasons_at-requires-clause-known : goal.reasons_at-requires-clause-known
reasons_at-requires-clause-known c =
    let g = c.args.graph.now in
    let visits = c.in_ok-visits.visits.items in
    let table = c.in_ok-table.table.items in
    let ways = subst (λ (starts : List ℕ). AreWays g starts visits) c.deref.ensures.value c.in_ok-visits.ensures in
    let known = points_known g c.args.base.now c.in_ok-found.found.direct.items c.in_ok-found.found.points.items c.in_ok-found.ensures visits ways table (subst (λ (vs : List Visit). IsTableOf vs table) c.deref-2.ensures.value c.in_ok-table.ensures) in
    subst (λ (points : List ℕ). AreKnown g points c.deref-4.result.now) (sym c.deref-3.ensures.value)
    (subst (AreKnown g c.in_ok-found.found.points.items) (sym c.deref-4.ensures.value) known)

pub returns : goal.returns
returns c =
    let g = c.args.graph.now in
    let points = c.in_ok-found.found.points.items in
    let visits = c.in_ok-visits.visits.items in
    let table = c.in_ok-table.table.items in
    let rs = c.in_ok-reasons.reasons.items in
    let ways = subst (λ (starts : List ℕ). AreWays g starts visits) c.deref.ensures.value c.in_ok-visits.ensures in
    let made = subst (λ (t : List (Option Visit)). AreMade g points t rs) c.deref-4.ensures.value (subst (λ (ps : List ℕ). AreMade g ps c.deref-4.result.now rs) c.deref-3.ensures.value c.in_ok-reasons.ensures) in
    reasons_found g c.args.base.now c.in_ok-found.found.direct.items points c.in_ok-found.ensures visits ways table (subst (λ (vs : List Visit). IsTableOf vs table) c.deref-2.ensures.value c.in_ok-table.ensures) rs made c.requires.ascend
