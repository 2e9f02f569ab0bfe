use Rattle.std.proofs.Common.{ℕ, ◌<◌, Option, Some, subst, sym, ◌∙◌, arith}
use Rattle.hpr_forest.specs.Remaining.{forest_of}
use Rattle.hpr_forest.proofs.Climbed.{IsClimb, climb_found, climb_up, climb_within, left_at}
use Rattle.hpr_forest.proofs.blocks.Blocks.open_by.Goals as goal

pub is_full-requires : goal.is_full-requires
is_full-requires c =
    let b = c.args.self.now in
    let lt = climb_within (forest_of b) c.args.placed.now c.in-Some.item c.requires.front (subst (IsClimb (forest_of b) c.args.placed.now) c.in-Some.is c.climb.invariant) in
    omega (arith, lt, c.requires.pending.under.count, b.rows, b.children.ok.0, b.parents.ok.0)

pub returns-then-not-is_full : goal.returns-then-not-is_full
returns-then-not-is_full c =
    let b = c.args.self.now in
    sym (climb_found (forest_of b) c.args.placed.now c.in-Some.item (subst (IsClimb (forest_of b) c.args.placed.now) c.in-Some.is c.climb.invariant)
    (sym (c.is_full.ensures b.children.items c.args.placed.now c.requires.pending.under) ∙ c.if-not-is_full.true))

pub parent_of-under-requires : goal.parent_of-under-requires
parent_of-under-requires c =
    omega (arith, climb_within (forest_of c.args.self.now) c.args.placed.now c.in-Some.item c.requires.front (subst (IsClimb (forest_of c.args.self.now) c.args.placed.now) c.in-Some.is c.climb.invariant))

pub climb-smaller : goal.climb-smaller
climb-smaller c =
    let b = c.args.self.now in
    let f = forest_of b in
    let q = c.args.placed.now in
    let up = climb_up f q c.in-Some.item c.requires.front (subst (IsClimb f q) c.in-Some.is c.climb.invariant)
    (sym (c.is_full.ensures b.children.items q c.requires.pending.under) ∙ c.if-not-is_full.false) in
    subst (λ (u : Option ℕ). left_at q c.parent_of-under.result < left_at q u) (sym c.in-Some.is)
    (subst (λ (u : Option ℕ). left_at q u < left_at q (Some c.in-Some.item)) (sym c.parent_of-under.ensures) up.1)

pub climb-preserved : goal.climb-preserved
climb-preserved c =
    let b = c.args.self.now in
    let f = forest_of b in
    let q = c.args.placed.now in
    let up = climb_up f q c.in-Some.item c.requires.front (subst (IsClimb f q) c.in-Some.is c.climb.invariant)
    (sym (c.is_full.ensures b.children.items q c.requires.pending.under) ∙ c.if-not-is_full.false) in
    subst (IsClimb f q) (sym c.parent_of-under.ensures) up.0
