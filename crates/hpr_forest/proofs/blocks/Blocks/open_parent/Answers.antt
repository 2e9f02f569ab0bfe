use Rattle.std.proofs.Common.{ℕ, All, ◌<◌, Option, Some, subst, sym, ap, ◌∙◌, arith}
use Rattle.hpr_forest.specs.Forest.{all_in}
use Rattle.hpr_forest.specs.Remaining.{forest_of}
use Rattle.hpr_forest.proofs.Climbed.{IsClimb, climb_found, climb_up, climb_within, left_at}
use Rattle.hpr_forest.proofs.Starts.{children_within}
use Rattle.hpr_forest.proofs.blocks.Blocks.open_parent.Goals as goal

pub children_of-requires : goal.children_of-requires
children_of-requires c =
    omega (arith, climb_within (forest_of c.args.self.now) c.args.placed.now c.in-Some.item c.requires.front (subst (IsClimb (forest_of c.args.self.now) c.args.placed.now) c.in-Some.is c.climb.invariant))

pub all_marked-requires-clause-within : goal.all_marked-requires-clause-within
all_marked-requires-clause-within c = subst (λ (n : ℕ). All (λ x. x < n) c.children_of.result.now) (sym c.requires.row) (children_within c.args.self.now _ c.children_of.result.now c.children_of.ensures.row)

pub returns-then-not-all_marked : goal.returns-then-not-all_marked
returns-then-not-all_marked c =
    sym (climb_found (forest_of c.args.self.now) c.args.placed.now c.in-Some.item (subst (IsClimb (forest_of c.args.self.now) c.args.placed.now) c.in-Some.is c.climb.invariant)
    (sym (ap (all_in c.args.placed.now) c.children_of.ensures.row) ∙ sym c.all_marked.ensures ∙ c.if-not-all_marked.true))

pub parent_of-under-requires : goal.parent_of-under-requires
parent_of-under-requires c =
    omega (arith, climb_within (forest_of c.args.self.now) c.args.placed.now c.in-Some.item c.requires.front (subst (IsClimb (forest_of c.args.self.now) c.args.placed.now) c.in-Some.is c.climb.invariant))

pub climb-smaller : goal.climb-smaller
climb-smaller c =
    let f = forest_of c.args.self.now in
    let q = c.args.placed.now in
    let up = climb_up f q c.in-Some.item c.requires.front (subst (IsClimb f q) c.in-Some.is c.climb.invariant)
    (sym (ap (all_in q) c.children_of.ensures.row) ∙ sym c.all_marked.ensures ∙ c.if-not-all_marked.false) in
    subst (λ (u : Option ℕ). left_at q c.parent_of-under.result < left_at q u) (sym c.in-Some.is)
    (subst (λ (u : Option ℕ). left_at q u < left_at q (Some c.in-Some.item)) (sym c.parent_of-under.ensures) up.1)

pub climb-preserved : goal.climb-preserved
climb-preserved c =
    let f = forest_of c.args.self.now in
    let q = c.args.placed.now in
    let up = climb_up f q c.in-Some.item c.requires.front (subst (IsClimb f q) c.in-Some.is c.climb.invariant)
    (sym (ap (all_in q) c.children_of.ensures.row) ∙ sym c.all_marked.ensures ∙ c.if-not-all_marked.false) in
    subst (IsClimb f q) (sym c.parent_of-under.ensures) up.0
