use Rattle.std.proofs.Common.{◌≡◌, ℕ, inl, inr, false, Option, sym, ap, ◌∙◌}
use Rattle.std.proofs.lemmas.Bool.{cases_lt}
use Rattle.hpr_forest.specs.Open.{can_under}
use Rattle.hpr_forest.specs.Remaining.{forest_of}
use Rattle.hpr_forest.proofs.Filled.{shut}
use Rattle.hpr_forest.proofs.Opened.{can_by_open}
use Rattle.hpr_forest.proofs.blocks.Blocks.next_ready.Goals as goal

pub returns-then-may_by-clause-can : goal.returns-then-may_by-clause-can
returns-then-may_by-clause-can c =
    sym (can_by_open (forest_of c.args.self.now) c.args.placed.now c.args.self.now.forest c.requires.front c.in-Some.item)
    ∙ sym (ap (λ (u : Option ℕ). can_under (forest_of c.args.self.now) c.args.placed.now u c.in-Some.item) c.open_by-under.ensures) ∙ sym c.may_by.ensures ∙ c.if-may_by.true

pub returns-then-may_by-clause-least : goal.returns-then-may_by-clause-least
returns-then-may_by-clause-least c = λ d from lt.
    let b = c.args.self.now in
    let q = c.args.placed.now in
    let closed : can_under (forest_of b) q c.open_by-under.result d ≡ false = elim (cases_lt d c.seek.at) [
      | inl before ↦ c.seek.invariant.least d from before
      | inr behind ↦ shut b q c.args.pending.now.ready c.requires.pending.ready c.open_by-under.result d (c.in-Some.ensures.least d behind lt)
    ] in
    sym (can_by_open (forest_of b) q b.forest c.requires.front d) ∙ sym (ap (λ (u : Option ℕ). can_under (forest_of b) q u d) c.open_by-under.ensures) ∙ closed

pub returns-clause-none : goal.returns-clause-none
returns-clause-none c = λ d from lt.
    let b = c.args.self.now in
    let q = c.args.placed.now in
    let closed : can_under (forest_of b) q c.open_by-under.result d ≡ false = elim (cases_lt d c.seek.at) [
      | inl before ↦ c.seek.invariant.least d from before
      | inr behind ↦ shut b q c.args.pending.now.ready c.requires.pending.ready c.open_by-under.result d (c.in_default.ensures.none d behind)
    ] in
    sym (can_by_open (forest_of b) q b.forest c.requires.front d) ∙ sym (ap (λ (u : Option ℕ). can_under (forest_of b) q u d) c.open_by-under.ensures) ∙ closed
