use Rattle.std.proofs.Common.{◌∙◌, Bool, false, Option, ℕ, subst, sym, take, ◌+◌}
use Rattle.hpr_graph.specs.declared.link.LinkKind.TheVariants.{Control}
use Rattle.hpr_graph.specs.declared.link.Link.{Link}
use Rattle.hpr_order.proofs.Onlys.{IsOnlyIn, only_other, only_first, only_second, only_whole, only_not, only_is, only_where}
use Rattle.hpr_order.proofs.control.only_control.Goals as goal
use Rattle.hpr_order.proofs.control.only_control.Goals.{in-Some+else-is_some, in_default}

no_link : Link
no_link = record { from = 0; kind = Control false }

pub returns-then-is_some-clause-none : goal.returns-then-is_some-clause-none
unfolding no_link
returns-then-is_some-clause-none c = λ _.
    only_second no_link c.args.row.now c.loop-link.link-index c.loop-link-test.true c.loop-link.found c.in-Some.label c.requires (sym c.label_of.ensures ∙ c.in-Some.is)
    (sym c.is_some.ensures ∙ c.if-is_some.true) c.loop-link.invariant

pub loop-link-preserved : goal.loop-link-preserved
unfolding no_link
loop-link-preserved c = elim c.match-label_of.branch [
  | in-Some+else-is_some w ↦
      subst (λ (o : Option (ℕ × Bool)). IsOnlyIn (take (c.loop-link.link-index + 1) c.args.row.now) o) (sym w.found-is)
      (only_first no_link c.args.row.now c.loop-link.link-index c.loop-link-test.true w.in-Some.label (sym c.label_of.ensures ∙ w.in-Some.is)
      (only_where c.loop-link.found _ (sym w.is_some.ensures ∙ w.if-is_some.false) c.loop-link.invariant))
  | in_default w ↦
      subst (λ (o : Option (ℕ × Bool)). IsOnlyIn (take (c.loop-link.link-index + 1) c.args.row.now) o) (sym w.found-is)
      (only_other no_link c.args.row.now c.loop-link.link-index c.loop-link-test.true c.loop-link.found (sym c.label_of.ensures ∙ w.in_default.is) c.loop-link.invariant)
]

pub returns-clause-found : goal.returns-clause-found
returns-clause-found c = only_is c.args.row.now c.loop-link.found (only_whole c.args.row.now c.loop-link.link-index c.loop-link.found c.loop-link-test.false c.loop-link.invariant)

pub returns-clause-none : goal.returns-clause-none
returns-clause-none c = only_not c.args.row.now c.loop-link.found (only_whole c.args.row.now c.loop-link.link-index c.loop-link.found c.loop-link-test.false c.loop-link.invariant)
