use Rattle.std.proofs.Common.{◌+◌, ◌<◌, ℕ, cond, eqb, List, All, length, sym, ap, ◌∙◌, subst, arith}
use Rattle.hpr_search.specs.Rows.{numbers_at, numbers_of}
use Rattle.hpr_region.specs.Flows.{readers_of}
use Rattle.hpr_region.specs.Private.Needs.{occurrences}
use Rattle.hpr_region.proofs.Rivalry.{readers_within, turned_more, turned_none, turned_whole}
use Rattle.hpr_region.proofs.rivals.sources_of.Goals as goal

pub loop-item-init : goal.loop-item-init
loop-item-init c = record {
  count = c.in_ok-rows.ensures.count ∙ c.size.ensures;
  turned = turned_none c.args.flows.now c.in_ok-rows.rows.items c.in_ok-rows.ensures.blank;
}

pub push_to_each-requires : goal.push_to_each-requires
push_to_each-requires c =
    subst (λ (ds : List ℕ). All (λ k. k < length c.loop-item.rows.items) ds) (sym c.readers_of.ensures)
    (subst (λ (n : ℕ). All (λ k. k < n) (readers_of c.args.flows.now c.loop-item.item)) (sym c.loop-item.invariant.count) (readers_within c.args.flows.now c.loop-item.item))

pub loop-item-preserved : goal.loop-item-preserved
loop-item-preserved c = record {
  count = c.in_ok-push_to_each.ensures.count ∙ c.loop-item.invariant.count;
  turned = turned_more c.args.flows.now c.loop-item.rows.items c.push_to_each.new.rows.items c.loop-item.item
      (λ d u. c.in_ok-push_to_each.ensures.rows d u ∙ ap (λ (us : List ℕ). occurrences (numbers_at (numbers_of c.loop-item.rows.items) u) d + cond (eqb c.loop-item.item d) (occurrences us u) 0) c.readers_of.ensures)
      c.loop-item.invariant.turned;
}

pub returns-clause-turned : goal.returns-clause-turned
returns-clause-turned c = turned_whole c.args.flows.now c.loop-item.rows.items c.loop-item.item (omega (arith, c.loop-item-test.false, c.size-item-end.ensures)) c.loop-item.invariant.turned
