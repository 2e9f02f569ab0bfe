use Rattle.std.proofs.Common.{◌≡◌, ◌-◌, ◌+◌, ◌<◌, ◌∙◌, sym, subst, get_or, length, drop, ◌∷◌, None, arith}
use Rattle.std.proofs.lemmas.Option.{slice_get-get_or}
use Rattle.hpr_order.specs.Building.{AreBlocks}
use Rattle.hpr_order.proofs.Built.{drop_more, fresh_there, none_put}
use Rattle.hpr_order.proofs.building.block_in.Goals as goal

pub parts-preserved : goal.parts-preserved
parts-preserved c =
    let before' = c.parts.at - 1 in
    let lt : c.parts.at - 1 < length c.args.order.now = omega (arith, c.parts-test.true, c.parts.invariant.within) in
    let item = get_or c.args.order.now (c.parts.at - 1) 0 in
    let at : c.parts.at - 1 + 1 ≡ c.parts.at = omega (arith, c.parts-test.true) in
    let more : drop (c.parts.at - 1) c.args.order.now ≡ get_or c.args.order.now (c.parts.at - 1) 0 ∷ drop c.parts.at c.args.order.now =
    drop_more c.args.order.now c.parts.at (c.parts.at - 1) (get_or c.args.order.now (c.parts.at - 1) 0) at c.parts.invariant.within (slice_get-get_or c.args.order.now (c.parts.at - 1) 0 lt) in
    record {
      within = omega (arith, lt);
      count = c.in_ok-put_item.ensures.count ∙ c.parts.invariant.count;
      blocks = subst (λ z. AreBlocks c.args.items.now z c.put_item.new.pending) (sym more)
          (c.in_ok-put_item.ensures.blocks (drop c.parts.at c.args.order.now) c.parts.invariant.blocks
          (fresh_there c.args.order.now c.parts.at (c.parts.at - 1) (get_or c.args.order.now (c.parts.at - 1) 0) c.requires.once more));
    }

pub parts-init : goal.parts-init
parts-init c = record {
  within = omega arith;
  count = c.in_ok-pending.ensures.count;
  blocks = none_put c.args.items.now c.args.order.now c.in_ok-pending.pending c.in_ok-pending.ensures.none;
}

pub returns : goal.returns
returns c =
    let first : c.parts.at ≡ 0 = omega (arith, c.parts-test.false) in
    c.take_top.ensures
    ∙ subst (λ k. AreBlocks c.args.items.now (drop k c.args.order.now) c.parts.pending) first c.parts.invariant.blocks None tt tt
