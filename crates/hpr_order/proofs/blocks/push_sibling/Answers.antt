use Rattle.std.proofs.Common.{◌≡◌, ◌<◌, ◌∙◌, Some, length, refl, sym, subst, ap, rules}
use Rattle.hpr_order.proofs.ItemRows.{latest_more, pushed_already}
use Rattle.hpr_order.proofs.Steps.{read_of}
use Rattle.hpr_order.proofs.blocks.push_sibling.Goals as goal

pub returns-clause-latest : goal.returns-clause-latest
returns-clause-latest c = latest_more c.args.asked.now c.push.new.self c.args.latest.now.items c.args.first c.args.second c.requires.first c.in_ok-push.ensures.count c.in_ok-push.ensures.pushed c.requires.latest

pub returns-then-eq : goal.returns-then-eq
returns-then-eq c =
    let same : c.index.result.now ≡ Some c.args.second = search rules in
    let lt : c.args.first < length c.args.latest.now.items = subst (λ n. c.args.first < n) (sym c.requires.latest.count) c.requires.first in
    record {
      latest = c.requires.latest;
      count = refl;
      pushed = pushed_already c.args.asked.now c.args.latest.now.items c.args.first c.args.second c.requires.latest
          (read_of c.args.latest.now.items c.args.first c.index.result.now lt c.index.ensures ∙ ap (λ z. Some z) same);
    }

pub returns-clause-pushed : goal.returns-clause-pushed
returns-clause-pushed c = c.in_ok-push.ensures.pushed
