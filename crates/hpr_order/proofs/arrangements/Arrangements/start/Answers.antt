use Rattle.hpr_order.proofs.Coming.{coming_next, starts_with, searches}
use Rattle.hpr_order.proofs.arrangements.Arrangements.start.Goals as goal

pub invariant_of-result : goal.invariant_of-result
invariant_of-result c =
    let (numbers, ranked, is) = c.in_ok-ordered.ensures in
    searches c.args.graph.now c.requires.regions.possible c.args.rank.now numbers ranked c.in_ok-ordered.ordered is c.args.issued.now c.requires.issued c.read_issued.ensures.ascending c.read_issued.ensures.numbers
    c.in_ok-finals.finals.items c.in_ok-finals.ensures c.in_ok-issued.issued c.in_ok-issued.ensures _
    (coming_next c.in_ok-next.next c.in_ok-ordered.ordered.orders c.next_order.new.orders c.in_ok-next.ensures.some c.in_ok-next.ensures.none)

pub returns : goal.returns
returns c =
    let (numbers, ranked, is) = c.in_ok-ordered.ensures in
    record {
      all = starts_with c.args.graph.now c.requires.regions.possible c.args.rank.now numbers ranked c.in_ok-ordered.ordered is c.args.issued.now c.requires.issued c.read_issued.ensures.ascending c.read_issued.ensures.numbers
          c.in_ok-finals.finals.items c.in_ok-finals.ensures c.in_ok-issued.issued c.in_ok-issued.ensures _
          (coming_next c.in_ok-next.next c.in_ok-ordered.ordered.orders c.next_order.new.orders c.in_ok-next.ensures.some c.in_ok-next.ensures.none);
    }
