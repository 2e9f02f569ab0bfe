use Rattle.std.proofs.Common.{◌≡◌, length, arith, rules}
use Rattle.hpr_order.proofs.Steps.{line_pushed}
use Rattle.hpr_order.proofs.arranged.first_numbers.Goals as goal

pub loop-number-preserved : goal.loop-number-preserved
loop-number-preserved c = record {
  len = omega (arith, c.in_ok-push.ensures.len, c.loop-number.invariant.len);
  all = line_pushed c.loop-number.number c.loop-number.numbers.items c.push.new.self.items (search (rules, c.loop-number.invariant.len)) c.loop-number.invariant.all c.in_ok-push.ensures.items;
}

pub returns : goal.returns
returns c =
    let len : length c.loop-number.numbers.items ≡ c.loop-number.number = search (rules, c.loop-number.invariant.len) in
    (omega (arith, len, c.loop-number-test.false, c.loop-number.auto.number-end), λ k lt. c.loop-number.invariant.all k (omega (arith, lt, c.loop-number-test.false)))
