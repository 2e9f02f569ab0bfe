use Rattle.std.proofs.Common.{List, ℕ, length, subst, ap, arith}
use Rattle.std.proofs.lemmas.List.{take_all, length-replicate}
use Rattle.hpr_build.specs.declared.uses.Use.{Use}
use Rattle.hpr_build.specs.Uses.{AreEndsBy}
use Rattle.hpr_build.proofs.UseRows.{no_ends, end_more}
use Rattle.hpr_build.proofs.tables.final_numbers.Goals as goal

pub loop-one-init : goal.loop-one-init
loop-one-init c = record {
  len = omega (
    arith,
    ap (λ (ns : List ℕ). length ns) c.in_ok-numbers.ensures,
    length-replicate (length c.args.names.now) c.args.exit,
    c.in_ok-numbers.numbers.ok.0,
  );
  exact = no_ends c.args.exit c.args.names.now c.in_ok-numbers.numbers.items c.in_ok-numbers.ensures;
}

pub loop-one-preserved : goal.loop-one-preserved
loop-one-preserved c = record {
  len = omega (arith, c.put_end-near.ensures.len, c.loop-one.invariant.len);
  exact = end_more c.args.exit c.args.uses.now c.loop-one.one-index c.one-item.result c.loop-one-test.true c.one-item.is c.requires.apart c.args.names.now
      c.loop-one.numbers.items c.put_end-near.new.numbers.items c.put_end-near.ensures.here c.put_end-near.ensures.parts c.put_end-near.ensures.others c.loop-one.invariant.exact;
}

pub returns-clause-exact : goal.returns-clause-exact
returns-clause-exact c =
    subst (λ (us : List Use). AreEndsBy c.args.exit us c.args.names.now c.loop-one.numbers.items)
    (take_all c.loop-one.one-index c.args.uses.now c.loop-one-test.false) c.loop-one.invariant.exact
