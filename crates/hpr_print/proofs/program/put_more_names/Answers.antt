use Rattle.std.proofs.Common.{rules, ◌≡◌, ◌++◌, ◌∙◌}
use Rattle.hpr_print.proofs.Texts.{commas_step}
use Rattle.hpr_print.proofs.program.put_more_names.Goals as goal

pub loop-name-preserved : goal.loop-name-preserved
loop-name-preserved c =
    let two : c.put-in-loop-name.new.out.items ≡ c.put.new.out.items ++ c.name-item.result = search rules in
    commas_step c.args.names.now c.loop-name.name-index c.name-item.result c.loop-name.out.items c.put.new.out.items c.put-in-loop-name.new.out.items c.loop-name-test.true c.name-item.is
    c.in_ok-put.ensures two
    ∙ c.loop-name.invariant
