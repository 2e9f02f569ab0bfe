use Rattle.hpr_order.proofs.Steps.{read_of}
use Rattle.hpr_graph.proofs.NamesOnce.{names_once}
use Rattle.hpr_region.proofs.Made.{among_push, among_skip, among_whole}
use Rattle.hpr_region.proofs.tables.numbers_among.Goals as goal

pub loop-name-preserved-in_default : goal.loop-name-preserved-in_default
loop-name-preserved-in_default c =
    among_skip c.args.names.now c.args.used.now c.loop-name.name-index c.name-item.result (read_of c.args.used.now c.loop-name.name-index c.name-item.result c.loop-name-test.true c.name-item.is)
    c.loop-name.row.items c.in_default.ensures.none c.loop-name.invariant

pub loop-name-preserved : goal.loop-name-preserved
loop-name-preserved c =
    among_push c.args.names.now c.args.used.now c.loop-name.name-index c.name-item.result (read_of c.args.used.now c.loop-name.name-index c.name-item.result c.loop-name-test.true c.name-item.is)
    c.loop-name.row.items c.push.new.self.items c.in-Some.number (names_once c.args.names.now c.requires.names) c.in-Some.ensures.some c.in_ok-push.ensures.items c.loop-name.invariant

pub returns : goal.returns
returns c = among_whole c.args.names.now c.args.used.now c.loop-name.name-index c.loop-name.row.items c.loop-name-test.false c.loop-name.invariant
