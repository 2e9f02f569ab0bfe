use Rattle.hpr_graph.proofs.NamesOnce.{names_once}
use Rattle.hpr_build.proofs.NameRows.{pushed_rows, pushed_once, unpushed_rows}
use Rattle.hpr_build.proofs.variables.push_for.Goals as goal

pub returns-in_ok-push_at-in-Some-clause-rows : goal.returns-in_ok-push_at-in-Some-clause-rows
returns-in_ok-push_at-in-Some-clause-rows c =
    pushed_rows c.args.names.now (names_once c.args.names.now c.requires.names) c.args.name.now c.args.point c.in-Some.at c.in-Some.ensures.some c.args.rows.now.items _ c.in_ok-push_at-in-Some.ensures.here c.in_ok-push_at-in-Some.ensures.others

pub returns-in_ok-push_at-in-Some-clause-once : goal.returns-in_ok-push_at-in-Some-clause-once
returns-in_ok-push_at-in-Some-clause-once c =
    pushed_once c.args.names.now (names_once c.args.names.now c.requires.names) c.args.name.now c.args.point c.in-Some.at c.in-Some.ensures.some c.args.rows.now.items _ c.in_ok-push_at-in-Some.ensures.here c.in_ok-push_at-in-Some.ensures.others

pub returns-in-None-clause-rows : goal.returns-in-None-clause-rows
returns-in-None-clause-rows c = unpushed_rows c.args.names.now c.args.name.now c.args.point c.args.rows.now.items c.in-None.ensures.none
