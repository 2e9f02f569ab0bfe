use Rattle.std.proofs.Common.{◌<◌, ◌≤◌, arith, length}
use Rattle.hpr_interference.proofs.Nearest.{nearest_else, nearest_in, nearest_none}
use Rattle.hpr_interference.proofs.own.nearest.Goals as goal

pub returns-then-own-sources : goal.returns-then-own-sources
returns-then-own-sources c =
    let beyond : length c.args.sources.now ≤ c.args.own = omega arith in
    nearest_none c.args.vertex.now c.args.sources.now c.args.own beyond

pub returns-in-Some : goal.returns-in-Some
returns-in-Some c =
    let less : c.args.own < length c.args.sources.now = omega arith in
    nearest_in c.args.vertex.now c.args.sources.now c.args.own c.index-sources-own.result c.place.result less
    c.index-sources-own.is c.place.ensures c.in-Some.is

pub returns-in-None : goal.returns-in-None
returns-in-None c =
    let less : c.args.own < length c.args.sources.now = omega arith in
    nearest_else c.args.vertex.now c.args.sources.now c.args.own c.index-sources-own.result c.place.result less
    c.index-sources-own.is c.place.ensures c.in-None.is
