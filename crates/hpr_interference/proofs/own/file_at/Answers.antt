use Rattle.std.proofs.Common.{◌<◌, ◌≤◌, ◌∙◌, arith, length}
use Rattle.hpr_interference.proofs.Nearest.{file_is, no_file}
use Rattle.hpr_interference.proofs.own.file_at.Goals as goal

pub returns-then-own-sources : goal.returns-then-own-sources
returns-then-own-sources c =
    let beyond : length c.args.sources.now ≤ c.args.own = omega arith in
    let none = no_file c.args.sources.now c.args.own beyond in
    cc

pub returns : goal.returns
returns c =
    let less : c.args.own < length c.args.sources.now = omega arith in
    let file = file_is c.args.sources.now c.args.own c.index-sources-own.result less c.index-sources-own.is in
    c.in_ok-name.ensures.ok ∙ c.file.ensures ∙ file
