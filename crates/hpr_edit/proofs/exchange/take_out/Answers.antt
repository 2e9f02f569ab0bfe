use Rattle.std.proofs.Common.{◌≡◌, ◌≤◌, ap, sym, subst, arith}
use Rattle.hpr_syntax.specs.Body.{part_count}
use Rattle.hpr_edit.specs.Changes.{at_part, gone}
use Rattle.hpr_edit.specs.InPlace.{times}
use Rattle.hpr_edit.proofs.Ends.{once_gone}
use Rattle.hpr_edit.proofs.Exchanged.{fewer}
use Rattle.hpr_edit.proofs.exchange.take_out.Goals as goal

pub returns-clause-once : goal.returns-clause-once
returns-clause-once c = λ u.
    let left : c.exchange.new.block ≡ at_part c.args.tag gone c.args.body.now = c.exchange.ensures.changed in
    subst (λ b. times u b ≤ 1) (sym left) (once_gone c.args.body.now c.requires.once c.args.tag u)

pub returns-clause-fewer : goal.returns-clause-fewer
returns-clause-fewer c =
    let left : c.exchange.new.block ≡ at_part c.args.tag gone c.args.body.now = c.exchange.ensures.changed in
    omega (arith, ap part_count left, fewer c.args.tag c.args.body.now (c.requires.once c.args.tag))
