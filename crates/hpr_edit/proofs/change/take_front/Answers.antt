use Rattle.std.proofs.Common.{◌≡◌, ap, ◌∙◌, arith, length, min}
use Rattle.hpr_syntax.specs.BodyOf.{body_of}
use Rattle.hpr_edit.proofs.Lists.{firsts_cut, later_cut}
use Rattle.hpr_edit.proofs.change.take_front.Goals as goal

pub returns-clause-front : goal.returns-clause-front
returns-clause-front c =
    let xs = c.args.stmts.now.items in
    let h : c.min-most.result ≡ min c.args.count (length xs) = grind (arith, c.min-most.ensures, c.len.ensures) in
    c.new.ensures ∙ (rw c.replace.ensures.value (ap body_of c.in_ok-rest.ensures.items ∙ firsts_cut c.args.count c.min-most.result xs h))

pub returns-clause-rest : goal.returns-clause-rest
returns-clause-rest c =
    let xs = c.args.stmts.now.items in
    let h : c.min-most.result ≡ min c.args.count (length xs) = grind (arith, c.min-most.ensures, c.len.ensures) in
    rw c.replace.ensures.after (ap body_of c.in_ok-rest.ensures.tail ∙ later_cut c.args.count c.min-most.result xs h)
