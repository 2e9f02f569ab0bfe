use Rattle.std.proofs.Common.{◌≤◌, ap, ◌∙◌, arith, length, [], ◌∷◌, ◌++◌}
use Rattle.hpr_syntax.specs.BodyOf.{body_of}
use Rattle.hpr_edit.proofs.Lists.{enclosed}
use Rattle.hpr_edit.proofs.change.enclose_at.Goals as goal

pub returns : goal.returns
returns c =
    let at = c.args.at in
    let xs = c.args.stmts.now.items in
    let b = body_of c.in_ok-rest.rest.items in
    let h : at ≤ length xs = grind (arith, c.requires) in
    ap body_of c.in_ok-append.ensures.items
    ∙ enclosed c.args.round.tag c.args.round.content.now at c.args.round.first c.args.round.second xs c.push.new.self.items c.take_enclosed.new.stmts.items c.in_ok-part.part b h
    (ap body_of c.in_ok-rest.ensures.tail)
    (c.in_ok-push.ensures.items ∙ ap (λ ys. ys ++ (c.in_ok-part.part ∷ [])) c.in_ok-rest.ensures.items)
    c.in_ok-part.ensures.part
    c.in_ok-part.ensures.rest
