use Rattle.std.proofs.Common.{◌≡◌, ◌<◌, ap, ◌∙◌, arith, length, get_or}
use Rattle.std.proofs.lemmas.Result.{on_ok_weaker}
use Rattle.hpr_syntax.specs.BodyOf.{before}
use Rattle.hpr_edit.specs.Changes.{saying}
use Rattle.hpr_edit.proofs.Lists.{set_at_place, said_with}
use Rattle.hpr_edit.proofs.change.say_at.Goals as goal

pub returns-clause-changed : goal.returns-clause-changed
returns-clause-changed c =
    let xs = c.args.stmts.now.items in
    let d = c.index_mut.result.now in
    let h : c.args.at < length xs = grind (arith, c.requires) in
    let v : d ≡ get_or xs c.args.at d = c.index_mut.ensures.value in
    on_ok_weaker c.say.result
    (λ e. set_at_place (saying c.args.content.now) c.args.at xs c.say.new.part d h
    (λ r. ap (λ y. before y r) e ∙ said_with c.args.content.now d r ∙ ap (λ s. saying c.args.content.now s r) v))
    c.say.ensures.changed
