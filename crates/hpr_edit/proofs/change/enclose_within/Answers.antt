use Rattle.std.proofs.Common.{◌≡◌, ◌<◌, ap, ◌∙◌, arith, length, get_or}
use Rattle.std.proofs.lemmas.Result.{on_ok_weaker}
use Rattle.hpr_syntax.specs.BodyOf.{before}
use Rattle.hpr_edit.specs.Changes.{from, with_block}
use Rattle.hpr_edit.specs.InPlace.{enclosing}
use Rattle.hpr_edit.proofs.Lists.{set_at_place}
use Rattle.hpr_edit.proofs.change.enclose_within.Goals as goal

pub returns : goal.returns
returns c =
    let xs = c.args.stmts.now.items in
    let d = c.index_mut.result.now in
    let h : c.args.at < length xs = grind (arith, c.requires) in
    let f = with_block c.args.branch (from c.args.place (enclosing c.args.round)) in
    let v : d ≡ get_or xs c.args.at d = c.index_mut.ensures.value in
    on_ok_weaker c.enclose_in.result
    (λ e. set_at_place (λ s rest. before (f s) rest) c.args.at xs c.enclose_in.new.stmt d h (λ r. ap (λ y. before y r) (e ∙ ap f v)))
    c.enclose_in.ensures
