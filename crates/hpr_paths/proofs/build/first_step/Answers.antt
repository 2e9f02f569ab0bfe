use Rattle.std.proofs.Common.{◌≡◌, true, false, ◌<◌, length, vec_len, sym, ap, ◌∙◌, arith}
use Rattle.hpr_syntax.specs.Body.{Body}
use Rattle.hpr_paths.specs.Successors.{first_step}
use Rattle.hpr_paths.proofs.Blocks.{first_step_some}
use Rattle.hpr_paths.proofs.build.first_step.Goals as goal

pub returns : goal.returns
returns c =
    let some : 0 < length c.stmts.result.now.items = (let ne : vec_len c.stmts.result.now ≡ 0 → ⊥ = λ e. (let z : c.is_empty.result ≡ true = rw e at c.is_empty.ensures in let n : c.is_empty.result ≡ false = c.if-is_empty.false in cc) in omega arith) in
    c.step_to.ensures ∙ sym (ap (λ (b : Body). first_step b c.args.first c.args.follow) c.stmts.ensures ∙ first_step_some c.stmts.result.now.items c.args.first c.args.follow some)
