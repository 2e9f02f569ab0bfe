use Rattle.std.proofs.Common.{◌++◌, codes}
use Rattle.std.proofs.lemmas.Result.{on_ok_weaker}
use Rattle.hpr_drawn.specs.Pictures.{names_text}
use Rattle.hpr_drawn.proofs.Texts.{joined}
use Rattle.hpr_drawn.proofs.nodes.put_side_by_side.Goals as goal

pub returns : goal.returns
returns c =
    let o = c.args.out.now.items in
    let head = codes "  {rank=same" in
    let names = names_text (codes "; ") c.args.vertices.now in
    let first = joined o head names _ _ c.in_ok-put.ensures c.in_ok-put_names.ensures in
    on_ok_weaker c.put-2.result (λ last. joined o (head ++ names) (codes "}\n") _ _ first last) c.put-2.ensures
