use Rattle.std.proofs.Common.{◌∙◌, false, Vec, Global, reverse, ap}
use Rattle.hpr_syntax.specs.BodyOf.{body_of}
use Rattle.hpr_syntax.specs.declared.tree.Stmt.{Stmt}
use Rattle.hpr_order.proofs.Slots.{first_kept, put_out, row_there, with_second}
use Rattle.hpr_order.proofs.building.Pending.take_second.Goals as goal

pub returns-clause-block : goal.returns-clause-block
returns-clause-block c =
    let both = c.index_mut.result.now in
    c.block_of.ensures
    ∙ ap (λ (z : Vec Stmt Global). body_of (reverse z.items)) c.replace.ensures.value
    ∙ ap (λ row. body_of (reverse row))
    (row_there c.args.self.now c.args.item false both both c.requires c.index_mut.ensures.value false)

pub returns-clause-rest : goal.returns-clause-rest
returns-clause-rest c =
    let both = c.index_mut.result.now in
    put_out c.args.self.now c.args.item false both both c.requires c.index_mut.ensures.value
    (with_second both c.replace.new.dest) (first_kept both c.replace.new.dest)
