use Rattle.std.proofs.Common.{refl, sym, ap, ◌∙◌, arith}
use Rattle.std.proofs.lemmas.Option.{slice_get_read}
use Rattle.hpr_forest.specs.Blocks.{row_at}
use Rattle.hpr_forest.proofs.blocks.Blocks.children_of.Goals as goal

pub returns : goal.returns
returns c =
    let b = c.args.self.now in
    let read = slice_get_read b.children.items _ c.args.item c.index.result.now refl (omega (arith, c.requires, b.rows, b.children.ok.0)) c.index.ensures in
    record { row = c.deref.ensures.value ∙ sym (ap row_at read) }
