use Rattle.std.proofs.Common.{◌≡◌, length, sym, ap, ◌∙◌, arith}
use Rattle.hpr_syntax.specs.BodyOf.{before, body_of}
use Rattle.hpr_edit.specs.Changes.{from}
use Rattle.hpr_edit.specs.Places.{width}
use Rattle.hpr_edit.proofs.Lists.{inserted, width_body}
use Rattle.hpr_sample.proofs.variant.with_inserted.Goals as goal

pub insert-requires : goal.insert-requires
insert-requires c =
    let stmts = c.into_stmts-stmts.result in
    let len : length stmts.items ≡ width c.args.block.now = sym (width_body stmts.items) ∙ ap width (sym c.into_stmts-stmts.ensures ∙ c.in_ok-copy.ensures) in
    omega (arith, c.requires, len, stmts.ok.0)

pub returns : goal.returns
returns c =
    let stmts = c.into_stmts-stmts.result in
    let same = sym c.into_stmts-stmts.ensures ∙ c.in_ok-copy.ensures in
    let len : length stmts.items ≡ width c.args.block.now = sym (width_body stmts.items) ∙ ap width same in
    c.new.ensures ∙ ap body_of c.in_ok-insert.ensures.items ∙ inserted c.args.place stmts.items c.args.part (omega (arith, c.requires, len))
    ∙ ap (from c.args.place (before c.args.part)) same
