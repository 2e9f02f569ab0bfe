use Rattle.std.proofs.Common.{sym, subst, arith}
use Rattle.hpr_order.specs.Tables.{AreChildRows}
use Rattle.hpr_order.proofs.Tabling.{HasTables, forest_there, has_tables, tables_there}
use Rattle.hpr_order.proofs.blocks.blocks_of.Goals as goal

pub new-requires-clause-forest : goal.new-requires-clause-forest
new-requires-clause-forest c =
    forest_there c.args.items.now c.args.asked.now c.in_ok-parents.parents.items c.in_ok-children.children.items c.in_ok-before.before.items c.requires.slots c.requires.siblings
    (has_tables c.args.items.now c.args.asked.now c.push_first_blocks.new.before c.in_ok-parents.parents.items c.in_ok-children.children.items c.in_ok-before.before.items c.requires.siblings
    c.in_ok-push_first_blocks.ensures.count c.in_ok-push_first_blocks.ensures.rows (omega (arith, c.in_ok-parents.ensures.count)) c.in_ok-parents.ensures.parents c.in_ok-children.ensures c.in_ok-before.ensures)

pub returns : goal.returns
returns c =
    let has : HasTables c.args.items.now c.args.asked.now c.in_ok-parents.parents.items c.in_ok-children.children.items c.in_ok-before.before.items =
    has_tables c.args.items.now c.args.asked.now c.push_first_blocks.new.before c.in_ok-parents.parents.items c.in_ok-children.children.items c.in_ok-before.before.items c.requires.siblings
    c.in_ok-push_first_blocks.ensures.count c.in_ok-push_first_blocks.ensures.rows (omega (arith, c.in_ok-parents.ensures.count)) c.in_ok-parents.ensures.parents c.in_ok-children.ensures c.in_ok-before.ensures in
    tables_there c.args.items.now c.args.asked.now c.new.result c.requires.slots c.requires.siblings
    (subst (λ ps. HasTables c.args.items.now c.args.asked.now ps.items c.new.result.children.items c.new.result.before.items) (sym c.new.ensures.parents)
    (subst (λ ps. HasTables c.args.items.now c.args.asked.now c.in_ok-parents.parents.items ps.items c.new.result.before.items) (sym c.new.ensures.children)
    (subst (λ ps. HasTables c.args.items.now c.args.asked.now c.in_ok-parents.parents.items c.in_ok-children.children.items ps.items) (sym c.new.ensures.before) has)))

pub push_first_blocks-requires-clause-children : goal.push_first_blocks-requires-clause-children
push_first_blocks-requires-clause-children c = subst (AreChildRows c.args.items.now) (sym c.deref.ensures.value) c.in_ok-children.ensures
