use Rattle.std.proofs.Common.{rules, ◌/◌, ◌%◌, w64, ◌∙◌, ap}
use Rattle.std.proofs.lemmas.Int.{to_z-of_z}
use Rattle.hpr_arrays.specs.Elements.{Elements, with_element}
use Rattle.hpr_arrays.proofs.Rows.{written}
use Rattle.hpr_arrays.proofs.pages.put.Goals as goal

pub returns-clause-laid_out : goal.returns-clause-laid_out
returns-clause-laid_out c = (written c.make_page.new.pages.items (c.from-at.result / 256) (c.from-at.result % 256) c.args.at c.args.number c.index_mut.result.now c.write.new.row c.in_ok-make_page.ensures.within c.index_mut.ensures.value (rw (to_z-of_z w64 c.args.number c.ranges.number) at c.write.ensures) c.in_ok-make_page.ensures.made (search rules) (search rules) c.make_page.ensures.laid_out).0

pub returns-clause-ok : goal.returns-clause-ok
returns-clause-ok c = (written c.make_page.new.pages.items (c.from-at.result / 256) (c.from-at.result % 256) c.args.at c.args.number c.index_mut.result.now c.write.new.row c.in_ok-make_page.ensures.within c.index_mut.ensures.value (rw (to_z-of_z w64 c.args.number c.ranges.number) at c.write.ensures) c.in_ok-make_page.ensures.made (search rules) (search rules) c.make_page.ensures.laid_out).1 ∙ ap (λ (m : Elements). with_element m c.args.at c.args.number) c.make_page.ensures.same
