use Rattle.std.proofs.lemmas.Result.{on_ok_weaker}
use Rattle.hpr_terms.specs.TermOf.{term_of}
use Rattle.hpr_terms.specs.Texts.{tag_text}
use Rattle.hpr_syntax.specs.Print.{term_text, element_text}
use Rattle.hpr_print.proofs.Texts.{assignment_line}
use Rattle.hpr_print.proofs.blocks.put_store.Goals as goal

pub returns : goal.returns
returns c =
    on_ok_weaker c.put_end.result
    (assignment_line c.args.level c.args.out.now.items c.put_start.new.out.items c.put_stored.new.out.items c.put_end.new.out.items (tag_text c.args.tag)
    (element_text c.args.array.now (term_text (term_of c.args.index.now))) (term_text (term_of c.args.value.now)) c.in_ok-put_start.ensures c.in_ok-put_stored.ensures)
    c.put_end.ensures
