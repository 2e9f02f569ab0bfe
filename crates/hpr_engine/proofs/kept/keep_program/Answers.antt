use Rattle.std.proofs.Common.{◌∙◌}
use Rattle.std.proofs.lemmas.Result.{on_ok_weaker}
use Rattle.hpr_engine.proofs.KeptParts.{kept_of, listed_content, taken_of}
use Rattle.hpr_engine.proofs.kept.keep_program.Goals as goal

pub keep_free-requires-clause-contents : goal.keep_free-requires-clause-contents
keep_free-requires-clause-contents c = listed_content c.args.program.now c.deref.result.now c.body-body.ensures.program (c.deref.ensures.value ∙ c.in_ok-listed.ensures)

pub returns-clause-kept : goal.returns-clause-kept
returns-clause-kept c =
    on_ok_weaker c.keep_free.result
    (kept_of c.args.graph.now c.args.program.now c.deref.result.now (c.deref.ensures.value ∙ c.in_ok-listed.ensures) c.args.taken.now.keys c.args.keep.now.items c.keep_free.new.keep.items)
    c.keep_free.ensures.kept

pub returns-clause-taken : goal.returns-clause-taken
returns-clause-taken c =
    on_ok_weaker c.keep_free.result
    (taken_of c.args.graph.now c.args.program.now c.deref.result.now (c.deref.ensures.value ∙ c.in_ok-listed.ensures) c.args.taken.now.keys c.keep_free.new.taken.keys)
    c.keep_free.ensures.taken
