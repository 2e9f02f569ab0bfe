use Rattle.std.proofs.Common.{IsTrue, Err, ap, refl, subst, sym}
use Rattle.hpr_words.specs.Request.{Text}
use Rattle.hpr_kit.specs.Comes.{Names}
use Rattle.hpr_kit.proofs.EndsLemmas.{ends_for, memory_ends, taken_nothing, words_end}
use Rattle.hpr_kit.proofs.run_words.Goals as goal

pub run_asked-requires-clause-in_range : goal.run_asked-requires-clause-in_range
run_asked-requires-clause-in_range g c = c.in-Ok.ensures.in_range

pub run_asked-requires-clause-names : goal.run_asked-requires-clause-names
run_asked-requires-clause-names g c = subst (λ o. (name : Text) → Names o name → IsTrue (g.S.Shelf.serves c.args.shelf.now name)) c.in-Ok.ensures.taken c.requires

pub returns-in-Ok-clause-ends : goal.returns-in-Ok-clause-ends
returns-in-Ok-clause-ends g c = ends_for _ _ _ _ _ _ _ _ _ (sym c.in-Ok.ensures.taken) c.run_asked.ensures.ends

pub returns-in-Err-Refused-clause-ends : goal.returns-in-Err-Refused-clause-ends
returns-in-Err-Refused-clause-ends g c =
    words_end _ _ _ _ _ _ (c.in-Err-Refused.ensures.refused (ap Err c.in-Err-Refused.field-0-is)) refl refl (refl, taken_nothing _) c.write_message.ensures

pub returns-in-Err-Memory-clause-ends : goal.returns-in-Err-Memory-clause-ends
returns-in-Err-Memory-clause-ends g c = memory_ends _ _ _ _ _ _ _ c.write_stop.result c.write_stop.ensures.status refl (refl, taken_nothing _) c.write_stop.ensures.says
