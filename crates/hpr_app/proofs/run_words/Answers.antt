use Rattle.std.proofs.Common.{◌≡◌, All, IfSome, IsTrue, ap, subst, sym, Err}
use Rattle.hpr_decisions.specs.Reads.{ReadsNothing, files_of_taken}
use Rattle.hpr_decisions.specs.Statuses.{IsStatusOf}
use Rattle.hpr_decisions.proofs.EndsLemmas.{Ends-for, Unread-for}
use Rattle.hpr_app.proofs.EndsLemmas.{memory_ends, memory_status, unread_words_end, words_end}
use Rattle.hpr_app.proofs.run_words.Goals as goal

pub run_asked-requires-clause-serves : goal.run_asked-requires-clause-serves
run_asked-requires-clause-serves g c = subst (λ o. All (λ name. IsTrue (g.S.Shelf.serves c.args.shelf.now name)) (files_of_taken o)) c.in-Ok.ensures.taken c.requires

pub returns-in-Ok-clause-ends : goal.returns-in-Ok-clause-ends
returns-in-Ok-clause-ends g c = Ends-for _ _ _ _ _ _ _ _ (sym c.in-Ok.ensures.taken) c.run_asked.ensures.ends

pub returns-in-Ok-clause-status : goal.returns-in-Ok-clause-status
returns-in-Ok-clause-status g c = subst (λ o. IfSome o (λ asked. IsStatusOf asked c.run_asked.result)) (sym c.in-Ok.ensures.taken) c.run_asked.ensures.status

pub returns-in-Ok-clause-unread : goal.returns-in-Ok-clause-unread
returns-in-Ok-clause-unread g c = Unread-for _ _ _ _ _ _ _ _ (sym c.in-Ok.ensures.taken) c.run_asked.ensures.unread

pub returns-in-Ok-clause-unread_count : goal.returns-in-Ok-clause-unread_count
returns-in-Ok-clause-unread_count g c =
    subst (λ o. ReadsNothing o → g.S.Shelf.faults c.run_asked.new.shelf ≡ g.S.Shelf.faults c.args.shelf.now) (sym c.in-Ok.ensures.taken) c.run_asked.ensures.unread_count

pub returns-in-Err-Refused-clause-ends : goal.returns-in-Err-Refused-clause-ends
returns-in-Err-Refused-clause-ends g c =
    words_end _ _ _ _ _ _ (c.in-Err-Refused.ensures.refused (ap Err c.in-Err-Refused.field-0-is)) c.write_message.ensures

pub returns-in-Err-Refused-clause-status : goal.returns-in-Err-Refused-clause-status
returns-in-Err-Refused-clause-status g c = rw (c.in-Err-Refused.ensures.refused (ap Err c.in-Err-Refused.field-0-is)) tt

pub returns-in-Err-Refused-clause-unread : goal.returns-in-Err-Refused-clause-unread
returns-in-Err-Refused-clause-unread g c = λ none files.
    unread_words_end _ (g.S.Shelf.files c.args.shelf.now) files _ _ _ _ (c.in-Err-Refused.ensures.refused (ap Err c.in-Err-Refused.field-0-is)) c.write_message.ensures

pub returns-in-Err-Memory-clause-status : goal.returns-in-Err-Memory-clause-status
returns-in-Err-Memory-clause-status g c = memory_status _ c.write_answer.result c.write_answer.ensures.0

pub returns-in-Err-Memory-clause-unread : goal.returns-in-Err-Memory-clause-unread
returns-in-Err-Memory-clause-unread g c = λ none files. memory_ends _ _ _ _ _ _ c.write_answer.result c.write_answer.ensures
