use Rattle.hpr_decisions.specs.Outcome.{RequestOutcome}
use Rattle.hpr_decisions.specs.Reads.{MayRead}
use Rattle.hpr_words.specs.Asked.{request}
use Rattle.hpr_app.proofs.EndsLemmas.{ends_of, status_in_kind, unread_ends}
use Rattle.hpr_app.proofs.run_asked.Goals as goal

pub returns-clause-ends : goal.returns-clause-ends
returns-clause-ends g c = ends_of _ _ _ _ _ _ c.decide-answer.result c.write_answer.result c.decide-answer.ensures.answers c.write_answer.ensures

pub returns-clause-status : goal.returns-clause-status
returns-clause-status g c =
    status_in_kind (request c.args.asked) (g.S.Shelf.files c.args.shelf.now) _ _ _ _ c.write_answer.result c.decide-answer.result c.decide-answer.ensures.kind
    c.decide-answer.ensures.answers c.write_answer.ensures

pub returns-clause-unread : goal.returns-clause-unread
returns-clause-unread g c = λ none files.
    let unread = c.decide-answer.ensures.unread none in
    unread_ends (RequestOutcome (request c.args.asked) files) (MayRead (request c.args.asked) (g.S.Shelf.files c.args.shelf.now))
    (g.S.Shelf.faults c.args.shelf.now) (g.S.Shelf.faults c.decide-answer.new.shelf) _ _ c.decide-answer.result c.write_answer.result unread.0 (unread.1 files) c.write_answer.ensures

pub returns-clause-unread_count : goal.returns-clause-unread_count
returns-clause-unread_count g c = λ none. (c.decide-answer.ensures.unread none).0
