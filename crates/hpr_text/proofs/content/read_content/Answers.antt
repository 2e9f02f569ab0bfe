use Rattle.hpr_text.proofs.Contents.{text_from, sign_at, none_before, place_from}
use Rattle.hpr_text.proofs.content.read_content.Goals as goal

pub returns-in-Ok-clause-content : goal.returns-in-Ok-clause-content
returns-in-Ok-clause-content c = text_from c.args.bytes.now c.args.start c.in-Ok.at c.in-Ok.state c.ended.result c.in-Ok.ensures.reads c.ended.ensures

pub returns-in-Ok-clause-sign : goal.returns-in-Ok-clause-sign
returns-in-Ok-clause-sign c =
    sign_at c.args.bytes.now c.args.start c.in-Ok.at c.in-Ok.state c.ended.result c.in-Ok.ensures.within c.in-Ok.ensures.reads c.ended.ensures c.in-Ok.ensures.shortest

pub returns-in-Ok-clause-first : goal.returns-in-Ok-clause-first
returns-in-Ok-clause-first c = none_before c.args.bytes.now c.args.start c.in-Ok.at c.in-Ok.ensures.shortest

pub returns-in-Err-Stuck-clause-syntax : goal.returns-in-Err-Stuck-clause-syntax
returns-in-Err-Stuck-clause-syntax c =
    let stuck = rw c.in-Err-Stuck.field-0-is at c.in-Err-Stuck.ensures.place in
    place_from c.args.bytes.now c.args.start c.in-Err-Stuck.place stuck
