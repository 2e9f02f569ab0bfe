use Rattle.std.proofs.Common.{refl}
use Rattle.hpr_kit.specs.Private.Replies.{seen}
use Rattle.hpr_kit.proofs.EndsLemmas.{reply_ends, stop_ends, taken_nothing}
use Rattle.hpr_kit.proofs.TakenLemmas.{stopped_taken, write_taken}
use Rattle.hpr_kit.proofs.run_asked.Goals as goal

pub decide-requires-clause-names : goal.decide-requires-clause-names
decide-requires-clause-names g c = c.requires.names

pub decide-requires-clause-in_range : goal.decide-requires-clause-in_range
decide-requires-clause-in_range g c = c.requires.in_range

pub returns-in-Ok-clause-ends : goal.returns-in-Ok-clause-ends
returns-in-Ok-clause-ends g c = reply_ends _ _ _ _ _ _ _ _ c.write_reply.result c.in-Ok.ensures.decides.0 c.in-Ok.ensures.decides.1 c.write_reply.ensures

pub returns-in-Err-clause-ends : goal.returns-in-Err-clause-ends
returns-in-Err-clause-ends g c = stop_ends _ _ _ _ _ _ _ c.in-Err.stop c.write_stop.result c.in-Err.ensures.decides c.write_stop.ensures.status refl (refl, taken_nothing _) c.write_stop.ensures.says

pub returns-in-Ok-clause-taken : goal.returns-in-Ok-clause-taken
returns-in-Ok-clause-taken g c = write_taken (seen c.in-Ok.reply) c.write_reply.result _ _ _ c.in-Ok.ensures.taken c.write_reply.ensures

pub returns-in-Err-clause-taken : goal.returns-in-Err-clause-taken
returns-in-Err-clause-taken g c = stopped_taken c.in-Err.stop c.write_stop.result c.write_stop.ensures.status
