use Rattle.std.proofs.Common.{◌++◌, ◌∙◌, take, ap, arith, ◌≡◌, ◌-◌, min, length}
use Rattle.hpr_io.specs.Fakes.{SinkState, put_count}
use Rattle.hpr_io.proofs.memory_sink.MemorySinkSink.put.Goals as goal

pub returns-clause-bytes : goal.returns-clause-bytes
returns-clause-bytes c = c.in-Ok.ensures.items ∙ ap (λ (s : SinkState). s.taken ++ take c.min-count.result c.args.piece.now) c.self.view_is

pub returns-clause-most : goal.returns-clause-most
returns-clause-most c = let e = ap (λ (s : SinkState). put_count s c.args.piece.now) c.self.view_is in omega (arith, e)

pub returns-clause-within : goal.returns-clause-within
returns-clause-within c =
    let one : c.min.result ≡ min (length c.args.piece.now) c.self.inside.step = c.min.ensures in
    let both : c.min-count.result ≡ min c.min.result (c.self.inside.room - c.len.result) = c.min-count.ensures in
    omega (arith, one, both)
