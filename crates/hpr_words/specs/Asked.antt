-- The request that read words stand for.
--
-- request asked == the request
use Rattle.std.specs.Prelude.{map}
use Rattle.hpr_words.specs.Request.{Request, affected, edit, graph, integrate, integrate_many, run, sample, slice, tag, trial, verify}
use Rattle.hpr_words.specs.declared.asked.Asked.{Asked}
use Rattle.hpr_words.specs.declared.asked.Asked.TheVariants as asked

abbrev pub request : Asked → Request
request (asked.Integrate base a b tries) = integrate base.now a.now b.now tries
request (asked.IntegrateMany base variants tries) = integrate_many base.now (map (λ s. s.now) variants.items) tries
request (asked.Run file states steps trace) = run file.now (map (λ s. s.now) states.items) steps trace
request (asked.Graph file json) = graph file.now json
request (asked.Slice file points program) = slice file.now (map (λ s. s.now) points.items) program
request (asked.Affected base a) = affected base.now a.now
request (asked.Trial base a b states steps) = trial base.now a.now b.now (map (λ s. s.now) states.items) steps
request (asked.Edit file script author) = edit file.now script.now author
request (asked.Tag file author) = tag file.now author
request (asked.Sample seed parts) = sample seed parts
request (asked.Verify base a b offered) = verify base.now a.now b.now offered.now
