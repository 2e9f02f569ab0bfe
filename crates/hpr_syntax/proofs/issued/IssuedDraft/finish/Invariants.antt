use Rattle.std.proofs.Common.{◌≡◌, drop, []}
use Rattle.hpr_syntax.specs.Issued.{raised_by}
use Rattle.hpr_syntax.proofs.issued.IssuedDraft.finish.Given as goal

abbrev pub invariant-loop-author : goal.invariant-loop-author
invariant-loop-author l = raised_by (drop l.author-index l.author-items) l.issued ≡ raised_by l.author-items []
