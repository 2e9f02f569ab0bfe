use Rattle.std.proofs.Common.{◌≡◌, drop}
use Rattle.std.specs.List.{list_any}
use Rattle.hpr_scan.specs.Words.{begins_keyword}
use Rattle.hpr_scan.proofs.word.begins_keyword_of.Given as goal

abbrev pub invariant-loop-keyword : goal.invariant-loop-keyword
invariant-loop-keyword g l =
    list_any (begins_keyword g.M.TokenMachine.next l.machine l.word) l.keywords ≡ list_any (begins_keyword g.M.TokenMachine.next l.machine l.word) (drop l.keyword-index l.keywords)
