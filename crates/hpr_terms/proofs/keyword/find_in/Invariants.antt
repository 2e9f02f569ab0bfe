use Rattle.std.proofs.Common.{◌≡◌, drop}
use Rattle.std.specs.List.{find}
use Rattle.std.specs.Str.{bytes_eq}
use Rattle.hpr_terms.specs.Keywords.{keyword_text}
use Rattle.hpr_terms.proofs.keyword.find_in.Given as goal

abbrev pub invariant-loop-keyword : goal.invariant-loop-keyword
invariant-loop-keyword l =
    find (λ k. bytes_eq (keyword_text k) l.text) l.keywords ≡ find (λ k. bytes_eq (keyword_text k) l.text) (drop l.keyword-index l.keywords)
