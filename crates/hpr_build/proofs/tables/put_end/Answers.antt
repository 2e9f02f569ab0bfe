use Rattle.std.proofs.Common.{◌≡◌, ◌<◌, ℕ, Some, List, length, get_or, set, slice_get, ap, ◌∙◌, arith}
use Rattle.std.proofs.lemmas.List.{get_or-set_same}
use Rattle.std.proofs.lemmas.Option.{slice_get_within}
use Rattle.hpr_terms.proofs.Facts.{contains_at}
use Rattle.hpr_graph.proofs.NamesOnce.{names_once}
use Rattle.hpr_build.proofs.tables.put_end.Goals as goal

pub returns-in-Some-clause-here : goal.returns-in-Some-clause-here
returns-in-Some-clause-here c = λ high i get.
    let names = c.args.names.now in
    let numbers = c.args.numbers.now.items in
    let at = c.in-Some.at in
    let x : List ℕ = c.args.one.now.name in
    let number : ℕ = c.args.one.now.number in
    let found : slice_get names at ≡ Some x = c.in-Some.ensures.some in
    let same : i ≡ at = names_once names c.requires.names i at x get found in
    let low : at < length numbers = omega (arith, slice_get_within names at x found, c.requires.len, c.args.numbers.now.ok.0) in
    ap (λ (k : ℕ). get_or (set numbers at number) k 0) same ∙ get_or-set_same numbers at number 0 low

pub returns-in-None-clause-here : goal.returns-in-None-clause-here
returns-in-None-clause-here c = λ high i get. absurd (c.in-None.ensures.none (contains_at c.args.names.now i c.args.one.now.name get))
