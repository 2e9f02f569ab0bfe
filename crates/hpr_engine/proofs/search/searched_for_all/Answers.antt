use Rattle.std.proofs.Common.{List, Bool, Contains, subst, sym}
use Rattle.std.proofs.lemmas.Result.{IfOk-weaker}
use Rattle.hpr_syntax.specs.Issued.{Issued}
use Rattle.hpr_graph.specs.Answer.{graphs_of, merged_of_all}
use Rattle.hpr_graph.specs.Numbered.{graph_in}
use Rattle.hpr_graph.specs.Split.{AreIssuedAmong}
use Rattle.hpr_split.specs.Marks.{IsUnmarked}
use Rattle.hpr_engine.specs.declared.search.Searched.{Searched}
use Rattle.hpr_engine.specs.Kept.{AreKeptBy}
use Rattle.hpr_engine.specs.Searched.{IsSearchedOf, IsSplitFrom}
use Rattle.hpr_engine.proofs.Premises.{ranking, ranking_same}
use Rattle.hpr_engine.proofs.SearchedFor.{rank_serials}
use Rattle.hpr_engine.proofs.SplitOff.{searched_from}
use Rattle.hpr_engine.proofs.search.searched_for_all.Goals as goal

pub split_off-requires-clause-ranking : goal.split_off-requires-clause-ranking
split_off-requires-clause-ranking c =
    let base = c.args.base.now in
    let vs = c.args.variants.now in
    ranking_same (graph_in c.args.graph) (merged_of_all base vs) c.requires.graph c.in_ok-rank.rank.items
    (ranking base vs c.in_ok-rank.rank.items c.in_ok-rank.ensures c.in_ok-issued.ensures.variants)

pub split_off-requires-clause-serials : goal.split_off-requires-clause-serials
split_off-requires-clause-serials c =
    let were = c.in_ok-issued.ensures in
    subst (λ (i : Issued). AreIssuedAmong (Contains c.in_ok-rank.rank.items) i) (sym were.numbers)
    (rank_serials c.args.base.now c.args.variants.now were.base were.variants c.in_ok-rank.rank.items c.in_ok-rank.ensures)

pub returns-clause-searched : goal.returns-clause-searched
returns-clause-searched c =
    let base = c.args.base.now in
    let vs = c.args.variants.now in
    let keep = c.deref.result.now in
    let merged : Searched = record { graph = c.args.graph; rank = c.in_ok-rank.rank; issued = c.in_ok-issued.issued; renamed = c.new.result } in
    IfOk-weaker c.split_off.result (λ s. IsSplitFrom merged (IsUnmarked c.args.graph keep) s) (λ s. IsSearchedOf base vs s)
    (λ s made.
    searched_from base vs c.requires.least keep merged s c.requires.graph c.in_ok-rank.ensures c.in_ok-issued.ensures.numbers
    (subst (λ (ms : List Bool). AreKeptBy (graphs_of vs) c.args.graph ms) (sym c.deref.ensures.value) c.in_ok-keep.ensures.kept) made)
    c.split_off.ensures.split
