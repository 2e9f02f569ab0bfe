use Rattle.std.proofs.Common.{List, Contains, ap, is_some, subst, sym}
use Rattle.hpr_terms.specs.declared.tag.Tag.{Tag}
use Rattle.hpr_syntax.specs.declared.rows.Content.{Content}
use Rattle.hpr_graph.specs.declared.vertex.Vertex.{Vertex}
use Rattle.hpr_graph.specs.declared.vertex.Vertex.TheVariants.{Part}
use Rattle.hpr_graph.specs.Numbered.{HasVertex}
use Rattle.hpr_graph.specs.Split.{AreIssuedAmong}
use Rattle.hpr_engine.proofs.SplitOff.{split_none, split_nothing, split_some, some_issued}
use Rattle.hpr_engine.proofs.search.split_off.Goals as goal

pub split-requires-clause-ranked : goal.split-requires-clause-ranked
split-requires-clause-ranked c =
    subst (λ (r : List Vertex). (t : Tag) (d : Content) → HasVertex c.args.merged.graph (Part t d) → Contains r (Part t d)) (sym c.deref.ensures.value) c.requires.ranking.all

pub split-requires-clause-serials : goal.split-requires-clause-serials
split-requires-clause-serials c = subst (λ (r : List Vertex). AreIssuedAmong (Contains r) c.args.merged.issued) (sym c.deref.ensures.value) c.requires.serials

pub returns-in-Some-clause-split : goal.returns-in-Some-clause-split
returns-in-Some-clause-split c =
    let is = c.in_ok-graph.ensures in
    split_some c.args.merged c.args.keep.now c.deref.result.now c.deref.ensures.value c.in_ok-graph.field-0 c.in-Some.field-0 c.in-Some.is is.renamed is.graph is.rank is.issued is.none

pub returns-in-Some-clause-issued : goal.returns-in-Some-clause-issued
returns-in-Some-clause-issued c =
    let is = c.in_ok-graph.ensures in
    some_issued c.in_ok-graph.field-0 c.in-Some.field-0 c.in-Some.is is.ranked is.serials

pub returns-in-None-clause-split : goal.returns-in-None-clause-split
returns-in-None-clause-split c = split_none c.args.merged c.args.keep.now c.requires.none_yet (c.in_ok-graph.ensures.none.0 (ap is_some c.in-None.is))

pub returns-in-None-clause-issued : goal.returns-in-None-clause-issued
returns-in-None-clause-issued c = λ t d has. c.requires.serials t d (c.requires.ranking.all t d has)

pub returns-then-are_kept-clause-split : goal.returns-then-are_kept-clause-split
returns-then-are_kept-clause-split c =
    split_nothing c.args.merged c.args.keep.now c.requires.none_yet c.read_issued.ensures.numbers c.vertices.result.now c.vertices.ensures.vertices (c.are_kept.ensures c.if-are_kept.true)

pub returns-then-are_kept-clause-issued : goal.returns-then-are_kept-clause-issued
returns-then-are_kept-clause-issued c = λ t d has. c.requires.serials t d (c.requires.ranking.all t d has)
