use Rattle.std.proofs.Common.{◌+◌, ◌≤◌, length, rules}
use Rattle.hpr_syntax.specs.Issued.{issued_to}
use Rattle.hpr_graph.specs.Numbered.{graph_in}
use Rattle.hpr_graph.specs.Split.{max_serial}
use Rattle.hpr_split.specs.Marks.{IsUnmarked}
use Rattle.hpr_split.proofs.Answer.{answered_graph, answered_ranked, answered_once, answered_serials, answered_one_content, never_past}
use Rattle.hpr_split.proofs.tags.split.Goals as goal

pub split_by-requires-clause-parts : goal.split_by-requires-clause-parts
split_by-requires-clause-parts c = λ v h. ((c.in_ok-parts.ensures.1 v).0 h).1

pub returns-clause-graph : goal.returns-clause-graph
returns-clause-graph c = answered_graph c.args.graph.now c.in_ok-split_by.field-0.graph c.in_ok-split_by.field-0.renamed.items c.in_ok-split_by.ensures.numbers

pub returns-clause-ranked : goal.returns-clause-ranked
returns-clause-ranked c =
    answered_ranked c.args.graph.now c.in_ok-split_by.field-0.graph c.in_ok-split_by.field-0.renamed.items c.in_ok-split_by.ensures.numbers c.args.rank.now c.in_ok-split_by.field-0.rank.items c.in_ok-split_by.ensures.rank c.requires.ranked

pub returns-clause-once : goal.returns-clause-once
returns-clause-once c =
    answered_once c.args.graph.now c.args.keep.now c.args.rank.now c.args.issued.now c.in_ok-parts.parts.items c.in_ok-parts.ensures c.in_ok-split_by.field-0.renamed.items c.in_ok-split_by.ensures.renamed
    c.in_ok-split_by.field-0.rank.items c.in_ok-split_by.ensures.rank c.requires.serials c.requires.once

pub returns-clause-serials : goal.returns-clause-serials
returns-clause-serials c =
    answered_serials c.args.graph.now c.args.keep.now c.args.rank.now c.args.issued.now c.in_ok-parts.parts.items c.in_ok-parts.ensures c.in_ok-split_by.field-0.renamed.items c.in_ok-split_by.ensures.renamed
    c.in_ok-split_by.field-0.rank.items c.in_ok-split_by.ensures.rank c.requires.serials c.in_ok-split_by.field-0.issued c.in_ok-split_by.ensures.author c.in_ok-split_by.ensures.others

pub returns-clause-one_content : goal.returns-clause-one_content
returns-clause-one_content c =
    answered_one_content c.args.graph.now c.args.keep.now c.args.rank.now c.args.issued.now c.in_ok-parts.parts.items c.in_ok-parts.ensures c.in_ok-split_by.field-0.renamed.items c.in_ok-split_by.ensures.renamed
    c.in_ok-split_by.field-0.rank.items c.in_ok-split_by.ensures.rank c.requires.serials c.in_ok-split_by.field-0.graph c.in_ok-split_by.ensures.numbers c.vertices-vertices.ensures.numbered.once c.requires.ranked

pub returns-clause-none : goal.returns-clause-none
returns-clause-none c =
    let fits : issued_to 0 c.args.issued.now + length c.in_ok-parts.parts.items ≤ max_serial = search rules in (
      λ none. absurd cc,
      λ past. absurd (never_past (graph_in c.args.graph.now) (IsUnmarked c.args.graph.now c.args.keep.now) (issued_to 0 c.args.issued.now) c.in_ok-parts.parts.items c.in_ok-parts.ensures fits past),
    )

pub returns-clause-numbers : goal.returns-clause-numbers
returns-clause-numbers c = c.in_ok-split_by.ensures.numbers

pub returns-clause-rank : goal.returns-clause-rank
returns-clause-rank c = c.in_ok-split_by.ensures.rank

pub returns-clause-issued : goal.returns-clause-issued
returns-clause-issued c = c.in_ok-split_by.ensures.issued

pub returns-clause-author : goal.returns-clause-author
returns-clause-author c = c.in_ok-split_by.ensures.author

pub returns-clause-others : goal.returns-clause-others
returns-clause-others c = c.in_ok-split_by.ensures.others

pub split_by-requires-clause-ranked : goal.split_by-requires-clause-ranked
split_by-requires-clause-ranked c = c.requires.ranked

pub split_by-requires-clause-serials : goal.split_by-requires-clause-serials
split_by-requires-clause-serials c = c.requires.serials
