use Rattle.std.proofs.Common.{[], ◌∷◌, ◌∙◌}
use Rattle.hpr_graph.specs.ProgramGraph.{graph_of}
use Rattle.hpr_engine.proofs.KeptParts.{kept_by_all, kept_graph, marks_begun, no_vertex_marked, none_kept}
use Rattle.hpr_engine.proofs.kept.kept.Goals as goal

pub keep_program-requires : goal.keep_program-requires
keep_program-requires c =
    record { marks = marks_begun c.args.graph.now c.vertex_count.result c.in_ok-keep.keep.items c.in_ok-keep.ensures c.vertex_count.ensures }

pub keep_program-requires-2 : goal.keep_program-requires-2
keep_program-requires-2 c =
    let begun = marks_begun c.args.graph.now c.vertex_count.result c.in_ok-keep.keep.items c.in_ok-keep.ensures c.vertex_count.ensures in
    record { marks = c.in_ok-keep_program.ensures.marks ∙ begun }

pub returns-clause-count : goal.returns-clause-count
returns-clause-count c =
    c.in_ok-keep_program-2.ensures.marks ∙ c.in_ok-keep_program.ensures.marks
    ∙ marks_begun c.args.graph.now c.vertex_count.result c.in_ok-keep.keep.items c.in_ok-keep.ensures c.vertex_count.ensures

pub returns-clause-kept : goal.returns-clause-kept
returns-clause-kept c =
    let g = c.args.graph.now in
    let a = graph_of c.args.a.now in
    let b = graph_of c.args.b.now in
    let hs = a ∷ b ∷ [] in
    let none = c.in_ok-keep.keep.items in
    let first = c.keep_program.new.keep.items in
    let both = c.keep_program-2.new.keep.items in
    let start = c.new.result.keys in
    let taken = c.keep_program.new.taken.keys in
    let last = c.keep_program-2.new.taken.keys in
    let was = c.in_ok-keep_program.ensures in
    let is = c.in_ok-keep_program-2.ensures in
    let clear = no_vertex_marked g c.vertex_count.result none c.in_ok-keep.ensures in
    kept_by_all hs g last both
    (kept_graph hs [] b g taken last first both
    (kept_graph hs (b ∷ []) a g start taken none first (none_kept hs g start none c.new.ensures.empty clear) was.kept was.taken)
    is.kept is.taken)
