use Rattle.std.proofs.Common.{◌∙◌}
use Rattle.hpr_graph.specs.Answer.{graphs_of}
use Rattle.hpr_engine.proofs.KeptParts.{kept_variant, kept_variants, marks_begun, no_vertex_marked, none_kept}
use Rattle.hpr_engine.proofs.kept.kept_of_all.Goals as goal

pub loop-variant-init : goal.loop-variant-init
loop-variant-init c =
    let g = c.args.graph.now in
    let keep = c.in_ok-keep.keep.items in (
      marks_begun g c.vertex_count.result keep c.in_ok-keep.ensures c.vertex_count.ensures,
      none_kept (graphs_of c.args.variants.now) g c.new.result.keys keep c.new.ensures.empty (no_vertex_marked g c.vertex_count.result keep c.in_ok-keep.ensures),
    )

pub keep_program-requires : goal.keep_program-requires
keep_program-requires c = record { marks = c.loop-variant.invariant.0 }

pub loop-variant-preserved : goal.loop-variant-preserved
loop-variant-preserved c =
    let more = c.in_ok-keep_program.ensures in (
      more.marks ∙ c.loop-variant.invariant.0,
      kept_variant c.args.graph.now c.args.variants.now c.loop-variant.variant-index c.loop-variant.taken.tags.keys c.loop-variant.keep.items c.loop-variant.invariant.1 c.variant-item.result
          c.keep_program.new.taken.keys c.keep_program.new.keep.items c.loop-variant-test.true c.variant-item.is more.kept more.taken,
    )

pub returns-clause-kept : goal.returns-clause-kept
returns-clause-kept c =
    kept_variants c.args.graph.now c.args.variants.now c.loop-variant.variant-index c.loop-variant.taken.tags.keys c.loop-variant.keep.items c.loop-variant.invariant.1 c.loop-variant-test.false

pub returns-clause-count : goal.returns-clause-count
returns-clause-count c = c.loop-variant.invariant.0
