use Rattle.std.proofs.Common.{◌≡◌, ◌++◌, ap, ap₂, ◌∙◌, flat_map, map}
use Rattle.hpr_syntax.specs.Run.{run}
use Rattle.hpr_report.specs.Texts.{outcome_text}
use Rattle.hpr_meaning.specs.Instances.{instances}
use Rattle.hpr_meaning.specs.Items.{item_in}
use Rattle.hpr_inputs.specs.Decision.{prints}
use Rattle.hpr_app.specs.Private.ItemLine.{item_line}
use Rattle.hpr_decisions.specs.RunFile.{kind_of}
use Rattle.hpr_decisions.specs.TraceText.{trace_text}
use Rattle.hpr_app.proofs.TraceLemmas.{lines_of}
use Rattle.hpr_app.proofs.run.traced_run.Goals as goal

pub returns : goal.returns
returns c =
    let p = c.args.program.now in
    let s = c.args.state.now in
    let n = c.args.steps in
    let traced = c.in_ok-traced.ensures in
    let kinds = c.kind_of.ensures ∙ ap kind_of traced.outcome in
    let lines : c.in_ok-text.text.items ≡ trace_text (instances p s n) =
    c.in_ok-text.ensures ∙ ap (λ xs. flat_map item_line (map item_in xs)) c.deref.ensures.value ∙ lines_of _ _ traced.items in
    let went : c.deref-2.result.now ≡ outcome_text (run p s n) = c.deref-2.ensures.value ∙ c.in_ok-outcome.ensures ∙ ap outcome_text traced.outcome in
    ap₂ prints kinds (c.in_ok-extend_from_slice.ensures.items ∙ ap₂ (λ xs ys. xs ++ ys) lines went)
