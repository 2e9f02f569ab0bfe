use Rattle.std.proofs.Common.{◌≡◌}
use Rattle.hpr_syntax.specs.Grammar.{untagged}
use Rattle.hpr_syntax.specs.Print.{text}
use Rattle.hpr_refusals.specs.Refusals.{IsFileIn, IsRefusedIn}
use Rattle.hpr_inputs.specs.Decision.{prints}
use Rattle.hpr_inputs.specs.declared.answer.Kind.TheVariants.{Done}
use Rattle.hpr_inputs.proofs.ReadLemmas.{past_last_read}
use Rattle.hpr_decisions.proofs.KindLemmas.{in_kind, print_suits}
use Rattle.hpr_words.specs.Request.{tag}
use Rattle.hpr_app.proofs.tag.tag_file.Goals as goal

pub returns-clause-answers : goal.returns-clause-answers
returns-clause-answers g c =
    let form = untagged c.args.author in
    past_last_read (g.S.Shelf.files c.args.shelf.now) _ _ _ (IsRefusedIn form c.args.file.now) (IsFileIn form) c.args.file.now (λ p r. r ≡ prints Done (text p))
    c.in_ok-program.program c.print_program.result c.in_ok-program.ensures.reads.0 c.in_ok-program.ensures.reads.1 c.print_program.ensures

pub returns-clause-kind : goal.returns-clause-kind
returns-clause-kind g c =
    let request = tag c.args.file.now c.args.author in
    let bytes = text c.in_ok-program.program in
    in_kind request (λ r. r ≡ prints Done bytes) (print_suits request bytes) c.print_program.result c.print_program.ensures
