use Rattle.std.proofs.Common.{◌∙◌, ap, sym, Some}
use Rattle.hpr_scan.specs.declared.scanner.Lex.TheVariants.{Gap}
use Rattle.hpr_scan.specs.Scanner.{at}
use Rattle.hpr_script.specs.declared.found.Found.{Found}
use Rattle.hpr_script.specs.declared.stage.Stage.TheVariants.{AtCommand}
use Rattle.hpr_script.specs.Machine.{head}
use Rattle.hpr_script.proofs.Places.{content_fed}
use Rattle.hpr_script.proofs.reader.step_content.Goals as goal

pub returns-in-Ok-clause-feeds : goal.returns-in-Ok-clause-feeds
returns-in-Ok-clause-feeds c =
    let r = c.in-Ok.ensures in
    content_fed c.args.found c.args.holder c.args.bytes.now c.args.at c.in-Ok.place c.in-Ok.content r.within.0 r.within.1 r.content r.sign r.first
    ∙ ap (λ (f : Found). Some (at Gap (head f AtCommand))) (sym c.in_ok-found-in-Ok.ensures)
