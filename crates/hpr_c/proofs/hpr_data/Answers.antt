use Rattle.std.proofs.Common.{◌∙◌, subst, sym}
use Rattle.hpr_c.specs.Data.{TellsData}
use Rattle.hpr_c.proofs.hpr_data.Goals as goal

pub returns-clause-does : goal.returns-clause-does
returns-clause-does c texts files is =
    let line = c.data_given-line.result in (
      line.text.items,
      c.hand_line.ensures.out,
      subst (λ n. TellsData texts files n line.text.items) (sym c.hand_line.ensures.number) (c.data_given-line.ensures.does texts files is),
    )

pub returns-clause-keeps : goal.returns-clause-keeps
returns-clause-keeps c texts files request is so asked e =
    let line = c.data_given-line.result in (
      line.text.items,
      c.hand_line.ensures.out,
      c.data_given-line.ensures.keeps texts files request is so asked (sym c.hand_line.ensures.number ∙ e),
    )
