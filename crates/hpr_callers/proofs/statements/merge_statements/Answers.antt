use Rattle.std.proofs.Common.{ℕ, List, sym, subst}
use Rattle.hpr_terms.specs.declared.limits.TheConstants.{DEFAULT_TRIES}
use Rattle.hpr_syntax.specs.Grammar.{tagged}
use Rattle.hpr_syntax.specs.Spelling.{Spells}
use Rattle.hpr_syntax.proofs.TextSpells.{text_spells}
use Rattle.hpr_engine.proofs.OneAnswer.{printed_fits}
use Rattle.hpr_callers.proofs.statements.merge_statements.Goals as goal

pub returns : goal.returns
returns g c = record {
  base_program = c.in_ok-base.base;
  a_program = c.in_ok-a.a;
  b_program = c.in_ok-b.b;
  merged_program = c.in_ok-merged.merged;
  base_is = c.in_ok-base.ensures.spelled;
  a_is = c.in_ok-a.ensures.spelled;
  b_is = c.in_ok-b.ensures.spelled;
  merged_is = subst (λ (x : List ℕ). Spells tagged x c.in_ok-merged.merged) (sym c.in_ok-text.ensures) (text_spells c.in_ok-merged.merged (printed_fits c.in_ok-base.base c.in_ok-a.a c.in_ok-b.b DEFAULT_TRIES c.in_ok-merged.merged c.in_ok-merged.ensures.printed).0);
  keeps = c.in_ok-merged.ensures.keeps;
}
