use Rattle.std.proofs.Common.{ℕ, ◌<◌, ◌≤◌, sym, ap, subst, ◌∙◌}
use Rattle.hpr_terms.specs.declared.limits.TheConstants.{TAG_NUMBERS}
use Rattle.hpr_tagging.specs.Tagging.{numbering_of}
use Rattle.hpr_tagging.proofs.Whole.{changes_are, last_is}
use Rattle.hpr_tagging.proofs.reader.changes_in.Goals as goal

pub returns-in-None-clause-spent : goal.returns-in-None-clause-spent
returns-in-None-clause-spent c =
    subst (λ (n : ℕ). TAG_NUMBERS ≤ n) (last_is c.args.author c.args.text.now _ (c.deref.ensures.value ∙ c.in_ok-lexemes.ensures)) c.in-None.ensures.spent

pub returns-clause-changes : goal.returns-clause-changes
returns-clause-changes c =
    changes_are c.args.author c.args.text.now _ _ _ (c.deref-in-Some.ensures.value ∙ c.in_ok-lexemes.ensures)
    (c.in-Some.ensures.numbering ∙ ap (numbering_of c.args.author) (c.deref.ensures.value ∙ sym c.deref-in-Some.ensures.value))
    c.in_ok-changes_of-in-Some.ensures

pub returns-clause-suffice : goal.returns-clause-suffice
returns-clause-suffice c =
    subst (λ (n : ℕ). n < TAG_NUMBERS) (last_is c.args.author c.args.text.now _ (c.deref.ensures.value ∙ c.in_ok-lexemes.ensures)) c.in-Some.ensures.suffice
