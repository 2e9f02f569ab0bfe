use Rattle.std.proofs.Common.{ℕ, ◌↔◌, ◌⊎◌, inl, inr, Option, OnOk, sym, subst}
use Rattle.hpr_search.specs.Marks.{IsMarked}
use Rattle.hpr_located.specs.declared.located.Located.{Located}
use Rattle.hpr_impact.specs.Private.Marking.{IsLineOf}
use Rattle.hpr_impact.proofs.marks.mark_place.Goals as goal

pub returns-in-Some : goal.returns-in-Some
returns-in-Some c =
    subst (λ (o : Option Located). OnOk c.mark_line.result ((n : ℕ) → IsMarked c.mark_line.new.marks.items n ↔ (IsMarked c.args.marks.now.items n ⊎ IsLineOf o n))) (sym c.in-Some.is) c.mark_line.ensures

pub returns-in-None : goal.returns-in-None
returns-in-None c = λ n. (λ m. inl m, λ h. elim h [ inl m ↦ m | inr e ↦ absurd (subst (λ (o : Option Located). IsLineOf o n) c.in-None.is e) ])
