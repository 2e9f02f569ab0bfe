use Rattle.std.proofs.Common.{ℕ, codes, sym, ap, subst, ◌∙◌}
use Rattle.hpr_terms.specs.declared.expr.Binary.TheVariants.{Add, Mul}
use Rattle.hpr_syntax.specs.Tree.{Tree}
use Rattle.hpr_sample.specs.Draws.{Drawn}
use Rattle.hpr_sample.specs.Private.Making.{CanHave}
use Rattle.hpr_sample.specs.Sample.{base_of, groups, sample, with_part}
use Rattle.hpr_sample.proofs.SamplePrograms.{a_can, b_can}
use Rattle.hpr_sample.proofs.set.sample.Goals as goal

pub with_part-requires : goal.with_part-requires
with_part-requires c =
    subst (λ (t : Tree). CanHave t 2 (codes "a")) (ap (λ (d : Drawn Tree). d.made) c.in_ok-base.ensures) (a_can c.args.parts c.seed_from_u64-words.result c.requires)

pub with_part-requires-2 : goal.with_part-requires-2
with_part-requires-2 c =
    subst (λ (t : Tree). CanHave t 3 (codes "b")) (ap (λ (d : Drawn Tree). d.made) c.in_ok-base.ensures) (b_can c.args.parts c.seed_from_u64-words.result c.requires)

pub returns-clause-base : goal.returns-clause-base
unfolding sample
returns-clause-base c =
    let drawn = ap (λ (w : ℕ). base_of c.args.parts (groups c.args.parts 1 w)) (sym c.seed_from_u64-words.ensures.same) ∙ c.in_ok-base.ensures in
    sym (ap (λ (d : Drawn Tree). d.made) drawn)

pub returns-clause-a : goal.returns-clause-a
unfolding sample
returns-clause-a c =
    let drawn = ap (λ (w : ℕ). base_of c.args.parts (groups c.args.parts 1 w)) (sym c.seed_from_u64-words.ensures.same) ∙ c.in_ok-base.ensures in
    sym (ap (λ (d : Drawn Tree). (with_part 2 (codes "a") Add d.made d.words).made) drawn ∙ ap (λ (d : Drawn Tree). d.made) c.in_ok-a.ensures)

pub returns-clause-b : goal.returns-clause-b
unfolding sample
returns-clause-b c =
    let drawn = ap (λ (w : ℕ). base_of c.args.parts (groups c.args.parts 1 w)) (sym c.seed_from_u64-words.ensures.same) ∙ c.in_ok-base.ensures in
    sym (ap (λ (d : Drawn Tree). (with_part 3 (codes "b") Mul d.made (with_part 2 (codes "a") Add d.made d.words).words).made) drawn
    ∙ ap (λ (w : ℕ). (with_part 3 (codes "b") Mul c.in_ok-base.base w).made) (ap (λ (d : Drawn Tree). d.words) c.in_ok-a.ensures)
    ∙ ap (λ (d : Drawn Tree). d.made) c.in_ok-b.ensures)
