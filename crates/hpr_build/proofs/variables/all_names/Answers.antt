use Rattle.std.proofs.Common.{◌≡◌, ◌∙◌, List, ℕ, Contains, ap, map, sym, subst}
use Rattle.std.proofs.lemmas.List.{take_all}
use Rattle.hpr_terms.proofs.Facts.{in_map, map_in}
use Rattle.hpr_build.specs.declared.uses.Use.{Use}
use Rattle.hpr_build.proofs.variables.all_names.Goals as goal

abbrev name_of : Use → List ℕ
name_of u = u.name

pub returns : goal.returns
returns c = λ x.
    let uses = c.args.uses.now in
    let all : c.loop-one.names.items ≡ map name_of uses = c.loop-one.invariant ∙ ap (map name_of) (take_all c.loop-one.one-index uses c.loop-one-test.false) in (
      (λ h. map_in name_of uses x (subst (λ (xs : List (List ℕ)). Contains xs x) all h)),
      (λ (u, has, is). subst (λ (xs : List (List ℕ)). Contains xs x) (sym all) (subst (λ (y : List ℕ). Contains (map name_of uses) y) is (in_map name_of uses u has))),
    )
