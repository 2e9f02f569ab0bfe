use Rattle.std.proofs.Common.{◌↔◌, ◌+◌, ℕ, List, Contains, ap, sym, subst, arith}
use Rattle.hpr_paths.specs.Spots.{Spot, UsesAt}
use Rattle.hpr_build.specs.Links.{exit_of}
use Rattle.hpr_build.specs.Uses.{AreApart, AreUsersBy}
use Rattle.hpr_build.specs.Variables.{AreDefinitions, points_at}
use Rattle.hpr_build.proofs.UseRows.{used_at, used_names, uses_apart}
use Rattle.hpr_build.proofs.variables.variables_of.Goals as goal

pub users_of-requires-clause-apart : goal.users_of-requires-clause-apart
users_of-requires-clause-apart c =
    let t = c.args.program.now in
    subst (λ (n : ℕ). AreApart n c.args.uses.now) (sym (ap (λ (n : ℕ). n + 1) c.part_count-exit.ensures.count)) (uses_apart t c.args.uses.now c.requires.uses c.body-body.ensures.program)

pub returns-clause-names : goal.returns-clause-names
returns-clause-names c = λ x.
    let same = c.in_ok-names.ensures.same x in
    let all = c.in_ok-all_names.ensures x in
    let used = used_names c.args.program.now c.args.uses.now c.requires.uses x in
    subst (λ (s : List Spot). Contains c.in_ok-names.names.items x ↔ ((p : ℕ) × UsesAt s p x)) (sym c.requires.succ)
    ((λ h. used.0 (all.0 (same.0 h))), (λ h. same.1 (all.1 (used.1 h))))

pub returns-clause-definition_rows : goal.returns-clause-definition_rows
returns-clause-definition_rows c = omega (arith, c.in_ok-definitions.ensures.len, c.deref.ensures.len)

pub returns-clause-definitions : goal.returns-clause-definitions
returns-clause-definitions c =
    let P : List (List ℕ) → Type 0 = λ names. AreDefinitions c.args.succ.now names c.in_ok-definitions.definitions.items in
    subst P c.deref.ensures.value c.in_ok-definitions.ensures.exact

pub returns-clause-user_rows : goal.returns-clause-user_rows
returns-clause-user_rows c = omega (arith, c.in_ok-users.ensures.len, c.deref-2.ensures.len)

pub returns-clause-users : goal.returns-clause-users
returns-clause-users c = λ i x get.
    let t = c.args.program.now in
    let uses = c.args.uses.now in
    let rows = c.in_ok-users.users.items in
    let names = c.in_ok-names.names.items in
    let by : AreUsersBy (exit_of t) uses names rows =
    subst (λ (n : ℕ). AreUsersBy n uses names rows) (ap (λ (n : ℕ). n + 1) c.part_count-exit.ensures.count)
    (subst (λ (ns : List (List ℕ)). AreUsersBy (c.part_count-exit.result + 1) uses ns rows) c.deref-2.ensures.value c.in_ok-users.ensures.exact) in
    let (once, at) = by i x get in (
      once,
      λ p. subst (λ (s : List Spot). Contains (points_at rows i) p ↔ UsesAt s p x) (sym c.requires.succ) (
        (λ h. (used_at t uses c.requires.uses x p).0 ((at p).0 h)),
        (λ h. (at p).1 ((used_at t uses c.requires.uses x p).1 h)),
      ),
    )
