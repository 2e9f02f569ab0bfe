use Rattle.std.proofs.Common.{◌≡◌, ◌-◌, ◌≤◌, ℕ, subst}
use Rattle.hpr_graph.specs.Numbered.{graph_in}
use Rattle.hpr_forest.specs.Choices.{IsWhole}
use Rattle.hpr_forest.specs.Cuts.{AreSoMany, FindsFirst, FindsNone, FindsSpent, IsAmongFirst}
use Rattle.hpr_forest.specs.Finds.{IfFirst, IfNoneFits}
use Rattle.hpr_forest.specs.declared.fitting.Found.{Found}
use Rattle.hpr_forest.specs.declared.fitting.Found.TheVariants.{First, NoneFits}
use Rattle.hpr_region.specs.declared.plan.Plan.{Plan}
use Rattle.hpr_region.specs.Plans.{clash_in, may_follow, size_of}
use Rattle.hpr_rebuild.specs.Candidates.{FitsInOrder}
use Rattle.hpr_rebuild.proofs.Member.{none_has}
use Rattle.hpr_rebuild.proofs.Searched.{are, first_whole, found, found_within, leaves_spent, none_found, only_too, parts_too, so_many, tries_spent}
use Rattle.hpr_rebuild.proofs.search.first_candidate.Goals as goal

first_told : (f : Found) (n : ℕ) (P : ℕ → Type 0) → f ≡ First n → IfFirst f P → P n
first_told f n P is h = subst (λ (x : Found). IfFirst x P) is h

none_told : (f : Found) (n : ℕ) (P : ℕ → Type 0) → f ≡ NoneFits n → IfNoneFits f P → P n
none_told f n P is h = subst (λ (x : Found). IfNoneFits x P) is h

pub program-requires-clause-whole : goal.program-requires-clause-whole
program-requires-clause-whole c =
    let s = c.args.candidates in
    let plan = s.search.plan in
    let placed = c.first_fitting.new.search.search.placed in
    let (_, _, _, stays) = c.in-Ok-First.ensures.same in
    subst (λ (p : Plan). IsWhole (may_follow p) (size_of p) placed) stays
    (first_whole (may_follow plan) (FitsInOrder s.graph.now s.issued.now plan) (size_of plan) (clash_in plan) placed
    (first_told c.in-Ok-First.field-0 c.in-Ok-First.leaf (λ n. FindsFirst (may_follow plan) (FitsInOrder s.graph.now s.issued.now plan) (size_of plan) (clash_in plan) placed) c.in-Ok-First.field-0-is c.in-Ok-First.ensures.first))

pub returns-in-Ok-First-clause-found : goal.returns-in-Ok-First-clause-found
returns-in-Ok-First-clause-found c = λ rank is.
    let s = c.args.candidates in
    let t = c.first_fitting.new.search in
    let plan = s.search.plan in
    let sound = c.requires.sound in
    let listed = is.listed s.issued.now sound.proper sound.allowed in
    let placed = t.search.placed in
    let m = c.in_ok-program-in-Ok-First.field-0 in
    let (same, _, numbers_, stays) = c.in-Ok-First.ensures.same in
    found s.graph.now rank plan is s.issued.now listed (clash_in plan) c.args.tries placed m
    (only_too s.graph.now t.graph.now s.issued.now t.issued.now plan t.search.plan same numbers_ stays placed m c.in_ok-program-in-Ok-First.ensures.only)
    (first_told c.in-Ok-First.field-0 c.in-Ok-First.leaf (λ n. FindsFirst (may_follow plan) (FitsInOrder s.graph.now s.issued.now plan) (size_of plan) (clash_in plan) placed) c.in-Ok-First.field-0-is c.in-Ok-First.ensures.first)

pub returns-in-Ok-First-clause-found_within : goal.returns-in-Ok-First-clause-found_within
returns-in-Ok-First-clause-found_within c = λ rank is.
    let s = c.args.candidates in
    let t = c.first_fitting.new.search in
    let plan = s.search.plan in
    let listed = is.listed s.issued.now c.requires.sound.proper c.requires.sound.allowed in
    let placed = t.search.placed in
    let m = c.in_ok-program-in-Ok-First.field-0 in
    let (same, _, numbers_, stays) = c.in-Ok-First.ensures.same in
    found_within s.graph.now rank plan is s.issued.now listed c.in-Ok-First.leaf placed m
    (parts_too s.graph.now t.graph.now plan t.search.plan same stays placed m c.in_ok-program-in-Ok-First.ensures.parts)
    (first_told c.in-Ok-First.field-0 c.in-Ok-First.leaf (λ n. IsAmongFirst (may_follow plan) (size_of plan) (clash_in plan) n placed) c.in-Ok-First.field-0-is
    c.in-Ok-First.ensures.first_within)

pub returns-in-Ok-First-clause-found_least : goal.returns-in-Ok-First-clause-found_least
returns-in-Ok-First-clause-found_least c = λ rank is.
    let s = c.args.candidates in
    let listed = is.listed s.issued.now c.requires.sound.proper c.requires.sound.allowed in
    let plan = s.search.plan in
    leaves_spent s.graph.now rank plan is s.issued.now listed (c.in-Ok-First.leaf - 1)
    (first_told c.in-Ok-First.field-0 c.in-Ok-First.leaf (λ n. FindsSpent (may_follow plan) (FitsInOrder s.graph.now s.issued.now plan) (size_of plan) (clash_in plan) (n - 1)) c.in-Ok-First.field-0-is c.in-Ok-First.ensures.first_least)

pub returns-in-Ok-First-clause-found_tries : goal.returns-in-Ok-First-clause-found_tries
returns-in-Ok-First-clause-found_tries c =
    first_told c.in-Ok-First.field-0 c.in-Ok-First.leaf (λ n. n ≤ c.args.tries) c.in-Ok-First.field-0-is c.in-Ok-First.ensures.first_tries

pub returns-in-Ok-NoneFits-clause-no_program : goal.returns-in-Ok-NoneFits-clause-no_program
returns-in-Ok-NoneFits-clause-no_program c =
    let s = c.args.candidates in
    let sound = c.requires.sound in
    let (rank, is) = sound.plan_of in
    let listed = is.listed s.issued.now sound.proper sound.allowed in
    none_has (graph_in s.graph.now) rank s.issued.now listed.1 (are s.graph.now rank s.search.plan is s.issued.now listed) sound.proper sound.allowed
    (none_found s.graph.now rank s.search.plan is s.issued.now listed (clash_in s.search.plan)
    (none_told c.in-Ok-NoneFits.field-0 c.in-Ok-NoneFits.leaves (λ n. FindsNone (may_follow s.search.plan) (FitsInOrder s.graph.now s.issued.now s.search.plan)
    (size_of s.search.plan) (clash_in s.search.plan)) c.in-Ok-NoneFits.field-0-is c.in-Ok-NoneFits.ensures.none))

pub returns-in-Ok-NoneFits-clause-all : goal.returns-in-Ok-NoneFits-clause-all
returns-in-Ok-NoneFits-clause-all c = λ rank is.
    let s = c.args.candidates in
    let listed = is.listed s.issued.now c.requires.sound.proper c.requires.sound.allowed in
    so_many s.graph.now rank s.search.plan is s.issued.now listed c.in-Ok-NoneFits.leaves
    (none_told c.in-Ok-NoneFits.field-0 c.in-Ok-NoneFits.leaves (AreSoMany (may_follow s.search.plan) (size_of s.search.plan) (clash_in s.search.plan))
    c.in-Ok-NoneFits.field-0-is c.in-Ok-NoneFits.ensures.none_all)

pub returns-in-Ok-NoneFits-clause-all_tries : goal.returns-in-Ok-NoneFits-clause-all_tries
returns-in-Ok-NoneFits-clause-all_tries c =
    none_told c.in-Ok-NoneFits.field-0 c.in-Ok-NoneFits.leaves (λ n. n ≤ c.args.tries) c.in-Ok-NoneFits.field-0-is c.in-Ok-NoneFits.ensures.none_tries

pub returns-in-Ok-Spent-clause-spent : goal.returns-in-Ok-Spent-clause-spent
returns-in-Ok-Spent-clause-spent c = λ rank is.
    let s = c.args.candidates in
    let listed = is.listed s.issued.now c.requires.sound.proper c.requires.sound.allowed in
    tries_spent s.graph.now rank s.search.plan is s.issued.now listed c.args.tries (c.in-Ok-Spent.ensures.spent c.in-Ok-Spent.field-0-is)

pub returns-in-Ok-Spent-clause-leaves : goal.returns-in-Ok-Spent-clause-leaves
returns-in-Ok-Spent-clause-leaves c = λ rank is.
    let s = c.args.candidates in
    let listed = is.listed s.issued.now c.requires.sound.proper c.requires.sound.allowed in
    leaves_spent s.graph.now rank s.search.plan is s.issued.now listed c.args.tries (c.in-Ok-Spent.ensures.spent c.in-Ok-Spent.field-0-is)
