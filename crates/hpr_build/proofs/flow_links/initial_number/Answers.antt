use Rattle.std.proofs.Common.{◌≡◌, ◌+◌, ◌-◌, ℕ, Some, List, Contains, slice_get, refl, sym, subst, arith}
use Rattle.hpr_build.specs.Links.{first_init}
use Rattle.hpr_build.proofs.ControlFamily.{count_vertices}
use Rattle.hpr_build.proofs.flow_links.initial_number.Goals as goal

pub returns-in-Some-clause-some : goal.returns-in-Some-clause-some
returns-in-Some-clause-some c =
    let t = c.args.tables.now in
    let inits = t.inits.items in
    let x = c.args.name.now in
    let k = c.in-Some.place in
    let n : ℕ = t.vertex_count - c.len.result + k in
    let at : slice_get inits k ≡ Some x = subst (λ (xs : List (List ℕ)). slice_get xs k ≡ Some x) c.deref.ensures.value c.in-Some.ensures.some in
    let is : n ≡ first_init t.program.now + k
    = omega (arith, c.len.ensures, t.inits.ok.0, count_vertices t.program.now inits, c.requires.count) in
    (refl, (k, at, is))

pub returns-in-None-clause-none : goal.returns-in-None-clause-none
returns-in-None-clause-none c = λ h. c.in-None.ensures.none (subst (λ (xs : List (List ℕ)). Contains xs c.args.name.now) (sym c.deref.ensures.value) h)
