use Rattle.std.proofs.Common.{◌≡◌, ◌<◌, Some, length, vec_len, refl, sym, ap, ◌∙◌, arith, rules}
use Rattle.std.proofs.Common.{set}
use Rattle.hpr_region.specs.Flows.{variable_of}
use Rattle.hpr_region.proofs.Latest.{pushed_definition, pushed_other, read_is}
use Rattle.hpr_region.proofs.summary.Summary.push.Goals as goal

pub returns-in_default : goal.returns-in_default
returns-in_default c = λ q is fresh. pushed_other c.args.plan.now.flows c.args.self.now q c.args.item (sym c.variable.ensures ∙ c.in_default.is) is

pub returns : goal.returns
returns c = λ q is fresh.
    let s = c.args.self.now in
    let t = c.args.plan.now.flows in
    let u = c.in-Some.variable in
    let defines : variable_of t c.args.item ≡ Some u = sym c.variable.ensures ∙ c.in-Some.is in
    let l : length s.last.items ≡ vec_len s.last = search rules in
    let k : length s.earlier.items ≡ vec_len s.earlier = search rules in
    let small : u < length s.last.items = (let lt = t.named c.args.item u defines in let n = c.requires.sized.names in omega (arith, lt, n, l)) in
    let within : c.args.item < length s.earlier.items = (let lt = c.requires.item in let n = c.requires.sized.items in omega (arith, lt, n, k)) in
    pushed_definition t s _ q c.args.item u defines small within fresh (record { names = c.requires.sized.names; items = c.requires.sized.items })
    (ap (λ o. set s.earlier.items c.args.item o) (read_is s.last.items u c.index.result.now small c.index.ensures)) refl is
