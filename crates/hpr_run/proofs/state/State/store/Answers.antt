use Rattle.std.proofs.Common.{◌≡◌, ◌∙◌, ap, sym, rules, refl, Some, None, FitsSigned, w64}
use Rattle.std.specs.Option.{option_copied_mut}
use Rattle.std.proofs.lemmas.Int.{to_z-of_z}
use Rattle.std.proofs.lemmas.Result.{on_ok_weaker, on_err_weaker}
use Rattle.std.specs.FinMap as map
use Rattle.hpr_syntax.specs.Values.{value_at, elements_in}
use Rattle.hpr_syntax.proofs.StateLaws.{blank_elements}
use Rattle.hpr_run.proofs.States.{get-entries_of, insert-entries_of, kept-entries_of}
use Rattle.hpr_run.proofs.state.State.store.Goals as goal

pub returns-in-Some-clause-ok : goal.returns-in-Some-clause-ok
returns-in-Some-clause-ok c =
    let entries = c.self.inside.values.entries in
    let v = c.store.new.self in
    let updates = (c.get_mut.follows.holds v).3 (search rules) in
    let listed = sym c.get_mut.ensures.value ∙ ap option_copied_mut c.in-Some.is in
    let found : map.get c.args.self.now c.args.array.now ≡ Some c.in-Some.place.now = rw (← c.self.view_is) (get-entries_of c.args.array.now entries ∙ listed) in
    let worth : value_at c.args.self.now c.args.array.now ≡ c.in-Some.place.now = rw found refl in
    let fits : FitsSigned w64 c.args.number = search rules in
    on_ok_weaker c.store.result (λ new. let plain = rw to_z-of_z at new in rw (worth, ← plain, ← c.self.view_is) (insert-entries_of entries (c.get_mut.follows.lender v).entries c.args.array.now v updates.0)) c.store.ensures.ok

pub returns-in-Some-clause-err : goal.returns-in-Some-clause-err
returns-in-Some-clause-err c =
    let entries = c.self.inside.values.entries in
    let v = c.store.new.self in
    let updates = (c.get_mut.follows.holds v).3 (search rules) in
    let listed = sym c.get_mut.ensures.value ∙ ap option_copied_mut c.in-Some.is in
    on_err_weaker c.store.result (λ same. rw (← c.self.view_is) (kept-entries_of entries (c.get_mut.follows.lender v).entries c.args.array.now v (listed ∙ ap Some (sym same)) updates.0)) c.store.ensures.err

pub returns-clause-ok : goal.returns-clause-ok
returns-clause-ok c =
    let fits : FitsSigned w64 c.args.number = search rules in
    let entries = c.self.inside.values.entries in
    let unlisted = sym c.get_mut.ensures.value ∙ ap option_copied_mut c.in_default.is in
    let none : map.get c.args.self.now c.args.array.now ≡ None = rw (← c.self.view_is) (get-entries_of c.args.array.now entries ∙ unlisted) in
    let nothing : elements_in (value_at c.args.self.now c.args.array.now) ≡ map.empty = rw none (blank_elements c.args.array.now) in
    let stored = rw (to_z-of_z, c.new.ensures) at c.in_ok-store.ensures.ok in
    rw (nothing, ← stored) (search rules)
