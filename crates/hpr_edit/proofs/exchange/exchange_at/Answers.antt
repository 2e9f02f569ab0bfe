use Rattle.std.proofs.Common.{◌≡◌, ◌<◌, ap, sym, refl, ◌∙◌, arith, length, Some, None, slice_set}
use Rattle.hpr_syntax.specs.BodyOf.{body_of}
use Rattle.hpr_edit.specs.Changes.{from}
use Rattle.hpr_edit.specs.InPlace.{on_first, placing}
use Rattle.hpr_edit.proofs.Lists.{set_at_place, taken}
use Rattle.hpr_edit.proofs.exchange.exchange_at.Goals as goal

pub returns-in-Some-clause-changed : goal.returns-in-Some-clause-changed
returns-in-Some-clause-changed c =
    let at = c.args.at in
    let xs = c.args.stmts.now.items in
    let s = c.in-Some.part in
    let h : at < length xs = grind (arith, c.requires) in
    let e : c.args.hand.now ≡ Some s = sym c.take.ensures.value ∙ c.in-Some.is in
    ap (λ y. body_of (slice_set xs at y)) c.replace.ensures.after
    ∙ set_at_place (placing (Some s)) at xs s c.index_mut.result.now h (λ r. refl)
    ∙ ap (λ o. from at (on_first (placing o)) (body_of xs)) (sym e)

pub returns-in-None-clause-changed : goal.returns-in-None-clause-changed
returns-in-None-clause-changed c =
    let at = c.args.at in
    let xs = c.args.stmts.now.items in
    let h : at < length xs = grind (arith, c.requires) in
    let e : c.args.hand.now ≡ None = sym c.take.ensures.value ∙ c.in-None.is in
    ap body_of c.remove.ensures.items ∙ taken at xs c.remove.result h ∙ ap (λ o. from at (on_first (placing o)) (body_of xs)) (sym e)
