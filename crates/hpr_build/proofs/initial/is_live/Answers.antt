use Rattle.std.proofs.Common.{◌≡◌, ◌∙◌, Bool, Option, List, [], IfSome, length, sym, subst}
use Rattle.std.proofs.lemmas.Bool.{eqb-true}
use Rattle.std.proofs.lemmas.List.{nil_from_length}
use Rattle.hpr_build.specs.Variables.{IsFreeRow}
use Rattle.hpr_build.proofs.InitialNames.{live_by_row, undefined}
use Rattle.hpr_build.proofs.initial.is_live.Goals as goal

pub returns-in-Some : goal.returns-in-Some
returns-in-Some c =
    let s = c.args.succ.now in
    let x = c.args.name.now in
    let none : c.args.definitions.now ≡ [] = nil_from_length c.args.definitions.now (eqb-true (length c.args.definitions.now) 0 (sym c.is_empty.ensures ∙ c.if-is_empty.true)) in
    let free : IsFreeRow s c.in-Some.row = subst (λ (o : Option (List Bool)). IfSome o (IsFreeRow s)) c.in-Some.is c.requires.free in
    live_by_row s x c.in-Some.row c.args.users.now c.has_any.result (free x (undefined s x c.args.definitions.now c.requires.definitions none))
    c.requires.users c.has_any.ensures
