use Rattle.std.proofs.Common.{◌≡◌, ◌<◌, List, [], ◌∷◌, arith, length, map, sym, ◌∙◌}
use Rattle.std.proofs.lemmas.List.{get_or-map, length-map}
use Rattle.hpr_syntax.specs.Tree.{Tree}
use Rattle.hpr_engine.specs.Limit.{IsFirstTooLargeOf}
use Rattle.hpr_data.proofs.VerifyLemmas.{first_within, four, large_found, numbered, verdict_found}
use Rattle.hpr_data.proofs.verify.verdict_of.Goals as goal

pub returns-in-Ok : goal.returns-in-Ok
returns-in-Ok c =
    let names = map (λ t. t.now) c.args.names.now in
    let p = c.base-item.result in
    let q = c.a-item.result in
    let s = c.b-item.result in
    let o = c.offered-item.result in
    let ps : List Tree = c.args.programs.now in
    let are = four ps p q s o c.requires.programs c.base-item.is c.a-item.is c.b-item.is c.offered-item.is in
    verdict_found names ps p q s o are c.in-Ok.verdict c.in-Ok.ensures.within c.in-Ok.ensures.verdict

pub returns-in-Err-TooManyEdges : goal.returns-in-Err-TooManyEdges
returns-in-Err-TooManyEdges c =
    let names = map (λ t. t.now) c.args.names.now in
    let p = c.base-item.result in
    let q = c.a-item.result in
    let s = c.b-item.result in
    let o = c.offered-item.result in
    let ps : List Tree = c.args.programs.now in
    let number = c.in-Err-TooManyEdges.number in
    let are = four ps p q s o c.requires.programs c.base-item.is c.a-item.is c.b-item.is c.offered-item.is in
    let large : IsFirstTooLargeOf (p ∷ q ∷ s ∷ o ∷ []) number = numbered (IsFirstTooLargeOf (p ∷ q ∷ s ∷ o ∷ [])) c.in-Err-TooManyEdges.field-0 number c.in-Err-TooManyEdges.field-0-is c.in-Err-TooManyEdges.ensures.too_many in
    let four_names : length c.args.names.now ≡ 4 = c.requires.names in
    let less = first_within (p ∷ q ∷ s ∷ o ∷ []) number large in
    let low : number < length c.args.names.now = omega (arith, less, four_names) in
    large_found names ps p q s o are (length-map c.args.names.now (λ s. s.now) ∙ c.requires.names) number _ large (sym (get_or-map (λ s. s.now) c.args.names.now number _ _ low))
