use Rattle.std.proofs.Common.{List, ℕ, ◌++◌, get_or, sym, ap, ◌∙◌, arith}
use Rattle.std.proofs.lemmas.List.{append-nil}
use Rattle.hpr_tagging.specs.declared.lexemes.Lexeme.{Lexeme}
use Rattle.hpr_tagging.specs.Lexemes.{lexeme_by}
use Rattle.hpr_tagging.proofs.Steps.{all_left, lexemes_turn, lexemes_over}
use Rattle.hpr_tagging.proofs.lexemes.lexemes.Goals as goal

pub loop-place-preserved : goal.loop-place-preserved
loop-place-preserved c =
    let bytes = c.args.bytes.now in
    let i = c.loop-place.place in
    let o = c.lexeme_by.ensures ∙ ap (λ (x : List ℕ). lexeme_by c.loop-place.begun i (get_or bytes i 0) x) (all_left bytes i) in
    lexemes_turn c.loop-place.begun c.after-begun.result bytes i c.lexeme_by.result c.loop-place.found.items c.push_some.new.items.items
    c.loop-place-test.true o c.after-begun.ensures c.in_ok-push_some.ensures
    ∙ c.loop-place.invariant

pub returns : goal.returns
returns c =
    sym (append-nil c.loop-place.found.items)
    ∙ ap (λ (xs : List Lexeme). c.loop-place.found.items ++ xs) (sym (lexemes_over c.loop-place.begun c.args.bytes.now c.loop-place.place (omega arith)))
    ∙ c.loop-place.invariant
