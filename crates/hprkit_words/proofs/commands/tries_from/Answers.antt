use Rattle.std.proofs.Common.{◌∙◌, Bor, List, ℕ, Some, ap, codes, option_and_then, option_map, sym}
use Rattle.clap.specs.Words.{found_of}
use Rattle.clap.proofs.WalkLemmas.{first_value-rows}
use Rattle.hpr_terms.specs.declared.limits.TheConstants.{DEFAULT_TRIES, MAX_TRIES}
use Rattle.hpr_words.specs.Commands.{number_within}
use Rattle.hpr_words.specs.Taken.{number_or}
use Rattle.hprkit_words.proofs.commands.tries_from.Goals as goal

pub returns-in-Some : goal.returns-in-Some
returns-in-Some c =
    let text = c.in-Some.field-0.now in
    let given = sym (c.get_str.ensures ∙ first_value-rows (found_of c.args.matches.now) (codes "tries")) ∙ ap (option_map (λ (s : Bor (List ℕ)). s.now)) c.in-Some.is in
    c.word_number_from.ensures
    ∙ ap (option_and_then (number_within 1 c.from.result)) given
    ∙ ap (λ most. number_within 1 most text) c.from.ensures
    ∙ sym (ap (number_or (Some DEFAULT_TRIES) MAX_TRIES) given)

pub returns-in-None : goal.returns-in-None
returns-in-None c =
    let absent = sym (c.get_str.ensures ∙ first_value-rows (found_of c.args.matches.now) (codes "tries")) ∙ ap (option_map (λ (s : Bor (List ℕ)). s.now)) c.in-None.is in
    sym (ap (number_or (Some DEFAULT_TRIES) MAX_TRIES) absent)
