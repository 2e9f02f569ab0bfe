use Rattle.std.proofs.Common.{◌∙◌, ◌++◌, List, ℕ, Option, [], ap, map, unwrap_or}
use Rattle.clap.specs.Words.{found_of}
use Rattle.clap.proofs.WalkLemmas.{raw_values-rows}
use Rattle.hpr_words.proofs.found.list_from.Goals as goal

pub returns-in_ok-extend_from_slice-in-Some : goal.returns-in_ok-extend_from_slice-in-Some
returns-in_ok-extend_from_slice-in-Some c =
    ap (map (λ s. s.now)) (c.in_ok-extend_from_slice-in-Some.ensures.items ∙ ap (λ xs. xs ++ c.in-Some.words.now) c.new-list.ensures.items)
    ∙ ap (λ (o : Option (List (List ℕ))). unwrap_or o []) (c.in-Some.ensures ∙ raw_values-rows (found_of c.args.matches.now) c.args.id.now)

pub returns-in-None : goal.returns-in-None
returns-in-None c =
    ap (map (λ s. s.now)) c.new.ensures.items
    ∙ ap (λ (o : Option (List (List ℕ))). unwrap_or o []) (c.in-None.ensures ∙ raw_values-rows (found_of c.args.matches.now) c.args.id.now)
