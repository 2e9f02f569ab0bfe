-- A request that words are taken as is in range.
use Rattle.std.proofs.Common.{◌≡◌, List, [], ◌∷◌, refl, Option, Some, None, option_and_then}
use Rattle.hpr_words.specs.Commands.{Form, form_named}
use Rattle.hpr_words.specs.Request.{IsInRange, Request, Text}
use Rattle.hpr_words.specs.Taken.{taken, taken_by}
use Rattle.hpr_words.proofs.RangeLemmas.{taken-range}

pub taken_in_range : (words : List Text) (request : Request) → taken words ≡ Some request → IsInRange request
taken_in_range [] request is = absurd cc
taken_in_range (command ∷ words) request is = of_form (form_named command) refl is
  where
    of_form : (form : Option Form) → form_named command ≡ form → option_and_then (λ (f : Form). taken_by f (command ∷ words)) form ≡ Some request → IsInRange request
    of_form (Some form) named by = taken-range command form named (command ∷ words) request by
    of_form None named by = absurd cc
