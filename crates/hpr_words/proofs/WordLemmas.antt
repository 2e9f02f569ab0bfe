-- Plain words are a call.
use Rattle.std.proofs.Common.{◌≡◌, List, Option, Some, None, sym, ◌∙◌}
use Rattle.hpr_words.specs.Plain.{plain}
use Rattle.hpr_words.specs.Request.{Request, Text}
use Rattle.hpr_words.specs.Taken.{taken}
use Rattle.hpr_words.proofs.PlainLemmas.{plain_taken}

some_is_not_none : (asked : Request) (o : Option Request) → o ≡ Some asked → o ≡ None → ⊥
some_is_not_none asked o is none = let e : None ≡ Some asked = sym none ∙ is in absurd cc

pub plain_is_taken : (words : List Text) (asked : Request) → plain words ≡ Some asked → taken words ≡ None → ⊥
plain_is_taken words asked is none = some_is_not_none asked (taken words) (plain_taken words asked is) none
