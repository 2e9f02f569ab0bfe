-- Two lists of tokens of the same bytes lead a machine to the same place.
use Rattle.std.proofs.Common.{◌≡◌, ℕ, false, List, Option, Some, sym, ◌∙◌}
use Rattle.hpr_terms.specs.declared.token.Token.{Token}
use Rattle.hpr_terms.specs.Tokens.{Text}
use Rattle.hpr_terms.proofs.Facts.{some_inj}
use Rattle.hpr_scan.specs.Machine.{IsTokenMachine}
use Rattle.hpr_scan.specs.Steps.{runs}
use Rattle.hpr_scan.proofs.WholeText.{text_scan}

pub text_once : {S : Type 0} (next : S → Token → Option S) → IsTokenMachine next → (s : S) (bytes : List ℕ) (ts us : List Token) (n m : S)
    → Text false bytes ts → runs next s ts ≡ Some n → Text false bytes us → runs next s us ≡ Some m → n ≡ m
text_once next laws s bytes ts us n m t r u q = some_inj n m (sym (text_scan next laws t s n r) ∙ text_scan next laws u s m q)
