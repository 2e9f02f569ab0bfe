-- Keywords.
--
-- keyword_text k == the keyword as it stands in a text
-- keywords       == all keywords
-- keyword_of w   == the keyword whose text w is, if there is one
use Rattle.std.specs.Prelude.{ℕ, List, [], ◌∷◌, Option, codes, find}
use Rattle.std.specs.Str.{bytes_eq}
use Rattle.hpr_terms.specs.declared.keyword.Keyword.{Keyword}
use Rattle.hpr_terms.specs.declared.keyword.Keyword.TheVariants.{Program, Issued, If, Then, Else, Fi, While, Do, Od, End, And, Or, Not, Write, Out}

abbrev pub keyword_text : Keyword → List ℕ
keyword_text Program = codes "program"
keyword_text Issued = codes "issued"
keyword_text If = codes "if"
keyword_text Then = codes "then"
keyword_text Else = codes "else"
keyword_text Fi = codes "fi"
keyword_text While = codes "while"
keyword_text Do = codes "do"
keyword_text Od = codes "od"
keyword_text End = codes "end"
keyword_text And = codes "and"
keyword_text Or = codes "or"
keyword_text Not = codes "not"
keyword_text Write = codes "write"
keyword_text Out = codes "out"

abbrev pub keywords : List Keyword
keywords = Program ∷ Issued ∷ If ∷ Then ∷ Else ∷ Fi ∷ While ∷ Do ∷ Od ∷ End ∷ And ∷ Or ∷ Not ∷ Write ∷ Out ∷ []

unfoldable pub keyword_of : List ℕ → Option Keyword
keyword_of w = find (λ k. bytes_eq (keyword_text k) w) keywords
