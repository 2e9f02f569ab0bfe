-- Each text is read somehow.
--
-- IsReading form bytes == the bytes spell no tree in this form, with a place; or a tree that is no program; or a program
use Rattle.std.proofs.Common.{◌≡◌, ℕ, ◌⊎◌, false, Option, Some, None, List, [], ◌∷◌, inl, inr, refl}
use Rattle.hpr_terms.specs.declared.keyword.Keyword.TheVariants as keyword
use Rattle.hpr_terms.specs.declared.token.Sign.TheVariants as sign
use Rattle.hpr_terms.specs.declared.token.Token.{Token}
use Rattle.hpr_terms.specs.declared.token.Token.TheVariants.{Word, Mark}
use Rattle.hpr_terms.specs.Tokens.{Text, nothing, blanks, ending}
use Rattle.hpr_terms.proofs.Facts.{by_both}
use Rattle.hpr_scan.specs.Place.{IsViable, IsPlace}
use Rattle.hpr_scan.proofs.SomePlace.{some_place}
use Rattle.hpr_syntax.specs.declared.shape.ShapeError.{ShapeError}
use Rattle.hpr_syntax.specs.Body.{done}
use Rattle.hpr_syntax.specs.Grammar as grammar
use Rattle.hpr_syntax.specs.Grammar.{Form, SpellsProgram}
use Rattle.hpr_syntax.specs.Print.{body_text, text}
use Rattle.hpr_syntax.specs.Proper.{IsProper}
use Rattle.hpr_syntax.specs.Shape.{shape, IsProgram}
use Rattle.hpr_syntax.specs.Spelling.{Spells}
use Rattle.hpr_syntax.specs.Tree.{Tree}
use Rattle.hpr_syntax.proofs.Printed.{weaker, newline, mark, word}
use Rattle.hpr_text.specs.Answers.{IsText, IsMisshapen}

-- some text of each form spells a program: the one without parts and names
abbrev empty : Tree
empty = record { issued = []; body = done; finals = [] }

abbrev empty_tokens : List Token
empty_tokens = Word keyword.Program ∷ Word keyword.End ∷ Mark sign.Open ∷ Mark sign.Close ∷ []

empty_text : Text false (text empty) empty_tokens
unfolding text body_text
empty_text = word keyword.Program _ _ (newline _ _ (word keyword.End _ _ (mark sign.Open _ _ (weaker (mark sign.Close _ _ (weaker (newline [] [] (ending (blanks nothing)))))))))

empty_program : (form : Form) → SpellsProgram form empty_tokens empty
empty_program form = record {
  header = [];
  pairs = None;
  parts = [];
  count = 0;
  names = [];
  header_is = grammar.SpellsHeader.none;
  parts_are = grammar.SpellsParts.nothing;
  names_are = grammar.SpellsNames.none;
  issued_is = refl;
  tokens_are = refl;
}

pub some_text : (form : Form) → IsViable (IsText form) []
some_text form = (text empty, (empty, record { tokens = empty_tokens; text = empty_text; program = empty_program form }))

abbrev pub IsReading : Form → List ℕ → Type 0
IsReading form bytes =
    ((n : ℕ) × IsPlace (IsText form) bytes n) ⊎ (((e : ShapeError) × IsMisshapen form bytes e) ⊎ ((t : Tree) × Spells form bytes t × IsProgram t))

-- where what spells a tree without refusal is proper
module _ (form : Form) (bytes : List ℕ) (proper : (t : Tree) → Spells form bytes t → shape t ≡ None → IsProper t) where
  spelled : (t : Tree) → Spells form bytes t → IsReading form bytes
  spelled t is = at (shape t) refl
    where
      at : (o : Option ShapeError) → shape t ≡ o → IsReading form bytes
      at None e = inr (inr (t, is, record { proper = proper t is e; shape = e }))
      at (Some error) e = inr (inl (error, (t, is, e)))

  pub some_reading : ¬ (¬ IsReading form bytes)
  some_reading =
      by_both (IsText form bytes) (IsReading form bytes) (λ text n. n (spelled text.0 text.1))
      (λ none n. some_place (IsText form) bytes none (some_text form) (λ place. n (inl place)))
