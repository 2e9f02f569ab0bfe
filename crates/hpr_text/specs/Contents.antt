-- Contents in texts: what a part says without its tag and its blocks.
--
--   content = name ":=" expr | name "[" expr "]" ":=" expr | "write" expr | "if" expr | "while" expr
--
-- SpellsContent ts c          == the tokens spell the content
-- IsContentText bytes c       == the bytes are the text of the content and of a `;` behind it
-- HasContent bytes            == the bytes are such a text of some content
-- OneContent                  == bytes are the text of at most one content
-- IsPlaceFrom start L bytes n == n is the place of a refusal in the bytes from start on, counted from the
--                                start of all bytes
use Rattle.std.specs.Prelude.{◌≡◌, ℕ, ◌+◌, false, List, [], ◌∷◌, ◌++◌, drop}
use Rattle.hpr_terms.specs.declared.expr.Expr.{Expr}
use Rattle.hpr_terms.specs.declared.keyword.Keyword.TheVariants as keyword
use Rattle.hpr_terms.specs.declared.token.Sign.TheVariants.{Becomes, OpenSquare, CloseSquare, Semicolon}
use Rattle.hpr_terms.specs.declared.token.Token.{Token}
use Rattle.hpr_terms.specs.declared.token.Token.TheVariants.{Word, Name, Mark}
use Rattle.hpr_terms.specs.Names.{IsName, stream, array_of}
use Rattle.hpr_terms.specs.Tokens.{Text}
use Rattle.hpr_syntax.specs.declared.rows.Content.{Content}
use Rattle.hpr_syntax.specs.declared.rows.Content.TheVariants.{Assign, If, While, Write, Store}
use Rattle.hpr_syntax.specs.Grammar.{SpellsExpr, SpellsStore}
use Rattle.hpr_scan.specs.Place.{IsPlace}

pub data SpellsContent : List Token → Content → Type 0 where
  assignment : {x : List ℕ} {e : Expr} {value : List Token} → SpellsExpr value e → SpellsContent (Name x ∷ Mark Becomes ∷ value) (Assign x e)
  write : {e : Expr} {value : List Token} → SpellsExpr value e → SpellsContent (Word keyword.Write ∷ value) (Write stream e)
  store : (x : List ℕ) {i e : Expr} {index value : List Token} → IsName x → SpellsStore index value i e
      → SpellsContent (Name x ∷ Mark OpenSquare ∷ (index ++ (Mark CloseSquare ∷ Mark Becomes ∷ value))) (Store (array_of x) i e)
  conditional : {e : Expr} {test : List Token} → SpellsExpr test e → SpellsContent (Word keyword.If ∷ test) (If e)
  while_loop : {e : Expr} {test : List Token} → SpellsExpr test e → SpellsContent (Word keyword.While ∷ test) (While e)

pub record IsContentText (bytes : List ℕ) (c : Content) : Type 0 where
  pub tokens : List Token
  pub spelled : SpellsContent tokens c
  pub text : Text false bytes (tokens ++ (Mark Semicolon ∷ []))

abbrev pub HasContent : List ℕ → Type 0
HasContent bytes = (c : Content) × IsContentText bytes c

abbrev pub OneContent : Type 0
OneContent = (bytes : List ℕ) (c d : Content) → IsContentText bytes c → IsContentText bytes d → c ≡ d

abbrev pub IsPlaceFrom : ℕ → (List ℕ → Type 0) → List ℕ → ℕ → Type 0
IsPlaceFrom start L bytes n = (k : ℕ) × (n ≡ start + k) × IsPlace L (drop start bytes) k
