-- Parts of which some have no tag, and the tokens with the tags that are put in.
--
--   parts   = (nothing) | part parts
--   part    = label action ";"
--           | label "if" expr "then" parts "fi"
--           | label "if" expr "then" parts "else" parts "fi"
--           | label "while" expr "do" parts "od"
--   label   = (nothing) | tag ":"
--   action  = name ":=" expr | "write" expr | name "[" expr "]" ":=" expr
--
-- `expr` and `tag` are those of programs. A part without a tag gets the author's next serial, in preorder.
--
-- tag_tokens t               == the tag t and its colon
-- next_tag a n               == the tag of a with the serial n + 1
-- MayLabel a n m ts t        == the tokens are the tag t and its colon, and m is n; or there are none, m is
--                               n + 1, and t is the tag of a with the serial m
-- SpellsAction ts d          == the tokens spell an assignment, an output or a store
-- SpellsGapped a l n m ts body == the tokens spell the parts of a block, with at most l levels of parts one
--                               in another; n is a's last serial before them, m behind them
-- kind_at t                  == the kind of the token, of a sign that of its first byte
-- before_last y t            == the kind in front of the token's last lexeme, where y stands before it
-- last_kind t                == the kind of that lexeme
-- labelled a n v t           == the token, and where v holds the tag of a with the serial n + 1 before it
-- filled a n x y ts          == the tokens with a tag wherever `lacks_tag` says that a part has none, n
--                               being a's last serial; x and y are the kinds of the lexemes before
-- may_begin x y              == a part may begin behind x and y
-- IsFilled a l n m x y ts body == `filled` puts tags into the tokens, m being a's last serial then, and makes
--                               of them tokens that spell the parts in the tagged form; a part may begin
--                               behind them
-- FilledGaps                 == so the tags are put in exactly where the grammar lacks them: with them the
--                               tokens spell the same parts in the tagged form, and nothing else changes
use Rattle.std.specs.Prelude.{◌≡◌, ℕ, suc, ◌+◌, Bool, true, false, List, [], ◌∷◌, ◌++◌}
use Rattle.hpr_terms.specs.declared.tag.Tag.{Tag}
use Rattle.hpr_terms.specs.declared.expr.Expr.{Expr}
use Rattle.hpr_terms.specs.declared.keyword.Keyword.TheVariants as keyword
use Rattle.hpr_terms.specs.declared.token.Sign.TheVariants as sign
use Rattle.hpr_terms.specs.declared.token.Token.{Token}
use Rattle.hpr_terms.specs.declared.token.Token.TheVariants.{Word, Name, Number, Mark}
use Rattle.hpr_terms.specs.Names.{IsName, stream, array_of}
use Rattle.hpr_syntax.specs.Action.{Action, assigns, writes, stores}
use Rattle.hpr_syntax.specs.Body.{Body, done, action, branch, loop}
use Rattle.hpr_syntax.specs.Grammar.{IsTag, SpellsExpr, SpellsStore, SpellsParts, tagged}
use Rattle.hpr_tagging.specs.declared.lexemes.Kind.{Kind}
use Rattle.hpr_tagging.specs.declared.lexemes.Kind.TheVariants as kind
use Rattle.hpr_tagging.specs.Lexemes.{keyword_kind, small_kind}
use Rattle.hpr_tagging.specs.Tagging.{is_colon, lacks_tag, lacking}

abbrev pub tag_tokens : Tag → List Token
tag_tokens t = Number t.author ∷ Mark sign.Dot ∷ Number t.serial ∷ Mark sign.Colon ∷ []

abbrev pub next_tag : ℕ → ℕ → Tag
next_tag a n = record { author = a; serial = n + 1 }

pub data MayLabel (a : ℕ) : ℕ → ℕ → List Token → Tag → Type 0 where
  stands : {n : ℕ} {t : Tag} → IsTag t → MayLabel a n n (tag_tokens t) t
  lacks : {n : ℕ} → IsTag (next_tag a n) → MayLabel a n (n + 1) [] (next_tag a n)

pub data SpellsAction : List Token → Action → Type 0 where
  assignment : {x : List ℕ} {e : Expr} {value : List Token} → SpellsExpr value e
      → SpellsAction (Name x ∷ Mark sign.Becomes ∷ value) (assigns x e)
  write : {e : Expr} {value : List Token} → SpellsExpr value e
      → SpellsAction (Word keyword.Write ∷ value) (writes stream e)
  store : (x : List ℕ) {i e : Expr} {index value : List Token} → IsName x → SpellsStore index value i e
      → SpellsAction
      (Name x ∷ Mark sign.OpenSquare ∷ (index ++ (Mark sign.CloseSquare ∷ Mark sign.Becomes ∷ value)))
      (stores (array_of x) i e)

pub data SpellsGapped (a : ℕ) : ℕ → ℕ → ℕ → List Token → Body → Type 0 where
  nothing : {l n : ℕ} → SpellsGapped a l n n [] done
  simple : {l n k m : ℕ} {t : Tag} {d : Action} {label content more : List Token} {rest : Body}
      → MayLabel a n k label t → SpellsAction content d → SpellsGapped a (suc l) k m more rest
      → SpellsGapped a (suc l) n m (label ++ (content ++ (Mark sign.Semicolon ∷ more))) (action t d rest)
  conditional : {l n k j m : ℕ} {t : Tag} {e : Expr} {label test first more : List Token} {yes rest : Body}
      → MayLabel a n k label t → SpellsExpr test e → SpellsGapped a l k j first yes
      → SpellsGapped a (suc l) j m more rest
      → SpellsGapped a (suc l) n m
      (label ++ (Word keyword.If ∷ (test ++ (Word keyword.Then ∷ (first ++ (Word keyword.Fi ∷ more))))))
      (branch t e yes done rest)
  conditional_else : {l n k j i m : ℕ} {t : Tag} {e : Expr} {label test first second more : List Token}
      {yes no rest : Body}
      → MayLabel a n k label t → SpellsExpr test e → SpellsGapped a l k j first yes
      → SpellsGapped a l j i second no → SpellsGapped a (suc l) i m more rest
      → SpellsGapped a (suc l) n m
      (label ++ (Word keyword.If ∷ (test ++ (Word keyword.Then
      ∷ (first ++ (Word keyword.Else ∷ (second ++ (Word keyword.Fi ∷ more))))))))
      (branch t e yes no rest)
  while_loop : {l n k j m : ℕ} {t : Tag} {e : Expr} {label test inner more : List Token} {body rest : Body}
      → MayLabel a n k label t → SpellsExpr test e → SpellsGapped a l k j inner body
      → SpellsGapped a (suc l) j m more rest
      → SpellsGapped a (suc l) n m
      (label ++ (Word keyword.While ∷ (test ++ (Word keyword.Do ∷ (inner ++ (Word keyword.Od ∷ more))))))
      (loop t e body rest)

abbrev pub kind_at : Token → Kind
kind_at (Word k) = keyword_kind k
kind_at (Name x) = kind.Begins
kind_at (Number n) = small_kind n
kind_at (Mark sign.Colon) = kind.Colon
kind_at (Mark sign.Becomes) = kind.Colon
kind_at (Mark sign.Dot) = kind.Dot
kind_at (Mark sign.Semicolon) = kind.Opens
kind_at (Mark _) = kind.Other

abbrev pub before_last : Kind → Token → Kind
before_last y (Mark sign.Becomes) = kind.Colon
before_last y (Mark sign.Differ) = kind.Other
before_last y (Mark sign.LessEqual) = kind.Other
before_last y (Mark sign.GreaterEqual) = kind.Other
before_last y _ = y

abbrev pub last_kind : Token → Kind
last_kind (Mark sign.Becomes) = kind.Other
last_kind t = kind_at t

abbrev pub labelled : ℕ → ℕ → Bool → Token → List Token
labelled a n true t = tag_tokens (next_tag a n) ++ (t ∷ [])
labelled a n false t = t ∷ []

abbrev pub filled : ℕ → ℕ → Kind → Kind → List Token → List Token
filled a n x y [] = []
filled a n x y (t ∷ ts) =
    labelled a n (lacks_tag x y (kind_at t)) t
    ++ filled a (n + lacking x y (kind_at t)) (before_last y t) (last_kind t) ts

abbrev pub may_begin : Kind → Kind → Bool
may_begin x kind.Opens = true
may_begin x (kind.Number n) = is_colon x
may_begin x _ = false

pub record IsFilled (a l n m : ℕ) (x y : Kind) (ts : List Token) (body : Body) : Type 0 where
  pub tokens : List Token
  pub before : Kind
  pub last : Kind
  pub spelled : (j : ℕ) → (k : ℕ) × SpellsParts tagged l j k tokens body
  pub ends : may_begin before last ≡ true
  pub is : (more : List Token) → filled a n x y (ts ++ more) ≡ tokens ++ filled a m before last more

abbrev pub FilledGaps : Type 0
FilledGaps =
    (a l n m : ℕ) (x y : Kind) (ts : List Token) (body : Body) → may_begin x y ≡ true
    → SpellsGapped a l n m ts body → IsFilled a l n m x y ts body
