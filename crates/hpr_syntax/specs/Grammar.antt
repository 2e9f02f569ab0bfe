-- Which tokens spell which tree.
--
--   program = "program" header parts "end" "(" names ")"
--   header  = (nothing) | "issued" pair { "," pair }
--   pair    = author ":" serial
--   names   = (nothing) | final { "," final }
--   final   = name | "out" | name "[" "]"
--   parts   = (nothing) | part parts
--   part    = tag ":" name ":=" expr ";"
--           | tag ":" name "[" expr "]" ":=" expr ";"
--           | tag ":" "write" expr ";"
--           | tag ":" "if" expr "then" parts "fi"
--           | tag ":" "if" expr "then" parts "else" parts "fi"
--           | tag ":" "while" expr "do" parts "od"
--   tag     = author "." serial
--   expr    = conj | expr "or" conj
--   conj    = comp | conj "and" comp
--   comp    = sum | sum ("=" | "<>" | "<" | "<=" | ">" | ">=") sum
--   sum     = term | sum ("+" | "-") term
--   term    = prefix | term ("*" | "/" | "%") prefix
--   prefix  = atom | "-" prefix | "not" prefix
--   atom    = literal | name | name "[" expr "]" | "(" expr ")"
--
-- The untagged form is the same without header and without `tag ":"`. Its parts get the serials 1, 2, .. of
-- one author in preorder.
--
-- Form                          == tagged, or untagged with the author of the parts
-- IsAuthor n                    == n is below TAG_NUMBERS
-- IsSerial n                    == n is at least 1, and below TAG_NUMBERS
-- IsLiteral n                   == n is at most 9223372036854775807
-- On r s                        == what the rule s derives, the rule r derives too
-- Joins r t op                  == the token t stands for the sign op between operands of the rule r, grouped
--                                  to the left
-- Compares t op                 == the token t stands for the comparison op
-- Prefixes t op                 == the token t stands for the prefix op
-- SpellsTerm rule d ts e        == by this rule the tokens spell the expression, with at most d brackets one
--                                  in another, of both kinds
-- SpellsExpr ts e               == the tokens spell a whole expression of a part, within the limits of
--                                  brackets and operators
-- SpellsStore index value i e   == the same of the two expressions of a store, whose operators count together
-- Labels form n ts t            == the tokens are the tag t and its colon; in the untagged form there are
--                                  none, and t is the tag after n parts
-- SpellsParts form l n m ts body == the tokens spell the parts of a block, with at most l levels of parts one
--                                   in another; before it n parts had their tags, after it m
-- SpellsPairs ts pairs          == the tokens are one or more pairs, with commas between them
-- SpellsHeader form ts header   == the tokens are a header with these pairs, or nothing
-- SpellsFinal ts x              == the tokens are the variable x: a name, the stream's word, or a name and
--                                  `[` `]`
-- SpellsNames ts names          == the tokens are variables, with commas between them
-- issued_of header body         == the greatest number that the header gives each author, or without a header
--                                  the greatest of its tags
-- SpellsProgram form ts tree    == the tokens spell the tree
use Rattle.std.specs.Prelude.{◌≡◌, ℕ, suc, ◌+◌, ◌≤◌, ◌<◌, ◌^◌, List, [], ◌∷◌, ◌++◌, map, Option, Some, None}
use Rattle.hpr_terms.specs.declared.limits.TheConstants.{MAX_BRACKETS, MAX_LEVELS, MAX_OPERATORS, TAG_NUMBERS}
use Rattle.hpr_terms.specs.declared.tag.Tag.{Tag}
use Rattle.hpr_terms.specs.declared.expr.Expr.{Expr}
use Rattle.hpr_terms.specs.declared.expr.Unary.{Unary}
use Rattle.hpr_terms.specs.declared.expr.Unary.TheVariants as unary
use Rattle.hpr_terms.specs.declared.expr.Binary.{Binary}
use Rattle.hpr_terms.specs.declared.expr.Binary.TheVariants as binary
use Rattle.hpr_terms.specs.declared.keyword.Keyword.TheVariants as keyword
use Rattle.hpr_terms.specs.declared.token.Sign.TheVariants as sign
use Rattle.hpr_terms.specs.declared.token.Token.{Token}
use Rattle.hpr_terms.specs.declared.token.Token.TheVariants.{Word, Name, Number, Mark}
use Rattle.hpr_terms.specs.Names.{IsName, stream, array_of}
use Rattle.hpr_terms.specs.Term.{Term, num, var, prefix, infix', element, operators}
use Rattle.hpr_terms.specs.TermOf.{term_of}
use Rattle.hpr_syntax.specs.Action.{assigns, writes, stores}
use Rattle.hpr_syntax.specs.Body.{Body, done, action, branch, loop}
use Rattle.hpr_syntax.specs.Parts.{tags_of}
use Rattle.hpr_syntax.specs.Issued as issued
use Rattle.hpr_syntax.specs.Tree.{Tree}

pub data Form : Type 0 where
  tagged : Form
  untagged : (author : ℕ) → Form

abbrev pub IsAuthor : ℕ → Type 0
IsAuthor n = n < TAG_NUMBERS

abbrev pub IsSerial : ℕ → Type 0
IsSerial n = (1 ≤ n) × (n < TAG_NUMBERS)

abbrev pub IsLiteral : ℕ → Type 0
IsLiteral n = n < 2 ^ 63

pub data Rule : Type 0 where
  expr : Rule
  conj : Rule
  comp : Rule
  sum : Rule
  term : Rule
  prefixed : Rule
  atom : Rule

pub data On : Rule → Rule → Type 0 where
  expr_conj : On expr conj
  conj_comp : On conj comp
  comp_sum : On comp sum
  sum_term : On sum term
  term_prefixed : On term prefixed
  prefixed_atom : On prefixed atom

pub data Joins : Rule → Token → Binary → Type 0 where
  or : Joins expr (Word keyword.Or) binary.Or
  and : Joins conj (Word keyword.And) binary.And
  plus : Joins sum (Mark sign.Plus) binary.Add
  minus : Joins sum (Mark sign.Minus) binary.Sub
  star : Joins term (Mark sign.Star) binary.Mul
  slash : Joins term (Mark sign.Slash) binary.Div
  percent : Joins term (Mark sign.Percent) binary.Rem

pub data Compares : Token → Binary → Type 0 where
  equal : Compares (Mark sign.Equal) binary.Equal
  differ : Compares (Mark sign.Differ) binary.Differ
  less : Compares (Mark sign.Less) binary.Less
  less_equal : Compares (Mark sign.LessEqual) binary.LessEqual
  greater : Compares (Mark sign.Greater) binary.Greater
  greater_equal : Compares (Mark sign.GreaterEqual) binary.GreaterEqual

pub data Prefixes : Token → Unary → Type 0 where
  minus : Prefixes (Mark sign.Minus) unary.Neg
  not : Prefixes (Word keyword.Not) unary.Not

pub data SpellsTerm : Rule → ℕ → List Token → Term → Type 0 where
  one : {r s : Rule} {d : ℕ} {ts : List Token} {x : Term} → On r s → SpellsTerm s d ts x → SpellsTerm r d ts x
  joined : {r s : Rule} {d : ℕ} {a b : List Token} {t : Token} {op : Binary} {x y : Term} → On r s → Joins r t op → SpellsTerm r d a x → SpellsTerm s d b y
      → SpellsTerm r d (a ++ (t ∷ b)) (infix' op x y)
  compared : {d : ℕ} {a b : List Token} {t : Token} {op : Binary} {x y : Term} → Compares t op → SpellsTerm sum d a x → SpellsTerm sum d b y
      → SpellsTerm comp d (a ++ (t ∷ b)) (infix' op x y)
  signed : {d : ℕ} {a : List Token} {t : Token} {op : Unary} {x : Term} → Prefixes t op → SpellsTerm prefixed d a x → SpellsTerm prefixed d (t ∷ a) (prefix op x)
  literal : {d n : ℕ} → IsLiteral n → SpellsTerm atom d (Number n ∷ []) (num n)
  name : {d : ℕ} {x : List ℕ} → SpellsTerm atom d (Name x ∷ []) (var x)
  bracket : {d : ℕ} {ts : List Token} {x : Term} → SpellsTerm expr d ts x → SpellsTerm atom (suc d) (Mark sign.Open ∷ (ts ++ (Mark sign.Close ∷ []))) x
  indexed : {d : ℕ} {x : List ℕ} {ts : List Token} {i : Term} → IsName x → SpellsTerm expr d ts i
      → SpellsTerm atom (suc d) (Name x ∷ Mark sign.OpenSquare ∷ (ts ++ (Mark sign.CloseSquare ∷ []))) (element (array_of x) i)

abbrev pub SpellsExpr : List Token → Expr → Type 0
SpellsExpr ts e = SpellsTerm expr MAX_BRACKETS ts (term_of e) × (operators (term_of e) ≤ MAX_OPERATORS)

abbrev pub SpellsStore : List Token → List Token → Expr → Expr → Type 0
SpellsStore index value i e =
    SpellsTerm expr MAX_BRACKETS index (term_of i) × SpellsTerm expr MAX_BRACKETS value (term_of e)
    × (operators (term_of i) + operators (term_of e) ≤ MAX_OPERATORS)

abbrev pub IsTag : Tag → Type 0
IsTag t = IsAuthor t.author × IsSerial t.serial

pub data Labels : Form → ℕ → List Token → Tag → Type 0 where
  tag : {n : ℕ} {t : Tag} → IsTag t → Labels tagged n (Number t.author ∷ Mark sign.Dot ∷ Number t.serial ∷ Mark sign.Colon ∷ []) t
  none : {author n : ℕ} → Labels (untagged author) n [] (record { author = author; serial = n + 1 })

pub data SpellsParts : Form → ℕ → ℕ → ℕ → List Token → Body → Type 0 where
  nothing : {f : Form} {l n : ℕ} → SpellsParts f l n n [] done
  assignment : {f : Form} {l n m : ℕ} {t : Tag} {x : List ℕ} {e : Expr} {label value more : List Token} {rest : Body}
      → Labels f n label t → SpellsExpr value e → SpellsParts f (suc l) (n + 1) m more rest
      → SpellsParts f (suc l) n m (label ++ (Name x ∷ Mark sign.Becomes ∷ (value ++ (Mark sign.Semicolon ∷ more)))) (action t (assigns x e) rest)
  write : {f : Form} {l n m : ℕ} {t : Tag} {e : Expr} {label value more : List Token} {rest : Body}
      → Labels f n label t → SpellsExpr value e → SpellsParts f (suc l) (n + 1) m more rest
      → SpellsParts f (suc l) n m (label ++ (Word keyword.Write ∷ (value ++ (Mark sign.Semicolon ∷ more)))) (action t (writes stream e) rest)
  store : {f : Form} {l n m : ℕ} {t : Tag} (x : List ℕ) {i e : Expr} {label index value more : List Token} {rest : Body}
      → IsName x → Labels f n label t → SpellsStore index value i e → SpellsParts f (suc l) (n + 1) m more rest
      → SpellsParts f (suc l) n m
      (label ++ (Name x ∷ Mark sign.OpenSquare ∷ (index ++ (Mark sign.CloseSquare ∷ Mark sign.Becomes ∷ (value ++ (Mark sign.Semicolon ∷ more))))))
      (action t (stores (array_of x) i e) rest)
  conditional : {f : Form} {l n k m : ℕ} {t : Tag} {e : Expr} {label test first more : List Token} {yes rest : Body}
      → Labels f n label t → SpellsExpr test e → SpellsParts f l (n + 1) k first yes → SpellsParts f (suc l) k m more rest
      → SpellsParts f (suc l) n m (label ++ (Word keyword.If ∷ (test ++ (Word keyword.Then ∷ (first ++ (Word keyword.Fi ∷ more)))))) (branch t e yes done rest)
  conditional_else : {f : Form} {l n k j m : ℕ} {t : Tag} {e : Expr} {label test first second more : List Token} {yes no rest : Body}
      → Labels f n label t → SpellsExpr test e → SpellsParts f l (n + 1) k first yes → SpellsParts f l k j second no → SpellsParts f (suc l) j m more rest
      → SpellsParts f (suc l) n m
      (label ++ (Word keyword.If ∷ (test ++ (Word keyword.Then ∷ (first ++ (Word keyword.Else ∷ (second ++ (Word keyword.Fi ∷ more))))))))
      (branch t e yes no rest)
  while_loop : {f : Form} {l n k m : ℕ} {t : Tag} {e : Expr} {label test inner more : List Token} {body rest : Body}
      → Labels f n label t → SpellsExpr test e → SpellsParts f l (n + 1) k inner body → SpellsParts f (suc l) k m more rest
      → SpellsParts f (suc l) n m (label ++ (Word keyword.While ∷ (test ++ (Word keyword.Do ∷ (inner ++ (Word keyword.Od ∷ more)))))) (loop t e body rest)

abbrev pub pair_then : ℕ × ℕ → List Token → List Token
pair_then p ts = Number p.0 ∷ Mark sign.Colon ∷ Number p.1 ∷ ts

abbrev pub IsIssuedPair : ℕ × ℕ → Type 0
IsIssuedPair p = IsAuthor p.0 × IsSerial p.1

pub data SpellsPairs : List Token → List (ℕ × ℕ) → Type 0 where
  one : {p : ℕ × ℕ} → IsIssuedPair p → SpellsPairs (pair_then p []) (p ∷ [])
  more : {p : ℕ × ℕ} {ts : List Token} {ps : List (ℕ × ℕ)} → IsIssuedPair p → SpellsPairs ts ps → SpellsPairs (pair_then p (Mark sign.Comma ∷ ts)) (p ∷ ps)

pub data SpellsHeader : Form → List Token → Option (List (ℕ × ℕ)) → Type 0 where
  none : {f : Form} → SpellsHeader f [] None
  pairs : {ts : List Token} {ps : List (ℕ × ℕ)} → SpellsPairs ts ps → SpellsHeader tagged (Word keyword.Issued ∷ ts) (Some ps)

pub data SpellsFinal : List Token → List ℕ → Type 0 where
  plain : {x : List ℕ} → SpellsFinal (Name x ∷ []) x
  out : SpellsFinal (Word keyword.Out ∷ []) stream
  array : {x : List ℕ} → IsName x → SpellsFinal (Name x ∷ Mark sign.OpenSquare ∷ Mark sign.CloseSquare ∷ []) (array_of x)

pub data SpellsNames : List Token → List (List ℕ) → Type 0 where
  none : SpellsNames [] []
  one : {ts : List Token} {x : List ℕ} → SpellsFinal ts x → SpellsNames ts (x ∷ [])
  more : {first ts : List Token} {x y : List ℕ} {xs : List (List ℕ)} → SpellsFinal first x → SpellsNames ts (y ∷ xs)
      → SpellsNames (first ++ (Mark sign.Comma ∷ ts)) (x ∷ y ∷ xs)

abbrev pub tag_pair : Tag → ℕ × ℕ
tag_pair t = (t.author, t.serial)

abbrev pub issued_of : Option (List (ℕ × ℕ)) → Body → issued.Issued
issued_of None body = issued.raised_by (map tag_pair (tags_of body [])) []
issued_of (Some ps) body = issued.raised_by ps []

pub record SpellsProgram (f : Form) (ts : List Token) (tree : Tree) : Type 0 where
  pub header : List Token
  pub pairs : Option (List (ℕ × ℕ))
  pub parts : List Token
  pub count : ℕ
  pub names : List Token
  pub header_is : SpellsHeader f header pairs
  pub parts_are : SpellsParts f MAX_LEVELS 0 count parts tree.body
  pub names_are : SpellsNames names tree.finals
  pub issued_is : tree.issued ≡ issued_of pairs tree.body
  pub tokens_are : ts ≡ Word keyword.Program ∷ (header ++ (parts ++ (Word keyword.End ∷ Mark sign.Open ∷ (names ++ (Mark sign.Close ∷ [])))))
