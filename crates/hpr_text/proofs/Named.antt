-- The names among the tokens of a text are names.
use Rattle.std.proofs.Common.{ℕ, Bool, List, [], ◌∷◌, ◌++◌, Contains, inl, inr, subst}
use Rattle.std.proofs.lemmas.List.Elements.{Contains-append_left, Contains-append_right}
use Rattle.hpr_terms.specs.declared.keyword.Keyword.TheVariants as keyword
use Rattle.hpr_terms.specs.declared.token.Sign.TheVariants as sign
use Rattle.hpr_terms.specs.declared.token.Token.{Token}
use Rattle.hpr_terms.specs.declared.token.Token.TheVariants.{Word, Name, Mark}
use Rattle.hpr_terms.specs.Names.{IsName}
use Rattle.hpr_terms.specs.Tokens as tokens
use Rattle.hpr_terms.specs.Tokens.{IsToken, Text}
use Rattle.hpr_terms.proofs.Facts.{in_none, in_cons, in_here, in_later}
use Rattle.hpr_syntax.specs.Grammar.{Form, SpellsProgram}
use Rattle.hpr_syntax.specs.Tree.{Tree}

abbrev pub Named : List Token → Type 0
Named ts = (x : List ℕ) → Contains ts (Name x) → IsName x

pub named_left : (a b : List Token) → Named (a ++ b) → Named a
named_left a b n x h = n x (Contains-append_left a b (Name x) h)

pub named_right : (a b : List Token) → Named (a ++ b) → Named b
named_right a b n x h = n x (Contains-append_right a b (Name x) h)

pub named_rest : (t : Token) (ts : List Token) → Named (t ∷ ts) → Named ts
named_rest t ts n x h = n x (in_later t (Name x) ts h)

-- before a token, and behind it
pub named_around : (a : List Token) (t : Token) (b : List Token) → Named (a ++ (t ∷ b)) → Named a × Named b
named_around a t b n = (named_left a (t ∷ b) n, named_rest t b (named_right a (t ∷ b) n))

-- among the tokens of a first part and of those behind it: its name and its expression, its blocks, and what follows it
pub named_assignment : (label : List Token) (x : List ℕ) (value more : List Token) → Named (label ++ (Name x ∷ Mark sign.Becomes ∷ (value ++ (Mark sign.Semicolon ∷ more))))
    → IsName x × Named value × Named more
named_assignment label x value more n =
    let behind : List Token = value ++ (Mark sign.Semicolon ∷ more) in
    let from = named_right label (Name x ∷ Mark sign.Becomes ∷ behind) n in
    let said = named_around value (Mark sign.Semicolon) more (named_rest (Mark sign.Becomes) behind (named_rest (Name x) (Mark sign.Becomes ∷ behind) from)) in
    (from x (in_here (Name x) (Mark sign.Becomes ∷ behind)), said.0, said.1)

pub named_write : (label value more : List Token) → Named (label ++ (Word keyword.Write ∷ (value ++ (Mark sign.Semicolon ∷ more)))) → Named value × Named more
named_write label value more n =
    named_around value (Mark sign.Semicolon) more (named_around label (Word keyword.Write) (value ++ (Mark sign.Semicolon ∷ more)) n).1

pub named_store : (label : List Token) (x : List ℕ) (index value more : List Token)
    → Named (label ++ (Name x ∷ Mark sign.OpenSquare ∷ (index ++ (Mark sign.CloseSquare ∷ Mark sign.Becomes ∷ (value ++ (Mark sign.Semicolon ∷ more))))))
    → Named index × Named value × Named more
named_store label x index value more n =
    let last : List Token = value ++ (Mark sign.Semicolon ∷ more) in
    let behind : List Token = index ++ (Mark sign.CloseSquare ∷ Mark sign.Becomes ∷ last) in
    let from = named_around label (Name x) (Mark sign.OpenSquare ∷ behind) n in
    let two = named_around index (Mark sign.CloseSquare) (Mark sign.Becomes ∷ last) (named_rest (Mark sign.OpenSquare) behind from.1) in
    let said = named_around value (Mark sign.Semicolon) more (named_rest (Mark sign.Becomes) last two.1) in
    (two.0, said.0, said.1)

-- and behind a word, a test and another word
named_test : (label test rest : List Token) (begins ends : Token) → Named (label ++ (begins ∷ (test ++ (ends ∷ rest)))) → Named test × Named rest
named_test label test rest begins ends n = named_around test ends rest (named_around label begins (test ++ (ends ∷ rest)) n).1

pub named_conditional : (label test first more : List Token)
    → Named (label ++ (Word keyword.If ∷ (test ++ (Word keyword.Then ∷ (first ++ (Word keyword.Fi ∷ more)))))) → Named test × Named first × Named more
named_conditional label test first more n =
    let said = named_test label test (first ++ (Word keyword.Fi ∷ more)) (Word keyword.If) (Word keyword.Then) n in
    let yes = named_around first (Word keyword.Fi) more said.1 in
    (said.0, yes.0, yes.1)

pub named_conditional_else : (label test first second more : List Token)
    → Named (label ++ (Word keyword.If ∷ (test ++ (Word keyword.Then ∷ (first ++ (Word keyword.Else ∷ (second ++ (Word keyword.Fi ∷ more))))))))
    → Named test × Named first × Named second × Named more
named_conditional_else label test first second more n =
    let last : List Token = second ++ (Word keyword.Fi ∷ more) in
    let said = named_test label test (first ++ (Word keyword.Else ∷ last)) (Word keyword.If) (Word keyword.Then) n in
    let yes = named_around first (Word keyword.Else) last said.1 in
    let no = named_around second (Word keyword.Fi) more yes.1 in
    (said.0, yes.0, no.0, no.1)

pub named_loop : (label test inner more : List Token) → Named (label ++ (Word keyword.While ∷ (test ++ (Word keyword.Do ∷ (inner ++ (Word keyword.Od ∷ more))))))
    → Named test × Named inner × Named more
named_loop label test inner more n =
    let said = named_test label test (inner ++ (Word keyword.Od ∷ more)) (Word keyword.While) (Word keyword.Do) n in
    let body = named_around inner (Word keyword.Od) more said.1 in
    (said.0, body.0, body.1)

pub text_named : {w : Bool} {bytes : List ℕ} {ts : List Token} → Text w bytes ts → Named ts
text_named (tokens.ending h) x there = absurd (in_none (Name x) there)
text_named (tokens.token blanks text {t = t} {ts = ts} b is apart rest) x there = elim (in_cons t (Name x) ts there) [
  | inl e ↦ (subst (λ (u : Token). IsToken text u) e is).1
  | inr later ↦ text_named rest x later
]

-- the tokens of a program's parts, and of its names
module _ {form : Form} {ts : List Token} {t : Tree} (h : SpellsProgram form ts t) (named : Named ts) where
  names_then : List Token
  names_then = h.names ++ (Mark sign.Close ∷ [])

  ending : List Token
  ending = Word keyword.End ∷ Mark sign.Open ∷ names_then

  behind_header : Named (h.parts ++ ending)
  unfolding ending names_then
  behind_header = named_right h.header (h.parts ++ ending) (named_rest (Word keyword.Program) (h.header ++ (h.parts ++ ending)) (subst Named h.tokens_are named))

  pub parts_named : Named h.parts
  parts_named = named_left h.parts ending behind_header

  pub finals_named : Named h.names
  unfolding ending names_then
  finals_named =
      named_left h.names (Mark sign.Close ∷ [])
      (named_rest (Mark sign.Open) names_then (named_rest (Word keyword.End) (Mark sign.Open ∷ names_then) (named_right h.parts ending behind_header)))
