-- Where the tokens and the parts of a text stand.
--
-- Located               == a token, and where it stands: its first byte, from 0, and how many bytes it has
-- behind p              == the byte behind the place p
-- TextAt w n bytes ts   == the bytes, the first of them the byte n of a text, are these tokens in order, each
--                          at its place, with blanks before, between and after them; w says that a word
--                          stands just before the bytes
-- tokens_of ts          == the tokens without their places
-- first_of ts           == the first byte of the first of the tokens
-- end_of ts             == the byte behind the last of the tokens
-- Part                  == a part: its tag, and the block that has this part alone, with what stands in it
-- parts_of body         == the parts of a block, in preorder
-- Stands ts part placed == some of the tokens, one behind the other, spell the part, which has the placed
--                          tag; the place goes from the first byte of the first of them to the last byte of
--                          the last
-- EachStands ts ps qs   == each of the parts has its place, in order, and there are no other places
-- ArePlaces bytes qs    == the bytes spell a program, and these are the places of its parts, in preorder
use Rattle.std.specs.Prelude.{◌≡◌, ℕ, ◌+◌, Bool, false, List, [], ◌∷◌, ◌++◌, length, map}
use Rattle.hpr_terms.specs.declared.tag.Tag.{Tag}
use Rattle.hpr_terms.specs.declared.token.Token.{Token}
use Rattle.hpr_terms.specs.Tokens.{IsToken, is_word, Blanks, Ending, Apart}
use Rattle.hpr_syntax.specs.Body.{Body, done, action, branch, loop}
use Rattle.hpr_syntax.specs.Grammar.{tagged, SpellsParts, SpellsProgram}
use Rattle.hpr_syntax.specs.Shape.{IsProgram}
use Rattle.hpr_syntax.specs.Tree.{Tree}
use Rattle.hpr_places.specs.declared.place.Place.{Place}
use Rattle.hpr_places.specs.declared.place.Placed.{Placed}

pub record Located : Type 0 where
  pub token : Token
  pub place : Place

abbrev pub behind : Place → ℕ
behind p = p.first + p.length

abbrev pub located : Token → ℕ → ℕ → Located
located t n k = record { token = t; place = record { first = n; length = k } }

pub data TextAt : Bool → ℕ → List ℕ → List Located → Type 0 where
  ending : {w : Bool} {n : ℕ} {bytes : List ℕ} → Ending bytes → TextAt w n bytes []
  token : {w : Bool} {n : ℕ} (blanks text : List ℕ) {rest : List ℕ} {t : Token} {ts : List Located} → Blanks blanks → IsToken text t → Apart w blanks (is_word t)
      → TextAt (is_word t) (n + length blanks + length text) rest ts → TextAt w n (blanks ++ (text ++ rest)) (located t (n + length blanks) (length text) ∷ ts)

abbrev pub tokens_of : List Located → List Token
tokens_of ts = map (λ t. t.token) ts

abbrev pub first_of : List Located → ℕ
first_of [] = 0
first_of (t ∷ ts) = t.place.first

abbrev pub end_of : List Located → ℕ
end_of [] = 0
end_of (t ∷ []) = behind t.place
end_of (t ∷ u ∷ ts) = end_of (u ∷ ts)

pub record Part : Type 0 where
  pub tag : Tag
  pub alone : Body

abbrev pub parts_of : Body → List Part
parts_of done = []
parts_of (action t d rest) = record { tag = t; alone = action t d done } ∷ parts_of rest
parts_of (branch t e a b rest) = record { tag = t; alone = branch t e a b done } ∷ (parts_of a ++ parts_of b ++ parts_of rest)
parts_of (loop t e body rest) = record { tag = t; alone = loop t e body done } ∷ (parts_of body ++ parts_of rest)

-- a tag stands once in a program, and only in front of its part, so there is one such place
pub record Stands (ts : List Located) (part : Part) (placed : Placed) : Type 0 where
  pub front : List Located
  pub inside : List Located
  pub back : List Located
  pub level : ℕ
  pub before : ℕ
  pub after : ℕ
  pub tokens_are : ts ≡ front ++ (inside ++ back)
  pub spelled : SpellsParts tagged level before after (tokens_of inside) part.alone
  pub tag_is : placed.tag ≡ part.tag
  pub first_is : placed.place.first ≡ first_of inside
  pub end_is : behind placed.place ≡ end_of inside

abbrev pub EachStands : List Located → List Part → List Placed → Type 0
EachStands ts [] [] = Unit {0}
EachStands ts (p ∷ ps) (q ∷ qs) = Stands ts p q × EachStands ts ps qs
EachStands ts [] (q ∷ qs) = ⊥
EachStands ts (p ∷ ps) [] = ⊥

pub record ArePlaces (bytes : List ℕ) (qs : List Placed) : Type 0 where
  pub tree : Tree
  pub tokens : List Located
  pub text : TextAt false 0 bytes tokens
  pub program : SpellsProgram tagged (tokens_of tokens) tree
  pub shape : IsProgram tree
  pub parts : EachStands tokens (parts_of tree.body) qs
