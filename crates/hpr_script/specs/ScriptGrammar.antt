-- The grammar of edit scripts over tokens.
--
--   script  = (nothing) | command ";" script
--   command = "insert" place content | "delete" tag | "move" tag place
--           | "set" tag content | "wrap" tag content | "unwrap" tag
--           | "finals" "(" names ")"
--   place   = "at" "top" at | "at" tag "true" at | "at" tag "false" at
--
-- Tags, names of `end`, contents and expressions are those of programs, within their limits of brackets and
-- operators. The words of scripts are names to the reader of tokens: each is known by its place, and a name
-- may be any of them.
--
-- word k                == the token of a word of scripts
-- tag_then t ts         == the tokens of the tag, and then these
-- IsCount n             == n is at most 4294967295
-- place_at parent n     == the place n in the block
-- SpellsPlace ts p      == the tokens spell the place
-- SpellsCommand ts c    == the tokens spell the command
-- SpellsScript ts cs    == the tokens spell the commands, each with a `;` behind it
-- IsScript bytes cs     == the bytes are tokens that spell the script of these commands
-- HasScript bytes       == the bytes spell some script
-- OneScript             == bytes spell at most one script
use Rattle.std.specs.Prelude.{◌≡◌, ℕ, ◌<◌, ◌^◌, Bool, true, false, List, [], ◌∷◌, ◌++◌, Option, Some, None}
use Rattle.hpr_terms.specs.declared.tag.Tag.{Tag}
use Rattle.hpr_terms.specs.declared.token.Sign.TheVariants.{Dot, Semicolon, Open, Close}
use Rattle.hpr_terms.specs.declared.token.Token.{Token}
use Rattle.hpr_terms.specs.declared.token.Token.TheVariants.{Name, Number, Mark}
use Rattle.hpr_terms.specs.Tokens.{Text}
use Rattle.hpr_syntax.specs.declared.rows.Content.{Content}
use Rattle.hpr_syntax.specs.Grammar.{IsTag, SpellsNames}
use Rattle.hpr_text.specs.Contents.{SpellsContent}
use Rattle.hpr_edit.specs.declared.command.Place.{Place}
use Rattle.hpr_edit.specs.declared.command.Command.{Command}
use Rattle.hpr_edit.specs.declared.command.Command.TheVariants as command
use Rattle.hpr_script.specs.declared.word.ScriptWord.{ScriptWord}
use Rattle.hpr_script.specs.declared.word.ScriptWord.TheVariants as words
use Rattle.hpr_script.specs.ScriptWords.{script_text}

abbrev pub word : ScriptWord → Token
word k = Name (script_text k)

abbrev pub tag_then : Tag → List Token → List Token
tag_then t ts = Number t.author ∷ Mark Dot ∷ Number t.serial ∷ ts

abbrev pub IsCount : ℕ → Type 0
IsCount n = n < 2 ^ 32

abbrev pub place_at : Option (Tag × Bool) → ℕ → Place
place_at parent n = record { parent = parent; at = n }

pub data SpellsPlace : List Token → Place → Type 0 where
  top : {n : ℕ} → IsCount n → SpellsPlace (word words.At ∷ word words.Top ∷ Number n ∷ []) (place_at None n)
  first_block : {t : Tag} {n : ℕ} → IsTag t → IsCount n
      → SpellsPlace (word words.At ∷ tag_then t (word words.True ∷ Number n ∷ [])) (place_at (Some (t, true)) n)
  second_block : {t : Tag} {n : ℕ} → IsTag t → IsCount n
      → SpellsPlace (word words.At ∷ tag_then t (word words.False ∷ Number n ∷ [])) (place_at (Some (t, false)) n)

pub data SpellsCommand : List Token → Command → Type 0 where
  insert : {p : Place} {c : Content} {place content : List Token} → SpellsPlace place p → SpellsContent content c
      → SpellsCommand (word words.Insert ∷ (place ++ content)) (command.Insert p c)
  delete : {t : Tag} → IsTag t → SpellsCommand (word words.Delete ∷ tag_then t []) (command.Delete t)
  move : {t : Tag} {p : Place} {place : List Token} → IsTag t → SpellsPlace place p → SpellsCommand (word words.Move ∷ tag_then t place) (command.Move t p)
  set : {t : Tag} {c : Content} {content : List Token} → IsTag t → SpellsContent content c → SpellsCommand (word words.Set ∷ tag_then t content) (command.Set t c)
  wrap : {t : Tag} {c : Content} {content : List Token} → IsTag t → SpellsContent content c → SpellsCommand (word words.Wrap ∷ tag_then t content) (command.Wrap t c)
  unwrap : {t : Tag} → IsTag t → SpellsCommand (word words.Unwrap ∷ tag_then t []) (command.Unwrap t)
  finals : {xs : List (List ℕ)} {names : List Token} → SpellsNames names xs
      → SpellsCommand (word words.Finals ∷ Mark Open ∷ (names ++ (Mark Close ∷ []))) (command.Finals xs)

pub data SpellsScript : List Token → List Command → Type 0 where
  nothing : SpellsScript [] []
  first : {c : Command} {cs : List Command} {ts more : List Token} → SpellsCommand ts c → SpellsScript more cs
      → SpellsScript (ts ++ (Mark Semicolon ∷ more)) (c ∷ cs)

pub record IsScript (bytes : List ℕ) (cs : List Command) : Type 0 where
  pub tokens : List Token
  pub text : Text false bytes tokens
  pub spelled : SpellsScript tokens cs

abbrev pub HasScript : List ℕ → Type 0
HasScript bytes = (cs : List Command) × IsScript bytes cs

abbrev pub OneScript : Type 0
OneScript = (bytes : List ℕ) (cs ds : List Command) → IsScript bytes cs → IsScript bytes ds → cs ≡ ds
