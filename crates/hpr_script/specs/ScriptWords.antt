-- The words of scripts.
--
-- script_text k  == the word as it stands in a script
-- script_words   == all of them
-- script_word w  == the word whose text w is, if there is one
use Rattle.std.specs.Prelude.{ℕ, List, [], ◌∷◌, Option, codes, find}
use Rattle.std.specs.Str.{bytes_eq}
use Rattle.hpr_script.specs.declared.word.ScriptWord.{ScriptWord}
use Rattle.hpr_script.specs.declared.word.ScriptWord.TheVariants.{Insert, Delete, Move, Set, Wrap, Unwrap, Finals, At, Top, True, False}

abbrev pub script_text : ScriptWord → List ℕ
script_text Insert = codes "insert"
script_text Delete = codes "delete"
script_text Move = codes "move"
script_text Set = codes "set"
script_text Wrap = codes "wrap"
script_text Unwrap = codes "unwrap"
script_text Finals = codes "finals"
script_text At = codes "at"
script_text Top = codes "top"
script_text True = codes "true"
script_text False = codes "false"

abbrev pub script_words : List ScriptWord
script_words = Insert ∷ Delete ∷ Move ∷ Set ∷ Wrap ∷ Unwrap ∷ Finals ∷ At ∷ Top ∷ True ∷ False ∷ []

unfoldable pub script_word : List ℕ → Option ScriptWord
script_word w = find (λ k. bytes_eq (script_text k) w) script_words
