-- The reader of a script's bytes: what it does with the next byte, outside of contents.
--
-- reader b f s       == what has begun is b, f was read, and s last
-- begins_word s w k  == the word k of scripts can stand at s, and w is a front of its text
-- begins_number s w  == w is a number that can stand at s
-- begins s w         == w is the front of a word that can stand at s
-- grown f s w        == the place behind the front w of a word, if a word that begins with it can stand there
-- other_finished, finished_by == the same of a word that is no keyword, and by the keyword that it is
-- finished f s w     == what comes next behind the word w, if it can stand there
-- settled o          == the place behind a sign, if there is one
-- signed f s b       == the place behind the sign b, if it can stand there
-- gap_next f s b     == the place behind the byte b where nothing has begun, if b can stand there
-- inner r b          == the place behind the byte b, where no word ends before it
-- IsInner begun b    == where a word has begun, the byte b is one of a word
-- lex_of begun       == what has begun, as the reader of tokens has it
-- state_of r         == what was read, as a state of the machine of tokens
-- in_word w          == a word has begun with the letters w
-- scanner_of r       == the place, as the reader of tokens has it
-- IsSoundAt, IsSound r == a word that has begun can be completed to one that can stand there
-- IsOutside bytes n  == the byte at n is none of a word
use Rattle.std.specs.Prelude.{◌≡◌, ℕ, Bool, true, false, slice_index, ◌||◌, ◌&&◌, nat_eq, if◌then◌else◌, List, [], ◌∷◌, ◌++◌, Option, Some, None, is_some, IsTrue}
use Rattle.std.specs.List.{list_any, starts_with}
use Rattle.hpr_terms.specs.declared.keyword.Keyword.{Keyword}
use Rattle.hpr_terms.specs.Keywords.{keyword_of}
use Rattle.hpr_terms.specs.Names.{is_name_byte, is_name_like, is_name}
use Rattle.hpr_terms.specs.Tokens.{is_blank}
use Rattle.hpr_scan.specs.declared.scanner.Lex.{Lex}
use Rattle.hpr_scan.specs.declared.scanner.Lex.TheVariants as lex
use Rattle.hpr_scan.specs.Steps.{and_then}
use Rattle.hpr_scan.specs.declared.scanner.Scanner.{Scanner}
use Rattle.hpr_scan.specs.Scanner.{at, sign_of}
use Rattle.hpr_scan.specs.Words.{is_numeral, value_after}
use Rattle.hpr_script.specs.declared.found.Found.{Found}
use Rattle.hpr_script.specs.declared.stage.Stage.{Stage}
use Rattle.hpr_script.specs.declared.stage.Turn.{Turn}
use Rattle.hpr_script.specs.declared.word.ScriptWord.{ScriptWord}
use Rattle.hpr_script.specs.declared.scanner.Begun.{Begun}
use Rattle.hpr_script.specs.declared.scanner.Begun.TheVariants.{Gap, Comment, InWord}
use Rattle.hpr_script.specs.declared.scanner.Reader.{Reader}
use Rattle.hpr_script.specs.ScriptWords.{script_text, script_words}
use Rattle.hpr_script.specs.Stages.{word_stage, takes_name, number_turn}
use Rattle.hpr_script.specs.Machine.{State, head, name_turn, keyword_turn, number_after, sign_after}

abbrev pub reader : Begun → Found → Stage → Reader
reader b f s = record { begun = b; found = f; stage = s }

abbrev pub begins_word : Stage → List ℕ → ScriptWord → Bool
begins_word s w k = is_some (word_stage s k) && starts_with nat_eq (script_text k) w

abbrev pub begins_number : Stage → List ℕ → Bool
begins_number s w = is_numeral w && is_some (number_turn s (value_after 0 w))

unfoldable pub begins : Stage → List ℕ → Bool
begins s w = (takes_name s && is_name_like w) || begins_number s w || list_any (begins_word s w) script_words

abbrev pub grown : Found → Stage → List ℕ → Option Reader
grown f s w = if begins s w then Some (reader (InWord w) f s) else None

abbrev pub other_finished : Found → Stage → List ℕ → Option (Found × Turn)
other_finished f s w = if is_name w then name_turn f s w else (if is_numeral w then number_after f s (value_after 0 w) else None)

abbrev pub finished_by : Option Keyword → Found → Stage → List ℕ → Option (Found × Turn)
finished_by (Some k) f s w = keyword_turn f s k
finished_by None f s w = other_finished f s w

unfoldable pub finished : Found → Stage → List ℕ → Option (Found × Turn)
finished f s w = finished_by (keyword_of w) f s w

abbrev pub settled : Option (Found × Stage) → Option Reader
settled None = None
settled (Some p) = Some (reader Gap p.0 p.1)

unfoldable pub signed : Found → Stage → ℕ → Option (Found × Stage)
signed f s b = and_then (sign_of b) (λ sign. sign_after f sign s)

unfoldable pub gap_next : Found → Stage → ℕ → Option Reader
gap_next f s b =
    if is_blank b then Some (reader Gap f s)
    else (if nat_eq b 35 then Some (reader Comment f s) else (if is_name_byte b then grown f s (b ∷ []) else settled (signed f s b)))

abbrev pub inner : Begun → Found → Stage → ℕ → Option Reader
inner Gap f s b = gap_next f s b
inner Comment f s b = Some (reader (if nat_eq b 10 then Gap else Comment) f s)
inner (InWord w) f s b = grown f s (w ++ (b ∷ []))

abbrev pub IsInner : Begun → ℕ → Type 0
IsInner Gap b = Unit {0}
IsInner Comment b = Unit {0}
IsInner (InWord w) b = IsTrue (is_name_byte b)

abbrev pub lex_of : Begun → Lex
lex_of Gap = lex.Gap
lex_of Comment = lex.Comment
lex_of (InWord w) = lex.InWord w

abbrev pub state_of : Reader → State
state_of r = head r.found r.stage

abbrev pub in_word : List ℕ → Lex
in_word w = lex.InWord w

abbrev pub scanner_of : Reader → Scanner State
scanner_of r = at (lex_of r.begun) (state_of r)

abbrev pub IsSoundAt : Begun → Stage → Type 0
IsSoundAt Gap s = Unit {0}
IsSoundAt Comment s = Unit {0}
IsSoundAt (InWord w) s = begins s w ≡ true

abbrev pub IsSound : Reader → Type 0
IsSound r = IsSoundAt r.begun r.stage

abbrev pub IsOutside : List ℕ → ℕ → Type 0
IsOutside bytes n = is_name_byte (slice_index bytes n) ≡ false
