-- Which bytes are scripts, by where they lead the machine of bytes.
use Rattle.std.proofs.Common.{◌≡◌, ℕ, ◌≤◌, List, [], length, Bool, true, false, cond, Option, Some, None, Result, Ok, Err, IfOk, refl, sym, ap, subst, ◌∙◌, arith}
use Rattle.std.proofs.lemmas.List.{take_all}
use Rattle.hpr_terms.specs.declared.tag.Tag.{Tag}
use Rattle.hpr_terms.specs.declared.keyword.Keyword.{Keyword}
use Rattle.hpr_terms.specs.declared.keyword.Keyword.TheVariants.{Out}
use Rattle.hpr_terms.specs.Names.{stream}
use Rattle.hpr_terms.specs.declared.token.Token.{Token}
use Rattle.hpr_terms.specs.declared.token.Token.TheVariants.{Word, Name, Number, Mark}
use Rattle.hpr_terms.specs.Tokens.{is_word}
use Rattle.hpr_terms.proofs.Facts.{some_inj}
use Rattle.hpr_scan.specs.declared.scanner.Lex.TheVariants as lex
use Rattle.hpr_scan.specs.Place.{IsViable, IsPlace}
use Rattle.hpr_scan.specs.Steps.{and_then}
use Rattle.hpr_scan.specs.Words.{word_token}
use Rattle.hpr_scan.specs.Scanner.{finish, scan, feeds}
use Rattle.hpr_scan.proofs.Words.{none_some, true_false, small, token_is}
use Rattle.hpr_scan.proofs.WholeText.{text_scan}
use Rattle.hpr_scan.proofs.SoundText.{then_of, scan_from}
use Rattle.hpr_scan.proofs.Loop.{feeds_scan, scan_end}
use Rattle.hpr_scan.proofs.Place.{same_place, end_place}
use Rattle.hpr_edit.specs.declared.command.Command.{Command}
use Rattle.hpr_edit.specs.declared.command.Place.{Place}
use Rattle.hpr_script.specs.declared.found.Found.{Found}
use Rattle.hpr_script.specs.declared.scanner.Begun.{Begun}
use Rattle.hpr_script.specs.declared.scanner.Begun.TheVariants.{Gap, Comment, InWord}
use Rattle.hpr_script.specs.declared.scanner.Reader.{Reader}
use Rattle.hpr_script.specs.declared.stage.Asked.{Asked}
use Rattle.hpr_script.specs.declared.stage.Asked.TheVariants as asked
use Rattle.hpr_script.specs.declared.stage.Placed.{Placed}
use Rattle.hpr_script.specs.declared.stage.Placed.TheVariants as placed
use Rattle.hpr_script.specs.declared.stage.Stage.{Stage}
use Rattle.hpr_script.specs.declared.stage.Stage.TheVariants.{AtCommand, AtTag, AfterDot, AtPlace, AfterAt, AfterParent, AtCount, AfterName, AfterFinal}
use Rattle.hpr_script.specs.declared.stage.Turn.{Turn}
use Rattle.hpr_script.specs.declared.stage.Turn.TheVariants as turn
use Rattle.hpr_script.specs.declared.word.ScriptWord.{ScriptWord}
use Rattle.hpr_script.specs.declared.word.ScriptWord.TheVariants as words
use Rattle.hpr_script.specs.ScriptGrammar.{IsScript, HasScript, OneScript}
use Rattle.hpr_script.specs.ScriptWords.{script_word}
use Rattle.hpr_script.specs.Stages.{tagged, at_place, command_stage, block_stage, word_stage, wants_word, takes_name, number_turn, is_count, is_serial}
use Rattle.hpr_script.specs.Machine.{head, lost, turned, at_turn, turns_at, turns_to, with_last, word_turn, variable_turn, name_turn, keyword_turn, number_after, or_lost, name_next, next, start, is_end, ends_script, commands_of}
use Rattle.hpr_script.specs.Reading.{lex_of, scanner_of}
use Rattle.hpr_script.specs.declared.reader.ScriptError.{ScriptError}
use Rattle.hpr_script.specs.declared.reader.ScriptError.TheVariants.{Syntax, Memory}
use Rattle.hpr_script.specs.Answers.{Ends, IfSyntax, WholeAt, is_whole}
use Rattle.hpr_script.proofs.MachineLaws.{script_is_token_machine}
use Rattle.hpr_script.proofs.Completions.{can_end}
use Rattle.hpr_script.proofs.Places.{Reads}
use Rattle.hpr_script.proofs.Sound.{read_is_spelled}
use Rattle.hpr_script.proofs.Whole.{spelled_is_read}

abbrev read : List Command → Found
read cs = record { commands = cs; names = []; last = None }

leads_script : (bytes : List ℕ) (f : Found) → scan next lex.Gap start bytes ≡ Some (head f AtCommand) → IsScript bytes f.commands
leads_script bytes f e =
    let k = scan_from next script_is_token_machine bytes lex.Gap start (head f AtCommand) e in
    record { tokens = k.0; text = k.1; spelled = read_is_spelled k.0 f k.2 }

script_leads : (bytes : List ℕ) (cs : List Command) → IsScript bytes cs → scan next lex.Gap start bytes ≡ Some (head (read cs) AtCommand)
script_leads bytes cs h = text_scan next script_is_token_machine h.text start (head (read cs) AtCommand) (spelled_is_read h.tokens cs h.spelled)

pub script_place : (bytes : List ℕ) (n : ℕ) → IsPlace (Ends lex.Gap start) bytes n → IsPlace HasScript bytes n
script_place bytes n p =
    same_place (Ends lex.Gap start) HasScript (λ bs e. (e.0.commands, leads_script bs e.0 e.1)) (λ bs h. (read h.0, script_leads bs h.0 h.1)) bytes n p

pub one_script : OneScript
one_script bytes cs ds h k =
    ap commands_of (some_inj (head (read cs) AtCommand) (head (read ds) AtCommand) (sym (script_leads bytes cs h) ∙ script_leads bytes ds k))

-- ---- no word ends a script

abbrev Goes : Turn → Type 0
Goes (turn.Head s) = ends_script s ≡ false
Goes (turn.Content h) = Unit {0}

goes_is : (s q : Stage) → ends_script s ≡ false → Some s ≡ Some q → ends_script q ≡ false
goes_is s q h e = ap ends_script (sym (some_inj s q e)) ∙ h

command_goes : (k : ScriptWord) (q : Stage) → command_stage k ≡ Some q → ends_script q ≡ false
command_goes words.Insert q e = goes_is _ q refl e
command_goes words.Delete q e = goes_is _ q refl e
command_goes words.Move q e = goes_is _ q refl e
command_goes words.Set q e = goes_is _ q refl e
command_goes words.Wrap q e = goes_is _ q refl e
command_goes words.Unwrap q e = goes_is _ q refl e
command_goes words.Finals q e = goes_is _ q refl e
command_goes k q e = absurd cc

block_goes : (p : Placed) (t : Tag) (k : ScriptWord) (q : Stage) → block_stage p t k ≡ Some q → ends_script q ≡ false
block_goes p t words.True q e = goes_is _ q refl e
block_goes p t words.False q e = goes_is _ q refl e
block_goes p t k q e = absurd cc

word_goes : (s : Stage) (k : ScriptWord) (q : Stage) → word_stage s k ≡ Some q → ends_script q ≡ false
unfolding word_stage
word_goes AtCommand k q e = command_goes k q e
word_goes (AtPlace p) words.At q e = goes_is _ q refl e
word_goes (AfterAt p) words.Top q e = goes_is _ q refl e
word_goes (AfterParent p t) k q e = block_goes p t k q e
word_goes s k q e = absurd cc

tagged_goes : (a : Asked) (t : Tag) → Goes (tagged a t)
tagged_goes asked.Delete t = refl
tagged_goes asked.Move t = refl
tagged_goes asked.Set t = tt
tagged_goes asked.Wrap t = tt
tagged_goes asked.Unwrap t = refl
tagged_goes (asked.Parent p) t = refl

placed_goes : (p : Placed) (q : Place) → Goes (at_place p q)
placed_goes placed.New q = tt
placed_goes (placed.Part t) q = refl

guarded_goes : (b : Bool) (t q : Turn) → Goes t → cond b (Some t) None ≡ Some q → Goes q
guarded_goes true t q h e = subst Goes (some_inj t q e) h
guarded_goes false t q h e = absurd (none_some e)

number_goes : (s : Stage) (n : ℕ) (q : Turn) → number_turn s n ≡ Some q → Goes q
unfolding number_turn
number_goes (AtTag a) n q e = guarded_goes (is_count n) _ q refl e
number_goes (AfterAt p) n q e = guarded_goes (is_count n) _ q refl e
number_goes (AfterDot a m) n q e = guarded_goes (is_serial n) _ q (tagged_goes a _) e
number_goes (AtCount p parent) n q e = guarded_goes (is_count n) _ q (placed_goes p _) e
number_goes s n q e = absurd cc

-- the state is none at which a script may end
turn_goes : (f g : Found) (t : Turn) → Goes t → Some (turned f t) ≡ Some (head g AtCommand) → ⊥
turn_goes f g (turn.Head s) h e = true_false (ap is_end (some_inj (head f s) (head g AtCommand) e)) h
turn_goes f g (turn.Content c) h e = true_false (ap is_end (some_inj (turned f (turn.Content c)) (head g AtCommand) e)) refl

number_ends : (f g : Found) (s : Stage) (n : ℕ) (o : Option Turn) → number_turn s n ≡ o → at_turn (turns_at f o) ≡ Some (head g AtCommand) → ⊥
number_ends f g s n None q e = none_some e
number_ends f g s n (Some t) q e = turn_goes f g t (number_goes s n t q) e

word_turn_ends : (f g : Found) (s : Stage) (o : Option ScriptWord) (p : Option Stage) → and_then o (word_stage s) ≡ p → or_lost (at_turn (turns_to f p)) ≡ Some (head g AtCommand) → ⊥
word_turn_ends f g s o None q e = true_false (ap is_end (some_inj lost (head g AtCommand) e)) refl
word_turn_ends f g s None (Some p) q e = none_some q
word_turn_ends f g s (Some k) (Some p) q e = turn_goes f g (turn.Head p) (word_goes s k p q) e

variable_ends : (f g : Found) (x : List ℕ) (q : Stage) (b : Bool) → ends_script q ≡ false → at_turn (cond b (Some (with_last x f, turn.Head q)) None) ≡ Some (head g AtCommand) → ⊥
variable_ends f g x q true h e = turn_goes (with_last x f) g (turn.Head q) h e
variable_ends f g x q false h e = none_some e

name_ends : (f g : Found) (s : Stage) (x : List ℕ) (b : Bool) → name_next b (at_turn (cond b (word_turn f s x) (variable_turn f s x AfterName))) ≡ Some (head g AtCommand) → ⊥
name_ends f g s x true e = word_turn_ends f g s (script_word x) (and_then (script_word x) (word_stage s)) refl e
name_ends f g s x false e = variable_ends f g x AfterName (takes_name s) refl e

keyword_ends : (f g : Found) (s : Stage) (k : Keyword) → at_turn (keyword_turn f s k) ≡ Some (head g AtCommand) → ⊥
unfolding keyword_turn
keyword_ends f g s Out e = variable_ends f g stream AfterFinal (takes_name s) refl e
keyword_ends f g s k e = none_some e

token_ends : (f g : Found) (s : Stage) (t : Token) → is_word t ≡ true → next (head f s) t ≡ Some (head g AtCommand) → ⊥
unfolding next name_turn number_after
token_ends f g s (Word k) w e = keyword_ends f g s k e
token_ends f g s (Name x) w e = name_ends f g s x (wants_word s) e
token_ends f g s (Number n) w e = number_ends f g s n (number_turn s n) refl e
token_ends f g s (Mark x) w e = true_false w refl

begun_ends : (l : Begun) (f g : Found) (s : Stage) → is_whole l s ≡ false → finish next (lex_of l) (head f s) ≡ Some (head g AtCommand) → ⊥
unfolding finish
begun_ends Gap f g s h e = turn_goes f g (turn.Head s) h e
begun_ends Comment f g s h e = turn_goes f g (turn.Head s) h e
begun_ends (InWord w) f g s h e =
    let k = then_of (word_token w) (next (head f s)) (head g AtCommand) e in
    token_ends f g s k.0 (token_is w k.0 k.1 (small next script_is_token_machine (head f s) (head g AtCommand) k.0 k.2)).1 k.2

-- ---- all bytes were read

all_feeds : (bytes : List ℕ) (at : ℕ) (r : Reader) → Reads bytes at r → length bytes ≤ at → feeds next lex.Gap start bytes ≡ Some (scanner_of r)
all_feeds bytes at r h le = ap (feeds next lex.Gap start) (sym (take_all at bytes le)) ∙ h.feeds

ends_at : (s : Stage) → ends_script s ≡ true → s ≡ AtCommand
ends_at AtCommand e = refl
ends_at s e = absurd cc

whole_ends : (l : Begun) (f : Found) (s : Stage) → is_whole l s ≡ true → finish next (lex_of l) (head f s) ≡ Some (head f AtCommand)
unfolding finish
whole_ends Gap f s e = ap (λ (q : Stage). Some (head f q)) (ends_at s e)
whole_ends Comment f s e = ap (λ (q : Stage). Some (head f q)) (ends_at s e)
whole_ends (InWord w) f s e = absurd cc

pub whole_is : (bytes : List ℕ) (at : ℕ) (r : Reader) → Reads bytes at r → length bytes ≤ at → is_whole r.begun r.stage ≡ true → IsScript bytes r.found.commands
whole_is bytes at r h le e =
    leads_script bytes r.found (scan_end next bytes start (scanner_of r) (all_feeds bytes at r h le) ∙ whole_ends r.begun r.found r.stage e)

pub too_early : (bytes : List ℕ) (at : ℕ) (r : Reader) → Reads bytes at r → length bytes ≤ at → is_whole r.begun r.stage ≡ false → IsPlace HasScript bytes at
too_early bytes at r h le e =
    let fed = all_feeds bytes at r h le in
    let more = can_end r.begun r.found r.stage h.sound in
    let viable : IsViable (Ends lex.Gap start) bytes = (more.0, (more.1.0, feeds_scan next bytes more.0 lex.Gap start (scanner_of r) fed ∙ more.1.1)) in
    let whole = end_place (Ends lex.Gap start) bytes
    (λ k. begun_ends r.begun r.found k.0 r.stage e (sym (scan_end next bytes start (scanner_of r) fed) ∙ k.1)) viable in
    subst (IsPlace HasScript bytes) (omega (arith, le, h.within)) (script_place bytes (length bytes) whole)

-- ---- the answer

pub commands_answer : {A : Type 0} (items : A → List Command) (bytes : List ℕ) (at : ℕ) (r : Reader) (result : Result A ScriptError) → Reads bytes at r → length bytes ≤ at
    → IfOk result (λ v. items v ≡ r.found.commands) → WholeAt (is_whole r.begun r.stage) at result → IfOk result (λ v. IsScript bytes (items v))
commands_answer items bytes at r (Ok v) h le same e = subst (IsScript bytes) (sym same) (whole_is bytes at r h le e)
commands_answer items bytes at r (Err (Syntax n)) h le same e = tt
commands_answer items bytes at r (Err Memory) h le same e = tt

pub place_answer : {A : Type 0} (bytes : List ℕ) (at : ℕ) (r : Reader) (result : Result A ScriptError) → Reads bytes at r → length bytes ≤ at
    → WholeAt (is_whole r.begun r.stage) at result → IfSyntax result (λ n. IsPlace HasScript bytes n)
place_answer bytes at r (Ok v) h le e = tt
place_answer bytes at r (Err (Syntax n)) h le e = subst (IsPlace HasScript bytes) (sym e.1) (too_early bytes at r h le e.0)
place_answer bytes at r (Err Memory) h le e = tt
