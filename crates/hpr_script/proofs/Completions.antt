-- Each place of a script can be completed to a script.
use Rattle.std.proofs.Common.{◌≡◌, ℕ, List, [], ◌∷◌, ◌++◌, Bool, true, false, eqb, ◌||◌, ◌&&◌, Option, Some, None, is_some, refl, sym, ap, subst, ◌∙◌, inl, inr, lit<}
use Rattle.std.specs.List.{list_all, list_any, starts_with}
use Rattle.std.proofs.lemmas.Bool.{and_parts}
use Rattle.std.proofs.lemmas.List.{append-nil}
use Rattle.hpr_terms.specs.declared.expr.Expr.TheVariants.{Num}
use Rattle.hpr_terms.specs.declared.tag.Tag.{Tag}
use Rattle.hpr_terms.specs.declared.keyword.Keyword.{Keyword}
use Rattle.hpr_terms.specs.declared.token.Sign.TheVariants.{Becomes, Dot, Semicolon, Open, Close, CloseSquare}
use Rattle.hpr_terms.specs.declared.token.Token.{Token}
use Rattle.hpr_terms.specs.declared.token.Token.TheVariants.{Name, Number, Mark}
use Rattle.hpr_terms.specs.Keywords.{keyword_text, keyword_of}
use Rattle.hpr_terms.specs.Names.{is_name_byte, is_name_like}
use Rattle.hpr_terms.specs.Tokens.{IsToken, is_word}
use Rattle.hpr_scan.specs.declared.scanner.Lex.{Lex}
use Rattle.hpr_scan.specs.declared.scanner.Lex.TheVariants as lex
use Rattle.hpr_scan.specs.Machine.{Live, ends, goes}
use Rattle.hpr_scan.specs.Words.{is_numeral, value_after}
use Rattle.hpr_scan.specs.Scanner.{feed, scan}
use Rattle.hpr_scan.proofs.Words.{small, keyword_is, number_text}
use Rattle.hpr_scan.proofs.WholeText.{word_scan, text_scan}
use Rattle.hpr_scan.proofs.Live.{Way, way, or_of, taken, front_of, all_behind, name_behind, underscore, name_of_like}
use Rattle.hpr_expressions.specs.declared.expression.Context.{Context}
use Rattle.hpr_expressions.specs.declared.expression.Reading.TheVariants.{After}
use Rattle.hpr_expressions.specs.Expression as expression
use Rattle.hpr_expressions.specs.Pending.{nothing_pending, whole}
use Rattle.hpr_text.specs.declared.content.Aim.TheVariants.{Assign}
use Rattle.hpr_text.specs.declared.content.ContentState.TheVariants.{Start, AfterTarget, InExpression}
use Rattle.hpr_text.specs.ContentMachine.{content_of, content_next}
use Rattle.hpr_text.specs.Live.{x_text, x_is_name}
use Rattle.hpr_edit.specs.declared.command.Place.{Place}
use Rattle.hpr_script.specs.declared.found.Found.{Found}
use Rattle.hpr_script.specs.declared.stage.Placed.{Placed}
use Rattle.hpr_script.specs.declared.stage.Placed.TheVariants as placed
use Rattle.hpr_script.specs.declared.stage.Asked.{Asked}
use Rattle.hpr_script.specs.declared.stage.Asked.TheVariants as asked
use Rattle.hpr_script.specs.declared.stage.Holder.{Holder}
use Rattle.hpr_script.specs.declared.stage.Plain.{Plain}
use Rattle.hpr_script.specs.declared.stage.Plain.TheVariants as plain
use Rattle.hpr_script.specs.declared.stage.Stage.{Stage}
use Rattle.hpr_script.specs.declared.stage.Stage.TheVariants.{AtCommand, AtTag, AfterAuthor, AfterDot, AtPlace, AfterAt, AfterParent, AtCount, AtNames, AfterOpen, AfterName, AfterNameOpen, AfterFinal, AfterComma, AtEnd}
use Rattle.hpr_script.specs.declared.stage.Turn.{Turn}
use Rattle.hpr_script.specs.declared.stage.Turn.TheVariants as turn
use Rattle.hpr_script.specs.declared.word.ScriptWord.{ScriptWord}
use Rattle.hpr_script.specs.declared.word.ScriptWord.TheVariants as words
use Rattle.hpr_script.specs.declared.scanner.Begun.{Begun}
use Rattle.hpr_script.specs.declared.scanner.Begun.TheVariants.{Gap, Comment, InWord}
use Rattle.hpr_script.specs.ScriptGrammar.{word, place_at}
use Rattle.hpr_script.specs.ScriptWords.{script_text, script_words, script_word}
use Rattle.hpr_script.specs.Stages.{tagged, at_place, word_stage, wants_word, takes_name, number_turn}
use Rattle.hpr_script.specs.Machine.{State, head, inside, lost, turned, at_turn, turns_at, with_last, with_last_ended, with_plain, with_command, without_names, filled, name_turn, number_after, sign_after, next, is_end}
use Rattle.hpr_script.specs.Answers.{Ends}
use Rattle.hpr_script.specs.Reading.{begins_word, begins_number, begins, lex_of, IsSoundAt}
use Rattle.hpr_script.proofs.MachineLaws.{script_is_token_machine}
use Rattle.hpr_script.proofs.Bytes.{word_is_name, word_found, some_word, wants_some, takes_only}

-- ---- tokens to an end

abbrev pub IsLive : State → Type 0
IsLive s = Live next is_end s

live_command : (f : Found) → IsLive (head f AtCommand)
live_command f = ends refl

live_end : (f : Found) (p : Plain) → IsLive (head f (AtEnd p))
unfolding next sign_after
live_end f p = goes (Mark Semicolon) (head (with_plain p f) AtCommand) tt refl (live_command (with_plain p f))

abbrev context : Context
context = record { outer = []; here = nothing_pending; count = 0 }

live_content : (f : Found) (h : Holder) → IsLive (inside f h Start)
unfolding next content_next expression.read
live_content f h =
    goes (Name x_text) (inside f h (AfterTarget x_text)) x_is_name refl
    (goes (Mark Becomes) (inside f h (InExpression (Assign x_text) expression.start)) tt refl
    (goes (Number 0) (inside f h (InExpression (Assign x_text) (After context (Num 0)))) (lit< tt) refl
    (goes (Mark Semicolon) (head (with_command (filled h (content_of (Assign x_text) (whole nothing_pending (Num 0)))) f) AtCommand) tt refl (live_command _))))

live_placed : (f : Found) (p : Placed) (q : Place) → IsLive (turned f (at_place p q))
live_placed f placed.New q = live_content f _
live_placed f (placed.Part t) q = live_end f (plain.Move t q)

live_count : (f : Found) (p : Placed) (parent : Option (Tag × Bool)) → IsLive (head f (AtCount p parent))
unfolding next number_after number_turn
live_count f p parent = goes (Number 0) (turned f (at_place p (place_at parent 0))) (lit< tt) refl (live_placed f p (place_at parent 0))

live_parent : (f : Found) (p : Placed) (t : Tag) → IsLive (head f (AfterParent p t))
unfolding next name_turn wants_word word_stage script_word
live_parent f p t = goes (word words.True) (head f (AtCount p (Some (t, true)))) (word_is_name words.True) refl (live_count f p (Some (t, true)))

live_after_at : (f : Found) (p : Placed) → IsLive (head f (AfterAt p))
unfolding next name_turn wants_word word_stage script_word
live_after_at f p = goes (word words.Top) (head f (AtCount p None)) (word_is_name words.Top) refl (live_count f p None)

live_place : (f : Found) (p : Placed) → IsLive (head f (AtPlace p))
unfolding next name_turn wants_word word_stage script_word
live_place f p = goes (word words.At) (head f (AfterAt p)) (word_is_name words.At) refl (live_after_at f p)

live_tagged : (f : Found) (a : Asked) (t : Tag) → IsLive (turned f (tagged a t))
live_tagged f asked.Delete t = live_end f (plain.Delete t)
live_tagged f asked.Move t = live_place f (placed.Part t)
live_tagged f asked.Set t = live_content f _
live_tagged f asked.Wrap t = live_content f _
live_tagged f asked.Unwrap t = live_end f (plain.Unwrap t)
live_tagged f (asked.Parent p) t = live_parent f p t

live_dot : (f : Found) (a : Asked) (m : ℕ) → IsLive (head f (AfterDot a m))
unfolding next number_after number_turn
live_dot f a m = goes (Number 1) (turned f (tagged a (record { author = m; serial = 1 }))) (lit< tt) refl (live_tagged f a (record { author = m; serial = 1 }))

live_author : (f : Found) (a : Asked) (m : ℕ) → IsLive (head f (AfterAuthor a m))
unfolding next sign_after
live_author f a m = goes (Mark Dot) (head f (AfterDot a m)) tt refl (live_dot f a m)

live_tag : (f : Found) (a : Asked) → IsLive (head f (AtTag a))
unfolding next number_after number_turn
live_tag f a = goes (Number 0) (head f (AfterAuthor a 0)) (lit< tt) refl (live_author f a 0)

live_name : (f : Found) → IsLive (head f AfterName)
unfolding next sign_after
live_name f = goes (Mark Close) (head (with_last_ended f) (AtEnd plain.Finals)) tt refl (live_end (with_last_ended f) plain.Finals)

live_final : (f : Found) → IsLive (head f AfterFinal)
unfolding next sign_after
live_final f = goes (Mark Close) (head (with_last_ended f) (AtEnd plain.Finals)) tt refl (live_end (with_last_ended f) plain.Finals)

live_name_open : (f : Found) → IsLive (head f AfterNameOpen)
unfolding next sign_after
live_name_open f = goes (Mark CloseSquare) (head f AfterFinal) tt refl (live_final f)

live_comma : (f : Found) → IsLive (head f AfterComma)
unfolding next name_turn wants_word takes_name
live_comma f = goes (Name x_text) (head (with_last x_text f) AfterName) x_is_name refl (live_name (with_last x_text f))

live_open : (f : Found) → IsLive (head f AfterOpen)
unfolding next sign_after
live_open f = goes (Mark Close) (head f (AtEnd plain.Finals)) tt refl (live_end f plain.Finals)

live_names : (f : Found) → IsLive (head f AtNames)
unfolding next sign_after
live_names f = goes (Mark Open) (head (without_names f) AfterOpen) tt refl (live_open (without_names f))

live_head : (f : Found) (s : Stage) → IsLive (head f s)
live_head f AtCommand = live_command f
live_head f (AtTag a) = live_tag f a
live_head f (AfterAuthor a m) = live_author f a m
live_head f (AfterDot a m) = live_dot f a m
live_head f (AtPlace p) = live_place f p
live_head f (AfterAt p) = live_after_at f p
live_head f (AfterParent p t) = live_parent f p t
live_head f (AtCount p parent) = live_count f p parent
live_head f AtNames = live_names f
live_head f AfterOpen = live_open f
live_head f AfterName = live_name f
live_head f AfterNameOpen = live_name_open f
live_head f AfterFinal = live_final f
live_head f AfterComma = live_comma f
live_head f (AtEnd p) = live_end f p

live_turn : (f : Found) (t : Turn) → IsLive (turned f t)
live_turn f (turn.Head s) = live_head f s
live_turn f (turn.Content h) = live_content f h

-- ---- bytes to an end

end_is : (s : State) → is_end s ≡ true → (f : Found) × (s ≡ head f AtCommand)
end_is (head f AtCommand) e = (f, refl)
end_is (head f (AtTag a)) e = absurd cc
end_is (head f (AfterAuthor a m)) e = absurd cc
end_is (head f (AfterDot a m)) e = absurd cc
end_is (head f (AtPlace p)) e = absurd cc
end_is (head f (AfterAt p)) e = absurd cc
end_is (head f (AfterParent p t)) e = absurd cc
end_is (head f (AtCount p parent)) e = absurd cc
end_is (head f AtNames) e = absurd cc
end_is (head f AfterOpen) e = absurd cc
end_is (head f AfterName) e = absurd cc
end_is (head f AfterNameOpen) e = absurd cc
end_is (head f AfterFinal) e = absurd cc
end_is (head f AfterComma) e = absurd cc
end_is (head f (AtEnd p)) e = absurd cc
end_is (inside f h c) e = absurd cc
end_is lost e = absurd cc

abbrev pub CanEnd : Lex → State → Type 0
CanEnd l s = (more : List ℕ) × Ends l s more

way_ends : {s : State} (k : Way next is_end false s) → Ends lex.Gap s k.bytes
way_ends {s} k =
    let q = end_is k.last k.ends in
    (q.0, text_scan next script_is_token_machine k.text s k.last k.run ∙ ap Some q.1)

pub turn_can_end : (f : Found) (t : Turn) → CanEnd lex.Gap (turned f t)
turn_can_end f t = let k = way next is_end false (live_turn f t) in (k.bytes, way_ends k)

-- ---- words that have begun

-- some letters complete the word w to one that can stand there
record Completes (f : Found) (s : Stage) (w : List ℕ) : Type 0 where
  more : List ℕ
  token : Token
  found : Found
  turn : Turn
  is : IsToken (w ++ more) token
  is_word : is_word token ≡ true
  takes : next (head f s) token ≡ Some (turned found turn)
  letters : list_all is_name_byte more ≡ true

takes_any : (f : Found) (s : Stage) (x : List ℕ) → takes_name s ≡ true → next (head f s) (Name x) ≡ Some (turned (with_last x f) (turn.Head AfterName))
unfolding next name_turn
takes_any f s x e = rw (takes_only s e, e) refl

name_completes : (f : Found) (s : Stage) (w : List ℕ) (o : Option Keyword) → keyword_of w ≡ o → takes_name s ≡ true → is_name_like w ≡ true → Completes f s w
name_completes f s w None h e i =
    record { more = []; token = Name w; found = with_last w f; turn = turn.Head AfterName; is = (append-nil w, name_of_like w h i); is_word = refl; takes = takes_any f s w e; letters = refl }
name_completes f s w (Some k) h e i =
    let x = keyword_text k ++ (95 ∷ []) in
    record {
      more = 95 ∷ [];
      token = Name x;
      found = with_last x f;
      turn = turn.Head AfterName;
      is = (ap (λ (y : List ℕ). y ++ (95 ∷ [])) (keyword_is w k h), name_behind k);
      is_word = refl;
      takes = takes_any f s x e;
      letters = underscore;
    }

takes_number : (f : Found) (s : Stage) (n : ℕ) (t : Turn) → number_turn s n ≡ Some t → next (head f s) (Number n) ≡ Some (turned f t)
unfolding next number_after
takes_number f s n t e = ap (λ (o : Option Turn). at_turn (turns_at f o)) e

number_completes : (f : Found) (s : Stage) (w : List ℕ) → is_numeral w ≡ true → is_some (number_turn s (value_after 0 w)) ≡ true → Completes f s w
number_completes f s w e i =
    let t = taken (number_turn s (value_after 0 w)) i in
    let q = takes_number f s (value_after 0 w) t.0 t.1 in
    record {
      more = [];
      token = Number (value_after 0 w);
      found = f;
      turn = t.0;
      is = append-nil w ∙ number_text w e (small next script_is_token_machine (head f s) (turned f t.0) (Number (value_after 0 w)) q);
      is_word = refl;
      takes = q;
      letters = refl;
    }

takes_word : (f : Found) (s : Stage) (k : ScriptWord) (q : Stage) → wants_word s ≡ true → word_stage s k ≡ Some q → next (head f s) (Name (script_text k)) ≡ Some (turned f (turn.Head q))
unfolding next name_turn
takes_word f s k q e i = rw (e, word_found k, i) refl

word_letters : (k : ScriptWord) → list_all is_name_byte (script_text k) ≡ true
unfolding is_name_byte
word_letters words.Insert = refl
word_letters words.Delete = refl
word_letters words.Move = refl
word_letters words.Set = refl
word_letters words.Wrap = refl
word_letters words.Unwrap = refl
word_letters words.Finals = refl
word_letters words.At = refl
word_letters words.Top = refl
word_letters words.True = refl
word_letters words.False = refl

word_completes : (f : Found) (s : Stage) (w : List ℕ) (k : ScriptWord) → begins_word s w k ≡ true → Completes f s w
word_completes f s w k e =
    let p = and_parts (is_some (word_stage s k)) (starts_with eqb (script_text k) w) e in
    let m = front_of (script_text k) w p.1 in
    let q = taken (word_stage s k) p.0 in
    record {
      more = m.0;
      token = Name (script_text k);
      found = f;
      turn = turn.Head q.0;
      is = (sym m.1, word_is_name k);
      is_word = refl;
      takes = takes_word f s k q.0 (wants_some s k p.0) q.1;
      letters = all_behind is_name_byte w m.0 (subst (λ (x : List ℕ). list_all is_name_byte x ≡ true) m.1 (word_letters k));
    }

completes : (f : Found) (s : Stage) (w : List ℕ) → begins s w ≡ true → Completes f s w
unfolding begins
completes f s w e =
    elim (or_of ((takes_name s && is_name_like w) || begins_number s w) (list_any (begins_word s w) script_words) e) [
      | inl h ↦ elim (or_of (takes_name s && is_name_like w) (begins_number s w) h) [
        | inl i ↦ let p = and_parts (takes_name s) (is_name_like w) i in name_completes f s w (keyword_of w) refl p.0 p.1
        | inr i ↦ let p = and_parts (is_numeral w) (is_some (number_turn s (value_after 0 w))) i in number_completes f s w p.0 p.1
      ]
      | inr h ↦ let k = some_word (begins_word s w) script_words h in word_completes f s w k.0 k.1
    ]

-- ---- all places

comment_can_end : (s : State) → CanEnd lex.Gap s → CanEnd lex.Comment s
unfolding scan feed
comment_can_end s k = (10 ∷ k.0, k.1)

word_can_end : (f : Found) (s : Stage) (w : List ℕ) → begins s w ≡ true → CanEnd (lex.InWord w) (head f s)
word_can_end f s w e =
    let c = completes f s w e in
    let k = way next is_end false (live_turn c.found c.turn) in
    let q = way_ends k in
    (c.more ++ k.bytes, (q.0, word_scan next script_is_token_machine (head f s) (turned c.found c.turn) c.token w c.more k.bytes c.is c.is_word c.letters c.takes k.no_word ∙ q.1))

pub can_end : (begun : Begun) (f : Found) (s : Stage) → IsSoundAt begun s → CanEnd (lex_of begun) (head f s)
can_end Gap f s h = turn_can_end f (turn.Head s)
can_end Comment f s h = comment_can_end (head f s) (turn_can_end f (turn.Head s))
can_end (InWord w) f s h = word_can_end f s w h
