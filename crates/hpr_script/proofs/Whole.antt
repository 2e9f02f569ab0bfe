-- What the grammar spells is read.
use Rattle.std.proofs.Common.{◌≡◌, ℕ, ◌<◌, ◌≤◌, ◌^◌, List, [], ◌∷◌, ◌++◌, Bool, true, false, nat_lt, nat_le, Option, Some, None, refl, sym, ap, ◌∙◌, append_assoc}
use Rattle.std.proofs.lemmas.Bool.{lt-ltb, le-leb, and_from}
use Rattle.std.proofs.lemmas.List.{append-nil}
use Rattle.hpr_terms.specs.declared.tag.Tag.{Tag}
use Rattle.hpr_terms.specs.declared.token.Sign.TheVariants.{Dot, Comma, Semicolon, Open, Close, OpenSquare, CloseSquare}
use Rattle.hpr_terms.specs.declared.token.Token.{Token}
use Rattle.hpr_terms.specs.declared.token.Token.TheVariants.{Word, Name, Number, Mark}
use Rattle.hpr_terms.specs.declared.keyword.Keyword.TheVariants.{Out}
use Rattle.hpr_terms.specs.Names.{IsName, stream, is_name, array_of}
use Rattle.hpr_terms.proofs.Facts.{some_inj}
use Rattle.hpr_syntax.specs.declared.rows.Content.{Content}
use Rattle.hpr_syntax.specs.Grammar.{IsTag, SpellsFinal, SpellsNames}
use Rattle.hpr_syntax.specs.Grammar as grammar
use Rattle.hpr_scan.specs.Steps.{and_then, runs}
use Rattle.hpr_scan.proofs.SoundText.{then_of}
use Rattle.hpr_text.specs.declared.content.ContentState.TheVariants.{Start}
use Rattle.hpr_text.specs.Contents.{SpellsContent}
use Rattle.hpr_edit.specs.declared.command.Place.{Place}
use Rattle.hpr_edit.specs.declared.command.Command.{Command}
use Rattle.hpr_script.specs.declared.found.Found.{Found}
use Rattle.hpr_script.specs.declared.stage.Placed.{Placed}
use Rattle.hpr_script.specs.declared.stage.Placed.TheVariants as placed
use Rattle.hpr_script.specs.declared.stage.Asked.{Asked}
use Rattle.hpr_script.specs.declared.stage.Asked.TheVariants as asked
use Rattle.hpr_script.specs.declared.stage.Holder.{Holder}
use Rattle.hpr_script.specs.declared.stage.Holder.TheVariants as holder
use Rattle.hpr_script.specs.declared.stage.Plain.{Plain}
use Rattle.hpr_script.specs.declared.stage.Plain.TheVariants as plain
use Rattle.hpr_script.specs.declared.stage.Stage.{Stage}
use Rattle.hpr_script.specs.declared.stage.Stage.TheVariants.{AtCommand, AtTag, AfterAuthor, AfterDot, AtPlace, AfterAt, AfterParent, AtCount, AtNames, AfterOpen, AfterName, AfterNameOpen, AfterFinal, AfterComma, AtEnd}
use Rattle.hpr_script.specs.declared.word.ScriptWord.{ScriptWord}
use Rattle.hpr_script.specs.declared.word.ScriptWord.TheVariants as words
use Rattle.hpr_script.specs.ScriptGrammar as script
use Rattle.hpr_script.specs.ScriptGrammar.{word, tag_then, place_at, SpellsPlace, SpellsCommand, SpellsScript}
use Rattle.hpr_script.specs.Stages.{is_count, is_serial, tagged, at_place, word_stage, wants_word, takes_name, number_turn}
use Rattle.hpr_script.specs.Machine.{State, head, inside, turned, with_command, with_plain, with_last, filled, name_turn, keyword_turn, number_after, sign_after, next, start}
use Rattle.hpr_script.proofs.Bytes.{word_found}
use Rattle.hpr_script.proofs.Contents.{content_makes}

-- these commands and names were read
abbrev with : List Command → List (List ℕ) → Found
with cs xs = record { commands = cs; names = xs; last = None }

one : (s n : State) (t : Token) (ts : List Token) → next s t ≡ Some n → runs next s (t ∷ ts) ≡ runs next n ts
one s n t ts e = ap (λ (o : Option State). and_then o (λ m. runs next m ts)) e

append : (s n : State) (xs ys : List Token) → runs next s xs ≡ Some n → runs next s (xs ++ ys) ≡ runs next n ys
append s n [] ys e = ap (λ (m : State). runs next m ys) (some_inj _ _ e)
append s n (t ∷ xs) ys e =
    let k = then_of (next s t) (λ m. runs next m xs) n e in
    one s k.0 t (xs ++ ys) k.1 ∙ append k.0 n xs ys k.2

-- ---- steps

by_word : (f : Found) (s : Stage) (k : ScriptWord) (q : Stage) → wants_word s ≡ true → word_stage s k ≡ Some q → next (head f s) (word k) ≡ Some (head f q)
unfolding next name_turn
by_word f s k q e i = rw (e, word_found k, i) refl

command_word : (f : Found) (k : ScriptWord) (q : Stage) → word_stage AtCommand k ≡ Some q → next (head f AtCommand) (word k) ≡ Some (head f q)
unfolding wants_word
command_word f k q e = by_word f AtCommand k q refl e

count_is : (n : ℕ) → n < 2 ^ 32 → is_count n ≡ true
count_is n h = lt-ltb n (2 ^ 32) h

serial_is : (n : ℕ) → (1 ≤ n) × (n < 2 ^ 32) → is_serial n ≡ true
serial_is n h = and_from (nat_le 1 n) (nat_lt n (2 ^ 32)) (le-leb 1 n h.0) (lt-ltb n (2 ^ 32) h.1)

author_read : (f : Found) (a : Asked) (n : ℕ) → n < 2 ^ 32 → next (head f (AtTag a)) (Number n) ≡ Some (head f (AfterAuthor a n))
unfolding next number_after number_turn
author_read f a n h = rw (count_is n h) refl

parent_author_read : (f : Found) (p : Placed) (n : ℕ) → n < 2 ^ 32 → next (head f (AfterAt p)) (Number n) ≡ Some (head f (AfterAuthor (asked.Parent p) n))
unfolding next number_after number_turn
parent_author_read f p n h = rw (count_is n h) refl

dot_read : (f : Found) (a : Asked) (n : ℕ) → next (head f (AfterAuthor a n)) (Mark Dot) ≡ Some (head f (AfterDot a n))
unfolding next sign_after
dot_read f a n = refl

serial_read : (f : Found) (a : Asked) (m n : ℕ) → (1 ≤ n) × (n < 2 ^ 32) → next (head f (AfterDot a m)) (Number n) ≡ Some (turned f (tagged a (record { author = m; serial = n })))
unfolding next number_after number_turn
serial_read f a m n h = rw (serial_is n h) refl

count_read : (f : Found) (p : Placed) (parent : Option (Tag × Bool)) (n : ℕ) → n < 2 ^ 32 → next (head f (AtCount p parent)) (Number n) ≡ Some (turned f (at_place p (place_at parent n)))
unfolding next number_after number_turn
count_read f p parent n h = rw (count_is n h) refl

end_read : (f : Found) (p : Plain) → next (head f (AtEnd p)) (Mark Semicolon) ≡ Some (head (with_plain p f) AtCommand)
unfolding next sign_after
end_read f p = refl

-- ---- tags and places

tag_read : (f : Found) (a : Asked) (t : Tag) (rest : List Token) → IsTag t → runs next (head f (AtTag a)) (tag_then t rest) ≡ runs next (turned f (tagged a t)) rest
tag_read f a t rest h = rw (author_read f a t.author h.0, dot_read f a t.author, serial_read f a t.author t.serial h.1) refl

parent_read : (f : Found) (p : Placed) (t : Tag) (rest : List Token) → IsTag t → runs next (head f (AfterAt p)) (tag_then t rest) ≡ runs next (head f (AfterParent p t)) rest
parent_read f p t rest h = rw (parent_author_read f p t.author h.0, dot_read f (asked.Parent p) t.author, serial_read f (asked.Parent p) t.author t.serial h.1) refl

at_read : (f : Found) (p : Placed) → next (head f (AtPlace p)) (word words.At) ≡ Some (head f (AfterAt p))
unfolding wants_word word_stage
at_read f p = by_word f (AtPlace p) words.At (AfterAt p) refl refl

top_read : (f : Found) (p : Placed) → next (head f (AfterAt p)) (word words.Top) ≡ Some (head f (AtCount p None))
unfolding wants_word word_stage
top_read f p = by_word f (AfterAt p) words.Top (AtCount p None) refl refl

true_read : (f : Found) (p : Placed) (t : Tag) → next (head f (AfterParent p t)) (word words.True) ≡ Some (head f (AtCount p (Some (t, true))))
unfolding wants_word word_stage
true_read f p t = by_word f (AfterParent p t) words.True (AtCount p (Some (t, true))) refl refl

false_read : (f : Found) (p : Placed) (t : Tag) → next (head f (AfterParent p t)) (word words.False) ≡ Some (head f (AtCount p (Some (t, false))))
unfolding wants_word word_stage
false_read f p t = by_word f (AfterParent p t) words.False (AtCount p (Some (t, false))) refl refl

place_read : (f : Found) (p : Placed) (ps : List Token) (q : Place) (rest : List Token) → SpellsPlace ps q → runs next (head f (AtPlace p)) (ps ++ rest) ≡ runs next (turned f (at_place p q)) rest
place_read f p _ _ rest (script.top {n = n} c) = rw (at_read f p, top_read f p, count_read f p None n c) refl
place_read f p _ _ rest (script.first_block {t = t} {n = n} h c) =
    one (head f (AtPlace p)) (head f (AfterAt p)) (word words.At) (tag_then t (word words.True ∷ Number n ∷ rest)) (at_read f p)
    ∙ parent_read f p t (word words.True ∷ Number n ∷ rest) h
    ∙ rw (true_read f p t, count_read f p (Some (t, true)) n c) refl
place_read f p _ _ rest (script.second_block {t = t} {n = n} h c) =
    one (head f (AtPlace p)) (head f (AfterAt p)) (word words.At) (tag_then t (word words.False ∷ Number n ∷ rest)) (at_read f p)
    ∙ parent_read f p t (word words.False ∷ Number n ∷ rest) h
    ∙ rw (false_read f p t, count_read f p (Some (t, false)) n c) refl

-- ---- contents and names

content_read : (f : Found) (h : Holder) (ts : List Token) (c : Content) (rest : List Token) → SpellsContent ts c
    → runs next (inside f h Start) (ts ++ (Mark Semicolon ∷ rest)) ≡ runs next (head (with_command (filled h c) f) AtCommand) rest
content_read f h ts c rest s =
    ap (runs next (inside f h Start)) (sym (append_assoc ts (Mark Semicolon ∷ []) rest))
    ∙ append (inside f h Start) (head (with_command (filled h c) f) AtCommand) (ts ++ (Mark Semicolon ∷ [])) rest (content_makes f h ts c s)

open_read : (cs : List Command) (xs : List (List ℕ)) → next (head (with cs xs) AtNames) (Mark Open) ≡ Some (head (with cs []) AfterOpen)
unfolding next sign_after
open_read cs xs = refl

none_read : (f : Found) → next (head f AfterOpen) (Mark Close) ≡ Some (head f (AtEnd plain.Finals))
unfolding next sign_after
none_read f = refl

-- the places at which a variable of `finals` may begin
record IsAtNames (s : Stage) : Type 0 where
  name : (f : Found) (x : List ℕ) → next (head f s) (Name x) ≡ Some (head (with_last x f) AfterName)
  out : (f : Found) → next (head f s) (Word Out) ≡ Some (head (with_last stream f) AfterFinal)

first_names : IsAtNames AfterOpen
unfolding next name_turn keyword_turn wants_word takes_name
first_names = record { name = λ f x. refl; out = λ f. refl }

next_names : IsAtNames AfterComma
unfolding next name_turn keyword_turn wants_word takes_name
next_names = record { name = λ f x. refl; out = λ f. refl }

array_read : (cs : List Command) (xs : List (List ℕ)) (x : List ℕ) → IsName x
    → next (head (with_last x (with cs xs)) AfterName) (Mark OpenSquare) ≡ Some (head (with_last (array_of x) (with cs xs)) AfterNameOpen)
unfolding next sign_after
array_read cs xs x name = let plain : is_name x ≡ true = name in rw plain refl

array_ends : (f : Found) → next (head f AfterNameOpen) (Mark CloseSquare) ≡ Some (head f AfterFinal)
unfolding next sign_after
array_ends f = refl

-- a sign that may stand behind a variable of `finals`, and the place to which it leads
data Follows : Token → Stage → Type 0 where
  a_comma : Follows (Mark Comma) AfterComma
  a_close : Follows (Mark Close) (AtEnd plain.Finals)

name_ends : (cs : List Command) (xs : List (List ℕ)) (x : List ℕ) (t : Token) (q : Stage) → Follows t q → next (head (with_last x (with cs xs)) AfterName) t ≡ Some (head (with cs (xs ++ (x ∷ []))) q)
unfolding next sign_after
name_ends cs xs x t q a_comma = refl
name_ends cs xs x t q a_close = refl

final_ends : (cs : List Command) (xs : List (List ℕ)) (x : List ℕ) (t : Token) (q : Stage) → Follows t q → next (head (with_last x (with cs xs)) AfterFinal) t ≡ Some (head (with cs (xs ++ (x ∷ []))) q)
unfolding next sign_after
final_ends cs xs x t q a_comma = refl
final_ends cs xs x t q a_close = refl

-- a variable and the sign behind it
final_read : {ts : List Token} {x : List ℕ} → SpellsFinal ts x → (s : Stage) → IsAtNames s → (cs : List Command) (xs : List (List ℕ)) (t : Token) (q : Stage) → Follows t q → (rest : List Token)
    → runs next (head (with cs xs) s) (ts ++ (t ∷ rest)) ≡ runs next (head (with cs (xs ++ (x ∷ []))) q) rest
final_read (grammar.plain {x = x}) s at cs xs t q is rest =
    one (head (with cs xs) s) (head (with_last x (with cs xs)) AfterName) (Name x) (t ∷ rest) (at.name (with cs xs) x)
    ∙ one (head (with_last x (with cs xs)) AfterName) (head (with cs (xs ++ (x ∷ []))) q) t rest (name_ends cs xs x t q is)
final_read grammar.out s at cs xs t q is rest =
    one (head (with cs xs) s) (head (with_last stream (with cs xs)) AfterFinal) (Word Out) (t ∷ rest) (at.out (with cs xs))
    ∙ one (head (with_last stream (with cs xs)) AfterFinal) (head (with cs (xs ++ (stream ∷ []))) q) t rest (final_ends cs xs stream t q is)
final_read (grammar.array {x = x} name) s at cs xs t q is rest =
    let g : Found = with_last (array_of x) (with cs xs) in
    one (head (with cs xs) s) (head (with_last x (with cs xs)) AfterName) (Name x) (Mark OpenSquare ∷ Mark CloseSquare ∷ t ∷ rest) (at.name (with cs xs) x)
    ∙ one (head (with_last x (with cs xs)) AfterName) (head g AfterNameOpen) (Mark OpenSquare) (Mark CloseSquare ∷ t ∷ rest) (array_read cs xs x name)
    ∙ one (head g AfterNameOpen) (head g AfterFinal) (Mark CloseSquare) (t ∷ rest) (array_ends g)
    ∙ one (head g AfterFinal) (head (with cs (xs ++ (array_of x ∷ []))) q) t rest (final_ends cs xs (array_of x) t q is)

names_from : {ts : List Token} {y : List ℕ} {ys : List (List ℕ)} → SpellsNames ts (y ∷ ys) → (s : Stage) → IsAtNames s → (cs : List Command) (xs : List (List ℕ)) (rest : List Token)
    → runs next (head (with cs xs) s) (ts ++ (Mark Close ∷ rest)) ≡ runs next (head (with cs (xs ++ (y ∷ ys))) (AtEnd plain.Finals)) rest
names_from (grammar.one is) s at cs xs rest = final_read is s at cs xs (Mark Close) (AtEnd plain.Finals) a_close rest
names_from (grammar.more {first = first} {ts = ts} {x = x} {y = y} {xs = ys} is k) s at cs xs rest =
    ap (runs next (head (with cs xs) s)) (append_assoc first (Mark Comma ∷ ts) (Mark Close ∷ rest))
    ∙ final_read is s at cs xs (Mark Comma) AfterComma a_comma (ts ++ (Mark Close ∷ rest))
    ∙ names_from k AfterComma next_names cs (xs ++ (x ∷ [])) rest
    ∙ ap (λ (zs : List (List ℕ)). runs next (head (with cs zs) (AtEnd plain.Finals)) rest) (append_assoc xs (x ∷ []) (y ∷ ys))

names_read : (cs : List Command) (ts : List Token) (xs : List (List ℕ)) (rest : List Token) → SpellsNames ts xs
    → runs next (head (with cs []) AfterOpen) (ts ++ (Mark Close ∷ rest)) ≡ runs next (head (with cs xs) (AtEnd plain.Finals)) rest
names_read cs _ _ rest grammar.none = rw (none_read (with cs [])) refl
names_read cs _ _ rest (grammar.one is) = names_from (grammar.one is) AfterOpen first_names cs [] rest
names_read cs _ _ rest (grammar.more is k) = names_from (grammar.more is k) AfterOpen first_names cs [] rest

-- ---- commands

begins : (cs : List Command) (k : ScriptWord) (q : Stage) (rest : List Token) → word_stage AtCommand k ≡ Some q → runs next (head (with cs []) AtCommand) (word k ∷ rest) ≡ runs next (head (with cs []) q) rest
begins cs k q rest e = one (head (with cs []) AtCommand) (head (with cs []) q) (word k) rest (command_word (with cs []) k q e)

ends : (f : Found) (p : Plain) (rest : List Token) → runs next (head f (AtEnd p)) (Mark Semicolon ∷ rest) ≡ runs next (head (with_plain p f) AtCommand) rest
ends f p rest = one (head f (AtEnd p)) (head (with_plain p f) AtCommand) (Mark Semicolon) rest (end_read f p)

command_read : (cs : List Command) (ts : List Token) (c : Command) (rest : List Token) → SpellsCommand ts c
    → runs next (head (with cs []) AtCommand) (ts ++ (Mark Semicolon ∷ rest)) ≡ runs next (head (with (cs ++ (c ∷ [])) []) AtCommand) rest
unfolding word_stage
command_read cs _ _ rest (script.insert {p = p} {c = c} {place = ps} {content = ts} k s) =
    begins cs words.Insert (AtPlace placed.New) ((ps ++ ts) ++ (Mark Semicolon ∷ rest)) refl
    ∙ ap (runs next (head (with cs []) (AtPlace placed.New))) (append_assoc ps ts (Mark Semicolon ∷ rest))
    ∙ place_read (with cs []) placed.New ps p (ts ++ (Mark Semicolon ∷ rest)) k
    ∙ content_read (with cs []) (holder.Insert p) ts c rest s
command_read cs _ _ rest (script.delete {t = t} h) =
    begins cs words.Delete (AtTag asked.Delete) (tag_then t (Mark Semicolon ∷ rest)) refl
    ∙ tag_read (with cs []) asked.Delete t (Mark Semicolon ∷ rest) h
    ∙ ends (with cs []) (plain.Delete t) rest
command_read cs _ _ rest (script.move {t = t} {p = p} {place = ps} h k) =
    begins cs words.Move (AtTag asked.Move) (tag_then t (ps ++ (Mark Semicolon ∷ rest))) refl
    ∙ tag_read (with cs []) asked.Move t (ps ++ (Mark Semicolon ∷ rest)) h
    ∙ place_read (with cs []) (placed.Part t) ps p (Mark Semicolon ∷ rest) k
    ∙ ends (with cs []) (plain.Move t p) rest
command_read cs _ _ rest (script.set {t = t} {c = c} {content = ts} h s) =
    begins cs words.Set (AtTag asked.Set) (tag_then t (ts ++ (Mark Semicolon ∷ rest))) refl
    ∙ tag_read (with cs []) asked.Set t (ts ++ (Mark Semicolon ∷ rest)) h
    ∙ content_read (with cs []) (holder.Set t) ts c rest s
command_read cs _ _ rest (script.wrap {t = t} {c = c} {content = ts} h s) =
    begins cs words.Wrap (AtTag asked.Wrap) (tag_then t (ts ++ (Mark Semicolon ∷ rest))) refl
    ∙ tag_read (with cs []) asked.Wrap t (ts ++ (Mark Semicolon ∷ rest)) h
    ∙ content_read (with cs []) (holder.Wrap t) ts c rest s
command_read cs _ _ rest (script.unwrap {t = t} h) =
    begins cs words.Unwrap (AtTag asked.Unwrap) (tag_then t (Mark Semicolon ∷ rest)) refl
    ∙ tag_read (with cs []) asked.Unwrap t (Mark Semicolon ∷ rest) h
    ∙ ends (with cs []) (plain.Unwrap t) rest
command_read cs _ _ rest (script.finals {xs = xs} {names = ns} k) =
    begins cs words.Finals AtNames (Mark Open ∷ ((ns ++ (Mark Close ∷ [])) ++ (Mark Semicolon ∷ rest))) refl
    ∙ one (head (with cs []) AtNames) (head (with cs []) AfterOpen) (Mark Open) ((ns ++ (Mark Close ∷ [])) ++ (Mark Semicolon ∷ rest)) (open_read cs [])
    ∙ ap (runs next (head (with cs []) AfterOpen)) (append_assoc ns (Mark Close ∷ []) (Mark Semicolon ∷ rest))
    ∙ names_read cs ns xs (Mark Semicolon ∷ rest) k
    ∙ ends (with cs xs) plain.Finals rest

script_read : (done : List Command) (ts : List Token) (cs : List Command) → SpellsScript ts cs → runs next (head (with done []) AtCommand) ts ≡ Some (head (with (done ++ cs) []) AtCommand)
script_read done _ _ script.nothing = ap (λ (x : List Command). Some (head (with x []) AtCommand)) (sym (append-nil done))
script_read done _ _ (script.first {c = c} {cs = cs} {ts = ts} {more = more} k rest) =
    command_read done ts c more k ∙ script_read (done ++ (c ∷ [])) more cs rest ∙ ap (λ (x : List Command). Some (head (with x []) AtCommand)) (append_assoc done (c ∷ []) cs)

-- the tokens of a script lead to its commands
pub spelled_is_read : (ts : List Token) (cs : List Command) → SpellsScript ts cs → runs next start ts ≡ Some (head (with cs []) AtCommand)
spelled_is_read ts cs s = script_read [] ts cs s
