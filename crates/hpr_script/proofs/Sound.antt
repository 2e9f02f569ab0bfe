-- What was read is what the grammar spells.
use Rattle.std.proofs.Common.{◌≡◌, ℕ, ◌^◌, List, [], ◌∷◌, ◌++◌, Bool, true, false, cond, nat_lt, nat_le, Option, Some, None, refl, sym, ap, subst, ◌∙◌, append_assoc}
use Rattle.std.proofs.lemmas.Bool.{ltb-true, leb-true, and_parts}
use Rattle.std.proofs.lemmas.List.{append-nil}
use Rattle.hpr_terms.specs.declared.tag.Tag.{Tag}
use Rattle.hpr_terms.specs.declared.keyword.Keyword.{Keyword}
use Rattle.hpr_terms.specs.declared.keyword.Keyword.TheVariants.{Out}
use Rattle.hpr_terms.specs.Names.{IsName, stream, is_name, array_of}
use Rattle.hpr_terms.specs.declared.token.Sign.{Sign}
use Rattle.hpr_terms.specs.declared.token.Sign.TheVariants.{Dot, Comma, Semicolon, Open, Close, OpenSquare, CloseSquare}
use Rattle.hpr_terms.specs.declared.token.Token.{Token}
use Rattle.hpr_terms.specs.declared.token.Token.TheVariants.{Word, Name, Number, Mark}
use Rattle.hpr_terms.proofs.Facts.{some_inj}
use Rattle.hpr_syntax.specs.declared.rows.Content.{Content}
use Rattle.hpr_syntax.specs.Grammar.{IsAuthor, IsTag, SpellsFinal, SpellsNames}
use Rattle.hpr_syntax.specs.Grammar as grammar
use Rattle.hpr_scan.specs.Steps.{and_then, runs}
use Rattle.hpr_scan.proofs.Words.{none_some}
use Rattle.hpr_scan.proofs.SoundText.{guard_is}
use Rattle.hpr_text.specs.declared.content.ContentState.{ContentState}
use Rattle.hpr_text.specs.declared.content.ContentState.TheVariants.{Start, AfterTarget, InIndex, AfterIndex, InExpression, Ended}
use Rattle.hpr_text.specs.ContentMachine.{content_next}
use Rattle.hpr_text.specs.Contents.{SpellsContent}
use Rattle.hpr_edit.specs.declared.command.Place.{Place}
use Rattle.hpr_edit.specs.declared.command.Command.{Command}
use Rattle.hpr_edit.specs.declared.command.Command.TheVariants as command
use Rattle.hpr_text.proofs.Contents.{ContentIs, content_step}
use Rattle.hpr_text.proofs.Sound.{NamesGo, names_go, names_end}
use Rattle.hpr_script.specs.declared.found.Found.{Found}
use Rattle.hpr_script.specs.declared.stage.Placed.{Placed}
use Rattle.hpr_script.specs.declared.stage.Placed.TheVariants as placed
use Rattle.hpr_script.specs.declared.stage.Asked.{Asked}
use Rattle.hpr_script.specs.declared.stage.Asked.TheVariants as asked
use Rattle.hpr_script.specs.declared.stage.Holder.{Holder}
use Rattle.hpr_script.specs.declared.stage.Plain.{Plain}
use Rattle.hpr_script.specs.declared.stage.Plain.TheVariants as plain
use Rattle.hpr_script.specs.declared.stage.Stage.{Stage}
use Rattle.hpr_script.specs.declared.stage.Stage.TheVariants.{AtCommand, AtTag, AfterAuthor, AfterDot, AtPlace, AfterAt, AfterParent, AtCount, AtNames, AfterOpen, AfterName, AfterNameOpen, AfterFinal, AfterComma, AtEnd}
use Rattle.hpr_script.specs.declared.stage.Turn.{Turn}
use Rattle.hpr_script.specs.declared.stage.Turn.TheVariants as turn
use Rattle.hpr_script.specs.declared.word.ScriptWord.{ScriptWord}
use Rattle.hpr_script.specs.declared.word.ScriptWord.TheVariants as words
use Rattle.hpr_script.specs.ScriptGrammar as script
use Rattle.hpr_script.specs.ScriptGrammar.{word, tag_then, IsCount, place_at, SpellsPlace, SpellsCommand, SpellsScript}
use Rattle.hpr_script.specs.ScriptWords.{script_word}
use Rattle.hpr_script.specs.Stages.{is_count, is_serial, tagged, at_place, command_stage, block_stage, word_stage, wants_word, takes_name, number_turn}
use Rattle.hpr_script.specs.Machine.{State, head, inside, lost, turned, at_head, at_turn, found_at, turns_at, turns_to, with_command, with_plain, without_names, with_last, with_variable, with_array_of, filled, word_turn, variable_turn, name_turn, keyword_turn, number_after, dot_stage, close_square_stage, comma_after, close_after, at_array, square_opened, opened, ended, sign_after, or_lost, name_next, content_goes, next, start}
use Rattle.hpr_script.proofs.Bytes.{word_is}

-- ---- lists of commands, at their end

script_more : (ds ts : List Token) (cs : List Command) (c : Command) → SpellsScript ds cs → SpellsCommand ts c → SpellsScript (ds ++ (ts ++ (Mark Semicolon ∷ []))) (cs ++ (c ∷ []))
script_more _ ts _ c script.nothing h = script.first h script.nothing
script_more _ ts _ c (script.first {c = d} {cs = cs} {ts = us} {more = more} k rest) h =
    subst (λ (x : List Token). SpellsScript x (d ∷ (cs ++ (c ∷ [])))) (sym (append_assoc us (Mark Semicolon ∷ more) (ts ++ (Mark Semicolon ∷ []))))
    (script.first k (script_more more ts cs c rest h))

-- ---- the tokens of a head

abbrev placed_tokens : Placed → List Token
placed_tokens placed.New = word words.Insert ∷ []
placed_tokens (placed.Part t) = word words.Move ∷ tag_then t []

abbrev IsPlaced : Placed → Type 0
IsPlaced placed.New = Unit {0}
IsPlaced (placed.Part t) = IsTag t

abbrev asked_tokens : Asked → List Token
asked_tokens asked.Delete = word words.Delete ∷ []
asked_tokens asked.Move = word words.Move ∷ []
asked_tokens asked.Set = word words.Set ∷ []
asked_tokens asked.Wrap = word words.Wrap ∷ []
asked_tokens asked.Unwrap = word words.Unwrap ∷ []
asked_tokens (asked.Parent p) = placed_tokens p ++ (word words.At ∷ [])

abbrev IsAsked : Asked → Type 0
IsAsked (asked.Parent p) = IsPlaced p
IsAsked _ = Unit {0}

abbrev side : Bool → Token
side true = word words.True
side false = word words.False

abbrev parent_tokens : Option (Tag × Bool) → List Token
parent_tokens None = word words.At ∷ word words.Top ∷ []
parent_tokens (Some (t, b)) = word words.At ∷ tag_then t (side b ∷ [])

abbrev IsParent : Option (Tag × Bool) → Type 0
IsParent None = Unit {0}
IsParent (Some (t, b)) = IsTag t

place_is : (parent : Option (Tag × Bool)) (n : ℕ) → IsParent parent → IsCount n → SpellsPlace (parent_tokens parent ++ (Number n ∷ [])) (place_at parent n)
place_is None n h c = script.top c
place_is (Some (t, true)) n h c = script.first_block h c
place_is (Some (t, false)) n h c = script.second_block h c

-- what stands before a content makes a command of each content
abbrev IsHolder : Holder → List Token → Type 0
IsHolder h hs = (c : Content) (cs : List Token) → SpellsContent cs c → SpellsCommand (hs ++ cs) (filled h c)

abbrev plain_command : Plain → List (List ℕ) → Command
plain_command (plain.Delete t) xs = command.Delete t
plain_command (plain.Move t p) xs = command.Move t p
plain_command (plain.Unwrap t) xs = command.Unwrap t
plain_command plain.Finals xs = command.Finals xs

-- the tokens of a head that was read up to here
abbrev HeadIs : Found → Stage → List Token → Type 0
HeadIs f AtCommand hs = hs ≡ []
HeadIs f (AtTag a) hs = IsAsked a × (hs ≡ asked_tokens a)
HeadIs f (AfterAuthor a m) hs = IsAsked a × IsAuthor m × (hs ≡ asked_tokens a ++ (Number m ∷ []))
HeadIs f (AfterDot a m) hs = IsAsked a × IsAuthor m × (hs ≡ asked_tokens a ++ (Number m ∷ Mark Dot ∷ []))
HeadIs f (AtPlace p) hs = IsPlaced p × (hs ≡ placed_tokens p)
HeadIs f (AfterAt p) hs = IsPlaced p × (hs ≡ placed_tokens p ++ (word words.At ∷ []))
HeadIs f (AfterParent p t) hs = IsPlaced p × IsTag t × (hs ≡ placed_tokens p ++ (word words.At ∷ tag_then t []))
HeadIs f (AtCount p parent) hs = IsPlaced p × IsParent parent × (hs ≡ placed_tokens p ++ parent_tokens parent)
HeadIs f AtNames hs = hs ≡ word words.Finals ∷ []
HeadIs f AfterOpen hs = (f.names ≡ []) × (hs ≡ word words.Finals ∷ Mark Open ∷ [])
HeadIs f AfterName hs =
    (front : List Token) × (x : List ℕ) × NamesGo front f.names × (f.last ≡ Some x) × (hs ≡ word words.Finals ∷ Mark Open ∷ (front ++ (Name x ∷ [])))
HeadIs f AfterNameOpen hs =
    (front : List Token) × (x : List ℕ) × IsName x × NamesGo front f.names × (f.last ≡ Some (array_of x))
    × (hs ≡ word words.Finals ∷ Mark Open ∷ (front ++ (Name x ∷ Mark OpenSquare ∷ [])))
HeadIs f AfterFinal hs =
    (front : List Token) × (last : List Token) × (x : List ℕ) × SpellsFinal last x × NamesGo front f.names × (f.last ≡ Some x)
    × (hs ≡ word words.Finals ∷ Mark Open ∷ (front ++ last))
HeadIs f AfterComma hs = (front : List Token) × NamesGo front f.names × (hs ≡ word words.Finals ∷ Mark Open ∷ front)
HeadIs f (AtEnd p) hs = SpellsCommand hs (plain_command p f.names)

abbrev TurnIs : Found → Turn → List Token → Type 0
TurnIs f (turn.Head s) hs = HeadIs f s hs
TurnIs f (turn.Content h) hs = IsHolder h hs

-- ---- steps of a head

-- a further token behind those of a head
behind : (hs before after : List Token) (t : Token) → hs ≡ before → before ++ (t ∷ []) ≡ after → hs ++ (t ∷ []) ≡ after
behind hs before after t e q = ap (λ (x : List Token). x ++ (t ∷ [])) e ∙ q

tagged_is : (f : Found) (a : Asked) (t : Tag) (hs : List Token) → IsAsked a → IsTag t → hs ≡ asked_tokens a ++ tag_then t [] → TurnIs f (tagged a t) hs
tagged_is f asked.Delete t hs h k e = subst (λ (x : List Token). SpellsCommand x (command.Delete t)) (sym e) (script.delete k)
tagged_is f asked.Move t hs h k e = (k, e)
tagged_is f asked.Set t hs h k e = λ c cs s. subst (λ (x : List Token). SpellsCommand (x ++ cs) (command.Set t c)) (sym e) (script.set k s)
tagged_is f asked.Wrap t hs h k e = λ c cs s. subst (λ (x : List Token). SpellsCommand (x ++ cs) (command.Wrap t c)) (sym e) (script.wrap k s)
tagged_is f asked.Unwrap t hs h k e = subst (λ (x : List Token). SpellsCommand x (command.Unwrap t)) (sym e) (script.unwrap k)
tagged_is f (asked.Parent p) t hs h k e = (h, k, e ∙ append_assoc (placed_tokens p) (word words.At ∷ []) (tag_then t []))

placed_is : (f : Found) (p : Placed) (q : Place) (ps hs : List Token) → IsPlaced p → SpellsPlace ps q → hs ≡ placed_tokens p ++ ps → TurnIs f (at_place p q) hs
placed_is f placed.New q ps hs h k e = λ c cs s. subst (λ (x : List Token). SpellsCommand (x ++ cs) (command.Insert q c)) (sym e) (script.insert k s)
placed_is f (placed.Part t) q ps hs h k e = subst (λ (x : List Token). SpellsCommand x (command.Move t q)) (sym e) (script.move h k)

command_is : (f : Found) (k : ScriptWord) (q : Stage) → command_stage k ≡ Some q → HeadIs f q (word k ∷ [])
command_is f words.Insert q e = subst (λ (s : Stage). HeadIs f s (word words.Insert ∷ [])) (some_inj _ _ e) (tt, refl)
command_is f words.Delete q e = subst (λ (s : Stage). HeadIs f s (word words.Delete ∷ [])) (some_inj _ _ e) (tt, refl)
command_is f words.Move q e = subst (λ (s : Stage). HeadIs f s (word words.Move ∷ [])) (some_inj _ _ e) (tt, refl)
command_is f words.Set q e = subst (λ (s : Stage). HeadIs f s (word words.Set ∷ [])) (some_inj _ _ e) (tt, refl)
command_is f words.Wrap q e = subst (λ (s : Stage). HeadIs f s (word words.Wrap ∷ [])) (some_inj _ _ e) (tt, refl)
command_is f words.Unwrap q e = subst (λ (s : Stage). HeadIs f s (word words.Unwrap ∷ [])) (some_inj _ _ e) (tt, refl)
command_is f words.Finals q e = subst (λ (s : Stage). HeadIs f s (word words.Finals ∷ [])) (some_inj _ _ e) refl
command_is f words.At q e = absurd (none_some e)
command_is f words.Top q e = absurd (none_some e)
command_is f words.True q e = absurd (none_some e)
command_is f words.False q e = absurd (none_some e)

block_is : (f : Found) (p : Placed) (t : Tag) (k : ScriptWord) (q : Stage) (hs : List Token) → HeadIs f (AfterParent p t) hs → block_stage p t k ≡ Some q → HeadIs f q (hs ++ (word k ∷ []))
block_is f p t words.True q hs h e =
    subst (λ (s : Stage). HeadIs f s (hs ++ (word words.True ∷ []))) (some_inj _ _ e)
    (h.0, h.1, behind hs _ _ (word words.True) h.2 (append_assoc (placed_tokens p) (word words.At ∷ tag_then t []) (word words.True ∷ [])))
block_is f p t words.False q hs h e =
    subst (λ (s : Stage). HeadIs f s (hs ++ (word words.False ∷ []))) (some_inj _ _ e)
    (h.0, h.1, behind hs _ _ (word words.False) h.2 (append_assoc (placed_tokens p) (word words.At ∷ tag_then t []) (word words.False ∷ [])))
block_is f p t words.Insert q hs h e = absurd (none_some e)
block_is f p t words.Delete q hs h e = absurd (none_some e)
block_is f p t words.Move q hs h e = absurd (none_some e)
block_is f p t words.Set q hs h e = absurd (none_some e)
block_is f p t words.Wrap q hs h e = absurd (none_some e)
block_is f p t words.Unwrap q hs h e = absurd (none_some e)
block_is f p t words.Finals q hs h e = absurd (none_some e)
block_is f p t words.At q hs h e = absurd (none_some e)
block_is f p t words.Top q hs h e = absurd (none_some e)

word_step : (f : Found) (s : Stage) (k : ScriptWord) (q : Stage) (hs : List Token) → HeadIs f s hs → word_stage s k ≡ Some q → HeadIs f q (hs ++ (word k ∷ []))
unfolding word_stage
word_step f AtCommand k q hs h e = subst (HeadIs f q) (ap (λ (x : List Token). x ++ (word k ∷ [])) (sym h)) (command_is f k q e)
word_step f (AtPlace p) words.At q hs h e =
    subst (λ (s : Stage). HeadIs f s (hs ++ (word words.At ∷ []))) (some_inj _ _ e) (h.0, behind hs _ _ (word words.At) h.1 refl)
word_step f (AtPlace p) k q hs h e = absurd cc
word_step f (AfterAt p) words.Top q hs h e =
    subst (λ (s : Stage). HeadIs f s (hs ++ (word words.Top ∷ []))) (some_inj _ _ e)
    (h.0, tt, behind hs _ _ (word words.Top) h.1 (append_assoc (placed_tokens p) (word words.At ∷ []) (word words.Top ∷ [])))
word_step f (AfterAt p) k q hs h e = absurd cc
word_step f (AfterParent p t) k q hs h e = block_is f p t k q hs h e
word_step f (AtTag a) k q hs h e = absurd cc
word_step f (AfterAuthor a m) k q hs h e = absurd cc
word_step f (AfterDot a m) k q hs h e = absurd cc
word_step f (AtCount p parent) k q hs h e = absurd cc
word_step f AtNames k q hs h e = absurd cc
word_step f AfterOpen k q hs h e = absurd cc
word_step f AfterName k q hs h e = absurd cc
word_step f AfterNameOpen k q hs h e = absurd cc
word_step f AfterFinal k q hs h e = absurd cc
word_step f AfterComma k q hs h e = absurd cc
word_step f (AtEnd p) k q hs h e = absurd cc

number_step : (f : Found) (s : Stage) (n : ℕ) (q : Turn) (hs : List Token) → HeadIs f s hs → number_turn s n ≡ Some q → TurnIs f q (hs ++ (Number n ∷ []))
unfolding number_turn
number_step f (AtTag a) n q hs h e =
    let g = guard_is (is_count n) _ q e in
    subst (λ (t : Turn). TurnIs f t (hs ++ (Number n ∷ []))) g.1 (h.0, ltb-true n (2 ^ 32) g.0, behind hs _ _ (Number n) h.1 refl)
number_step f (AfterAt p) n q hs h e =
    let g = guard_is (is_count n) _ q e in
    subst (λ (t : Turn). TurnIs f t (hs ++ (Number n ∷ []))) g.1 (h.0, ltb-true n (2 ^ 32) g.0, behind hs _ _ (Number n) h.1 refl)
number_step f (AfterDot a m) n q hs h e =
    let g = guard_is (is_serial n) _ q e in
    let b = and_parts (nat_le 1 n) (nat_lt n (2 ^ 32)) g.0 in
    subst (λ (t : Turn). TurnIs f t (hs ++ (Number n ∷ []))) g.1
    (tagged_is f a (record { author = m; serial = n }) (hs ++ (Number n ∷ [])) h.0 (h.1, (leb-true 1 n b.0, ltb-true n (2 ^ 32) b.1))
    (behind hs _ _ (Number n) h.2 (append_assoc (asked_tokens a) (Number m ∷ Mark Dot ∷ []) (Number n ∷ []))))
number_step f (AtCount p parent) n q hs h e =
    let g = guard_is (is_count n) _ q e in
    subst (λ (t : Turn). TurnIs f t (hs ++ (Number n ∷ []))) g.1
    (placed_is f p (place_at parent n) (parent_tokens parent ++ (Number n ∷ [])) (hs ++ (Number n ∷ [])) h.0 (place_is parent n h.1 (ltb-true n (2 ^ 32) g.0))
    (behind hs _ _ (Number n) h.2 (append_assoc (placed_tokens p) (parent_tokens parent) (Number n ∷ []))))
number_step f AtCommand n q hs h e = absurd cc
number_step f (AfterAuthor a m) n q hs h e = absurd cc
number_step f (AtPlace p) n q hs h e = absurd cc
number_step f (AfterParent p t) n q hs h e = absurd cc
number_step f AtNames n q hs h e = absurd cc
number_step f AfterOpen n q hs h e = absurd cc
number_step f AfterName n q hs h e = absurd cc
number_step f AfterNameOpen n q hs h e = absurd cc
number_step f AfterFinal n q hs h e = absurd cc
number_step f AfterComma n q hs h e = absurd cc
number_step f (AtEnd p) n q hs h e = absurd cc

-- where a variable of `finals` can stand, those before it have a comma each
comma_before : (f : Found) (s : Stage) (hs : List Token) → HeadIs f s hs → takes_name s ≡ true → HeadIs f AfterComma hs
unfolding takes_name
comma_before f AfterOpen hs h e = ([], subst (NamesGo []) (sym h.0) (λ ts y ys k. k), h.1)
comma_before f AfterComma hs h e = h
comma_before f AtCommand hs h e = absurd cc
comma_before f (AtTag a) hs h e = absurd cc
comma_before f (AfterAuthor a m) hs h e = absurd cc
comma_before f (AfterDot a m) hs h e = absurd cc
comma_before f (AtPlace p) hs h e = absurd cc
comma_before f (AfterAt p) hs h e = absurd cc
comma_before f (AfterParent p g) hs h e = absurd cc
comma_before f (AtCount p parent) hs h e = absurd cc
comma_before f AtNames hs h e = absurd cc
comma_before f AfterName hs h e = absurd cc
comma_before f AfterNameOpen hs h e = absurd cc
comma_before f AfterFinal hs h e = absurd cc
comma_before f (AtEnd p) hs h e = absurd cc

name_step : (f : Found) (x : List ℕ) (hs : List Token) → HeadIs f AfterComma hs → HeadIs (with_last x f) AfterName (hs ++ (Name x ∷ []))
name_step f x hs h = (h.0, x, h.1, refl, behind hs _ _ (Name x) h.2 refl)

stream_step : (f : Found) (hs : List Token) → HeadIs f AfterComma hs → HeadIs (with_last stream f) AfterFinal (hs ++ (Word Out ∷ []))
stream_step f hs h = (h.0, Word Out ∷ [], stream, grammar.out, h.1, refl, behind hs _ _ (Word Out) h.2 refl)

-- a name that no bracket follows is a variable
plain_final : (f : Found) (hs : List Token) → HeadIs f AfterName hs → HeadIs f AfterFinal hs
plain_final f hs h = (h.0, Name h.1 ∷ [], h.1, grammar.plain, h.2, h.3, h.4)

array_final : (f : Found) (hs : List Token) → HeadIs f AfterNameOpen hs → HeadIs f AfterFinal (hs ++ (Mark CloseSquare ∷ []))
array_final f hs h = (
  h.0,
  Name h.1 ∷ Mark OpenSquare ∷ Mark CloseSquare ∷ [],
  array_of h.1,
  grammar.array h.2,
  h.3,
  h.4,
  behind hs _ _ (Mark CloseSquare) h.5 (ap (λ (ts : List Token). word words.Finals ∷ Mark Open ∷ ts) (append_assoc h.0 (Name h.1 ∷ Mark OpenSquare ∷ []) (Mark CloseSquare ∷ []))),
)

-- ---- states

-- what was read before a state
abbrev StateIs : State → List Token → Type 0
StateIs (head f s) ts = (ds hs : List Token) × SpellsScript ds f.commands × HeadIs f s hs × (ts ≡ ds ++ hs)
StateIs (inside f h c) ts = (ds hs cs : List Token) × SpellsScript ds f.commands × IsHolder h hs × ContentIs c cs × (ts ≡ ds ++ (hs ++ cs))
StateIs lost ts = Unit {0}

to_state : (m n : State) (ts : List Token) → Some m ≡ Some n → StateIs m ts → StateIs n ts
to_state m n ts e h = subst (λ (s : State). StateIs s ts) (some_inj m n e) h

further : (ds hs ts : List Token) (t : Token) → ts ≡ ds ++ hs → ts ++ (t ∷ []) ≡ ds ++ (hs ++ (t ∷ []))
further ds hs ts t e = ap (λ (x : List Token). x ++ (t ∷ [])) e ∙ append_assoc ds hs (t ∷ [])

turned_is : (f : Found) (q : Turn) (ds hs ts : List Token) → SpellsScript ds f.commands → TurnIs f q hs → ts ≡ ds ++ hs → StateIs (turned f q) ts
turned_is f (turn.Head s) ds hs ts d h e = (ds, hs, d, h, e)
turned_is f (turn.Content h) ds hs ts d k e = (ds, hs, [], d, k, refl, e ∙ ap (λ (x : List Token). ds ++ x) (sym (append-nil hs)))

number_is : (f : Found) (s : Stage) (n : ℕ) (o : Option Turn) (m : State) (ts : List Token) → StateIs (head f s) ts → number_turn s n ≡ o → at_turn (turns_at f o) ≡ Some m → StateIs m (ts ++ (Number n ∷ []))
number_is f s n None m ts h q e = absurd (none_some e)
number_is f s n (Some t) m ts (ds, hs, d, k, w) q e =
    to_state (turned f t) m (ts ++ (Number n ∷ [])) e (turned_is f t ds (hs ++ (Number n ∷ [])) (ts ++ (Number n ∷ [])) d (number_step f s n t hs k q) (further ds hs ts (Number n) w))

word_next_is : (f : Found) (s : Stage) (x : List ℕ) (o : Option ScriptWord) (p : Option Stage) (m : State) (ts : List Token) → StateIs (head f s) ts → script_word x ≡ o → and_then o (word_stage s) ≡ p → or_lost (at_turn (turns_to f p)) ≡ Some m → StateIs m (ts ++ (Name x ∷ []))
word_next_is f s x o None m ts h q r e = to_state lost m (ts ++ (Name x ∷ [])) e tt
word_next_is f s x None (Some p) m ts h q r e = absurd (none_some r)
word_next_is f s x (Some k) (Some p) m ts (ds, hs, d, i, w) q r e =
    let same : Name x ≡ word k = ap Name (word_is x k q) in
    let made : StateIs (head f p) (ts ++ (word k ∷ [])) = (ds, hs ++ (word k ∷ []), d, word_step f s k p hs i r, further ds hs ts (word k) w) in
    to_state (head f p) m (ts ++ (Name x ∷ [])) e (subst (λ (t : Token). StateIs (head f p) (ts ++ (t ∷ []))) (sym same) made)

name_read_is : (f : Found) (s : Stage) (x : List ℕ) (b : Bool) (m : State) (ts : List Token) → StateIs (head f s) ts → takes_name s ≡ b
    → at_turn (cond b (Some (with_last x f, turn.Head AfterName)) None) ≡ Some m → StateIs m (ts ++ (Name x ∷ []))
name_read_is f s x false m ts h q e = absurd (none_some e)
name_read_is f s x true m ts (ds, hs, d, k, w) q e =
    to_state (head (with_last x f) AfterName) m (ts ++ (Name x ∷ [])) e (ds, hs ++ (Name x ∷ []), d, name_step f x hs (comma_before f s hs k q), further ds hs ts (Name x) w)

stream_read_is : (f : Found) (s : Stage) (b : Bool) (m : State) (ts : List Token) → StateIs (head f s) ts → takes_name s ≡ b
    → at_turn (cond b (Some (with_last stream f, turn.Head AfterFinal)) None) ≡ Some m → StateIs m (ts ++ (Word Out ∷ []))
stream_read_is f s false m ts h q e = absurd (none_some e)
stream_read_is f s true m ts (ds, hs, d, k, w) q e =
    to_state (head (with_last stream f) AfterFinal) m (ts ++ (Word Out ∷ [])) e (ds, hs ++ (Word Out ∷ []), d, stream_step f hs (comma_before f s hs k q), further ds hs ts (Word Out) w)

keyword_is : (f : Found) (s : Stage) (k : Keyword) (m : State) (ts : List Token) → StateIs (head f s) ts → at_turn (keyword_turn f s k) ≡ Some m → StateIs m (ts ++ (Word k ∷ []))
unfolding keyword_turn
keyword_is f s Out m ts h e = stream_read_is f s (takes_name s) m ts h refl e
keyword_is f s k m ts h e = absurd cc

name_is : (f : Found) (s : Stage) (x : List ℕ) (b : Bool) (m : State) (ts : List Token) → StateIs (head f s) ts → wants_word s ≡ b → name_next b (at_turn (cond b (word_turn f s x) (variable_turn f s x AfterName))) ≡ Some m → StateIs m (ts ++ (Name x ∷ []))
name_is f s x true m ts h q e = word_next_is f s x (script_word x) (and_then (script_word x) (word_stage s)) m ts h refl refl e
name_is f s x false m ts h q e = name_read_is f s x (takes_name s) m ts h refl e

dot_is : (f : Found) (s : Stage) (m : State) (ts : List Token) → StateIs (head f s) ts → at_head (found_at f (dot_stage s)) ≡ Some m → StateIs m (ts ++ (Mark Dot ∷ []))
dot_is f (AfterAuthor a n) m ts (ds, hs, d, k, w) e =
    to_state (head f (AfterDot a n)) m (ts ++ (Mark Dot ∷ [])) e
    (ds, hs ++ (Mark Dot ∷ []), d, (k.0, k.1, behind hs _ _ (Mark Dot) k.2 (append_assoc (asked_tokens a) (Number n ∷ []) (Mark Dot ∷ []))), further ds hs ts (Mark Dot) w)
dot_is f s m ts h e = absurd cc

-- behind the last variable of `finals` with a comma, and with the closing bracket
final_comma : (f : Found) (m : State) (ts : List Token) → StateIs (head f AfterFinal) ts → Some (head (with_variable f.last f) AfterComma) ≡ Some m → StateIs m (ts ++ (Mark Comma ∷ []))
final_comma f m ts (ds, hs, d, k, w) e =
    let tokens : hs ++ (Mark Comma ∷ []) ≡ word words.Finals ∷ Mark Open ∷ (k.0 ++ (k.1 ++ (Mark Comma ∷ []))) =
    behind hs _ _ (Mark Comma) k.6 (ap (λ (x : List Token). word words.Finals ∷ Mark Open ∷ x) (append_assoc k.0 k.1 (Mark Comma ∷ []))) in
    to_state (head (with_variable f.last f) AfterComma) m (ts ++ (Mark Comma ∷ [])) e
    (subst (λ (o : Option (List ℕ)). StateIs (head (with_variable o f) AfterComma) (ts ++ (Mark Comma ∷ []))) (sym k.5)
    (ds, hs ++ (Mark Comma ∷ []), d, (k.0 ++ (k.1 ++ (Mark Comma ∷ [])), names_go k.0 f.names k.3 k.4, tokens), further ds hs ts (Mark Comma) w))

finals_are : (xs : List (List ℕ)) (ns hs : List Token) → SpellsNames ns xs → hs ≡ word words.Finals ∷ Mark Open ∷ ns → SpellsCommand (hs ++ (Mark Close ∷ [])) (command.Finals xs)
finals_are xs ns hs k e = subst (λ (x : List Token). SpellsCommand x (command.Finals xs)) (sym (behind hs _ _ (Mark Close) e refl)) (script.finals k)

final_close : (f : Found) (m : State) (ts : List Token) → StateIs (head f AfterFinal) ts → Some (head (with_variable f.last f) (AtEnd plain.Finals)) ≡ Some m → StateIs m (ts ++ (Mark Close ∷ []))
final_close f m ts (ds, hs, d, k, w) e =
    to_state (head (with_variable f.last f) (AtEnd plain.Finals)) m (ts ++ (Mark Close ∷ [])) e
    (subst (λ (o : Option (List ℕ)). StateIs (head (with_variable o f) (AtEnd plain.Finals)) (ts ++ (Mark Close ∷ []))) (sym k.5)
    (ds, hs ++ (Mark Close ∷ []), d, finals_are (f.names ++ (k.2 ∷ [])) (k.0 ++ k.1) hs (names_end k.0 f.names k.3 k.4) k.6, further ds hs ts (Mark Close) w))

-- a name that no bracket follows
name_ends : (f : Found) (ts : List Token) → StateIs (head f AfterName) ts → StateIs (head f AfterFinal) ts
name_ends f ts (ds, hs, d, k, w) = (ds, hs, d, plain_final f hs k, w)

comma_is : (f : Found) (s : Stage) (m : State) (ts : List Token) → StateIs (head f s) ts → at_head (comma_after f s) ≡ Some m → StateIs m (ts ++ (Mark Comma ∷ []))
comma_is f AfterName m ts h e = final_comma f m ts (name_ends f ts h) e
comma_is f AfterFinal m ts h e = final_comma f m ts h e
comma_is f s m ts h e = absurd cc

close_is : (f : Found) (s : Stage) (m : State) (ts : List Token) → StateIs (head f s) ts → at_head (close_after f s) ≡ Some m → StateIs m (ts ++ (Mark Close ∷ []))
close_is f AfterOpen m ts (ds, hs, d, k, w) e =
    let none : SpellsNames [] f.names = subst (SpellsNames []) (sym k.0) grammar.none in
    to_state (head f (AtEnd plain.Finals)) m (ts ++ (Mark Close ∷ [])) e (ds, hs ++ (Mark Close ∷ []), d, finals_are f.names [] hs none k.1, further ds hs ts (Mark Close) w)
close_is f AfterName m ts h e = final_close f m ts (name_ends f ts h) e
close_is f AfterFinal m ts h e = final_close f m ts h e
close_is f s m ts h e = absurd cc

array_at : (f : Found) (x : List ℕ) (b : Bool) (m : State) (ts : List Token) → StateIs (head f AfterName) ts → f.last ≡ Some x → is_name x ≡ b
    → at_head (at_array (cond b (Some (with_last (array_of x) f)) None)) ≡ Some m → StateIs m (ts ++ (Mark OpenSquare ∷ []))
array_at f x false m ts h q r e = absurd (none_some e)
array_at f x true m ts (ds, hs, d, k, w) q r e =
    let same : k.1 ≡ x = some_inj k.1 x (sym k.3 ∙ q) in
    let tokens : hs ++ (Mark OpenSquare ∷ []) ≡ word words.Finals ∷ Mark Open ∷ (k.0 ++ (Name k.1 ∷ Mark OpenSquare ∷ [])) =
    behind hs _ _ (Mark OpenSquare) k.4 (ap (λ (y : List Token). word words.Finals ∷ Mark Open ∷ y) (append_assoc k.0 (Name k.1 ∷ []) (Mark OpenSquare ∷ []))) in
    to_state (head (with_last (array_of x) f) AfterNameOpen) m (ts ++ (Mark OpenSquare ∷ [])) e (
      ds,
      hs ++ (Mark OpenSquare ∷ []),
      d,
      (k.0, x, r, k.2, refl, subst (λ (y : List ℕ). hs ++ (Mark OpenSquare ∷ []) ≡ word words.Finals ∷ Mark Open ∷ (k.0 ++ (Name y ∷ Mark OpenSquare ∷ []))) same tokens),
      further ds hs ts (Mark OpenSquare) w,
    )

open_square_by : (f : Found) (o : Option (List ℕ)) (m : State) (ts : List Token) → StateIs (head f AfterName) ts → f.last ≡ o → at_head (at_array (with_array_of o f)) ≡ Some m → StateIs m (ts ++ (Mark OpenSquare ∷ []))
open_square_by f None m ts h q e = absurd (none_some e)
open_square_by f (Some x) m ts h q e = array_at f x (is_name x) m ts h q refl e

open_square_is : (f : Found) (s : Stage) (m : State) (ts : List Token) → StateIs (head f s) ts → at_head (square_opened f s) ≡ Some m → StateIs m (ts ++ (Mark OpenSquare ∷ []))
open_square_is f AfterName m ts h e = open_square_by f f.last m ts h refl e
open_square_is f s m ts h e = absurd cc

close_square_is : (f : Found) (s : Stage) (m : State) (ts : List Token) → StateIs (head f s) ts → at_head (found_at f (close_square_stage s)) ≡ Some m → StateIs m (ts ++ (Mark CloseSquare ∷ []))
close_square_is f AfterNameOpen m ts (ds, hs, d, k, w) e =
    to_state (head f AfterFinal) m (ts ++ (Mark CloseSquare ∷ [])) e (ds, hs ++ (Mark CloseSquare ∷ []), d, array_final f hs k, further ds hs ts (Mark CloseSquare) w)
close_square_is f s m ts h e = absurd cc

open_is : (f : Found) (s : Stage) (m : State) (ts : List Token) → StateIs (head f s) ts → at_head (opened f s) ≡ Some m → StateIs m (ts ++ (Mark Open ∷ []))
open_is f AtNames m ts (ds, hs, d, k, w) e =
    to_state (head (without_names f) AfterOpen) m (ts ++ (Mark Open ∷ [])) e (ds, hs ++ (Mark Open ∷ []), d, (refl, behind hs _ _ (Mark Open) k refl), further ds hs ts (Mark Open) w)
open_is f s m ts h e = absurd cc

plain_commands : (p : Plain) (f : Found) → (with_plain p f).commands ≡ f.commands ++ (plain_command p f.names ∷ [])
plain_commands (plain.Delete t) f = refl
plain_commands (plain.Move t q) f = refl
plain_commands (plain.Unwrap t) f = refl
plain_commands plain.Finals f = refl

end_is : (f : Found) (s : Stage) (m : State) (ts : List Token) → StateIs (head f s) ts → at_head (ended f s) ≡ Some m → StateIs m (ts ++ (Mark Semicolon ∷ []))
end_is f (AtEnd p) m ts (ds, hs, d, k, w) e =
    let all : List Token = ds ++ (hs ++ (Mark Semicolon ∷ [])) in
    let made : SpellsScript all (with_plain p f).commands = subst (SpellsScript all) (sym (plain_commands p f)) (script_more ds hs f.commands (plain_command p f.names) d k) in
    to_state (head (with_plain p f) AtCommand) m (ts ++ (Mark Semicolon ∷ [])) e (all, [], made, refl, further ds hs ts (Mark Semicolon) w ∙ sym (append-nil all))
end_is f s m ts h e = absurd cc

sign_is : (f : Found) (s : Stage) (sign : Sign) (m : State) (ts : List Token) → StateIs (head f s) ts → at_head (sign_after f sign s) ≡ Some m → StateIs m (ts ++ (Mark sign ∷ []))
unfolding sign_after
sign_is f s Dot m ts h e = dot_is f s m ts h e
sign_is f s Comma m ts h e = comma_is f s m ts h e
sign_is f s Open m ts h e = open_is f s m ts h e
sign_is f s Close m ts h e = close_is f s m ts h e
sign_is f s OpenSquare m ts h e = open_square_is f s m ts h e
sign_is f s CloseSquare m ts h e = close_square_is f s m ts h e
sign_is f s Semicolon m ts h e = end_is f s m ts h e
sign_is f s sign m ts h e = absurd cc

-- ---- contents

inside_further : (ds hs cs ts : List Token) (t : Token) → ts ≡ ds ++ (hs ++ cs) → ts ++ (t ∷ []) ≡ ds ++ (hs ++ (cs ++ (t ∷ [])))
inside_further ds hs cs ts t e = further ds (hs ++ cs) ts t e ∙ ap (λ (x : List Token). ds ++ x) (append_assoc hs cs (t ∷ []))

inside_is : (f : Found) (h : Holder) (c : ContentState) (t : Token) (o : Option ContentState) (m : State) (ts : List Token) → StateIs (inside f h c) ts → content_next c t ≡ o → content_goes f h o ≡ Some m → StateIs m (ts ++ (t ∷ []))
inside_is f h c t None m ts k q e = absurd (none_some e)
inside_is f h c t (Some (Ended v)) m ts (ds, hs, cs, d, k, i, w) q e =
    let r = content_step c t (Ended v) cs i q in
    let all : List Token = ds ++ ((hs ++ r.0) ++ (Mark Semicolon ∷ [])) in
    let made : SpellsScript all (f.commands ++ (filled h v ∷ [])) = script_more ds (hs ++ r.0) f.commands (filled h v) d (k v r.0 r.1) in
    let same : ts ++ (t ∷ []) ≡ all =
    inside_further ds hs cs ts t w ∙ ap (λ (x : List Token). ds ++ (hs ++ x)) r.2 ∙ ap (λ (x : List Token). ds ++ x) (sym (append_assoc hs r.0 (Mark Semicolon ∷ []))) in
    to_state (head (with_command (filled h v) f) AtCommand) m (ts ++ (t ∷ [])) e (all, [], made, refl, same ∙ sym (append-nil all))
inside_is f h c t (Some Start) m ts (ds, hs, cs, d, k, i, w) q e =
    to_state (inside f h Start) m (ts ++ (t ∷ [])) e (ds, hs, cs ++ (t ∷ []), d, k, content_step c t Start cs i q, inside_further ds hs cs ts t w)
inside_is f h c t (Some (AfterTarget x)) m ts (ds, hs, cs, d, k, i, w) q e =
    to_state (inside f h (AfterTarget x)) m (ts ++ (t ∷ [])) e (ds, hs, cs ++ (t ∷ []), d, k, content_step c t (AfterTarget x) cs i q, inside_further ds hs cs ts t w)
inside_is f h c t (Some (InIndex a r)) m ts (ds, hs, cs, d, k, i, w) q e =
    to_state (inside f h (InIndex a r)) m (ts ++ (t ∷ [])) e (ds, hs, cs ++ (t ∷ []), d, k, content_step c t (InIndex a r) cs i q, inside_further ds hs cs ts t w)
inside_is f h c t (Some (AfterIndex a n j)) m ts (ds, hs, cs, d, k, i, w) q e =
    to_state (inside f h (AfterIndex a n j)) m (ts ++ (t ∷ [])) e (ds, hs, cs ++ (t ∷ []), d, k, content_step c t (AfterIndex a n j) cs i q, inside_further ds hs cs ts t w)
inside_is f h c t (Some (InExpression aim r)) m ts (ds, hs, cs, d, k, i, w) q e =
    to_state (inside f h (InExpression aim r)) m (ts ++ (t ∷ [])) e (ds, hs, cs ++ (t ∷ []), d, k, content_step c t (InExpression aim r) cs i q, inside_further ds hs cs ts t w)

-- ---- all tokens

step_is : (s : State) (t : Token) (m : State) (ts : List Token) → StateIs s ts → next s t ≡ Some m → StateIs m (ts ++ (t ∷ []))
unfolding next name_turn number_after
step_is (head f s) (Word k) m ts h e = keyword_is f s k m ts h e
step_is (head f s) (Name x) m ts h e = name_is f s x (wants_word s) m ts h refl e
step_is (head f s) (Number n) m ts h e = number_is f s n (number_turn s n) m ts h refl e
step_is (head f s) (Mark sign) m ts h e = sign_is f s sign m ts h e
step_is (inside f h c) t m ts k e = inside_is f h c t (content_next c t) m ts k refl e
step_is lost t m ts h e = absurd (none_some e)

runs_at : (s : State) (t : Token) (past ts : List Token) (o : Option State) (n : State) → StateIs s past → next s t ≡ o → and_then o (λ m. runs next m ts) ≡ Some n
    → ((m : State) → StateIs m (past ++ (t ∷ [])) → runs next m ts ≡ Some n → StateIs n ((past ++ (t ∷ [])) ++ ts)) → StateIs n (past ++ (t ∷ ts))
runs_at s t past ts None n h e q go = absurd (none_some q)
runs_at s t past ts (Some m) n h e q go = subst (StateIs n) (append_assoc past (t ∷ []) ts) (go m (step_is s t m past h e) q)

runs_is : (s : State) (past ts : List Token) (n : State) → StateIs s past → runs next s ts ≡ Some n → StateIs n (past ++ ts)
runs_is s past [] n h e = subst (StateIs n) (sym (append-nil past)) (to_state s n past e h)
runs_is s past (t ∷ ts) n h e = runs_at s t past ts (next s t) n h refl e (λ m k q. runs_is m (past ++ (t ∷ [])) ts n k q)

-- tokens that lead to an end spell the commands that were read
pub read_is_spelled : (ts : List Token) (f : Found) → runs next start ts ≡ Some (head f AtCommand) → SpellsScript ts f.commands
read_is_spelled ts f e =
    let (ds, hs, d, k, w) = runs_is start [] ts (head f AtCommand) ([], [], script.nothing, refl, refl) e in
    subst (λ (x : List Token). SpellsScript x f.commands) (sym (w ∙ ap (λ (x : List Token). ds ++ x) k ∙ append-nil ds)) d
