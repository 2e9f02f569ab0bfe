-- Words that tell a state, one after another.
use Rattle.std.proofs.Common.{◌≡◌, ℕ, ℤ, ◌+◌, ◌<◌, Bool, false, cond, List, [], ◌∷◌, ◌++◌, length, take, drop, get_or, map, is_some, Bor, Option, Some, None, option_map, Ok, refl, sym, ap, subst, ◌∙◌}
use Rattle.std.proofs.lemmas.List.{take_more, drop_more, get_or-map, length-map}
use Rattle.std.proofs.lemmas.List.Elements.{filter_map-append}
use Rattle.std.specs.Cmp.Lexicographic.{slice_cmp, nat_list_cmp_total}
use Rattle.std.specs.FinMap.{contains_key, find, from_entries, from_entries_push, get-from_entries, insert, nat_cmp-IsAntisymmetric, slice_cmp-IsAntisymmetric}
use Rattle.std.specs.List.{cons_option, filter_map}
use Rattle.std.specs.Ordering.{nat_cmp}
use Rattle.hpr_syntax.specs.declared.value.Value.TheVariants.{Number}
use Rattle.hpr_syntax.specs.Values.{Values}
use Rattle.hpr_words.specs.Request.{Text}
use Rattle.hpr_inputs.specs.ReadsState.{RefusesState, RefusesWord, TakesWord}
use Rattle.hpr_inputs.specs.States.{assignment, entry, first_refused, refusal, refusal_of, refused_or, state_unless, told}
use Rattle.hpr_inputs.specs.declared.answer.Stop.{Stop}
use Rattle.hpr_inputs.specs.declared.answer.Stop.TheVariants as stop
use Rattle.hpr_inputs.specs.declared.states.WordRefusal.{WordRefusal}
use Rattle.hpr_inputs.specs.declared.states.WordRefusal.TheVariants.{GivenTwice}

none_of : {A : Type 0} (o : Option A) → is_some o ≡ false → o ≡ None
none_of None e = refl
none_of (Some x) e = absurd cc

-- a word behind others whose variable is new
told_more : (before : List Text) (word : Text) (given : Text × ℤ) → assignment word ≡ Some given → contains_key (told before) given.0 ≡ false
    → told (before ++ word ∷ []) ≡ insert (told before) given.0 (Number given.1)
told_more before word given gives fresh =
    let es = filter_map entry before in
    let last : entry word ≡ Some (given.0, Number given.1) = ap (option_map (λ g. (g.0, Number g.1))) gives in
    let all : filter_map entry (before ++ word ∷ []) ≡ es ++ (given.0, Number given.1) ∷ [] =
    filter_map-append entry before (word ∷ []) ∙ ap (λ o. es ++ cons_option o []) last in
    let absent : find (slice_cmp nat_cmp) given.0 es ≡ None = sym (get-from_entries nat_list_cmp_total es given.0) ∙ none_of _ fresh in
    ap (from_entries {R = slice_cmp nat_cmp}) all
    ∙ from_entries_push nat_list_cmp_total (slice_cmp-IsAntisymmetric nat_cmp-IsAntisymmetric) es given.0 (Number given.1) absent

passes : (state : Values) (word : Text) (given : Text × ℤ) → assignment word ≡ Some given → contains_key state given.0 ≡ false → refusal state word ≡ None
passes state word given gives fresh = ap (refusal_of state) gives ∙ ap (λ (b : Bool). cond b (Some GivenTwice) None) fresh

module _ (words : List Text) where
  -- the first i words are taken, and tell this state
  abbrev pub Taken : ℕ → Values → Type 0
  Taken i state = (state ≡ told (take i words)) × (first_refused (take i words) (drop i words) ≡ first_refused [] words)

  module _ (i : ℕ) (word : Text) (low : i < length words) (here : word ≡ get_or words i word) where
    abbrev later : List Text
    later = drop (i + 1) words

    drops : drop i words ≡ word ∷ later
    drops = drop_more words i word low ∙ ap (λ w. w ∷ later) (sym here)

    takes : take (i + 1) words ≡ take i words ++ word ∷ []
    takes = take_more words i word low ∙ ap (λ w. take i words ++ w ∷ []) (sym here)

    at_word : (old : Values) (why : Option WordRefusal) → Taken i old → refusal old word ≡ why
        → refused_or word why (first_refused (take i words ++ word ∷ []) later) ≡ first_refused [] words
    at_word old why (is, rest) e =
        ap (λ w. refused_or word w (first_refused (take i words ++ word ∷ []) later)) (sym e ∙ ap (λ s. refusal s word) is)
        ∙ ap (first_refused (take i words)) (sym drops) ∙ rest

    pub one_more : (old new : Values) → Taken i old → TakesWord old word new (Ok tt) → Taken (i + 1) new
    one_more old new (is, rest) (given, gives, fresh, now_is) =
        let fresh_told : contains_key (told (take i words)) given.0 ≡ false = subst (λ s. contains_key s given.0 ≡ false) is fresh in
        let more : told (take i words ++ word ∷ []) ≡ insert (told (take i words)) given.0 (Number given.1) = told_more (take i words) word given gives fresh_told in (
          now_is ∙ ap (λ s. insert s given.0 (Number given.1)) is ∙ sym more ∙ ap told (sym takes),
          ap (λ b. first_refused b later) takes ∙ at_word old None (is, rest) (passes old word given gives fresh),
        )

    pub refused_here : (old : Values) (s : Stop) → Taken i old → RefusesWord old word s → RefusesState words s
    refused_here old (stop.Refused message) t (why, e, is) =
        (record { word = word; why = why }, ap (λ r. state_unless r (told words)) (sym (at_word old (Some why) t e)), is)
    refused_here old (stop.ReadFault message) t h = absurd h
    refused_here old stop.Memory t h = tt

-- the same of words that are borrowed
abbrev pub texts : List (Bor Text) → List Text
texts xs = map (λ w. w.now) xs

module _ (xs : List (Bor Text)) (i : ℕ) (d : Bor Text) (low : i < length xs) (old : Values) (t : Taken (texts xs) i old) where
  within : i < length (texts xs)
  within = subst (λ n. i < n) (sym (length-map xs (λ w. w.now))) low

  here : (get_or xs i d).now ≡ get_or (texts xs) i (get_or xs i d).now
  here = sym (get_or-map (λ w. w.now) xs i d (get_or xs i d).now low)

  pub more_in : (new : Values) → TakesWord old (get_or xs i d).now new (Ok tt) → Taken (texts xs) (i + 1) new
  more_in new h = one_more (texts xs) i (get_or xs i d).now within here old new t h

  pub refused_in : (s : Stop) → RefusesWord old (get_or xs i d).now s → RefusesState (texts xs) s
  refused_in s h = refused_here (texts xs) i (get_or xs i d).now within here old s t h
